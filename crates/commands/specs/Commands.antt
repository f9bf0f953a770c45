-- A command by its number, and its name by its three bytes as one number.
use Rattle.std.specs.Prelude.{◌≡◌, List, [], ◌∷◌, ℕ, suc, ◌+◌, ◌*◌, ◌<◌, eqb, length, get_or}
use Prim.Native.String.{String}
use Rattle.page.specs.Bytes.{Bytes, bytes, pick}
use Rattle.page.specs.Lines as page
use Rattle.commands.specs.declared.command.Command.{Command}
use Rattle.commands.specs.declared.command.Command.TheVariants.{Mod, Src, Chs, Ver, Ifv, Dve, Fft, Tbl, Atr, Frm, Rec, End, Com, Eof, Unknown, Missing}

-- a command's place among the known ones, and what follows them
abbrev pub code : Command → ℕ
code Mod = page.Mod
code Src = page.Src
code Chs = page.Chs
code Ver = page.Ver
code Ifv = page.Ifv
code Dve = page.Dve
code Fft = page.Fft
code Tbl = page.Tbl
code Atr = page.Atr
code Frm = page.Frm
code Rec = page.Rec
code End = page.End
code Com = page.Com
code Eof = page.Eof
code Unknown = page.Unknown
code Missing = page.Missing

abbrev pub key_of : ℕ → ℕ → ℕ → ℕ
key_of a b c = (a * 256 + b) * 256 + c

unfoldable pub key : Bytes → ℕ
key w = key_of (get_or w 0 0) (get_or w 1 0) (get_or w 2 0)

-- the place of the name that has a key, the first counted as i; one past the last, if none has it
unfoldable pub find_key : ℕ → List String → ℕ → ℕ
find_key i [] k = i
find_key i (n ∷ ns) k = pick (eqb k (key (bytes n))) i (find_key (suc i) ns k)

-- three bytes that are neither `;` nor a space, and then a `;`
pub record Set (c : Bytes) : Type 0 where
  pub long : 3 < length c
  pub first : 59 < get_or c 0 0
  pub second : 59 < get_or c 1 0
  pub third : 59 < get_or c 2 0
  pub after : get_or c 3 0 ≡ 59
