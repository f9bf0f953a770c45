-- What the smallest pieces of a file are, with no algorithm: trimmed spaces, lines, commands, fields. (Digits, numbers, formats, mark texts, texts
-- of a record: demands/specs/Lexical.)
use Rattle.std.specs.Prelude.{◌≡◌, ℕ, zero, suc}
use mathlib.Core.List.{List, [], ◌∷◌, ◌++◌, Memᴰ}
use Rattle.page.specs.Bytes.{Bytes, bytes}
use Rattle.page.specs.Lines.{Mod, Src, Chs, Ver, Ifv, Dve, Fft, Tbl, Atr, Frm, Rec, End, Com, Eof, Unknown, Missing}

-- spaces, lines and commands

-- n spaces
unfoldable pub blanks : ℕ → Bytes
blanks zero = []
blanks (suc n) = 32 ∷ blanks n

-- bytes that begin with b; that end in it
abbrev pub Begins : ℕ → Bytes → Type 0
Begins b w = (r : Bytes) × (w ≡ b ∷ r)

abbrev pub Ends : ℕ → Bytes → Type 0
Ends b w = (r : Bytes) × (w ≡ r ++ (b ∷ []))

-- spaces trimmed: t is w without any number of spaces at its two ends, and has none there
pub record Trimmed (w t : Bytes) : Type 0 where
  pub before : ℕ
  pub after : ℕ
  pub whole : w ≡ blanks before ++ (t ++ blanks after)
  pub front : ¬ Begins 32 t
  pub back : ¬ Ends 32 t

-- A line ends at LF, and Bytes after the last LF, if any, are a last line. A whole line includes its end; only a file's last line may lack LF.
pub data LinesOf : Bytes → List Bytes → Type 0 where
  no_line : LinesOf [] []
  a_line : {c s : Bytes} {ls : List Bytes} → ¬ Memᴰ 10 c → LinesOf s ls → LinesOf ((c ++ (10 ∷ [])) ++ s) ((c ++ (10 ∷ [])) ∷ ls)
  last_line : {l : Bytes} → ¬ (l ≡ []) → ¬ Memᴰ 10 l → LinesOf l (l ∷ [])

-- one CR directly before that LF belongs to the end: c is the line l without its end
pub data ContentOf (l c : Bytes) : Type 0 where
  by_cr_lf : l ≡ c ++ (13 ∷ 10 ∷ []) → ContentOf l c
  by_lf : l ≡ c ++ (10 ∷ []) → ¬ Ends 13 c → ContentOf l c
  unended : l ≡ c → ¬ Ends 10 l → ContentOf l c

-- A line of spaces only, or of nothing, is blank
abbrev pub Blank : Bytes → Type 0
Blank c = (n : ℕ) × (c ≡ blanks n)

-- what stands before the first `;`, and what stands after it
pub record Parted (c front rest : Bytes) : Type 0 where
  pub whole : c ≡ front ++ (59 ∷ rest)
  pub first : ¬ Memᴰ 59 front

-- The command is what stands before the first `;`, spaces trimmed
pub record Commanded (c word : Bytes) : Type 0 where
  pub front : Bytes
  pub rest : Bytes
  pub parted : Parted c front rest
  pub trimmed : Trimmed front word

-- Known commands: mod src chs ver ifv dve fft tbl atr frm rec end com eof.
pub data Known : ℕ → Bytes → Type 0 where
  is_mod : Known Mod (bytes "mod")
  is_src : Known Src (bytes "src")
  is_chs : Known Chs (bytes "chs")
  is_ver : Known Ver (bytes "ver")
  is_ifv : Known Ifv (bytes "ifv")
  is_dve : Known Dve (bytes "dve")
  is_fft : Known Fft (bytes "fft")
  is_tbl : Known Tbl (bytes "tbl")
  is_atr : Known Atr (bytes "atr")
  is_frm : Known Frm (bytes "frm")
  is_rec : Known Rec (bytes "rec")
  is_end : Known End (bytes "end")
  is_com : Known Com (bytes "com")
  is_eof : Known Eof (bytes "eof")

-- a line's command by its number; a line without `;` has none
pub data CommandOf (c : Bytes) : ℕ → Type 0 where
  a_known : {k : ℕ} {word : Bytes} → Commanded c word → Known k word → CommandOf c k
  an_unknown : {word : Bytes} → Commanded c word → ((k : ℕ) → ¬ Known k word) → CommandOf c Unknown
  no_command : ¬ Memᴰ 59 c → CommandOf c Missing

-- fields

-- A quote switches between outside and inside; inside, `;` is plain: plain bytes and quoted runs
pub data Piece : Bytes → Type 0 where
  no_byte : Piece []
  plain_byte : {b : ℕ} {p : Bytes} → ¬ (b ≡ 59) → ¬ (b ≡ 34) → Piece p → Piece (b ∷ p)
  quoted_run : {q p : Bytes} → ¬ Memᴰ 34 q → Piece p → Piece (34 ∷ q ++ (34 ∷ p))

-- the last piece may end inside
pub data LastPiece : Bytes → Type 0 where
  outside : {p : Bytes} → Piece p → LastPiece p
  inside : {p q : Bytes} → Piece p → ¬ Memᴰ 34 q → LastPiece (p ++ (34 ∷ q))

-- Fields after the command are separated by `;`.
pub data Separated : Bytes → List Bytes → Type 0 where
  the_last : {p : Bytes} → LastPiece p → Separated p (p ∷ [])
  one_before : {p w : Bytes} {ps : List Bytes} → Piece p → Separated w ps → Separated (p ++ (59 ∷ w)) (p ∷ ps)

-- one by one
pub data Pairs {A : Type 0} (R : A → A → Type 0) : List A → List A → Type 0 where
  no_pair : Pairs R [] []
  a_pair : {x y : A} {xs ys : List A} → R x y → Pairs R xs ys → Pairs R (x ∷ xs) (y ∷ ys)

-- Spaces around a field are trimmed.
pub record FieldsOf (w : Bytes) (fs : List Bytes) : Type 0 where
  pub pieces : List Bytes
  pub separated : Separated w pieces
  pub trimmed : Pairs Trimmed pieces fs
