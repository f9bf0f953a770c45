-- Commands are the same where their numbers are. Assumes nothing.
use Rattle.std.proofs.Common.{◌≡◌, ◌∙◌, Bool, true, false, not, [], ◌∷◌, ℕ, suc, eqb, get_or, refl, sym, ap, ap₂}
use Rattle.std.proofs.Math.Dec.{eqb-suc-suc}
use borrow.Author.Tests.{ne_eqb, not-true, not-false}
use denote.Enum.Bare.{sameb}
use denote.Enum.Declared.{tag_of}
use Rattle.commands.specs.contracts.command.Command.{the_type}
use Rattle.commands.specs.declared.command.Command.{Command}
use Rattle.commands.specs.declared.command.Command.TheVariants.{Mod, Src, Chs, Ver, Ifv, Dve, Fft, Tbl, Atr, Frm, Rec, End, Com, Eof, Unknown, Missing}
use Rattle.commands.specs.Commands.{code}

tag_next : (k : Command) → suc (tag_of the_type k) ≡ code k
tag_next Mod = refl
tag_next Src = refl
tag_next Chs = refl
tag_next Ver = refl
tag_next Ifv = refl
tag_next Dve = refl
tag_next Fft = refl
tag_next Tbl = refl
tag_next Atr = refl
tag_next Frm = refl
tag_next Rec = refl
tag_next End = refl
tag_next Com = refl
tag_next Eof = refl
tag_next Unknown = refl
tag_next Missing = refl

pub same_code : (k j : Command) → sameb the_type k j ≡ eqb (code k) (code j)
same_code k j = sym (eqb-suc-suc (tag_of the_type k) (tag_of the_type j)) ∙ ap₂ eqb (tag_next k) (tag_next j)

-- a command is one with its number
abbrev named : ℕ → Command
named n =
    get_or (Missing ∷ Mod ∷ Src ∷ Chs ∷ Ver ∷ Ifv ∷ Dve ∷ Fft ∷ Tbl ∷ Atr ∷ Frm ∷ Rec ∷ End ∷ Com ∷ Eof ∷ Unknown ∷ []) n Missing

named_code : (k : Command) → named (code k) ≡ k
named_code Mod = refl
named_code Src = refl
named_code Chs = refl
named_code Ver = refl
named_code Ifv = refl
named_code Dve = refl
named_code Fft = refl
named_code Tbl = refl
named_code Atr = refl
named_code Frm = refl
named_code Rec = refl
named_code End = refl
named_code Com = refl
named_code Eof = refl
named_code Unknown = refl
named_code Missing = refl

pub apart : (k j : Command) → (k ≡ j → ⊥) → eqb (code k) (code j) ≡ false
apart k j n = ne_eqb (code k) (code j) (λ e. n (sym (named_code k) ∙ ap named e ∙ named_code j))

-- what `k == j` answers, of a command whose number is n
pub is_command : (k j : Command) (n : ℕ) (r : Bool) → r ≡ sameb the_type k j → code k ≡ n → r ≡ eqb n (code j)
is_command k j n r e q = e ∙ same_code k j ∙ ap (λ (m : ℕ). eqb m (code j)) q

-- what follows from the answer of `k != j`
module _ (k j : Command) (n : ℕ) (r : Bool) (e : r ≡ not (sameb the_type k j)) (q : code k ≡ n) where
  pub other_command : r ≡ true → eqb n (code j) ≡ false
  other_command t = sym (is_command k j n _ refl q) ∙ not-true _ (sym e ∙ t)

  pub that_command : r ≡ false → eqb n (code j) ≡ true
  that_command t = sym (is_command k j n _ refl q) ∙ not-false _ (sym e ∙ t)
