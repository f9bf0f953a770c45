-- What `list` answers, number 0 for sound, is page's answer of listing in the paper's numbers. Assumes nothing.
use mathlib.Core.Path.{◌≡◌, refl, sym}
use mathlib.Core.Bool.{Bool, true, false}
use mathlib.Core.List.{List, [], ◌∷◌}
use Prim.Native.Nat.{ℕ, suc}
use native.Mathlib.Omega.{arith}
use borrow.Author.Tests.{eqb-true}
use lib.Dec.{eqb}
use Rattle.page.specs.Bytes.{Bytes, pick}
use Rattle.page.specs.Answers.{refusal, sound, earlier, answered, paper_of}
use Rattle.page.specs.File.{Filed, first_record, lost, record_refusal, section_refusal, file_refusal, filed_of}
use Rattle.page.specs.Reading.{list_refusal, list_of}
use Rattle.page.specs.declared.Refusal.{Refusal}

-- a refusal without a number has no place
abbrev Placed : Refusal → Type 0
Placed r = r.number ≡ 0 → r ≡ sound

earlier_placed : (a b : Refusal) → Placed b → Placed (earlier a b)
unfolding earlier
earlier_placed a b p = by (eqb a.number 0) refl
  where
    by : (t : Bool) → eqb a.number 0 ≡ t → Placed (pick t b a)
    by true e z = p z
    by false e z = cc

first_placed : (v : ℕ) (bad : List Filed → Filed → Bool) (before es : List Filed) → Placed (first_record (suc v) bad before es)
unfolding first_record
first_placed v bad before [] z = refl
first_placed v bad before (e ∷ es) z = by (bad before e) (first_placed v bad (e ∷ before) es) z
  where
    by : (t : Bool) → Placed (first_record (suc v) bad (e ∷ before) es) → Placed (pick t (refusal (suc v) e.section e.line) (first_record (suc v) bad (e ∷ before) es))
    by true p y = absurd (omega arith)
    by false p y = p y

file_placed : (s : Bytes) → Placed (file_refusal s)
unfolding file_refusal section_refusal record_refusal
file_placed s =
    earlier_placed _ _ (earlier_placed _ _ (earlier_placed _ _ (earlier_placed _ _ (earlier_placed _ _ (earlier_placed _ _ (first_placed 19 (λ before. lost (filed_of s)) [] (filed_of s)))))))

paper_back : (r : Refusal) → Placed r → paper_of (answered r (tt {0})) ≡ r
unfolding paper_of answered
paper_back r p = by (eqb r.number 0) refl
  where
    by : (t : Bool) → eqb r.number 0 ≡ t → paper_of (answered r (tt {0})) ≡ r
    by true e = rw e (sym (p (eqb-true r.number 0 e)))
    by false e = rw e

pub list_paper : (s : Bytes) (room : ℕ) → paper_of (list_of s room) ≡ earlier (list_refusal s room) (file_refusal s)
unfolding list_of
list_paper s room = paper_back (earlier (list_refusal s room) (file_refusal s)) (earlier_placed (list_refusal s room) (file_refusal s) (file_placed s))
