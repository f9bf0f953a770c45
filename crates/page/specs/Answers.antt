-- Answers: the paper's number and place for each case.
use Rattle.std.specs.Prelude.{Bool, true, false, ℕ, eqb, Err, Ok, Result}
use Rattle.page.specs.Bytes.{pick}
use Rattle.page.specs.declared.Refusal.{Refusal}

-- number, section and line; "1, 21 to 24 and a fill's 11, 4 and 13 have 0 and 0"
abbrev pub refusal : ℕ → ℕ → ℕ → Refusal
refusal number section line = record { number = number; section = section; line = line }

abbrev pub sound : Refusal
sound = refusal 0 0 0

-- the first of two that refuses
unfoldable pub earlier : Refusal → Refusal → Refusal
earlier a b = pick (eqb a.number 0) b a

-- "refuses with this number and no place if"
unfoldable pub refuse_if : Bool → ℕ → Refusal
refuse_if true v = refusal v 0 0
refuse_if false v = sound

-- the answer of a call that gives x unless r refuses it, and back: the paper's number and place, and 0 for an accepted call
unfoldable pub answered : {T : Type 0} → Refusal → T → Result T Refusal
answered r x = pick (eqb r.number 0) (Ok x) (Err r)

unfoldable pub paper_of : {T : Type 0} → Result T Refusal → Refusal
paper_of (Ok x) = sound
paper_of (Err r) = r
