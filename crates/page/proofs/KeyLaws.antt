-- The first record that is at fault after those before it, place by place: what loops over records in any order ask for.
-- Assumes nothing.
use mathlib.Core.Path.{◌≡◌, refl, ap, ◌∙◌}
use mathlib.Core.Bool.{Bool, true, false, ◌||◌}
use mathlib.Core.List.{List, [], ◌∷◌, ◌++◌}
use Prim.Native.Nat.{ℕ, zero, suc, ◌<◌, ◌≤◌}
use native.Mathlib.Omega.{arith}
use lib.ListN.{length, get_or, take, drop}
use lib.Seq.{drop-length}
use Rattle.page.specs.Answers.{sound}
use Rattle.page.specs.File.{any, Filed, first_record}

-- one of a list passes a test

or_true : (b : Bool) → (b || true) ≡ true
or_true true = refl
or_true false = refl

module _ {A : Type 0} (p : A → Bool) (d : A) where
  pub any_yes : (xs : List A) (j : ℕ) → j < length xs → p (get_or xs j d) ≡ true → any p xs ≡ true
  unfolding any
  any_yes [] j h e = absurd (omega arith)
  any_yes (x ∷ xs) zero h e = rw e
  any_yes (x ∷ xs) (suc j) h e = rw (any_yes xs j (omega arith) e) (or_true (p x))

  pub any_no : (xs : List A) → ((j : ℕ) → j < length xs → p (get_or xs j d) ≡ false) → any p xs ≡ false
  unfolding any
  any_no [] h = refl
  any_no (x ∷ xs) h = rw (h 0 (omega arith)) (any_no xs (λ j l. h (suc j) (omega arith)))

-- a list in front of another, its last first: the records passed, as `first-record` hands them on
unfoldable pub onto : {A : Type 0} → List A → List A → List A
onto [] b = b
onto (x ∷ xs) b = onto xs (x ∷ b)

or_swap : (a b c : Bool) → (a || (b || c)) ≡ (b || a || c)
or_swap true true c = refl
or_swap true false c = refl
or_swap false true c = refl
or_swap false false c = refl

pub any_onto : {A : Type 0} (p : A → Bool) (xs b : List A) → any p (onto xs b) ≡ (any p xs || any p b)
unfolding any onto
any_onto p [] b = refl
any_onto p (x ∷ xs) b = any_onto p xs (x ∷ b) ∙ or_swap (any p xs) (p x) (any p b)

pub any_append : {A : Type 0} (p : A → Bool) (xs ys : List A) → any p (xs ++ ys) ≡ (any p xs || any p ys)
unfolding any
any_append p [] ys = refl
any_append p (x ∷ xs) ys = rw (any_append p xs ys) (or_assoc (p x) (any p xs) (any p ys))
  where
    or_assoc : (a b c : Bool) → (a || (b || c)) ≡ (a || b || c)
    or_assoc true b c = refl
    or_assoc false b c = refl

abbrev pub no_filed : Filed
no_filed = record { section = 0; table = 0; line = 0; values = [] }

-- the record at place m is at fault after those before it
unfoldable pub faulty : (List Filed → Filed → Bool) → List Filed → List Filed → ℕ → Bool
faulty bad b es m = bad (onto (take m es) b) (get_or es m no_filed)

module _ (v : ℕ) (bad : List Filed → Filed → Bool) where
  -- past records of which none is at fault
  pub record_skip : (k : ℕ) (b es : List Filed) → k ≤ length es → ((m : ℕ) → m < k → faulty bad b es m ≡ false)
      → first_record v bad b es ≡ first_record v bad (onto (take k es) b) (drop k es)
  unfolding first_record faulty onto
  record_skip zero b es h p = refl
  record_skip (suc k) b [] h p = absurd (omega arith)
  record_skip (suc k) b (e ∷ es) h p =
      rw (p 0 (omega arith)) (record_skip k (e ∷ b) es (omega arith) (λ m l. p (suc m) (omega arith)))

  module _ (b es : List Filed) where
    pub record_none : ((m : ℕ) → m < length es → faulty bad b es m ≡ false) → first_record v bad b es ≡ sound
    unfolding first_record
    record_none p =
        record_skip (length es) b es (omega arith) p
        ∙ ap (λ (l : List Filed). first_record v bad (onto (take (length es) es) b) l) (drop-length es)
