-- The plan of a record and of a section, and what it changes where none is named. Assumes nothing.
use Rattle.std.proofs.Common.{◌≡◌, ℕ, ◌+◌, ◌-◌, List, [], ◌∷◌, Bool, ap, arith, refl, ◌⊎◌, inl, inr, true, false}
use lib.Dec.{eqb}
use borrow.Author.Tests.{eq-eqb, ne_eqb}
use Rattle.page.specs.Bytes.{Bytes, pick}
use Rattle.page.specs.Records.{Record}
use Rattle.copies.specs.Changed.{strips, section_of, record_of, field_of, text_of, changed_datum, changed_values, changed_records}
use Rattle.copies.specs.Planned.{record_change, section_change, record_plan, section_plan}
use Rattle.copies.specs.declared.plan.Change.{Change}
use Rattle.copies.specs.declared.plan.Change.TheVariants as C
use Rattle.copies.specs.declared.plan.Fill.{Fill}
use Rattle.copies.specs.declared.plan.Plan.{Plan}

abbrev with_change : Plan → Change → Plan
with_change p c = record { ends = p.ends; stays = p.stays; change = c }

-- one that is named has the whole plan

module _ (p : Plan) (n : ℕ) where
  record_same : p.change ≡ record_change p.change n → p ≡ record_plan p n
  unfolding record_plan
  record_same e = ap (with_change p) e

  pub record_other : (p.change ≡ C.Nothing) ⊎ (p.change ≡ C.Strip) → p ≡ record_plan p n
  record_other (inl e) = record_same (rw e)
  record_other (inr e) = record_same (rw e)

  section_same : p.change ≡ section_change p.change n → p ≡ section_plan p n
  unfolding section_plan
  section_same e = ap (with_change p) e

  pub section_other : (p.change ≡ C.Nothing) ⊎ (p.change ≡ C.Strip) → p ≡ section_plan p n
  section_other (inl e) = section_same (rw e)
  section_other (inr e) = section_same (rw e)

  module _ (x : Fill) (e : p.change ≡ C.Fill x) where
    pub record_named : x.rec ≡ n + 1 → p ≡ record_plan p n
    record_named q = record_same (rw (e, eq-eqb (x.rec - n) 1 (omega arith)))

    pub record_unnamed : (x.rec ≡ n + 1 → ⊥) → with_change p C.Nothing ≡ record_plan p n
    unfolding record_plan
    record_unnamed q = rw (e, ne_eqb (x.rec - n) 1 (λ (z : x.rec - n ≡ 1). q (omega arith)))

    pub section_named : x.section ≡ n + 1 → p ≡ section_plan p n
    section_named q = section_same (rw (e, eq-eqb (x.section - n) 1 (omega arith)))

    pub section_unnamed : (x.section ≡ n + 1 → ⊥) → with_change p C.Nothing ≡ section_plan p n
    unfolding section_plan
    section_unnamed q = rw (e, ne_eqb (x.section - n) 1 (λ (z : x.section - n ≡ 1). q (omega arith)))

-- where no field is named it is all the same which text is put in

pub values_alike : (strip : Bool) (t u : Bytes) (vs : Record) → changed_values strip 0 t vs ≡ changed_values strip 0 u vs
unfolding changed_values changed_datum
values_alike strip t u [] = refl
values_alike strip t u (v ∷ vs) = rw (values_alike strip t u vs)

pub records_alike : (strip : Bool) (f g : ℕ) (t u : Bytes) (rs : List Record) → changed_records strip 0 f t rs ≡ changed_records strip 0 g u rs
unfolding changed_records
records_alike strip f g t u [] = refl
records_alike strip f g t u (v ∷ vs) = rw (values_alike strip t u v, records_alike strip f g t u vs)

-- the plan of a record or a section says of it what the whole plan says

pick_same : (b : Bool) (k : ℕ) → k ≡ pick b k k
pick_same true k = refl
pick_same false k = refl

pub record_says : {A : Type 0} (F : Bool → ℕ → Bytes → A) → ((s : Bool) (t u : Bytes) → F s 0 t ≡ F s 0 u) → (c : Change) (n : ℕ)
    → F (strips (record_change c n)) (field_of (record_change c n)) (text_of (record_change c n))
    ≡ F (strips c) (pick (eqb (record_of c - n) 1) (field_of c) 0) (text_of c)
record_says F e C.Nothing n = ap (λ (k : ℕ). F false k []) (pick_same (eqb (0 - n) 1) 0)
record_says F e C.Strip n = ap (λ (k : ℕ). F true k []) (pick_same (eqb (0 - n) 1) 0)
record_says F e (C.Fill x) n = by (eqb (x.rec - n) 1)
  where
    by : (b : Bool) → F (strips (pick b (C.Fill x) C.Nothing)) (field_of (pick b (C.Fill x) C.Nothing)) (text_of (pick b (C.Fill x) C.Nothing))
        ≡ F false (pick b x.field 0) x.text.now
    by true = refl
    by false = e false [] x.text.now

pub section_says : {A : Type 0} (F : Bool → ℕ → ℕ → Bytes → A) → ((s : Bool) (f g : ℕ) (t u : Bytes) → F s 0 f t ≡ F s 0 g u) → (c : Change) (n : ℕ)
    → F (strips (section_change c n)) (record_of (section_change c n)) (field_of (section_change c n)) (text_of (section_change c n))
    ≡ F (strips c) (pick (eqb (section_of c - n) 1) (record_of c) 0) (field_of c) (text_of c)
section_says F e C.Nothing n = ap (λ (k : ℕ). F false k 0 []) (pick_same (eqb (0 - n) 1) 0)
section_says F e C.Strip n = ap (λ (k : ℕ). F true k 0 []) (pick_same (eqb (0 - n) 1) 0)
section_says F e (C.Fill x) n = by (eqb (x.section - n) 1)
  where
    by : (b : Bool) → F (strips (pick b (C.Fill x) C.Nothing)) (record_of (pick b (C.Fill x) C.Nothing)) (field_of (pick b (C.Fill x) C.Nothing)) (text_of (pick b (C.Fill x) C.Nothing))
        ≡ F false (pick b x.rec 0) x.field x.text.now
    by true = refl
    by false = e false 0 x.field [] x.text.now
