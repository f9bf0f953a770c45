-- 26, "no such day", both ways: each day of a sound section is real, and a line is refused with 26 exactly if it is a record whose first wrong field
-- is within its range and no such day. Assumes nothing.
use Rattle.std.specs.Prelude.{Err}
use mathlib.Core.Path.{◌≡◌, refl, sym, ◌∙◌}
use mathlib.Core.Bool.{Bool, true, false, not, ◌||◌, ◌&&◌, false≢true}
use mathlib.Core.List.{List, [], ◌∷◌, ◌++◌}
use mathlib.Core.Logic.{inl, inr, ◌↔◌}
use Prim.Native.Nat.{ℕ, suc, ◌≤◌, ◌<◌}
use native.Mathlib.Omega.{arith}
use lib.Dec.{eqb, leb}
use lib.ListN.{length, get_or}
use borrow.Author.Tests.{eq-eqb, not-true}
use Rattle.page.specs.Bytes.{Bytes}
use Rattle.page.specs.Lines.{Rec}
use Rattle.page.specs.Tables.{Named, Rule, points_differ, feeder_combined, all_tables, column_at, width, rules}
use Rattle.page.specs.Order.{Order, standing}
use Rattle.page.specs.Section.{choose, day_field, number_field, field_of, field_number, first_of, first_wrong, rec_verdict, rec_step, line_step, step}
use Rattle.page.specs.Records.{Datum, number, Record}
use Rattle.page.specs.Grammar.{fields_of, Holds, a_number, no_number, a_text, RecLine}
use Rattle.page.specs.Refusals.{Law, law, FirstBroken, kind_law, fields_laws, rules_laws, laws, Outside, out_of_range, NoSuchDay, Refused, at_line, unfinished}
use Rattle.page.specs.File.{any}
use Rattle.page.specs.declared.Column.{Column}
use Rattle.page.specs.declared.Owner.{Owner}
use Rattle.page.specs.declared.Owner.TheVariants as O
use Rattle.page.specs.declared.Phase.{Phase}
use Rattle.page.specs.declared.Phase.TheVariants as P
use Rattle.page.proofs.TableLaws.{each, column_test}
use Rattle.page.proofs.TestLaws.{and_left, and_right}
use Rattle.page.proofs.OrderLaws.{arranged_long}
use Rattle.laws.proofs.Decides.{Decides, holds, fails, fact, tested, untested, both, equal, at_most}
use Rattle.grammar.specs.Days.{FirstUnreal, here, later, UnrealDay, unreal, Undated, at_record, RealDay}
use Rattle.grammar.proofs.Days.{day_d, day_within}
use Rattle.grammar.proofs.Values.{number_there, field_right, right_field, held}
use Rattle.grammar.proofs.Arranged.{Ordered}
use Rattle.grammar.proofs.Agrees.{Agrees, judged, judged_goes, field_agrees}
use Rattle.grammar.proofs.Steps.{known_step, stop_exactly}
use Rattle.grammar.proofs.Refuses.{reach_ordered}
use Rattle.grammar.proofs.Tells.{Tells, other, this, OfRecord, of_record, told_record}

module _ (c : Column) (f : Bytes) where
  abbrev own_laws : List Law
  own_laws = kind_law c.text c.optional f ∷ law 13 (Outside c f) ∷ law 26 (NoSuchDay c f) ∷ []

  -- a field that breaks no law holds a value
  unbroken_holds : ¬ (kind_law c.text c.optional f).Broken → ¬ Outside c f → ¬ NoSuchDay c f → (v : Datum) × Holds O.Operator c f v
  unfolding judged choose
  unbroken_holds k i r = by (eqb (field_number (field_of c f)) 0) (equal (field_number (field_of c f)) 0) refl
    where
      unbroken : (v : ℕ) → ¬ FirstBroken own_laws v
      unbroken v (inl p) = k p.0
      unbroken v (inr (n, inl p)) = i p.0
      unbroken v (inr (n, inr (m, inl p))) = r p.0
      unbroken v (inr (n, inr (m, inr (l, b)))) = b

      agrees : Agrees (λ q. Unit) (judged P.Tbl (first_of (field_number (field_of c f)) 0)) own_laws
      agrees = field_agrees P.Tbl c f 0 [] (λ z. judged_goes P.Tbl tt)

      by : (b : Bool) → Decides (field_number (field_of c f) ≡ 0) b → eqb (field_number (field_of c f)) 0 ≡ b → (v : Datum) × Holds O.Operator c f v
      by true (holds z) e = right_field O.Operator c f z
      by false (fails n) e = absurd (unbroken (field_number (field_of c f)) ((agrees.iff (field_number (field_of c f))).0 (rw (e, e))))

  -- and one that is within its range and no such day is refused with 26
  unreal_field : ¬ Outside c f → NoSuchDay c f → field_number (field_of c f) ≡ 26
  unfolding field_of number_field day_field field_number
  unreal_field i x =
      rw (
        x.number,
        number_there c.optional f x.reads,
        x.reads,
        tested (both (at_most c.lo x.value) (at_most x.value c.hi)) (within (both (at_most c.lo x.value) (at_most x.value c.hi))),
        x.day,
        untested (day_d x.value) x.unreal,
      )
    where
      within : {b : Bool} → Decides ((c.lo ≤ x.value) × (x.value ≤ c.hi)) b → (c.lo ≤ x.value) × (x.value ≤ c.hi)
      within (holds p) = p
      within (fails n) = absurd (i (out_of_range x.number x.reads n))

-- of a record's fields, one after the other
first_unreal : {cs : List Named} {fs : List Bytes} {k : ℕ} → FirstUnreal cs fs k → first_wrong cs fs ≡ 26
unfolding first_wrong
first_unreal (here {c} {f = f} i x) = rw (unreal_field c.column f i x)
first_unreal (later h u) = rw (field_right h, first_unreal u)

Somewhere : List Named → List Bytes → Type 0
Somewhere cs fs = (k : ℕ) × FirstUnreal cs fs k

fields_unreal : (cs : List Named) (fs : List Bytes) (ls : List Law) → ¬ FirstBroken ls 26 → Tells 26 (Somewhere cs fs) (fields_laws cs fs ++ ls)
unfolding Somewhere
fields_unreal [] fs ls n = record { so = λ b. absurd (n b) }
fields_unreal (c ∷ cs) [] ls n = record { so = λ b. absurd (n b) }
fields_unreal (c ∷ cs) (f ∷ fs) ls n = by c.column.text c.column.optional (λ k. other (λ e. omega arith) (λ i. this (λ x. (0, here i x)) (λ r.
    let v = unbroken_holds c.column f k i r in
    record { so = λ b. let u = (fields_unreal cs fs ls n).so b in (suc u.0, later v.1 u.1) })))
  where
    by : (b optional : Bool) {xs : List Law} → (¬ (kind_law b optional f).Broken → Tells 26 (Somewhere (c ∷ cs) (f ∷ fs)) xs) → Tells 26 (Somewhere (c ∷ cs) (f ∷ fs)) (kind_law b optional f ∷ xs)
    by true optional k = other (λ e. omega arith) k
    by false optional k = other (λ e. omega arith) k

-- no rule and no mark is told so
no_rule : (B : Rule → Type 0) (rs : List Rule) (ls : List Law) → ¬ FirstBroken ls 26 → ¬ FirstBroken (rules_laws B rs ++ ls) 26
no_rule B [] ls n b = n b
no_rule B (points_differ p ∷ rs) ls n (inl b) = let e = b.1 in omega arith
no_rule B (points_differ p ∷ rs) ls n (inr b) = no_rule B rs ls n b.1
no_rule B (feeder_combined c x ∷ rs) ls n (inl b) = let e = b.1 in omega arith
no_rule B (feeder_combined c x ∷ rs) ls n (inr b) = no_rule B rs ls n b.1

no_mark : {L : Type 0} → ¬ FirstBroken (record { number = 15; Broken = L } ∷ []) 26
no_mark (inl b) = let e = b.1 in omega arith
no_mark (inr b) = b.1

told_unreal : {latin : Bool} {l : Bytes} {p : Phase} {o : Order} → OfRecord 26 latin l p o → UnrealDay latin l p o
unfolding Somewhere
told_unreal {l = l} (of_record {t} {m} {n} {o} s e b) =
    let u = (fields_unreal (standing t o) (fields_of l) _ (no_rule _ (rules t) _ no_mark)).so b in
    unreal s e u.1

unreal_told : (latin : Bool) (p : Phase) (o : Order) (l : Bytes) → FirstBroken (laws latin p o l) 26 → UnrealDay latin l p o
unfolding any
unreal_told latin p o l b = told_unreal (told_record 26 refl latin l p o b)

unreal_stops : {latin : Bool} {l : Bytes} {p : Phase} {o : Order} → Ordered p o → UnrealDay latin l p o → step latin p o l ≡ Err 26
unfolding choose line_step rec_step rec_verdict
unreal_stops {l = l} a (unreal {t} {m} {n} {k} {o} s e u) =
    rw (known_step Rec s (omega arith) (P.Rows t m n) o, eq-eqb (length (fields_of l)) (width t) (e ∙ arranged_long (width t) o a), first_unreal u)

-- a line is refused with 26 exactly if it is such a record
pub unreal_exactly : (latin : Bool) (l : Bytes) (p : Phase) (o : Order) → Ordered p o → step latin p o l ≡ Err 26 ↔ UnrealDay latin l p o
unreal_exactly latin l p o a = (λ e. unreal_told latin p o l ((stop_exactly latin l p o a 26).0 e), unreal_stops a)

-- 26, of a section
pub refused_26 : (latin : Bool) (ls : List Bytes) (t n : ℕ) → Refused latin ls t 26 n ↔ Undated latin ls t n
refused_26 latin ls t n = (into, back)
  where
    into : Refused latin ls t 26 n → Undated latin ls t n
    into (at_line before after l q o s g b k p) = at_record before after l q o s g (unreal_told latin q o l b) k p
    into (unfinished q o g c k v p) = absurd (let y : ⊥ = omega arith in y)

    back : Undated latin ls t n → Refused latin ls t 26 n
    back (at_record before after l q o s g x k p) =
        let a = reach_ordered latin tt g in
        at_line before after l q o s g ((stop_exactly latin l q o a 26).0 (unreal_stops a x)) k p

-- no day column has a text, or may be missing, or goes beyond 99999999
day_column : (t k : ℕ) → (column_at t k).day ≡ true → ((column_at t k).text ≡ false) × ((column_at t k).optional ≡ false) × ((column_at t k).hi ≤ 99999999)
unfolding all_tables each
day_column t k e =
    let c = column_at t k in
    let a : (not c.day || (not c.text && (not c.optional && leb c.hi 99999999))) ≡ true =
    column_test (λ (x : Column). not x.day || (not x.text && (not x.optional && leb x.hi 99999999))) refl refl t k in
    let b : (not c.text && (not c.optional && leb c.hi 99999999)) ≡ true = rw e at a in
    let d = and_right (not c.text) (not c.optional && leb c.hi 99999999) b in (
      not-true _ (and_left (not c.text) (not c.optional && leb c.hi 99999999) b),
      not-true _ (and_left (not c.optional) (leb c.hi 99999999) d),
      fact (at_most c.hi 99999999) (and_right (not c.optional) (leb c.hi 99999999) d),
    )

-- each day of a sound section's record is real
pub days_real : {latin : Bool} {t : ℕ} {o : Order} {ms : List ℕ} {vs : Record} {l : Bytes} → RecLine latin t o ms vs l → (k : ℕ) → k < width t → (column_at t k).day ≡ true →
    RealDay (get_or vs k (number 0))
unfolding column_at width
days_real {t = t} h k w e = by (day_column t k e) ((held h.fields.values).at k w).1
  where
    by : {o : Owner} {f : Bytes} {v : Datum} → ((column_at t k).text ≡ false) × ((column_at t k).optional ≡ false) × ((column_at t k).hi ≤ 99999999) → Holds o (column_at t k) f v → RealDay v
    by x (a_number {n} q r l u d) =
        let y = day_within (d e) (omega arith) in
        record { value = n; is = refl; day = d e; first = y.0; last = y.1 }
    by x (no_number q p z) = absurd (false≢true (sym x.1 ∙ p))
    by x (a_text q r l) = absurd (false≢true (sym x.0 ∙ q))
