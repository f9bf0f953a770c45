-- Where a field begins, what stands there, and what it is handed out as. Assumes nothing.
use mathlib.Core.Path.{◌≡◌, refl, ap, sym, ◌∙◌}
use mathlib.Core.Bool.{Bool, true, false}
use mathlib.Core.List.{List, [], ◌∷◌}
use Prim.Native.Nat.{ℕ, suc, ◌+◌, ◌-◌, ◌<◌, ◌≤◌}
use native.Mathlib.Omega.{arith}
use borrow.Author.Tests.{leb-true, leb-false}
use lib.Dec.{eqb, leb}
use lib.ListN.{length, get_or, take, drop}
use Rattle.page.specs.Bytes.{Bytes, pick, moved, trim_of, trim}
use Rattle.page.specs.Fields.{field_size, fields, text_of, digits, number_of}
use Rattle.page.specs.Tables.{WIDEST, column_at}
use Rattle.page.specs.Order.{Order, place}
use Rattle.page.specs.Marks.{owner_of}
use Rattle.page.specs.Section.{words_of, text_field, number_field, left_out, field_of}
use Rattle.page.specs.Places.{field_place, span_from, field_span}
use Rattle.page.specs.File.{limit}
use Rattle.page.specs.Reading.{later_field, field_at, valued, value_in}
use Rattle.page.specs.declared.Column.{Column}
use Rattle.page.specs.declared.Field.{Field}
use Rattle.page.specs.declared.Field.TheVariants as F
use Rattle.page.specs.declared.Owner.{Owner}
use Rattle.page.specs.declared.Owner.TheVariants as O
use Rattle.page.specs.declared.Span.{Span}
use Rattle.page.proofs.ScanLaws.{part_length}
use Rattle.page.proofs.FieldLaws.{from, from_more, from_end, from_all, end_in, field_end, head_left, none_left, place_left, span_in, span_part}
use Rattle.page.proofs.TableLaws.{width_le}
use Rattle.arrangement.specs.Orders.{held, Orderly}
use Rattle.arrangement.proofs.OrderLaws.{held_length}
use Rattle.values.specs.Values.{Fits}
use Rattle.values.proofs.ReadLaws.{Read, a_text, a_number, no_number, no_value, read_of, wording_in}

-- a walk that has passed i fields has gone past the end by no more than those
pub start_step : (w : Bytes) (at e i : ℕ) → e ≡ at + field_size false (drop at w) → at ≤ length w + 1 + i → e + 1 ≤ length w + 1 + (i + 1)
start_step w at e i q h = by (leb at (length w)) refl
  where
    by : (b : Bool) → leb at (length w) ≡ b → e + 1 ≤ length w + 1 + (i + 1)
    by true x = let a = end_in w at e (leb-true at (length w) x) q in omega arith
    by false x =
        let a = leb-false at (length w) x in
        let z = field_end false w at (omega arith) in
        omega arith

module _ (w : Bytes) (p start : ℕ) (e : start ≡ field_place p 0 w) where
  left : from w start ≡ drop p (fields w)
  left = ap (from w) e ∙ place_left w p 0 ∙ ap (drop p) (from_all w)

  field_here : start ≤ length w → get_or (fields w) p [] ≡ trim (take (field_size false (drop start w)) (drop start w))
  field_here h =
      let n = field_size false (drop start w) in
      let z : start + n - start ≡ n = omega arith in
      head_left (fields w) p _ _ (sym left ∙ from_more w start (start + n) h refl) ∙ ap (λ (k : ℕ). trim (take k (drop start w))) z

  field_past : length w < start → get_or (fields w) p [] ≡ []
  field_past h = none_left (fields w) p p (omega arith) (sym left ∙ from_end w start h)

  -- what is read there is the field at place p
  pub field_is : start ≤ length w → (c : Column) (f : Field) → f ≡ later_field (span_from w start).from (field_of c (trim (take (field_size false (drop start w)) (drop start w))))
      → f ≡ field_at c w p
  unfolding field_at field_span
  field_is h c f q = q ∙ rw (field_here h, e)

  -- past the end there is nothing to read
  pub field_none : length w < start → (o : Owner) (at : ℕ) (c : Column) → valued O.Operator (field_of c []) ≡ valued o (later_field at (field_at c w p))
  unfolding field_at field_of words_of text_of text_field number_of digits number_field
  field_none h o at c = rw (field_past h) (by c.text c.optional)
    where
      read : Bool → Bool → Field
      read b d = pick b (text_field c.hi (words_of [])) (pick (left_out d []) F.Missing (number_field c.day c.lo c.hi (number_of [])))

      by : (b d : Bool) → valued O.Operator (read b d) ≡ valued o (later_field at (later_field (field_span w p).from (read b d)))
      by true d = refl
      by false true = refl
      by false false = refl

-- the text that is read of the field at a place
pub field_fits : (w : Bytes) (start at : ℕ) → start ≤ length w → at + length w ≤ limit → (c : Column) (f : Field)
    → f ≡ later_field (span_from w start).from (field_of c (trim (take (field_size false (drop start w)) (drop start w)))) → Fits at f
unfolding span_from
field_fits w start at h l c f q = rw q (by (read_of c t))
  where
    n : ℕ
    n = field_size false (drop start w)

    t : Bytes
    t = trim (take n (drop start w))

    sp : Span
    sp = span_from w start

    is : sp ≡ moved start (trim_of (take (start + n - start) (drop start w)))
    is = let z : start + n - start ≡ n = omega arith in rw z

    inner : (sp.from ≤ sp.to) × (sp.to ≤ length w)
    inner = span_in w start (start + n) refl (end_in w start (start + n) h refl) sp is

    long : length t ≡ sp.to - sp.from
    long =
        let z : start + n - start ≡ n = omega arith in
        let p = span_part w start (start + n) refl (end_in w start (start + n) h refl) sp is in
        sym (ap length (rw z at p)) ∙ part_length sp.from sp.to w inner.1

    by : {g : Field} → Read c t g → Fits at (later_field sp.from g)
    by (a_text x a e) = let b = wording_in t x e in let i = inner in let k = long in (omega arith, omega arith)
    by (a_number x a) = tt
    by (no_number a) = tt
    by (no_value x a) = tt

-- where a column stands, or past the last place
place_le : (c : ℕ) (o : Order) → place c o ≤ length o
unfolding place
place_le c [] = omega arith
place_le c (x ∷ o) = by (eqb x c) (place_le c o)
  where
    by : (b : Bool) → place c o ≤ length o → pick b 0 (suc (place c o)) ≤ suc (length o)
    by true h = omega arith
    by false h = omega arith

pub place_few : (c t : ℕ) (a : List ℕ) (p : ℕ) → Orderly a → p ≡ place c (held t a) → p ≤ WIDEST
place_few c t a p x e = omega (arith, place_le c (held t a), held_length t a x, width_le t)

-- the value of a column, by the place where it stands
pub column_value : (t f c p at m : ℕ) (o : Order) (w : Bytes) (d : Column) → c ≡ f - 1 → p ≡ place c o
    → d ≡ column_at t c
    → valued (owner_of m (suc p)) (later_field at (field_at d w p)) ≡ value_in t o (record { at = at; rest = w; mark = m }) f
unfolding value_in field_at
column_value t f c p at m o w d k e x = rw (sym k, e, x)
