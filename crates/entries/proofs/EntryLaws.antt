-- The fields of a record that passed its rules, by column. Assumes nothing.
use mathlib.Core.Path.{◌≡◌, ap, sym, ◌∙◌}
use mathlib.Core.Bool.{Bool, true, false}
use mathlib.Core.List.{List, []}
use Prim.Native.Nat.{ℕ, ◌<◌, ◌≤◌}
use native.Mathlib.Omega.{arith}
use lib.ListN.{length, get_or}
use Rattle.page.specs.Bytes.{Bytes, pick}
use Rattle.page.specs.Fields.{fields, number_of}
use Rattle.page.specs.Tables.{column_at, width}
use Rattle.page.specs.Order.{standing, place}
use Rattle.page.specs.Section.{left_out, field_of, field_number, first_wrong, amount}
use Rattle.page.specs.Places.{field_place, span_from}
use Rattle.page.specs.Reading.{later_field}
use Rattle.page.specs.declared.Column.{Column}
use Rattle.page.specs.declared.Span.{Span}
use Rattle.page.specs.declared.Field.{Field}
use Rattle.page.specs.declared.Field.TheVariants as F
use Rattle.page.proofs.OrderLaws.{arranged_long, place_in}
use Rattle.arrangement.specs.Orders.{held, Stands}
use Rattle.digits.specs.Runs.{field_from}
use Rattle.copies.proofs.FieldLaws.{column_sound}
use Rattle.copies.proofs.ReadLaws.{Words, text_read, number_read, missing_read, never_refused, field_begins, field_there}

-- one of two forms

pub picked : (b : Bool) (x y : Bytes) → b ≡ true → x ≡ pick b x y
picked b x y e = rw e

pub unpicked : (b : Bool) (x y : Bytes) → b ≡ false → y ≡ pick b x y
unpicked b x y e = rw e

-- the field of column k, that begins where the walk found the place p to begin
module _ (t : ℕ) (a : List ℕ) (x : Stands t a) (w : Bytes) (n : length (fields w) ≡ width t) (z : first_wrong (standing t (held t a)) (fields w) ≡ 0)
    (starts : List ℕ) (s : (p : ℕ) → p < width t → get_or starts p 0 ≡ field_place p 0 w) (k : ℕ) (h : k < width t) (p : ℕ) (q : p ≡ place k (held t a)) where
  pub place_within : p < width t
  place_within = omega (arith, (place_in (width t) (held t a) x.arranged k h).0, arranged_long (width t) (held t a) x.arranged)

  pub start_within : get_or starts p 0 ≤ length w
  start_within = rw (s p place_within) (field_begins w p (omega (arith, place_within)))

  pub start_field : field_from w (get_or starts p 0) ≡ get_or (fields w) (place k (held t a)) []
  start_field = rw (s p place_within) (field_there w p (omega (arith, place_within)) ∙ ap (λ (i : ℕ). get_or (fields w) i []) q)

  pub start_sound : field_number (field_of (column_at t k) (field_from w (get_or starts p 0))) ≡ 0
  start_sound = rw start_field (column_sound t (held t a) (fields w) x.arranged n z k h)

-- what is read of a field
module _ (t k : ℕ) (w : Bytes) (from : ℕ) (h : from ≤ length w) (ok : field_number (field_of (column_at t k) (field_from w from)) ≡ 0) (d : Column)
    (x : d ≡ column_at t k) (r : Field)
    (q : r ≡ later_field (span_from w from).from (field_of d (field_from w from))) where
  asked : r ≡ later_field (span_from w from).from (field_of (column_at t k) (field_from w from))
  asked = q ∙ ap (λ (c : Column). later_field (span_from w from).from (field_of c (field_from w from))) x

  pub words_asked : (sp : Span) → r ≡ F.Text sp → Words (column_at t k) (field_from w from) w sp
  words_asked sp e = text_read (column_at t k) w from h ok sp (sym e ∙ asked)

  pub number_asked : (n : ℕ) → r ≡ F.Number n → ((column_at t k).text ≡ false) × (left_out (column_at t k).optional (field_from w from) ≡ false) × (n ≡ amount (number_of (field_from w from)))
  number_asked n e = number_read (column_at t k) w from h ok n (sym e ∙ asked)

  pub missing_asked : r ≡ F.Missing → ((column_at t k).text ≡ false) × (left_out (column_at t k).optional (field_from w from) ≡ true)
  missing_asked e = missing_read (column_at t k) w from h ok (sym e ∙ asked)

  pub refusal_asked : (v : ℕ) → r ≡ F.Refused v → ⊥
  refusal_asked v e = never_refused (column_at t k) w from h ok v (sym e ∙ asked)
