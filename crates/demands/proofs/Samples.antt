-- Lines that the machine takes in any order of a table's columns: one with its formats, and one with a record, whatever mark waits. Assumes nothing.
use Rattle.std.specs.Prelude.{Ok}
use mathlib.Core.Path.{◌≡◌, refl, ap, sym, ◌∙◌}
use mathlib.Core.Bool.{Bool, true, false, ◌&&◌, false≢true}
use mathlib.Core.List.{List, [], ◌∷◌, map}
use Prim.Native.Nat.{ℕ, zero, suc, ◌+◌, ◌-◌, ◌<◌}
use native.Mathlib.Nat.{zero-add}
use native.Mathlib.Numerals.{add-one}
use native.Mathlib.Omega.{arith}
use lib.Dec.{eqb, leb, ltb}
use lib.ListN.{length, get_or, length-map}
use lib.Seq.{ext_get_or}
use borrow.Author.Tests.{eq-eqb, ltb-true}
use Rattle.page.specs.Bytes.{Bytes, bytes, pick, all}
use Rattle.page.specs.Lines.{allowed, Frm, Rec}
use Rattle.page.specs.Tables.{Rule, points_differ, feeder_combined, TABLES, columns, column_at, rules, width}
use Rattle.page.specs.Order.{Order, upto, arranged, standing, place, by_column, column_in}
use Rattle.page.specs.Section.{choose, format_ok, formats_ok, frm_step, no_bytes, record_text, first_wrong, first_broken, empty_marked, rec_verdict, rec_step, line_step, content_step, step}
use Rattle.page.specs.File.{any}
use Rattle.page.specs.Form.{separated, line, decimal, quoted, format_text}
use Rattle.page.specs.Open.{open_all}
use Rattle.page.specs.declared.LineEnd.TheVariants as E
use Rattle.page.specs.declared.Phase.TheVariants as P
use Rattle.page.proofs.TableLaws.{listed, each_table}
use Rattle.page.proofs.OrderLaws.{upto_length, upto_at, all_upto, arranged_long, arranged_below, place_in, by_column_length, by_column_at, sound_by_column}
use Rattle.grammar.proofs.Arranged.{empty_by_column}
use Rattle.round.proofs.WrittenFields.{solid, Field, Fields, no_field, a_field, solid_field, quoted_field, decimal_field}
use Rattle.round.proofs.WrittenLines.{commands, Seen, seen, separated_more, separated_none}
use Rattle.round.proofs.RoundSections.{some_columns}

-- one field a column, in an order

map_at : (g : ℕ → Bytes) (o : Order) (p : ℕ) → p < length o → get_or (map g o) p [] ≡ g (get_or o p 0)
map_at g [] p h = absurd (omega arith)
map_at g (c ∷ o) zero h = refl
map_at g (c ∷ o) (suc p) h = map_at g o p (omega arith)

-- by column they stand as in document 01's order
by_column_back : (g : ℕ → Bytes) (n : ℕ) (o : Order) → arranged n o ≡ true → by_column o (map g o) ≡ map g (upto 0 n)
by_column_back g n o a =
    let l = arranged_long n o a in
    let m = by_column_length o (map g o) in
    let k = length-map (upto 0 n) g ∙ upto_length 0 n in
    ext_get_or [] (by_column o (map g o)) (map g (upto 0 n)) (m ∙ l ∙ sym k)
    (λ c h.
    let i : c < n = omega (arith, m, l) in
    let x = place_in n o a c i in
    by_column_at o (map g o) c (omega (arith, m)) ∙ map_at g o (place c o) x.0 ∙ ap g (x.1 ∙ sym (upto_at 0 n c 0 i ∙ zero-add c))
    ∙ sym (map_at g (upto 0 n) c (omega (arith, upto_length 0 n))))

module _ (g : ℕ → Bytes) (n : ℕ) where
  fields_stand : ((c : ℕ) → c < n → Field (g c)) → (o : Order) → ((p : ℕ) → p < length o → get_or o p 0 < n) → Fields (map g o)
  fields_stand f [] h = no_field
  fields_stand f (c ∷ o) h = a_field (f c (h 0 (omega arith))) (fields_stand f o (λ p k. h (suc p) (omega arith)))

  fields_allowed : (wide : Bool) → ((c : ℕ) → c < n → all (allowed wide) (g c) ≡ true) → (o : Order) → ((p : ℕ) → p < length o → get_or o p 0 < n) →
      all (allowed wide) (separated (map g o)) ≡ true
  fields_allowed wide f [] h = separated_none wide
  fields_allowed wide f (c ∷ o) h = separated_more wide (g c) (map g o) (f c (h 0 (omega arith))) (fields_allowed wide f o (λ p k. h (suc p) (omega arith)))

-- a test that each column of each table passes: computed
each_column : (f : ℕ → ℕ → Bool) → listed (λ t. all (f t) (upto 0 (width t))) TABLES ≡ listed (λ t. true) TABLES → (t c : ℕ) → t < TABLES → c < width t → f t c ≡ true
each_column f e t c h k =
    let z : 0 + c ≡ c = zero-add c in
    rw z at (all_upto (f t) 0 (width t) (each_table (λ t. all (f t) (upto 0 (width t))) (λ t. true) e t h) c k)

-- an order of a table's columns names one at least
none_arranged : (t : ℕ) → t < TABLES → arranged (width t) [] ≡ true → ⊥
unfolding width
none_arranged t h a = omega (arith, arranged_long (width t) [] a, some_columns E.Lf false t h)

-- `frm`

abbrev format_at : ℕ → ℕ → Bytes
format_at t c = format_text (column_at t c)

pub formats_line : ℕ → Order → Bytes
formats_line t o = line E.Lf "frm" (map (format_at t) o)

record Formed (t c : ℕ) : Type 0 where
  right : format_ok (column_at t c).text (format_at t c) ≡ true
  some : ltb 0 (length (format_at t c)) ≡ true
  solid : all solid (format_at t c) ≡ true
  printed : (wide : Bool) → all (allowed wide) (format_at t c) ≡ true

formed : (t c : ℕ) → t < TABLES → c < width t → Formed t c
unfolding listed open_all solid
formed t c h k =
    record {
      right = each_column (λ t c. format_ok (column_at t c).text (format_at t c)) refl t c h k;
      some = each_column (λ t c. ltb 0 (length (format_at t c))) refl t c h k;
      solid = each_column (λ t c. all solid (format_at t c)) refl t c h k;
      printed = printed;
    }
  where
    printed : (wide : Bool) → all (allowed wide) (format_at t c) ≡ true
    printed true = each_column (λ t c. all (allowed true) (format_at t c)) refl t c h k
    printed false = each_column (λ t c. all (allowed false) (format_at t c)) refl t c h k

formats_right : (t : ℕ) → t < TABLES → (o : Order) → ((p : ℕ) → p < length o → get_or o p 0 < width t) → formats_ok (standing t o) (map (format_at t) o) ≡ true
unfolding formats_ok standing column_at
formats_right t h [] b = refl
formats_right t h (c ∷ o) b = rw (formed t c h (b 0 (omega arith))).right (formats_right t h o (λ p k. b (suc p) (omega arith)))

pub formats_step : (latin : Bool) (t : ℕ) (o : Order) → t < TABLES → arranged (width t) o ≡ true → step latin (P.Frm t) o (formats_line t o) ≡ Ok (P.Rows t 0 0)
unfolding step content_step choose line_step frm_step formats_line
formats_step latin t [] h a = absurd (none_arranged t h a)
formats_step latin t (c ∷ o) h a =
    let b = arranged_below (width t) (c ∷ o) a in
    let s : Seen latin (formats_line t (c ∷ o)) Frm (format_at t c) (map (format_at t) o) =
    seen E.Lf commands.9 (format_at t c) (map (format_at t) o) latin
    (fields_stand (format_at t) (width t) (λ c k. let x = formed t c h k in solid_field (format_at t c) (ltb-true 0 (length (format_at t c)) x.some) x.solid) (c ∷ o) b)
    (fields_allowed (format_at t) (width t) (latin && eqb Frm Rec) (λ c k. (formed t c h k).printed (latin && eqb Frm Rec)) (c ∷ o) b) in
    rw (s.clean, s.shown, s.named, s.split, formats_right t h (c ∷ o) b)

-- a record: the least number of each column, or the first day, a text that is not empty, and numbers that no rule refuses

other : ℕ → Rule → Bool
other k (points_differ p) = eqb k (p + 3)
other k (feeder_combined c x) = eqb k c

least : ℕ → ℕ → ℕ
least t c = pick (column_at t c).day 10101 (column_at t c).lo

number_at : ℕ → ℕ → ℕ
number_at t c = pick (any (other c) (rules t)) (column_at t c).hi (least t c)

unfoldable sample_at : ℕ → ℕ → Bytes
sample_at t c = pick (column_at t c).text (quoted (bytes "x")) (decimal (number_at t c))

pub sample_line : ℕ → Order → Bytes
sample_line t o = line E.Lf "rec" (map (sample_at t) o)

-- by column
unfoldable samples : ℕ → List Bytes
samples t = map (sample_at t) (upto 0 (width t))

-- no field is an empty text
unfoldable full : List Bytes → Bool
full [] = true
full (f ∷ fs) = pick (no_bytes (record_text f)) false (full fs)

full_at : (fs : List Bytes) (k : ℕ) → full fs ≡ true → no_bytes (record_text (get_or fs k [])) ≡ false
unfolding open_all full
full_at [] k e = refl
full_at (f ∷ fs) k e = by (no_bytes (record_text f)) refl e k (λ j h. full_at fs j h)
  where
    by : (b : Bool) → no_bytes (record_text f) ≡ b → pick b false (full fs) ≡ true → (k : ℕ) → ((j : ℕ) → full fs ≡ true → no_bytes (record_text (get_or fs j [])) ≡ false) →
        no_bytes (record_text (get_or (f ∷ fs) k [])) ≡ false
    by true q e k ih = absurd (false≢true e)
    by false q e zero ih = q
    by false q e (suc k) ih = ih k e

record Sampled (t : ℕ) : Type 0 where
  right : first_wrong (columns t) (samples t) ≡ 0
  kept : first_broken (rules t) (samples t) ≡ 0
  filled : full (samples t) ≡ true

sampled : (t : ℕ) → t < TABLES → Sampled t
unfolding listed open_all other least number_at sample_at samples full
sampled t h =
    record {
      right = each_table (λ t. first_wrong (columns t) (samples t)) (λ t. 0) refl t h;
      kept = each_table (λ t. first_broken (rules t) (samples t)) (λ t. 0) refl t h;
      filled = each_table (λ t. full (samples t)) (λ t. true) refl t h;
    }

sample_field : (t c : ℕ) → Field (sample_at t c)
unfolding sample_at
sample_field t c = by (column_at t c).text
  where
    by : (b : Bool) → Field (pick b (quoted (bytes "x")) (decimal (number_at t c)))
    by true = quoted_field (bytes "x")
    by false = decimal_field (number_at t c)

sample_printed : (wide : Bool) (t c : ℕ) → t < TABLES → c < width t → all (allowed wide) (sample_at t c) ≡ true
unfolding listed open_all other least number_at sample_at
sample_printed true = each_column (λ t c. all (allowed true) (sample_at t c)) refl
sample_printed false = each_column (λ t c. all (allowed false) (sample_at t c)) refl

none_empty : (t : ℕ) → t < TABLES → (m : ℕ) → empty_marked m (samples t) ≡ false
unfolding empty_marked
none_empty t h m = rw (full_at (samples t) (m - 1) (sampled t h).filled) (by (leb 1 m))
  where
    by : (b : Bool) → (b && false) ≡ false
    by true = refl
    by false = refl

sample_verdict : (t : ℕ) (o : Order) → t < TABLES → arranged (width t) o ≡ true → (m : ℕ) → rec_verdict t o m (map (sample_at t) o) ≡ 0
unfolding rec_verdict samples
sample_verdict t o h a m =
    let n = length-map o (sample_at t) in
    let c = by_column_back (sample_at t) (width t) o a in
    let s = sampled t h in
    let e : empty_marked (column_in o m) (by_column o (map (sample_at t) o)) ≡ false = rw c (none_empty t h (column_in o m)) in
    rw (
      eq-eqb (length (map (sample_at t) o)) (width t) (n ∙ arranged_long (width t) o a),
      (sound_by_column t o (map (sample_at t) o) a n).1 (rw c s.right),
      c,
      s.kept,
      empty_by_column t o a (map (sample_at t) o) n m ∙ e,
    )

-- it is taken whatever mark waits
pub sample_step : (latin : Bool) (t : ℕ) (o : Order) (m n : ℕ) → t < TABLES → arranged (width t) o ≡ true → step latin (P.Rows t m n) o (sample_line t o) ≡ Ok (P.Rows t 0 (suc n))
unfolding step content_step choose line_step rec_step sample_line
sample_step latin t [] m n h a = absurd (none_arranged t h a)
sample_step latin t (c ∷ o) m n h a =
    let b = arranged_below (width t) (c ∷ o) a in
    let s : Seen latin (sample_line t (c ∷ o)) Rec (sample_at t c) (map (sample_at t) o) =
    seen E.Lf commands.10 (sample_at t c) (map (sample_at t) o) latin (fields_stand (sample_at t) (width t) (λ c k. sample_field t c) (c ∷ o) b)
    (fields_allowed (sample_at t) (width t) (latin && eqb Rec Rec) (λ c k. sample_printed (latin && eqb Rec Rec) t c h k) (c ∷ o) b) in
    rw (s.clean, s.shown, s.named, s.split, sample_verdict t (c ∷ o) h a m, add-one)
