-- A record's fields from the left, against the columns of its table as they stand. Assumes nothing.
use Rattle.std.specs.Prelude.{None, Option, Some}
use mathlib.Core.Path.{◌≡◌, refl, ap, sym, ◌∙◌}
use mathlib.Core.Bool.{Bool, true, false, ◌&&◌}
use mathlib.Core.List.{List, [], ◌∷◌}
use Prim.Native.Nat.{ℕ, ◌+◌, ◌-◌, ◌<◌, ◌≤◌}
use native.Mathlib.Numerals.{add-one}
use native.Mathlib.Omega.{arith}
use lib.Dec.{eqb, leb, ltb}
use lib.ListN.{length, get_or, set, take, drop, drop_of_length-le, length-drop}
use lib.Seq.{take_all, take-suc, drop-cons, get_or-set_same, get_or-set_other}
use borrow.Author.Tests.{eq-eqb, ne_eqb, eqb-true, eqb-false, ltb-true, ltb-false}
use Rattle.page.specs.Bytes.{Bytes, pick, all, moved}
use Rattle.page.specs.Fields.{field_size, fields, number_of}
use Rattle.page.specs.Tables.{Named, WIDEST, no_column, column_at, width, rules}
use Rattle.page.specs.Order.{Order, standing, place, by_column}
use Rattle.page.specs.Section.{Wording, own_of, words_of, record_text, text_field, number_field, left_out, field_of, field_number, first_of, first_wrong, first_broken, empty_marked, rec_verdict, amount, no_bytes}
use Rattle.page.specs.Form.{doubled}
use Rattle.page.specs.Reading.{later_field}
use Rattle.page.specs.declared.Column.{Column}
use Rattle.page.specs.declared.Span.{Span}
use Rattle.page.specs.declared.Field.{Field}
use Rattle.page.specs.declared.Field.TheVariants as F
use Rattle.page.proofs.TestLaws.{false_true, and_left, and_right}
use Rattle.page.proofs.TextLaws.{doubled_least, words_there}
use Rattle.page.proofs.NumberFieldLaws.{NumberRead, as_number, as_refusal, number_read_so}
use Rattle.page.proofs.OrderLaws.{arranged_below, place_in, place_at, by_column_at}
use Rattle.page.proofs.FieldLaws.{from, from_end}
use Rattle.lines.proofs.RunLaws.{all_append, all_run}
use Rattle.digits.proofs.RunLaws.{stop_at}
use Rattle.amounts.proofs.AmountLaws.{no_number}
use Rattle.arrangement.specs.Orders.{held, Stands}
use Rattle.arrangement.proofs.OrderLaws.{held_length, held_at, held_standing, held_column}
use Rattle.rules.specs.Broken.{Kept, Columns}
use Rattle.judging.specs.Judging.{judged_number, Numbers, Judged}

-- a field's refusal and what is kept of it are the same wherever it stands

later_refusal : (k : ℕ) (f : Field) → field_number (later_field k f) ≡ field_number f
unfolding field_number
later_refusal k (F.Text sp) = refl
later_refusal k (F.Number n) = refl
later_refusal k F.Missing = refl
later_refusal k (F.Refused v) = refl

later_value : (k : ℕ) (f : Field) → judged_number (later_field k f) ≡ judged_number f
unfolding judged_number
later_value k (F.Text sp) = omega arith
later_value k (F.Number n) = refl
later_value k F.Missing = refl
later_value k (F.Refused v) = refl

module _ (c : Column) (f : Bytes) (k : ℕ) (r : Field) (q : r ≡ later_field k (field_of c f)) where
  pub refusal_read : field_number r ≡ field_number (field_of c f)
  refusal_read = ap field_number q ∙ later_refusal k (field_of c f)

  pub value_read : judged_number r ≡ judged_number (field_of c f)
  value_read = ap judged_number q ∙ later_value k (field_of c f)

-- a text's span is one
pub span_read : (c : Column) (f : Bytes) (k : ℕ) (sp : Span) → F.Text sp ≡ later_field k (field_of c f) → sp.from ≤ sp.to
unfolding field_of text_field
span_read c f k sp e = by c.text (left_out c.optional f) e
  where
    later : (n : ℕ) (s : Span) → s.from ≤ s.to → F.Text sp ≡ F.Text (moved n s) → sp.from ≤ sp.to
    later n s h q =
        let x : sp ≡ moved n s = cc in
        rw x (omega arith)

    sized : (x : Wording) → words_of f ≡ Some x → (b : Bool) → F.Text sp ≡ later_field k (pick b (F.Text x.span) (F.Refused 13)) → sp.from ≤ sp.to
    sized x w true q = let y = words_there f x w in later k x.span (omega (arith, y.begins, y.ends)) q
    sized x w false q = absurd (let z : ◌≡◌ {A = ℕ} 0 1 = cc in omega arith)

    worded_so : (o : Option Wording) → words_of f ≡ o → F.Text sp ≡ later_field k (text_field c.hi o) → sp.from ≤ sp.to
    worded_so None w q = absurd (let z : ◌≡◌ {A = ℕ} 0 1 = cc in omega arith)
    worded_so (Some x) w q = sized x w (leb (length x.own) c.hi) q

    no_text : {r : Field} → NumberRead (number_of f) r → F.Text sp ≡ later_field k r → sp.from ≤ sp.to
    no_text (as_number n e) q = absurd (let z : ◌≡◌ {A = ℕ} 0 1 = cc in omega arith)
    no_text (as_refusal v n) q = absurd (let z : ◌≡◌ {A = ℕ} 0 1 = cc in omega arith)

    by : (b d : Bool) → F.Text sp ≡ later_field k (pick b (text_field c.hi (words_of f)) (pick d F.Missing (number_field c.day c.lo c.hi (number_of f)))) → sp.from ≤ sp.to
    by true d q = worded_so (words_of f) refl q
    by false true q = absurd (let z : ◌≡◌ {A = ℕ} 0 1 = cc in omega arith)
    by false false q = no_text (number_read_so c.day c.lo c.hi (number_of f)) q

-- a refusal has a number
pub refused_some : (c : Column) (f : Bytes) (k v : ℕ) → F.Refused v ≡ later_field k (field_of c f) → v ≡ 0 → ⊥
unfolding field_of text_field
refused_some c f k v e = by c.text (left_out c.optional f) e
  where
    told : (n : ℕ) → F.Refused v ≡ F.Refused n → (n ≡ 0 → ⊥) → v ≡ 0 → ⊥
    told n q h z = let x : v ≡ n = cc in h (sym x ∙ z)

    sized : (x : Wording) (b : Bool) → F.Refused v ≡ later_field k (pick b (F.Text x.span) (F.Refused 13)) → v ≡ 0 → ⊥
    sized x true q = absurd (let z : ◌≡◌ {A = ℕ} 0 1 = cc in omega arith)
    sized x false q = told 13 q (λ z. omega arith)

    worded_so : (o : Option Wording) → F.Refused v ≡ later_field k (text_field c.hi o) → v ≡ 0 → ⊥
    worded_so None q = told 11 q (λ z. omega arith)
    worded_so (Some x) q = sized x (leb (length x.own) c.hi) q

    no_text : {r : Field} → NumberRead (number_of f) r → F.Refused v ≡ later_field k r → v ≡ 0 → ⊥
    no_text (as_number n e) q = absurd (let z : ◌≡◌ {A = ℕ} 0 1 = cc in omega arith)
    no_text (as_refusal u n) q = told u q n

    by : (b d : Bool) → F.Refused v ≡ later_field k (pick b (text_field c.hi (words_of f)) (pick d F.Missing (number_field c.day c.lo c.hi (number_of f)))) → v ≡ 0 → ⊥
    by true d q = worded_so (words_of f) q
    by false true q = absurd (let z : ◌≡◌ {A = ℕ} 0 1 = cc in omega arith)
    by false false q = no_text (number_read_so c.day c.lo c.hi (number_of f)) q

-- what is kept of a field that is not wrong

number_known : (c : Column) (f : Bytes) → field_number (field_of c f) ≡ 0 → c.text ≡ false → judged_number (field_of c f) ≡ amount (number_of f)
unfolding field_of field_number judged_number
number_known c f z e = rw e (by (left_out c.optional f) refl (number_read_so c.day c.lo c.hi (number_of f)) (rw e at z))
  where
    by : (d : Bool) → left_out c.optional f ≡ d → {r : Field} → NumberRead (number_of f) r → field_number (pick d F.Missing r) ≡ 0 → judged_number (pick d F.Missing r) ≡ amount (number_of f)
    by true l r q = sym (ap amount (no_number f (eqb-true (length f) 0 (and_right c.optional (eqb (length f) 0) l))))
    by false l (as_number n k) q = sym (ap amount k)
    by false l (as_refusal v n) q = absurd (n q)

text_known : (c : Column) (f : Bytes) → field_number (field_of c f) ≡ 0 → c.text ≡ true → eqb (judged_number (field_of c f)) 0 ≡ no_bytes (record_text f)
unfolding field_of text_field field_number judged_number record_text doubled
text_known c f z e = rw e (by (words_of f) refl (rw e at z))
  where
    bare : (n : ℕ) (t : Bytes) → n ≡ length (doubled t) → eqb n 0 ≡ no_bytes (Some t)
    bare n [] q = eq-eqb n 0 q
    bare n (b ∷ t) q = ne_eqb n 0 (λ (y : n ≡ 0). omega (arith, doubled_least (b ∷ t)))

    sized : (x : Wording) → words_of f ≡ Some x → (b : Bool) → field_number (pick b (F.Text x.span) (F.Refused 13)) ≡ 0
        → eqb (judged_number (pick b (F.Text x.span) (F.Refused 13))) 0 ≡ no_bytes (Some x.own)
    sized x w true q = let y = words_there f x w in bare (x.span.to - x.span.from) x.own (omega (arith, y.begins, y.ends))
    sized x w false q = absurd (omega arith)

    by : (o : Option Wording) → words_of f ≡ o → field_number (text_field c.hi o) ≡ 0 → eqb (judged_number (text_field c.hi o)) 0 ≡ no_bytes (own_of o)
    by None w q = absurd (omega arith)
    by (Some x) w q = sized x w (leb (length x.own) c.hi) q

kept_of : (c : Column) (f : Bytes) → field_number (field_of c f) ≡ 0 → Kept c f (judged_number (field_of c f))
kept_of c f z = record { worth = number_known c f z; empty = text_known c f z }

-- "each field from the left": no field is left, no column is left, or one of each

no_fields : (cs : List Named) → first_wrong cs [] ≡ 0
unfolding first_wrong
no_fields [] = refl
no_fields (c ∷ cs) = refl

-- the columns of a table as the array a says that they stand

module _ (t : ℕ) (a : List ℕ) (x : Stands t a) where
  abbrev o : Order
  o = held t a

  long : length o ≡ width t
  long = held_length t a x.orderly

  wrong_none : (k : ℕ) (fs : List Bytes) → fs ≡ [] → first_wrong (drop k (standing t o)) fs ≡ 0
  wrong_none k fs e = rw e (no_fields (drop k (standing t o)))

  wrong_done : (k : ℕ) (fs : List Bytes) → width t ≤ k → first_wrong (drop k (standing t o)) fs ≡ 0
  unfolding first_wrong
  wrong_done k fs h =
      let n : length (standing t o) ≤ k = omega (arith, held_standing t a x.orderly) in
      rw (drop_of_length-le (standing t o) n)

  module _ (k : ℕ) (h : k < width t) (f : Bytes) (r fs : List Bytes) (e : fs ≡ f ∷ r) (v : ℕ)
      (q : v ≡ field_number (field_of (column_at t (get_or a k 0)) f)) where
    wrong_step : first_wrong (drop k (standing t o)) fs ≡ first_of v (first_wrong (drop (k + 1) (standing t o)) r)
    unfolding first_wrong
    wrong_step =
        let n : k < length (standing t o) = omega (arith, held_standing t a x.orderly) in
        rw (add-one, e, drop-cons (standing t o) k no_column n, held_column t a k x.orderly h, sym q)

    pub wrong_hit : (v ≡ 0 → ⊥) → first_wrong (drop k (standing t o)) fs ≡ v
    wrong_hit n = wrong_step ∙ rw (ne_eqb v 0 n)

    pub wrong_more : v ≡ 0 → first_wrong (drop k (standing t o)) fs ≡ first_wrong (drop (k + 1) (standing t o)) r
    wrong_more n = wrong_step ∙ rw (eq-eqb v 0 n)

  -- the column at a place is one of the table's
  pub column_within : (k : ℕ) → k < width t → get_or a k 0 < width t
  column_within k h =
      let b : get_or o k 0 < width t = arranged_below (width t) o x.arranged k (omega (arith, long)) in
      rw (held_at t a k h) at b

  -- two places have two columns
  same_place : (p q : ℕ) → p < width t → q < width t → get_or a p 0 ≡ get_or a q 0 → p ≡ q
  same_place p q h k e = sym (at p h) ∙ ap (λ (c : ℕ). place c o) e ∙ at q k
    where
      at : (y : ℕ) → y < width t → place (get_or a y 0) o ≡ y
      at y l = ap (λ (c : ℕ). place c o) (sym (held_at t a y l)) ∙ place_at (width t) o x.arranged y (omega (arith, long))

  -- a value is kept at its column
  pub numbers_more : (fs : List Bytes) (k : ℕ) (ns : List ℕ) (f : Bytes) (v : ℕ) → k < width t → length ns ≡ WIDEST → Numbers t a fs k ns
      → get_or fs k [] ≡ f → field_number (field_of (column_at t (get_or a k 0)) f) ≡ 0 → v ≡ judged_number (field_of (column_at t (get_or a k 0)) f)
      → Numbers t a fs (k + 1) (set ns (get_or a k 0) v)
  numbers_more fs k ns f v h l m g z q p i = by (eqb p k) refl
    where
      by : (b : Bool) → eqb p k ≡ b → Kept (column_at t (get_or a p 0)) (get_or fs p []) (get_or (set ns (get_or a k 0) v) (get_or a p 0) 0)
      by true d =
          let y : p ≡ k = eqb-true p k d in
          let n : get_or a k 0 < length ns = omega (arith, x.orderly.small k) in
          rw (y, get_or-set_same ns (get_or a k 0) v 0 n, g, q) (kept_of (column_at t (get_or a k 0)) f z)
      by false d =
          let y : p ≡ k → ⊥ = eqb-false p k d in
          let n : get_or a p 0 ≡ get_or a k 0 → ⊥ = λ j. y (same_place p k (omega arith) h j) in
          rw (get_or-set_other ns (get_or a k 0) (get_or a p 0) v 0 n) (m p (omega arith))

  by_columns : (fs : List Bytes) (ns : List ℕ) → Numbers t a fs (width t) ns → Columns t (by_column o fs) ns
  by_columns fs ns m c h =
      let l = place_in (width t) o x.arranged c h in
      let i : place c o < width t = omega (arith, l.0, long) in
      let d : get_or a (place c o) 0 ≡ c = sym (held_at t a (place c o) i) ∙ l.1 in
      let v = m (place c o) i in
      rw (by_column_at o fs c (omega (arith, long))) (rw d at v)

  -- a walk over a record's fields that has passed k of them: no field is left, or no column

  module _ (w : Bytes) (k at : ℕ) (i : first_wrong (drop k (standing t o)) (from w at) ≡ first_wrong (standing t o) (fields w))
      (d : drop k (fields w) ≡ from w at) (l : k ≤ length (fields w)) (ns : List ℕ) where
    passed : length w < at → length (fields w) ≡ k
    passed h = omega (arith, ap length (d ∙ from_end w at h), length-drop k (fields w))

    pub judged_few : k < width t → length w < at → Judged t o (fields w) 0 false ns
    judged_few g h =
        record {
          first = sym (sym i ∙ wrong_none k (from w at) (from_end w at h));
          ends = λ (e : false ≡ true). false_true e;
          numbers = λ (z : ◌≡◌ {A = ℕ} 0 0) (q : length (fields w) ≡ width t). absurd (omega (arith, passed h));
        }

    pub judged_all : width t ≡ k → Numbers t a (fields w) k ns → Judged t o (fields w) 0 (ltb (length w) at) ns
    judged_all g m =
        record {
          first = sym (sym i ∙ wrong_done k (from w at) (omega arith));
          ends = λ (e : ltb (length w) at ≡ true). passed (ltb-true (length w) at e) ∙ sym g;
          numbers = λ (z : ◌≡◌ {A = ℕ} 0 0) (q : length (fields w) ≡ width t). by_columns (fields w) ns (rw g m);
        }

-- a record with a wrong field does not pass
pub verdict_wrong : (t : ℕ) (o : Order) (m : ℕ) (fs : List Bytes) (v : ℕ) → v ≡ first_wrong (standing t o) fs → (v ≡ 0 → ⊥)
    → eqb (rec_verdict t o m fs) 0 ≡ false
unfolding rec_verdict
verdict_wrong t o m fs v e n = by (eqb (length fs) (width t))
  where
    by : (b : Bool)
        → eqb (pick b (first_of (first_wrong (standing t o) fs) (first_of (first_broken (rules t) (by_column o fs)) (pick (empty_marked m fs) 15 0))) 10) 0 ≡ false
    by true = rw (sym e, ne_eqb v 0 n) (ne_eqb v 0 n)
    by false = refl

-- the bytes that have been walked are allowed: a field's, and the `;` after it

module _ (p : ℕ → Bool) (part : p 59 ≡ true) (w : Bytes) (at e : ℕ) (h : at ≤ length w) (q : e ≡ at + field_size false (drop at w)) where
  pub clean_more : (a b : Bool) → (a ≡ true → all p (take at w) ≡ true) → (b ≡ true → all p (take (e - at) (drop at w)) ≡ true)
      → (a && b) ≡ true → all p (take (e + 1) w) ≡ true
  unfolding all
  clean_more a b f g x = by (ltb e (length w)) refl
    where
      here : all p (take e w) ≡ true
      here =
          let n : e ≡ at + (e - at) = omega arith in
          ap (λ (k : ℕ). all p (take k w)) n ∙ all_run p at (e - at) w ∙ rw (f (and_left a b x), g (and_right a b x))

      by : (c : Bool) → ltb e (length w) ≡ c → all p (take (e + 1) w) ≡ true
      by true c =
          let l : e < length w = ltb-true e (length w) c in
          rw (add-one, take-suc w e 0 l, all_append p (take e w) (get_or w e 0 ∷ []), here, stop_at w at e q l, part)
      by false c =
          let l : length w ≤ e = ltb-false e (length w) c in
          rw (take_all (e + 1) w (omega arith)) (rw (take_all e w l) at here)
