-- What stands in a record as it is written is copied: "Numbers without leading zeros, texts quoted". Assumes nothing.
use mathlib.Core.Path.{◌≡◌, refl, ap, sym, ◌∙◌}
use mathlib.Core.Bool.{Bool, true, false, ◌&&◌, false≢true}
use mathlib.Core.List.{List, [], ◌∷◌, ◌++◌, append-nil, append_assoc}
use Prim.Native.Nat.{ℕ, suc, ◌+◌, ◌-◌, ◌*◌, ◌/◌, ◌%◌, ◌<◌, ◌≤◌}
use native.Mathlib.Nat.{add-zero}
use native.Mathlib.Numerals.{add-one}
use native.Mathlib.Omega.{arith}
use borrow.Author.Tests.{eq-eqb, ne_eqb, eqb-true, eqb-false, le-ltb, leb-true, ltb-true, ltb-false}
use lib.Dec.{eqb, leb, ltb}
use lib.ListN.{length, get_or, take, drop, take-append-drop, length-drop, drop_of_length-le}
use lib.Seq.{drop-cons, drop-drop, get_or-drop, get_or-take, length-take-le, take_all}
use Rattle.std.specs.Prelude.{Option, Some, None, IfSome}
use Rattle.page.specs.Bytes.{Bytes, bytes, all, until, keep, space, no_space, trim}
use Rattle.page.specs.Fields.{field_size, fields, digit, digits, value, number_of}
use Rattle.page.specs.Tables.{Named}
use Rattle.page.specs.Marks.{owner_of}
use Rattle.page.specs.Section.{number_field, left_out, field_of, field_number, first_of, first_wrong, amount}
use Rattle.page.specs.Records.{datum_of, values_of}
use Rattle.page.specs.Form.{line_end, separated, decimal_in, decimal, datum_text, record_form}
use Rattle.page.specs.declared.LineEnd.{LineEnd}
use Rattle.page.specs.declared.Owner.{Owner}
use Rattle.page.specs.declared.Column.{Column}
use Rattle.page.proofs.TestLaws.{and_left, and_right}
use Rattle.page.proofs.ScanLaws.{until_hit, until_more, keep_stop}
use Rattle.page.proofs.FieldLaws.{field_more, field_le, from, from_more, from_end, from_all}
use Rattle.digits.specs.Runs.{field_from}
use Rattle.digits.proofs.RunLaws.{stop_at}
use Rattle.decimals.proofs.DecimalLaws.{decimal_few}
use Rattle.copies.specs.Changed.{changed_values}
use Rattle.copies.specs.Parts.{marked_by, mark_by, marks_form, datum_by, fields_form, stands, all_stand, Spaced, Ends, Whole}
use Rattle.copies.proofs.PartLaws.{record_is}
use Rattle.copies.proofs.FieldLaws.{datum_kept}
use Rattle.copies.proofs.ReadLaws.{text_opens, text_whole}

-- digits without a leading zero are what is written of their value

pub digit_low : (b : ℕ) → digit b ≡ true → 48 ≤ b
unfolding digit
digit_low b e = leb-true 48 b (and_left (leb 48 b) (leb b 57) e)

digit_high : (b : ℕ) → digit b ≡ true → b ≤ 57
unfolding digit
digit_high b e = leb-true b 57 (and_right (leb 48 b) (leb b 57) e)

-- one more digit
decimal_next : (k n b : ℕ) → 1 ≤ n → 48 ≤ b → b ≤ 57 → decimal_in (suc k) (n * 10 + (b - 48)) ≡ decimal_in k n ++ (b ∷ [])
unfolding decimal_in
decimal_next k n b h l u =
    let x : 10 ≤ n * 10 + (b - 48) = omega arith in
    let y : (n * 10 + (b - 48)) / 10 ≡ n = omega arith in
    let z : 48 + (n * 10 + (b - 48)) % 10 ≡ b = omega arith in
    simp (le-ltb (n * 10 + (b - 48)) 10 x, y, z)

decimal_on : (k n : ℕ) (ds : Bytes) → 1 ≤ n → all digit ds ≡ true → decimal_in (k + length ds) (value n ds) ≡ decimal_in k n ++ ds
unfolding value all
decimal_on k n [] h e = ap (λ (j : ℕ). decimal_in j n) (add-zero k) ∙ sym (append-nil (decimal_in k n))
decimal_on k n (b ∷ ds) h e =
    let d : digit b ≡ true = and_left (digit b) (all digit ds) e in
    let r : all digit ds ≡ true = and_right (digit b) (all digit ds) e in
    let j : k + suc (length ds) ≡ suc k + length ds = omega arith in
    ap (λ (i : ℕ). decimal_in i (value (n * 10 + (b - 48)) ds)) j
    ∙ decimal_on (suc k) (n * 10 + (b - 48)) ds (omega arith) r
    ∙ ap (λ (x : Bytes). x ++ ds) (decimal_next k n b h (digit_low b d) (digit_high b d))
    ∙ append_assoc (decimal_in k n) (b ∷ []) ds

decimal_one : (k b : ℕ) → 48 ≤ b → b ≤ 57 → decimal_in k (0 * 10 + (b - 48)) ≡ b ∷ []
decimal_one k b l u =
    let e : 48 + (0 * 10 + (b - 48)) ≡ b = omega arith in
    sym (decimal_few k (0 * 10 + (b - 48)) (omega arith)) ∙ ap (λ (x : ℕ). x ∷ []) e

-- 1 to 18 digits
digits_are : (w : Bytes) → digits w ≡ true → (1 ≤ length w) × (length w ≤ 18) × (all digit w ≡ true)
unfolding digits
digits_are w e =
    let n = length w in
    let a = and_left (leb 1 n && leb n 18) (all digit w) e in
    (leb-true 1 n (and_left (leb 1 n) (leb n 18) a), leb-true n 18 (and_right (leb 1 n) (leb n 18) a), and_right (leb 1 n && leb n 18) (all digit w) e)

-- without a leading zero
lead_none : (b c : ℕ) (ds : Bytes) → stands (b ∷ c ∷ ds) ≡ true → b ≡ 48 → ⊥
unfolding stands
lead_none b c ds e q =
    let x : eqb b 45 ≡ false = ne_eqb b 45 (λ (z : b ≡ 45). omega arith) in
    let y : eqb (suc (suc (length ds))) 1 ≡ false = ne_eqb (suc (suc (length ds))) 1 (λ (z : suc (suc (length ds)) ≡ 1). omega arith) in
    false≢true (rw (x, eq-eqb b 48 q, y) at e)

digits_written : (w : Bytes) → 1 ≤ length w → length w ≤ 18 → all digit w ≡ true → stands w ≡ true → w ≡ decimal (value 0 w)
unfolding all value decimal
digits_written [] h u e s = absurd (omega arith)
digits_written (b ∷ []) h u e s =
    let d : digit b ≡ true = and_left (digit b) true e in
    sym (decimal_one 19 b (digit_low b d) (digit_high b d))
digits_written (b ∷ c ∷ ds) h u e s =
    let d : digit b ≡ true = and_left (digit b) (all digit (c ∷ ds)) e in
    let r : all digit (c ∷ ds) ≡ true = and_right (digit b) (all digit (c ∷ ds)) e in
    let l = digit_low b d in
    let z : b ≡ 48 → ⊥ = lead_none b c ds s in
    let j : 19 ≡ 18 - length ds + length (c ∷ ds) = omega arith in
    sym
    (ap (λ (i : ℕ). decimal_in i (value (0 * 10 + (b - 48)) (c ∷ ds))) j
    ∙ decimal_on (18 - length ds) (0 * 10 + (b - 48)) (c ∷ ds) (omega arith) r
    ∙ ap (λ (x : Bytes). x ++ (c ∷ ds)) (decimal_one (18 - length ds) b l (digit_high b d)))

-- a field that passed its column's rules

minus_none : (w : Bytes) → stands w ≡ true → eqb (get_or w 0 0) 45 ≡ false
unfolding stands
minus_none w e = ne_eqb (get_or w 0 0) 45 (λ (q : get_or w 0 0 ≡ 45). false≢true (rw (eq-eqb (get_or w 0 0) 45 q) at e))

number_stands : (day : Bool) (lo hi : ℕ) (w : Bytes) → field_number (number_field day lo hi (number_of w)) ≡ 0 → stands w ≡ true → w ≡ decimal (amount (number_of w))
unfolding number_field field_number number_of
number_stands day lo hi w z s = by (digits w) refl
  where
    x : eqb (get_or w 0 0) 45 ≡ false
    x = minus_none w s

    by : (d : Bool) → digits w ≡ d → w ≡ decimal (amount (number_of w))
    by true e = let a = digits_are w e in rw (x, e) (digits_written w a.0 a.1 a.2 s)
    by false e = absurd (let q : ◌≡◌ {A = ℕ} 12 0 = rw (x, e) at z in omega arith)

-- no space stands before a text's closing quote
text_bare : (c : Column) (w : Bytes) → c.text ≡ true → field_number (field_of c w) ≡ 0 → stands w ≡ true → get_or w (length w - 2) 0 ≡ 32 → ⊥
unfolding stands
text_bare c w x ok s e =
    let q : get_or w 0 0 ≡ 34 = text_opens c w x ok in
    let a : eqb (get_or w 0 0) 45 ≡ false = ne_eqb (get_or w 0 0) 45 (λ (z : get_or w 0 0 ≡ 45). omega arith) in
    let b : eqb (get_or w 0 0) 48 ≡ false = ne_eqb (get_or w 0 0) 48 (λ (z : get_or w 0 0 ≡ 48). omega arith) in
    false≢true (rw (a, b, eq-eqb (get_or w 0 0) 34 q, eq-eqb (get_or w (length w - 2) 0) 32 e) at s)

module _ (c : Column) (w : Bytes) (ok : field_number (field_of c w) ≡ 0) (s : stands w ≡ true) where
  field_stands : (o : Owner) → w ≡ datum_text (datum_of o c w)
  unfolding field_of datum_text datum_of
  field_stands o = by c.text (left_out c.optional w) refl refl
    where
      empty : (f : Bytes) → length f ≡ 0 → f ≡ []
      empty [] e = refl
      empty (b ∷ f) e = absurd (omega arith)

      by : (q l : Bool) → c.text ≡ q → left_out c.optional w ≡ l → w ≡ datum_text (datum_of o c w)
      by true l x y = rw x (text_whole c w x ok (text_bare c w x ok s))
      by false true x y = rw (x, y) (empty w (eqb-true (length w) 0 (and_right c.optional (eqb (length w) 0) y)))
      by false false x y = rw (x, y) (number_stands c.day c.lo c.hi w (rw (x, y) at ok) s)

-- nothing is marked where no mark waits and no field is filled

marks_none : (ends : LineEnd) (strip : Bool) (i : ℕ) (cs : List Named) → marks_form ends strip 0 0 (suc i) cs ≡ []
unfolding marks_form mark_by marked_by
marks_none ends strip i [] = refl
marks_none ends true i (c ∷ cs) = rw (ne_eqb 0 (suc i) (λ (e : 0 ≡ suc i). omega arith)) (marks_none ends true (suc i) cs)
marks_none ends false i (c ∷ cs) = rw (ne_eqb 0 (suc i) (λ (e : 0 ≡ suc i). omega arith)) (marks_none ends false (suc i) cs)

pub plain_none : (f m : ℕ) (b : Bool) → b ≡ (eqb m 0 && eqb f 0) → b ≡ true → (m ≡ 0) × (f ≡ 0)
plain_none f m b e y =
    let z : (eqb m 0 && eqb f 0) ≡ true = sym e ∙ y in
    (eqb-true m 0 (and_left (eqb m 0) (eqb f 0) z), eqb-true f 0 (and_right (eqb m 0) (eqb f 0) z))

pub marks_plain : (ends : LineEnd) (strip : Bool) (f m : ℕ) (cs : List Named) (b : Bool) → b ≡ (eqb m 0 && eqb f 0) → b ≡ true → [] ≡ marks_form ends strip f m 1 cs
marks_plain ends strip f m cs b e y =
    let z = plain_none f m b e y in
    rw (z.0, z.1) (sym (marks_none ends strip 0 cs))

-- one space, and a field

trim_spaced : (g : Bytes) → 2 ≤ length g → get_or g 0 0 ≡ 32 → (get_or g 1 0 ≡ 32 → ⊥) → (get_or g (length g - 1) 0 ≡ 32 → ⊥) → trim g ≡ drop 1 g
unfolding trim
trim_spaced g n a b z =
    let t : take (length g) g ≡ g = take_all (length g) g (omega arith) in
    let k : keep space g ≡ length g =
    ap (keep space) (sym t) ∙ keep_stop space g (length g) (omega arith) (omega arith) (ne_eqb (get_or g (length g - 1) 0) 32 z) in
    let x : no_space (get_or g 0 0) ≡ false = rw (eq-eqb (get_or g 0 0) 32 a) in
    let y : no_space (get_or g 1 0) ≡ true = rw (ne_eqb (get_or g 1 0) 32 b) in
    let u : until no_space g ≡ 1 = until_more no_space g 0 (omega arith) x ∙ ap suc (until_hit no_space g 1 (omega arith) y) in
    rw (k, t, u) (take_all (length g - 1) (drop 1 g) (simp length-drop (omega arith)))

pub spaced_of : (g : Bytes) → 2 ≤ length g → get_or g 0 0 ≡ 32 → (get_or g 1 0 ≡ 32 → ⊥) → (get_or g (length g - 1) 0 ≡ 32 → ⊥)
    → stands (drop 1 g) ≡ true → Spaced g
spaced_of g n a b z s =
    let t : trim g ≡ drop 1 g = trim_spaced g n a b z in
    record {
      is = drop-cons g 0 0 (omega arith) ∙ ap (λ (x : ℕ). x ∷ drop 1 g) a ∙ ap (λ (x : Bytes). 32 ∷ x) (sym t);
      field = ap stands t ∙ s;
    }

-- and nothing
pub spaced_nothing : (g : Bytes) → length g ≡ 1 → get_or g 0 0 ≡ 32 → Spaced g
unfolding trim keep until stands
spaced_nothing [] n a = absurd (omega arith)
spaced_nothing (b ∷ []) n a = rw a (record { is = refl; field = refl })
spaced_nothing (b ∷ d ∷ g) n a = absurd (omega arith)

-- a number that begins with no zero

stands_first : (w : Bytes) → (get_or w 0 0 ≡ 45 → ⊥) → (get_or w 0 0 ≡ 48 → ⊥) → (get_or w 0 0 ≡ 34 → ⊥) → stands w ≡ true
unfolding stands
stands_first w x y z = rw (ne_eqb (get_or w 0 0) 45 x, ne_eqb (get_or w 0 0) 48 y, ne_eqb (get_or w 0 0) 34 z)

-- a byte that is neither a quote nor a `;`
pub plain_more : (w : Bytes) (i : ℕ) → i < length w → (get_or w i 0 ≡ 59 → ⊥) → (get_or w i 0 ≡ 34 → ⊥)
    → field_size false (drop i w) ≡ suc (field_size false (drop (i + 1) w))
plain_more w i h x y = field_more false w i false h (ne_eqb (get_or w i 0) 59 x) (rw (ne_eqb (get_or w i 0) 34 y))

pub digit_more : (w : Bytes) (i : ℕ) → i < length w → digit (get_or w i 0) ≡ true → field_size false (drop i w) ≡ suc (field_size false (drop (i + 1) w))
digit_more w i h d =
    let l : 48 ≤ get_or w i 0 = digit_low (get_or w i 0) d in
    let u : get_or w i 0 ≤ 57 = digit_high (get_or w i 0) d in
    plain_more w i h (λ (e : get_or w i 0 ≡ 59). omega arith) (λ (e : get_or w i 0 ≡ 34). omega arith)

module _ (w : Bytes) (p r : ℕ) (h : p + 2 ≤ length w) (a : get_or w p 0 ≡ 32) (z : get_or w (p + 1) 0 ≡ 48 → ⊥) (d : digit (get_or w (p + 1) 0) ≡ true)
    (q : r ≡ p + 2 + field_size false (drop (p + 2) w)) (m : p + 2 < r → 48 ≤ get_or w (r - 1) 0) where
  number_size : r ≡ p + field_size false (drop p w)
  number_size =
      let x = plain_more w p (omega arith) (λ (e : get_or w p 0 ≡ 59). omega arith) (λ (e : get_or w p 0 ≡ 34). omega arith) in
      let y = digit_more w (p + 1) (omega arith) d in
      let n : p + 1 + 1 ≡ p + 2 = omega arith in
      let k : field_size false (drop (p + 1 + 1) w) ≡ field_size false (drop (p + 2) w) = ap (λ (j : ℕ). field_size false (drop j w)) n in
      omega arith

  number_in : r ≤ length w
  number_in = omega (arith, field_le false (drop (p + 2) w), length-drop (p + 2) w)

  last_digit : 48 ≤ get_or w (r - 1) 0
  last_digit = by (ltb (p + 2) r) refl
    where
      by : (b : Bool) → ltb (p + 2) r ≡ b → 48 ≤ get_or w (r - 1) 0
      by true e = m (ltb-true (p + 2) r e)
      by false e =
          let l : r ≤ p + 2 = ltb-false (p + 2) r e in
          let n : r - 1 ≡ p + 1 = omega arith in
          rw n (digit_low (get_or w (p + 1) 0) d)

  at_place : (j k : ℕ) → j < r - p → p + j ≡ k → get_or (take (r - p) (drop p w)) j 0 ≡ get_or w k 0
  at_place j k l e = get_or-take (r - p) (drop p w) j 0 l ∙ get_or-drop p w j 0 ∙ ap (λ (i : ℕ). get_or w i 0) e

  pub number_ends : Ends w p r
  number_ends =
      let n : length (take (r - p) (drop p w)) ≡ r - p = length-take-le (r - p) (drop p w) (omega (arith, length-drop p w, number_in)) in
      let low : 48 ≤ get_or w (p + 1) 0 = digit_low (get_or w (p + 1) 0) d in
      let one : get_or (take (r - p) (drop p w)) 1 0 ≡ get_or w (p + 1) 0 = at_place 1 (p + 1) (omega arith) refl in
      let end : get_or (take (r - p) (drop p w)) (length (take (r - p) (drop p w)) - 1) 0 ≡ get_or w (r - 1) 0 =
      ap (λ (k : ℕ). get_or (take (r - p) (drop p w)) (k - 1) 0) n ∙ at_place (r - p - 1) (r - 1) (omega arith) (omega arith) in
      let last : 48 ≤ get_or w (r - 1) 0 = last_digit in
      let first : get_or (drop 1 (take (r - p) (drop p w))) 0 0 ≡ get_or w (p + 1) 0 = get_or-drop 1 (take (r - p) (drop p w)) 0 0 ∙ one in
      record {
        size = number_size;
        spaced =
            spaced_of (take (r - p) (drop p w)) (omega arith) (at_place 0 p (omega arith) (omega arith) ∙ a)
            (λ (e : get_or (take (r - p) (drop p w)) 1 0 ≡ 32). omega arith)
            (λ (e : get_or (take (r - p) (drop p w)) (length (take (r - p) (drop p w)) - 1) 0 ≡ 32). omega arith)
            (stands_first (drop 1 (take (r - p) (drop p w)))
            (λ (e : get_or (drop 1 (take (r - p) (drop p w))) 0 0 ≡ 45). omega arith)
            (λ (e : get_or (drop 1 (take (r - p) (drop p w))) 0 0 ≡ 48). z (sym first ∙ e))
            (λ (e : get_or (drop 1 (take (r - p) (drop p w))) 0 0 ≡ 34). omega arith));
      }

pub number_ends_if : (w : Bytes) (p : ℕ) → p + 2 ≤ length w → get_or w p 0 ≡ 32 → (get_or w (p + 1) 0 ≡ 48 → ⊥) → digit (get_or w (p + 1) 0) ≡ true
    → (r : Option ℕ) → IfSome r (λ e. (e ≡ p + 2 + field_size false (drop (p + 2) w)) × (p + 2 < e → 48 ≤ get_or w (e - 1) 0))
    → IfSome r (λ e. Ends w p e)
number_ends_if w p h a z d None x = tt
number_ends_if w p h a z d (Some e) x = number_ends w p e h a z d x.0 x.1

-- the field that begins at p, with the space before it
module _ (w : Bytes) (p e : ℕ) (s : Ends w p e) where
  ends_field : trim (take (e - p) (drop p w)) ≡ field_from w p
  ends_field =
      let n : e - p ≡ field_size false (drop p w) = omega (arith, s.size) in
      ap (λ (k : ℕ). trim (take k (drop p w))) n

  pub ends_spaced : take (e - p) (drop p w) ≡ 32 ∷ field_from w p
  ends_spaced = s.spaced.is ∙ ap (λ (x : Bytes). 32 ∷ x) ends_field

  pub ends_stand : stands (field_from w p) ≡ true
  ends_stand = ap stands (sym ends_field) ∙ s.spaced.field

-- all that is left after a place, where a `;` stands before it
pub record Left (w : Bytes) (p : ℕ) : Type 0 where
  pub is : separated (from w p) ≡ drop p (59 ∷ w)
  pub each : all_stand (from w p) ≡ true

pub left_all : (w : Bytes) → Left w 0 → Whole w
left_all w l =
    record {
      is = ap separated (sym (from_all w)) ∙ l.is;
      each = ap all_stand (sym (from_all w)) ∙ l.each;
    }

pub left_end : (w : Bytes) (p : ℕ) → length w < p → Left w p
unfolding separated all_stand
left_end w p h =
    let n : length (59 ∷ w) ≤ p = omega arith in
    record {
      is = ap separated (from_end w p h) ∙ sym (drop_of_length-le (59 ∷ w) n);
      each = ap all_stand (from_end w p h);
    }

-- the field at p ends at e
module _ (w : Bytes) (p e : ℕ) (h : p ≤ length w) (q : e ≡ p + field_size false (drop p w)) where
  pub before_next : e + 1 ≤ length w → drop (e + 1) (59 ∷ w) ≡ 59 ∷ drop (e + 1) w
  before_next l =
      rw add-one (drop-cons w e 0 (omega arith) ∙ ap (λ (b : ℕ). b ∷ drop (suc e) w) (stop_at w p e q (omega arith)))

  joined : take (e - p) (drop p w) ++ drop (e + 1) (59 ∷ w) ≡ drop p w
  joined =
      let n : p + (e - p) ≡ e = omega arith in
      let x : drop (e - p) (drop p w) ≡ drop e w = drop-drop (e - p) p w ∙ ap (λ (k : ℕ). drop k w) n in
      rw add-one (ap (λ (y : Bytes). take (e - p) (drop p w) ++ y) (sym x) ∙ take-append-drop (e - p) (drop p w))

  pub left_more : drop p (59 ∷ w) ≡ 59 ∷ drop p w → Spaced (take (e - p) (drop p w)) → Left w (e + 1) → Left w p
  unfolding bytes separated all_stand
  left_more b s l =
      let g : Bytes = take (e - p) (drop p w) in
      let m = from_more w p e h q in
      record {
        is =
            ap separated m
            ∙ ap (λ (x : Bytes). 59 ∷ 32 ∷ (trim g ++ x)) l.is
            ∙ ap (λ (x : Bytes). 59 ∷ (x ++ drop (e + 1) (59 ∷ w))) (sym s.is)
            ∙ ap (λ (x : Bytes). 59 ∷ x) joined ∙ sym b;
        each = ap all_stand m ∙ rw s.field l.each;
      }

-- the fields of a record that stands so

pub stand_all : (ws : List Bytes) → ((i : ℕ) → i < length ws → stands (get_or ws i []) ≡ true) → all_stand ws ≡ true
unfolding all_stand
stand_all [] h = refl
stand_all (w ∷ ws) h = rw (h 0 (omega arith)) (stand_all ws (λ i l. h (suc i) (omega arith)))

first_none : (a b : ℕ) → first_of a b ≡ 0 → (a ≡ 0) × (b ≡ 0)
first_none a b e = by (eqb a 0) refl
  where
    by : (q : Bool) → eqb a 0 ≡ q → (a ≡ 0) × (b ≡ 0)
    by true x = (eqb-true a 0 x, rw x at e)
    by false x = absurd (eqb-false a 0 x (rw x at e))

module _ (strip : Bool) (x : Bytes) where
  value_kept : (i : ℕ) (c : Column) (w : Bytes) → field_number (field_of c w) ≡ 0 → stands w ≡ true → w ≡ datum_text (datum_by strip 0 x 0 (suc i) c w)
  value_kept i c w ok s =
      let n : 0 ≡ suc i → ⊥ = λ (e : 0 ≡ suc i). omega arith in
      field_stands c w ok s (owner_of 0 (suc i)) ∙ ap datum_text (datum_kept strip 0 0 (suc i) x c w n false (none strip (ne_eqb 0 (suc i) n)) refl)
    where
      none : (b : Bool) → eqb 0 (suc i) ≡ false → false ≡ (b && eqb 0 (suc i))
      none true e = sym e
      none false e = refl

  pub fields_kept : (i : ℕ) (cs : List Named) (ws : List Bytes) → length ws ≡ length cs → first_wrong cs ws ≡ 0 → all_stand ws ≡ true
      → separated ws ≡ fields_form strip 0 x 0 (suc i) cs ws
  unfolding separated fields_form first_wrong all_stand
  fields_kept i [] [] n e s = refl
  fields_kept i [] (w ∷ ws) n e s = absurd (omega arith)
  fields_kept i (c ∷ cs) [] n e s = absurd (omega arith)
  fields_kept i (c ∷ cs) (w ∷ ws) n e s =
      let z = first_none (field_number (field_of c.column w)) (first_wrong cs ws) e in
      let v = value_kept i c.column w z.0 (and_left (stands w) (all_stand ws) s) in
      let m : length ws ≡ length cs = omega arith in
      ap (λ (y : Bytes). bytes "; " ++ (w ++ y)) (fields_kept (suc i) cs ws m z.1 (and_right (stands w) (all_stand ws) s))
      ∙ ap (λ (y : Bytes). bytes "; " ++ (y ++ fields_form strip 0 x 0 (suc (suc i)) cs ws)) v
      ∙ sym (append_assoc (bytes "; ") (datum_text (datum_by strip 0 x 0 (suc i) c.column w)) (fields_form strip 0 x 0 (suc (suc i)) cs ws))

  pub record_kept : (ends : LineEnd) (f m : ℕ) (cs : List Named) (w : Bytes) → length (fields w) ≡ length cs → first_wrong cs (fields w) ≡ 0
      → (m ≡ 0) × (f ≡ 0) × Whole w
      → bytes "rec;" ++ (w ++ line_end ends) ≡ record_form ends (changed_values strip f x (values_of m 1 cs (fields w)))
  unfolding bytes
  record_kept ends f m cs w n e k =
      let a : [] ≡ marks_form ends strip 0 0 1 cs = sym (marks_none ends strip 0 cs) in
      let b : 59 ∷ w ≡ fields_form strip 0 x 0 1 cs (fields w) = sym k.2.is ∙ fields_kept 0 cs (fields w) n e k.2.each in
      rw (k.0, k.1)
      (ap (λ (y : Bytes). bytes "rec" ++ (y ++ line_end ends)) b
      ∙ ap (λ (y : Bytes). y ++ (bytes "rec" ++ (fields_form strip 0 x 0 1 cs (fields w) ++ line_end ends))) a
      ∙ record_is ends strip 0 0 x cs (fields w) n)
