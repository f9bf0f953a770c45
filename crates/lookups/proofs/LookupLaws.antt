-- One value of a section at a place, and what a call answers for it. Assumes nothing.
use Rattle.std.specs.Prelude.{Err, Ok}
use mathlib.Core.Path.{◌≡◌, refl, ap, sym, ◌∙◌}
use mathlib.Core.Bool.{Bool, true, false, ◌||◌, false≢true}
use mathlib.Core.List.{List, [], ◌∷◌}
use Prim.Native.Nat.{ℕ, zero, suc, ◌+◌, ◌-◌, ◌<◌, ◌≤◌}
use native.Mathlib.Nat.{sub-zero}
use native.Mathlib.Omega.{arith}
use lib.Dec.{eqb, ltb}
use lib.ListN.{length, take, drop, length-drop}
use lib.Seq.{length-take-le, take-nil}
use borrow.Author.Tests.{ne_eqb, eqb-false, ltb-false}
use Rattle.page.specs.Bytes.{Bytes}
use Rattle.page.specs.Lines.{lines}
use Rattle.page.specs.Fields.{fields}
use Rattle.page.specs.Tables.{WIDEST, width}
use Rattle.page.specs.Section.{outcome}
use Rattle.page.specs.Records.{table_index, atr_in, order_in}
use Rattle.page.specs.Places.{record_at}
use Rattle.page.specs.Answers.{earlier, refuse_if, answered, refusal}
use Rattle.page.specs.File.{row_given, row_of}
use Rattle.page.specs.Head.{latin_of}
use Rattle.page.specs.Reading.{outside, row_at, find_refusal, verdict_of, value_refusal, value_at, record_of, value_in, value_of}
use Rattle.page.specs.declared.Row.{Row}
use Rattle.page.specs.declared.Refusal.{Refusal}
use Rattle.page.specs.declared.Value.{Value}
use Rattle.page.proofs.LineLaws.{line_size, joined_lines}
use Rattle.page.proofs.TableLaws.{width_le}
use Rattle.arrangement.specs.Orders.{held}
use Rattle.laws.specs.Begins.{begins}
use Rattle.grammar.proofs.Readings.{sound_arranged}
use Rattle.names.specs.Told.{Told}
use Rattle.names.proofs.TitleLaws.{from_lines}
use Rattle.names.proofs.ToldLaws.{told_order}
use Rattle.cut.specs.Walk.{section_size, section_from, Settled}
use Rattle.lookups.specs.Lookups.{row_from, refusal_from, value_from}
use Rattle.cut.proofs.WalkLaws.{section_within, settled_begins}
use Rattle.sections.specs.Located.{Begins}

-- the value's answer, where its section stands at a place
module _ (s : Bytes) (i : ℕ) where
  pub value_here : (at : ℕ) → Begins s i at → (r f : ℕ) → value_from s i at r f ≡ value_of s i r f
  unfolding value_of value_refusal value_from refusal_from row_from row_at earlier
  value_here at b r f = rw (b.found, b.is)

  pub value_refused : (x : Refusal) → (x.number ≡ 0 → ⊥) → x ≡ find_refusal s i → (r f : ℕ) → Err x ≡ value_of s i r f
  unfolding value_of value_refusal answered earlier
  value_refused x n e r f = rw (sym e, ne_eqb x.number 0 n, ne_eqb x.number 0 n)

drop_take : (a n : ℕ) (s : Bytes) → drop a (take n s) ≡ take (n - a) (drop a s)
drop_take zero n s = rw sub-zero
drop_take (suc a) zero s = let m : 0 - suc a ≡ 0 = omega arith in rw m
drop_take (suc a) (suc n) [] = rw take-nil
drop_take (suc a) (suc n) (b ∷ s) = let m : suc n - suc a ≡ n - a = omega arith in rw m (drop_take a n s)

-- the section at a place
module _ (s : Bytes) (at : ℕ) (h : at < length s) where
  pub row_length : (row_from s at).length ≡ section_size (drop at s)
  unfolding row_from row_of row_given section_from
  row_length =
      let w = section_within s at h in
      let n : section_size (drop at s) ≤ length (drop at s) = omega (arith, length-drop at s) in
      rw (joined_lines (take (section_size (drop at s)) (drop at s))) (length-take-le (section_size (drop at s)) (drop at s) n)

  -- the lines of the section are those from its place on, where the bytes end with it
  pub prefix_lines : (n : ℕ) → n ≡ at + (row_from s at).length → (n ≤ length s) × (at ≤ n) × (lines (drop at (take n s)) ≡ (section_from s at).lines)
  unfolding section_from
  prefix_lines n q =
      let w = section_within s at h in
      let m : n - at ≡ section_size (drop at s) = omega (arith, row_length) in
      (omega (arith, row_length), omega arith, rw (drop_take at n s, m))

-- which column stands where in a sound section, by the order that its `atr` line states
module _ (s : Bytes) (at : ℕ) (h : at < length s) (z : Settled s at) (x : Row) (q : x ≡ row_from s at) (v : x.verdict ≡ 0) where
  begun : begins (section_from s at).lines ≡ true
  unfolding begins
  begun = rw (from_lines s at h) (settled_begins s at (at + line_size (drop at s)) h refl z)

  verdict_here : (outcome (latin_of s) (section_from s at).lines).verdict ≡ 0
  unfolding row_from row_of row_given
  verdict_here = rw q at v

  pub order_from : (t e : ℕ) → t ≡ table_index (section_from s at).lines → e ≡ at + x.length → (a : List ℕ)
      → Told t (fields (atr_in (lines (take (e - at) (drop at s))))) a → held t a ≡ order_in (section_from s at).lines
  order_from t e g n a k =
      let p = prefix_lines s at h e (n ∙ ap (λ (y : Row). at + y.length) q) in
      let l : lines (take (e - at) (drop at s)) ≡ (section_from s at).lines = ap lines (sym (drop_take at e s)) ∙ p.2 in
      told_order (section_from s at).lines t a g (rw l at k) (sound_arranged (latin_of s) (section_from s at).lines begun verdict_here)

-- the answer for one value, by the section's row
module _ (s : Bytes) (i at r f : ℕ) (x : Row) (q : x ≡ row_from s at) where
  pub value_unsound : (x.verdict ≡ 0 → ⊥) → Err (refusal x.verdict i x.line) ≡ value_from s i at r f
  unfolding value_from refusal_from verdict_of answered earlier
  value_unsound n = simp (sym q, ne_eqb x.verdict 0 n)

  module _ (z : x.verdict ≡ 0) where
    value_sound : refusal_from s i at r f ≡ refuse_if (outside r x.records || outside f (width (table_index (section_from s at).lines))) 24
    unfolding refusal_from verdict_of earlier
    value_sound = rw (sym q, z)

    pub value_outside : (y : Refusal) → y ≡ refusal 24 0 0 → (outside r x.records || outside f (width (table_index (section_from s at).lines))) ≡ true
        → Err y ≡ value_from s i at r f
    unfolding value_from refuse_if answered
    value_outside y e b = rw (e, value_sound, b)

    pub value_inside : (v : Value) → outside r x.records ≡ false → outside f (width (table_index (section_from s at).lines)) ≡ false
        → v ≡ value_in (table_index (section_from s at).lines) (order_in (section_from s at).lines) (record_at (r - 1) 0 at (section_from s at).lines) f
        → Ok v ≡ value_from s i at r f
    unfolding value_from refuse_if answered value_at record_of section_from
    value_inside v a b e = rw (e, value_sound, a, b)

-- a number that stands among n
pub inside : (i n : ℕ) → outside i n ≡ false → (i ≡ 0 → ⊥) × (i ≤ n)
unfolding outside
inside i n e = go (eqb i 0) (ltb n i) refl refl
  where
    go : (a b : Bool) → eqb i 0 ≡ a → ltb n i ≡ b → (i ≡ 0 → ⊥) × (i ≤ n)
    go true b x y = absurd (false≢true (sym (rw x at e)))
    go false true x y = absurd (false≢true (sym (rw (x, y) at e)))
    go false false x y = (eqb-false i 0 x, ltb-false n i y)

pub outside_left : (a b : Bool) → a ≡ true → (a || b) ≡ true
outside_left a b e = rw e

pub outside_right : (a b : Bool) → b ≡ true → (a || b) ≡ true
outside_right true b e = refl
outside_right false b e = e

pub row_is : (s : Bytes) (at : ℕ) (latin : Bool) (x : Row) → latin ≡ latin_of s → x ≡ row_of latin (section_from s at) → x ≡ row_from s at
unfolding row_from
row_is s at latin x e q = q ∙ ap (λ (b : Bool). row_of b (section_from s at)) e

-- what a record and a field that are there give to the call that reads them; e is the section's end
pub record Ready (s : Bytes) (at r f e : ℕ) : Type 0 where
  pub record_some : 0 < r
  pub column_in : f ≤ WIDEST
  pub start : at ≤ e
  pub within : e ≤ length s
  pub same_lines : lines (drop at (take e s)) ≡ (section_from s at).lines

pub ready : (s : Bytes) (at r f e : ℕ) (x : Row) → at < length s → x ≡ row_from s at → outside r x.records ≡ false
    → outside f (width (table_index (section_from s at).lines)) ≡ false → e ≡ at + x.length → Ready s at r f e
ready s at r f e x h q a b n =
    let i = inside r x.records a in
    let j = inside f (width (table_index (section_from s at).lines)) b in
    let p = prefix_lines s at h e (n ∙ ap (λ (y : Row). at + y.length) q) in
    record {
      record_some = omega arith;
      column_in = omega (arith, width_le (table_index (section_from s at).lines));
      start = p.1;
      within = p.0;
      same_lines = p.2;
    }
