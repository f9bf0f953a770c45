-- "the first of 1, 2, 24 for the section". Assumes nothing.
use Rattle.std.specs.Prelude.{Err, Ok}
use mathlib.Core.Path.{◌≡◌, ap, sym, ◌∙◌}
use mathlib.Core.Bool.{true, false}
use Prim.Native.Nat.{ℕ, ◌-◌, ◌<◌}
use native.Mathlib.Omega.{arith}
use lib.Dec.{eqb, ltb}
use lib.ListN.{length}
use borrow.Author.Tests.{lt-ltb, le-ltb, eq-eqb, ne_eqb}
use Rattle.page.specs.Bytes.{Bytes}
use Rattle.page.specs.Cut.{sections}
use Rattle.page.specs.Answers.{refusal, earlier, refuse_if}
use Rattle.page.specs.File.{header_refusal}
use Rattle.page.specs.Reading.{outside, section_at, find_refusal}
use Rattle.page.specs.declared.Refusal.{Refusal}
use Rattle.page.proofs.LimitLaws.{header_short}
use Rattle.cut.specs.Walk.{section_from, Reached}
use Rattle.cut.proofs.ReachLaws.{reach_here}
use Rattle.sections.specs.Located.{located, Locates}

module _ (s : Bytes) (i : ℕ) where
  pub refused_header : (x : Refusal) → x ≡ header_refusal s → (x.number ≡ 0 → ⊥) → (Err x ≡ located s i) × Locates s i (Err x)
  unfolding located find_refusal earlier
  refused_header x e n =
      let b : eqb (header_refusal s).number 0 ≡ false = rw e at (ne_eqb x.number 0 n) in
      (rw (b, b, e), (n, rw (b, e)))

  module _ (x : Refusal) (e : x ≡ header_refusal s) (z : x.number ≡ 0) where
    pub refused_none : outside i (length (sections s)) ≡ true → (y : Refusal) → y ≡ refusal 24 0 0 → (Err y ≡ located s i) × Locates s i (Err y)
    unfolding located find_refusal earlier refuse_if
    refused_none o y q =
        let b : eqb (header_refusal s).number 0 ≡ true = rw e at (eq-eqb x.number 0 z) in
        (rw (b, o, q), (rw q (λ (w : ◌≡◌ {A = ℕ} 24 0). omega arith), rw (b, o, q)))

    pub located_at : (at : ℕ) → (i ≡ 0 → ⊥) → at < length s → Reached s (i - 1) at → (Ok at ≡ located s i) × Locates s i (Ok at)
    unfolding located find_refusal earlier refuse_if outside section_at section_from
    located_at at n h r =
        let b : eqb (header_refusal s).number 0 ≡ true = rw e at (eq-eqb x.number 0 z) in
        let y = reach_here s (i - 1) at r.within r.settled r.left h in
        let o : ltb (length (sections s)) i ≡ false = le-ltb (length (sections s)) i (omega arith) in
        (rw (b, ne_eqb i 0 n, o, y.1), record { found = rw (b, ne_eqb i 0 n, o); short = header_short s (sym (ap (λ (r : Refusal). r.number) e) ∙ z); inside = h; settled = r.settled; is = y.1 })

pub outside_zero : (i n : ℕ) → i ≡ 0 → outside i n ≡ true
unfolding outside
outside_zero i n e = rw (eq-eqb i 0 e)

pub outside_past : (i n : ℕ) → n < i → outside i n ≡ true
unfolding outside
outside_past i n h = rw (ne_eqb i 0 (λ (e : i ≡ 0). omega arith), lt-ltb n i h)
