-- A text met in one walk: what has been walked of it, and the field that it makes. Assumes nothing.
use Rattle.std.specs.Prelude.{Some}
use mathlib.Core.Path.{◌≡◌, refl, ap, sym, ◌∙◌}
use mathlib.Core.Bool.{Bool, true, false}
use mathlib.Core.List.{[], ◌∷◌, ◌++◌, append_assoc}
use Prim.Native.Nat.{ℕ, suc, ◌+◌, ◌-◌, ◌<◌, ◌≤◌}
use native.Mathlib.Omega.{arith}
use borrow.Author.Tests.{ne_eqb, eqb-true}
use lib.Dec.{eqb}
use lib.ListN.{length, take, drop, get_or, take-append-drop, length-append}
use lib.Seq.{take-add, drop-cons, drop-drop, take-length}
use Rattle.page.specs.Bytes.{Bytes, pick, all, until, keep, space, part, trim_of, trim}
use Rattle.page.specs.declared.Span.{Span}
use Rattle.page.specs.Lines.{allowed}
use Rattle.page.specs.Fields.{field_size, body_of, text_of}
use Rattle.page.specs.Places.{span_from}
use Rattle.page.specs.Form.{doubled, quoted}
use Rattle.page.specs.Records.{own_bytes}
use Rattle.page.proofs.ScanLaws.{keep_snoc}
use Rattle.page.proofs.TextLaws.{text_quoted}
use Rattle.lines.proofs.RunLaws.{all_append}
use Rattle.digits.specs.Runs.{field_from}
use Rattle.digits.proofs.RunLaws.{space_more}
use Rattle.quoted.specs.Sizes.{size_of}
use Rattle.quoted.proofs.SizeLaws.{counted, counted_all, counted_byte, counted_end, size_some}

-- n bytes of a text stand from one place to another, after its opening quote, whatever follows
pub record Walked (w : Bytes) (wide : Bool) (from i n : ℕ) : Type 0 where
  pub begins : from ≤ i
  pub within : i ≤ length w
  pub few : n ≤ i
  pub body : (r : Bytes) → size_of (body_of false (take (i - from) (drop from w) ++ r)) ≡ counted n (body_of false r)
  pub size : (r : Bytes) → field_size true (take (i - from) (drop from w) ++ r) ≡ i - from + field_size true r
  pub clean : all (allowed wide) (take (i - from) (drop from w)) ≡ true

pub walked_none : (w : Bytes) (wide : Bool) (from : ℕ) → from ≤ length w → Walked w wide from from 0
unfolding all
walked_none w wide from h =
    let z : from - from ≡ 0 = omega arith in
    record {
      begins = omega arith;
      within = h;
      few = omega arith;
      body = λ r. rw z (sym (counted_all (body_of false r)));
      size = λ r. rw z (omega arith);
      clean = rw z;
    }

module _ (w : Bytes) (wide : Bool) (from i n : ℕ) (x : Walked w wide from i n) where
  -- the bytes that follow are there
  more : (k : ℕ) → take (i + k - from) (drop from w) ≡ take (i - from) (drop from w) ++ take k (drop i w)
  more k =
      let b = x.begins in
      let e : i + k - from ≡ i - from + k = omega arith in
      let a : from + (i - from) ≡ i = omega arith in
      rw e (take-add (i - from) k (drop from w)) ∙ ap (λ (l : Bytes). take (i - from) (drop from w) ++ take k l) (drop-drop (i - from) from w ∙ ap (λ (m : ℕ). drop m w) a)

  onward : (k : ℕ) (s : Bytes) → take k (drop i w) ≡ s → i + k ≤ length w → 1 ≤ k → all (allowed wide) s ≡ true
      → ((m : ℕ) (r : Bytes) → counted m (body_of false (s ++ r)) ≡ counted (m + 1) (body_of false r))
      → ((r : Bytes) → field_size true (s ++ r) ≡ k + field_size true r) → Walked w wide from (i + k) (n + 1)
  onward k s e h pos c f g =
      let b = x.begins in
      let t : take (i + k - from) (drop from w) ≡ take (i - from) (drop from w) ++ s = more k ∙ ap (λ (l : Bytes). take (i - from) (drop from w) ++ l) e in
      record {
        begins = omega arith;
        within = h;
        few = omega (arith, x.few);
        body = λ r. rw (t, append_assoc (take (i - from) (drop from w)) s r) (x.body (s ++ r) ∙ f n r);
        size = λ r. rw (t, append_assoc (take (i - from) (drop from w)) s r) (x.size (s ++ r) ∙ (let y = g r in omega arith));
        clean = rw (t, all_append (allowed wide) (take (i - from) (drop from w)) s, x.clean) c;
      }

  module _ (h : i < length w) where
    here : take 1 (drop i w) ≡ get_or w i 0 ∷ []
    here = rw (drop-cons w i 0 h)

    pub walked_byte : (get_or w i 0 ≡ 34 → ⊥) → allowed wide (get_or w i 0) ≡ true → Walked w wide from (i + 1) (n + 1)
    unfolding all body_of field_size
    walked_byte q c =
        let e : eqb (get_or w i 0) 34 ≡ false = ne_eqb (get_or w i 0) 34 q in
        onward 1 (get_or w i 0 ∷ []) here (omega arith) (omega arith) (rw c)
        (λ m r. rw e (counted_byte m (get_or w i 0) (body_of false r))) (λ r. rw e (omega arith))

    pub walked_pair : get_or w i 0 ≡ 34 → i + 1 < length w → get_or w (i + 1) 0 ≡ 34 → Walked w wide from (i + 1 + 1) (n + 1)
    unfolding all allowed body_of field_size
    walked_pair q k p =
        let a : i + 1 ≡ suc i = omega arith in
        let b : i + 1 + 1 ≡ i + 2 = omega arith in
        let s : take 2 (drop i w) ≡ 34 ∷ 34 ∷ [] = rw (drop-cons w i 0 h, drop-cons w (suc i) 0 (omega arith), q, rw a at p) in
        rw b (onward 2 (34 ∷ 34 ∷ []) s (omega arith) (omega arith) refl (λ m r. counted_byte m 34 (body_of false r)) (λ r. omega arith))

    -- the closing quote
    pub walked_closed : get_or w i 0 ≡ 34 → (from < i + 1) × (i + 1 ≤ length w)
        × (size_of (body_of false (take (i + 1 - from) (drop from w))) ≡ Some n)
        × (field_size true (drop from w) ≡ i + 1 - from + field_size false (drop (i + 1) w))
        × (all (allowed wide) (take (i + 1 - from) (drop from w)) ≡ true)
    unfolding all allowed body_of field_size
    walked_closed q =
        let b = x.begins in
        let a : suc i ≡ i + 1 = omega arith in
        let t : take (i + 1 - from) (drop from w) ≡ take (i - from) (drop from w) ++ 34 ∷ [] = more 1 ∙ rw (here, q) in
        let y : from + (i - from) ≡ i = omega arith in
        let d : drop from w ≡ take (i - from) (drop from w) ++ 34 ∷ drop (i + 1) w =
        sym (take-append-drop (i - from) (drop from w)) ∙ ap (λ (l : Bytes). take (i - from) (drop from w) ++ l) (drop-drop (i - from) from w ∙ ap (λ (m : ℕ). drop m w) y ∙ drop-cons w i 0 h ∙ rw (q, a)) in
        let f : field_size true (34 ∷ drop (i + 1) w) ≡ suc (field_size false (drop (i + 1) w)) = refl in
        let g = x.size (34 ∷ drop (i + 1) w) in (
          omega arith,
          omega arith,
          rw t (x.body (34 ∷ []) ∙ counted_end n),
          ap (field_size true) d ∙ g ∙ omega (arith, f),
          rw (t, all_append (allowed wide) (take (i - from) (drop from w)) (34 ∷ []), x.clean),
        )

-- a quoted text is trimmed, and a space before it is taken off

keep_quoted : (t : Bytes) → keep space (quoted t) ≡ length (quoted t)
unfolding quoted keep
keep_quoted t = ap suc (keep_snoc space (doubled t) 34) ∙ (let e = length-append (doubled t) (34 ∷ []) in omega arith)

span_quoted : (t : Bytes) → trim_of (quoted t) ≡ record { from = 0; to = length (quoted t) }
unfolding quoted until
span_quoted t = rw (keep_quoted t)

span_spaced : (t : Bytes) → trim_of (32 ∷ quoted t) ≡ record { from = 1; to = suc (length (quoted t)) }
unfolding quoted until keep
span_spaced t = rw (keep_quoted t)

trim_quoted : (t : Bytes) → trim (quoted t) ≡ quoted t
unfolding trim
trim_quoted t =
    let z : length (quoted t) - 0 ≡ length (quoted t) = omega arith in
    ap (λ (sp : Span). part sp (quoted t)) (span_quoted t) ∙ rw z (take-length (quoted t))

trim_spaced : (t : Bytes) → trim (32 ∷ quoted t) ≡ quoted t
unfolding trim
trim_spaced t =
    let z : suc (length (quoted t)) - 1 ≡ length (quoted t) = omega arith in
    ap (λ (sp : Span). part sp (32 ∷ quoted t)) (span_spaced t) ∙ rw z (take-length (quoted t))

space_clean : (wide : Bool) (s : Bytes) → all (allowed wide) (32 ∷ s) ≡ all (allowed wide) s
unfolding all allowed
space_clean wide s = refl

-- the field at a place where at most one space stands before a text that ends the field
module _ (w : Bytes) (wide : Bool) (at from e n : ℕ) (h : at < length w) (p : from ≡ pick (space (get_or w at 0)) (at + 1) at) (k : from < length w)
    (q : get_or w from 0 ≡ 34) (b : (from + 1 < e) × (e ≤ length w) × (size_of (body_of false (take (e - (from + 1)) (drop (from + 1) w))) ≡ Some n)
    × (field_size true (drop (from + 1) w) ≡ e - (from + 1) + field_size false (drop e w))
    × (all (allowed wide) (take (e - (from + 1)) (drop (from + 1) w)) ≡ true)) (z : field_size false (drop e w) ≡ 0) where
  abbrev f : Bytes
  f = take (e - from) (drop from w)

  opened : drop from w ≡ 34 ∷ drop (from + 1) w
  opened = let a : suc from ≡ from + 1 = omega arith in drop-cons w from 0 k ∙ rw (q, a)

  after : f ≡ 34 ∷ take (e - (from + 1)) (drop (from + 1) w)
  after = let m : e - from ≡ suc (e - (from + 1)) = omega (arith, b.0) in rw (m, opened)

  sized : size_of (text_of f) ≡ Some n
  unfolding text_of
  sized = rw after b.2

  abbrev text : Bytes
  text = own_bytes (text_of f)

  is : f ≡ quoted text
  is = text_quoted f text (size_some (text_of f) n sized)

  long : field_size false (drop from w) ≡ e - from
  unfolding field_size
  long = ap (field_size false) opened ∙ (let x = b.3 in let y = b.0 in omega (arith, z))

  clean : all (allowed wide) f ≡ true
  unfolding all allowed
  clean = rw after b.4

  pub text_met : (e ≡ at + field_size false (drop at w)) × (from ≤ e) × (e ≤ length w) × (from ≡ (span_from w at).from)
      × (field_from w at ≡ f) × (size_of (text_of f) ≡ Some n) × (all (allowed wide) (take (e - at) (drop at w)) ≡ true)
  unfolding span_from
  text_met = by (space (get_or w at 0)) refl
    where
      by : (c : Bool) → space (get_or w at 0) ≡ c → (e ≡ at + field_size false (drop at w)) × (from ≤ e) × (e ≤ length w) × (from ≡ (span_from w at).from)
          × (field_from w at ≡ f) × (size_of (text_of f) ≡ Some n) × (all (allowed wide) (take (e - at) (drop at w)) ≡ true)
      by true c = spaced (eqb-true (get_or w at 0) 32 c) (p ∙ rw c)
        where
          spaced : get_or w at 0 ≡ 32 → from ≡ at + 1 → (e ≡ at + field_size false (drop at w)) × (from ≤ e) × (e ≤ length w) × (from ≡ (span_from w at).from)
              × (field_from w at ≡ f) × (size_of (text_of f) ≡ Some n) × (all (allowed wide) (take (e - at) (drop at w)) ≡ true)
          spaced s m =
              let x = b.0 in
              let a : suc at ≡ from = omega arith in
              let d : drop at w ≡ 32 ∷ drop from w = drop-cons w at 0 h ∙ rw (s, a) in
              let l : field_size false (drop at w) ≡ suc (e - from) = ap (field_size false) d ∙ space_more (drop from w) ∙ ap suc long in
              let g : take (field_size false (drop at w)) (drop at w) ≡ 32 ∷ quoted text = rw (l, d) (ap (λ (y : Bytes). 32 ∷ y) is) in
              let j : e - at ≡ suc (e - from) = omega arith in (
                omega arith,
                omega arith,
                b.1,
                omega (arith, ap (λ (l : Bytes). (trim_of l).from) g ∙ ap (λ (sp : Span). sp.from) (span_spaced text)),
                rw (g, trim_spaced text) (sym is),
                sized,
                rw (j, d) (space_clean wide f ∙ clean),
              )
      by false c =
          let x = b.0 in
          let m : from ≡ at = p ∙ rw c in
          let l : field_size false (drop at w) ≡ e - from = ap (λ (y : ℕ). field_size false (drop y w)) (sym m) ∙ long in
          let g : take (field_size false (drop at w)) (drop at w) ≡ quoted text = rw (l, sym m) is in (
            omega arith,
            omega arith,
            b.1,
            omega (arith, ap (λ (l : Bytes). (trim_of l).from) g ∙ ap (λ (sp : Span). sp.from) (span_quoted text)),
            rw (g, trim_quoted text) (sym is),
            sized,
            rw (sym m) clean,
          )
