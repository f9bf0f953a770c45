-- Texts: a closed text is its quotes and what it stands for with each quote doubled, and nothing else is one.
-- Assumes nothing.
use Rattle.std.specs.Prelude.{None, Option, Some}
use mathlib.Core.Path.{◌≡◌, refl, ap, sym, subst, ◌∙◌}
use mathlib.Core.Bool.{Bool, true, false}
use mathlib.Core.List.{[], ◌∷◌, ◌++◌}
use Prim.Native.Nat.{ℕ, zero, suc, ◌+◌, ◌-◌, ◌<◌, ◌≤◌}
use native.Mathlib.Omega.{arith}
use native.Mathlib.Numerals.{add-one}
use borrow.Author.Tests.{eq-eqb, ne_eqb, eqb-true}
use lib.Dec.{eqb}
use lib.ListN.{length, get_or, take, drop, drop_of_length-le, length-append}
use lib.Seq.{drop-cons, take_at, take-append-le, length-take-le}
use Rattle.page.specs.Bytes.{Bytes, pick, keep, kept_after, part, space, unpadded}
use Rattle.page.specs.Fields.{with_byte, body_of, text_of}
use Rattle.page.specs.Section.{Wording, own_span, own_of, worded, words_of, record_text}
use Rattle.page.specs.Form.{doubled, quoted}
use Rattle.page.proofs.ScanLaws.{keep_le, unpadded_length, unpadded_once}

-- what follows an opening quote, at a place

module _ (s : Bytes) (i : ℕ) (h : i < length s) where
  pub body_quote : get_or s i 0 ≡ 34 → body_of false (drop i s) ≡ body_of true (drop (i + 1) s)
  unfolding body_of
  body_quote e = rw (add-one, drop-cons s i 0 h, eq-eqb (get_or s i 0) 34 e)

  pub body_byte : (get_or s i 0 ≡ 34 → ⊥) → body_of false (drop i s) ≡ with_byte (get_or s i 0) (body_of false (drop (i + 1) s))
  unfolding body_of
  body_byte e = rw (add-one, drop-cons s i 0 h, ne_eqb (get_or s i 0) 34 e)

  pub body_double : get_or s i 0 ≡ 34 → body_of true (drop i s) ≡ with_byte (get_or s i 0) (body_of false (drop (i + 1) s))
  unfolding body_of
  body_double e = rw (add-one, drop-cons s i 0 h, eq-eqb (get_or s i 0) 34 e)

  pub body_broken : (get_or s i 0 ≡ 34 → ⊥) → body_of true (drop i s) ≡ None
  unfolding body_of
  body_broken e = rw (drop-cons s i 0 h, ne_eqb (get_or s i 0) 34 e)

module _ (s : Bytes) (i : ℕ) (h : length s ≤ i) where
  pub body_open : body_of false (drop i s) ≡ None
  unfolding body_of
  body_open = rw (drop_of_length-le s h)

  pub body_closed : body_of true (drop i s) ≡ Some []
  unfolding body_of
  body_closed = rw (drop_of_length-le s h)

-- a field is a text exactly if it is a quoted text

none_some : {A : Type 0} (t : Bytes) → None ≡ Some t → A
none_some t e = absurd (let z : ◌≡◌ {A = ℕ} 0 1 = cc in omega arith)

-- the bytes of a text that begins with b
data Begins (b : ℕ) (o : Option Bytes) (t : Bytes) : Type 0 where
  begins : (u : Bytes) → o ≡ Some u → t ≡ b ∷ u → Begins b o t

begins_of : (b : ℕ) (o : Option Bytes) (t : Bytes) → with_byte b o ≡ Some t → Begins b o t
begins_of b None t e = none_some t e
begins_of b (Some u) t e = begins u refl (let x : t ≡ b ∷ u = cc in x)

doubled_quote : (b : ℕ) (u : Bytes) → b ≡ 34 → doubled (b ∷ u) ≡ b ∷ b ∷ doubled u
unfolding doubled
doubled_quote b u e = rw (eq-eqb b 34 e)

doubled_other : (b : ℕ) (u : Bytes) → eqb b 34 ≡ false → doubled (b ∷ u) ≡ b ∷ doubled u
unfolding doubled
doubled_other b u e = rw e

-- what is read of w, with a quote in front of it if one was just met
front : Bool → Bytes → Bytes
front true w = 34 ∷ w
front false w = w

body_is : (met : Bool) (w t : Bytes) → body_of met w ≡ Some t → front met w ≡ doubled t ++ 34 ∷ []
unfolding body_of doubled front
body_is false [] t e = none_some t e
body_is true [] t e = let x : t ≡ [] = cc in rw x
body_is false (b ∷ w) t e = by (eqb b 34) refl e (body_is true w) (body_is false w)
  where
    by : (q : Bool) → eqb b 34 ≡ q → pick q (body_of true w) (with_byte b (body_of false w)) ≡ Some t
        → ((u : Bytes) → body_of true w ≡ Some u → 34 ∷ w ≡ doubled u ++ 34 ∷ [])
        → ((u : Bytes) → body_of false w ≡ Some u → w ≡ doubled u ++ 34 ∷ [])
        → b ∷ w ≡ doubled t ++ 34 ∷ []
    by true q e f g = rw (eqb-true b 34 q) (f t e)
    by false q e f g = to (begins_of b (body_of false w) t e)
      where
        to : Begins b (body_of false w) t → b ∷ w ≡ doubled t ++ 34 ∷ []
        to (begins u x y) = rw (y, doubled_other b u q) (ap (λ (l : Bytes). b ∷ l) (g u x))
body_is true (b ∷ w) t e = by (eqb b 34) refl e (body_is false w)
  where
    by : (q : Bool) → eqb b 34 ≡ q → pick q (with_byte b (body_of false w)) None ≡ Some t
        → ((u : Bytes) → body_of false w ≡ Some u → w ≡ doubled u ++ 34 ∷ [])
        → 34 ∷ b ∷ w ≡ doubled t ++ 34 ∷ []
    by true q e g = to (begins_of b (body_of false w) t e)
      where
        to : Begins b (body_of false w) t → 34 ∷ b ∷ w ≡ doubled t ++ 34 ∷ []
        to (begins u x y) = rw (y, doubled_quote b u (eqb-true b 34 q), g u x, eqb-true b 34 q)
    by false q e g = none_some t e

doubled_body : (t : Bytes) → body_of false (doubled t ++ 34 ∷ []) ≡ Some t
unfolding body_of doubled
doubled_body [] = refl
doubled_body (b ∷ t) = by (eqb b 34) refl (doubled_body t)
  where
    by : (q : Bool) → eqb b 34 ≡ q → body_of false (doubled t ++ 34 ∷ []) ≡ Some t → body_of false (pick q (b ∷ b ∷ doubled t) (b ∷ doubled t) ++ 34 ∷ []) ≡ Some (b ∷ t)
    by true q ih = simp (q, ih)
    by false q ih = simp (q, ih)

pub text_quoted : (f t : Bytes) → text_of f ≡ Some t → f ≡ quoted t
unfolding text_of quoted front
text_quoted [] t e = none_some t e
text_quoted (b ∷ w) t e = by (eqb b 34) refl e
  where
    by : (q : Bool) → eqb b 34 ≡ q → pick q (body_of false w) None ≡ Some t → b ∷ w ≡ 34 ∷ (doubled t ++ 34 ∷ [])
    by true q e = rw (eqb-true b 34 q) (ap (λ (l : Bytes). 34 ∷ l) (body_is false w t e))
    by false q e = none_some t e

pub quoted_text : (t : Bytes) → text_of (quoted t) ≡ Some t
unfolding text_of quoted
quoted_text t = doubled_body t

-- the bytes between the quotes of a closed text

pub quoted_length : (t : Bytes) → length (quoted t) ≡ length (doubled t) + 2
unfolding quoted
quoted_length t =
    let e : length (doubled t ++ 34 ∷ []) ≡ length (doubled t) + 1 = length-append (doubled t) (34 ∷ []) in
    omega arith

quoted_between : (t : Bytes) → take (length (quoted t) - 2) (drop 1 (quoted t)) ≡ doubled t
unfolding quoted
quoted_between t =
    let e : length (34 ∷ (doubled t ++ 34 ∷ [])) - 2 ≡ length (doubled t) = omega (arith, length-append (doubled t) (34 ∷ [])) in
    rw e (take_at (doubled t) (34 ∷ []) (length (doubled t)) refl)

module _ (f t : Bytes) (e : text_of f ≡ Some t) where
  pub text_long : 2 ≤ length f
  text_long = rw (text_quoted f t e) (omega (arith, quoted_length t))

  pub text_between : take (length f - 2) (drop 1 f) ≡ doubled t
  text_between = rw (text_quoted f t e) (quoted_between t)

-- the text of a record's field, without the spaces at its end

pub doubled_least : (t : Bytes) → length t ≤ length (doubled t)
unfolding doubled
doubled_least [] = omega arith
doubled_least (b ∷ t) = by (eqb b 34) (doubled_least t)
  where
    by : (q : Bool) → length t ≤ length (doubled t) → suc (length t) ≤ length (pick q (b ∷ b ∷ doubled t) (b ∷ doubled t))
    by true h = omega arith
    by false h = omega arith

-- a quote is no space: what is doubled ends in the same spaces
pub doubled_keeps : (t : Bytes) → keep space (doubled t) ≡ length (doubled (unpadded t))
unfolding doubled unpadded keep
doubled_keeps [] = refl
doubled_keeps (b ∷ t) = by (eqb b 34) refl (eqb b 32) refl (keep space t) (keep_le space t) (doubled_keeps t)
  where
    one : (k n : ℕ) → k ≡ n → 1 ≤ n → kept_after true k ≡ suc n
    one zero n e h = absurd (omega arith)
    one (suc k) n e h = ap suc e

    by : (q : Bool) → eqb b 34 ≡ q → (d : Bool) → eqb b 32 ≡ d → (n : ℕ) → n ≤ length t → keep space (doubled t) ≡ length (doubled (take n t))
        → keep space (pick q (b ∷ b ∷ doubled t) (b ∷ doubled t)) ≡ length (doubled (take (kept_after d n) (b ∷ t)))
    by true e d g n h ih =
        let x : b ≡ 34 = eqb-true b 34 e in
        let y : eqb b 32 ≡ false = ne_eqb b 32 (λ (z : b ≡ 32). omega arith) in
        let w : d ≡ false = sym g ∙ y in
        rw (w, y, e, ih)
    by false e false g n h ih = rw (e, g, ih)
    by false e true g zero h ih = rw (g, ih)
    by false e true g (suc n) h ih =
        let l : 1 ≤ length (doubled (take (suc n) t)) = omega (arith, doubled_least (take (suc n) t), length-take-le (suc n) t h) in
        rw (e, g) (one (keep space (doubled t)) (length (doubled (take (suc n) t))) ih l)

-- as many spaces are taken off as of the text itself
doubled_padding : (t : Bytes) → length (doubled t) + keep space t ≡ length (doubled (unpadded t)) + length t
unfolding doubled unpadded keep
doubled_padding [] = refl
doubled_padding (b ∷ t) = by (eqb b 34) refl (eqb b 32) refl (keep space t) (doubled_padding t)
  where
    by : (q : Bool) → eqb b 34 ≡ q → (d : Bool) → eqb b 32 ≡ d → (n : ℕ) → length (doubled t) + n ≡ length (doubled (take n t)) + length t
        → length (pick q (b ∷ b ∷ doubled t) (b ∷ doubled t)) + kept_after d n ≡ length (doubled (take (kept_after d n) (b ∷ t))) + suc (length t)
    by true e d g n ih =
        let x : b ≡ 34 = eqb-true b 34 e in
        let w : d ≡ false = sym g ∙ ne_eqb b 32 (λ (z : b ≡ 32). omega arith) in
        rw (w, e) (omega arith)
    by false e false g n ih = rw e (omega arith)
    by false e true g zero ih = omega arith
    by false e true g (suc n) ih = rw e (omega arith)

-- the front of what is doubled
doubled_take : (n : ℕ) (t : Bytes) → take (length (doubled (take n t))) (doubled t) ≡ doubled (take n t)
unfolding doubled
doubled_take zero t = refl
doubled_take (suc n) [] = refl
doubled_take (suc n) (b ∷ t) = by (eqb b 34) (doubled_take n t)
  where
    by : (q : Bool) → take (length (doubled (take n t))) (doubled t) ≡ doubled (take n t)
        → take (length (pick q (b ∷ b ∷ doubled (take n t)) (b ∷ doubled (take n t)))) (pick q (b ∷ b ∷ doubled t) (b ∷ doubled t))
        ≡ pick q (b ∷ b ∷ doubled (take n t)) (b ∷ doubled (take n t))
    by true ih = ap (λ (l : Bytes). b ∷ b ∷ l) ih
    by false ih = ap (λ (l : Bytes). b ∷ l) ih

module _ (f t : Bytes) (e : text_of f ≡ Some t) where
  before_quote : take (length f - 1) f ≡ 34 ∷ doubled t
  unfolding quoted
  before_quote =
      let n : length f - 1 ≡ suc (length (doubled t)) = omega (arith, ap length (text_quoted f t e), quoted_length t) in
      rw (n, text_quoted f t e) (ap (λ (l : Bytes). 34 ∷ l) (take_at (doubled t) (34 ∷ []) (length (doubled t)) refl))

  pub text_kept : keep space (take (length f - 1) f) ≡ suc (length (doubled (unpadded t)))
  unfolding keep
  text_kept = rw before_quote (ap suc (doubled_keeps t))

  -- how many bytes are left of it
  pub text_padding : length (unpadded t) + (length f - 1) ≡ length t + keep space (take (length f - 1) f)
  text_padding = omega (arith, unpadded_length t, ap length (text_quoted f t e), quoted_length t, text_kept, doubled_padding t)

  unpadded_within : length (doubled (unpadded t)) + 2 ≤ length f
  unpadded_within = omega (arith, ap length (text_quoted f t e), quoted_length t, sym (doubled_keeps t), keep_le space (doubled t))

  pub unpadded_there : take (length (doubled (unpadded t))) (drop 1 f) ≡ doubled (unpadded t)
  unfolding quoted unpadded
  unpadded_there =
      let h : length (doubled (unpadded t)) ≤ length (doubled t) = omega (arith, sym (doubled_keeps t), keep_le space (doubled t)) in
      rw (text_quoted f t e) (take-append-le (length (doubled (unpadded t))) (doubled t) (34 ∷ []) h ∙ doubled_take (keep space t) t)

-- where the text stands in the field: its own bytes, each quote doubled
pub record Worded (f : Bytes) (x : Wording) : Type 0 where
  pub begins : x.span.from ≡ 1
  pub ends : x.span.to ≡ suc (length (doubled x.own))
  pub within : x.span.to < length f
  pub stands : part x.span f ≡ doubled x.own
  pub trimmed : unpadded x.own ≡ x.own

pub words_there : (f : Bytes) (x : Wording) → words_of f ≡ Some x → Worded f x
unfolding words_of
words_there f x e = by (text_of f) refl e
  where
    by : (o : Option Bytes) → text_of f ≡ o → worded f o ≡ Some x → Worded f x
    by None q z = absurd (let y : ◌≡◌ {A = ℕ} 0 1 = cc in omega arith)
    by (Some t) q z =
        let k = text_kept f t q in
        let n : keep space (take (length f - 1) f) - 1 ≡ length (doubled (unpadded t)) = omega arith in
        let y : record { own = unpadded t; span = own_span f } ≡ x = cc in
        subst (Worded f) y
        (record {
          begins = refl;
          ends = k;
          within = omega (arith, unpadded_within f t q);
          stands = rw n (unpadded_there f t q);
          trimmed = unpadded_once t;
        })

abbrev pub unpadded_in : Option Bytes → Option Bytes
unpadded_in None = None
unpadded_in (Some t) = Some (unpadded t)

own_worded : (f : Bytes) (x : Option Bytes) → own_of (worded f x) ≡ unpadded_in x
own_worded f None = refl
own_worded f (Some t) = refl

pub record_text_is : (f : Bytes) → record_text f ≡ unpadded_in (text_of f)
unfolding record_text words_of
record_text_is f = own_worded f (text_of f)

pub worded_none : (f : Bytes) → record_text f ≡ None → words_of f ≡ None
unfolding record_text words_of
worded_none f e = by (text_of f) e
  where
    by : (o : Option Bytes) → own_of (worded f o) ≡ None → worded f o ≡ None
    by None h = refl
    by (Some t) h = none_some (unpadded t) (sym h)

pub worded_some : (f t : Bytes) → record_text f ≡ Some t → words_of f ≡ Some (record { own = t; span = own_span f })
unfolding record_text words_of
worded_some f t e = by (text_of f) e
  where
    by : (o : Option Bytes) → own_of (worded f o) ≡ Some t → worded f o ≡ Some (record { own = t; span = own_span f })
    by None h = none_some t h
    by (Some u) h = let x : unpadded u ≡ t = cc in rw x

-- a record's text is a text without its padding
pub record Padded (f t : Bytes) : Type 0 where
  pub whole : Bytes
  pub is : text_of f ≡ Some whole
  pub own : t ≡ unpadded whole

pub padded_of : (f t : Bytes) → record_text f ≡ Some t → Padded f t
padded_of f t e = by (text_of f) refl (sym (record_text_is f) ∙ e)
  where
    by : (o : Option Bytes) → text_of f ≡ o → unpadded_in o ≡ Some t → Padded f t
    by None q h = none_some t h
    by (Some u) q h = record { whole = u; is = q; own = (let x : t ≡ unpadded u = cc in x) }

-- and has no space at its end
pub record_trimmed : (f t : Bytes) → record_text f ≡ Some t → unpadded t ≡ t
record_trimmed f t e = let p = padded_of f t e in rw p.own (unpadded_once p.whole)

-- a quoted text is read as it is, if no space stands at its end
pub quoted_own : (t : Bytes) → unpadded t ≡ t → record_text (quoted t) ≡ Some t
quoted_own t e = record_text_is (quoted t) ∙ rw (quoted_text t, e)
