-- Texts come back as they were written, and a text field is exactly a quoted text. Assumes nothing.
use Rattle.std.specs.Prelude.{Some}
use mathlib.Core.Path.{◌≡◌, refl}
use mathlib.Core.Bool.{Bool, true, false, ◌&&◌}
use mathlib.Core.List.{List, [], ◌∷◌, ◌++◌}
use mathlib.Core.Logic.{◌↔◌}
use Prim.Native.Nat.{ℕ}
use lib.Dec.{eqb}
use borrow.Author.Tests.{eqb-true}
use Rattle.page.specs.Bytes.{Bytes, pick, all}
use Rattle.page.specs.Fields.{into, split, text_of}
use Rattle.page.specs.Form.{doubled, quoted}
use Rattle.laws.proofs.WrittenScans.{all_append, all_left}
use Rattle.page.proofs.TestLaws.{and_left, and_right}
use Rattle.page.proofs.TextLaws.{text_quoted, quoted_text}

-- "A text field is one closed quoted string with nothing beside it"
pub text_exactly : (f t : Bytes) → text_of f ≡ Some t ↔ f ≡ quoted t
text_exactly f t = (text_quoted f t, λ e. rw e (quoted_text t))

-- a test that each byte of a text passes, and back
pub doubled_all : (f : ℕ → Bool) (t : Bytes) → all f t ≡ true → all f (doubled t) ≡ true
unfolding all doubled
doubled_all f [] h = refl
doubled_all f (b ∷ t) h = by (eqb b 34) (and_left (f b) (all f t) h) (doubled_all f t (and_right (f b) (all f t) h))
  where
    by : (q : Bool) → f b ≡ true → all f (doubled t) ≡ true → all f (pick q (b ∷ b ∷ doubled t) (b ∷ doubled t)) ≡ true
    by true p r = simp (p, r)
    by false p r = simp (p, r)

all_doubled : (f : ℕ → Bool) (t : Bytes) → all f (doubled t) ≡ true → all f t ≡ true
unfolding all doubled
all_doubled f [] h = refl
all_doubled f (b ∷ t) h = by (eqb b 34) (all_doubled f t) h
  where
    by : (q : Bool) → (all f (doubled t) ≡ true → all f t ≡ true) → all f (pick q (b ∷ b ∷ doubled t) (b ∷ doubled t)) ≡ true → (f b && all f t) ≡ true
    by true ih h = let r : (f b && all f (doubled t)) ≡ true = and_right (f b) (f b && all f (doubled t)) h in rw (and_left (f b) (all f (doubled t)) r) (ih (and_right (f b) (all f (doubled t)) r))
    by false ih h = rw (and_left (f b) (all f (doubled t)) h) (ih (and_right (f b) (all f (doubled t)) h))

pub quoted_all : (f : ℕ → Bool) (t : Bytes) → f 34 ≡ true → all f t ≡ true → all f (quoted t) ≡ true
unfolding all quoted
quoted_all f t q h = rw q (all_append f (doubled t) (34 ∷ []) (doubled_all f t h) (rw q))

pub all_quoted : (f : ℕ → Bool) (t : Bytes) → all f (quoted t) ≡ true → all f t ≡ true
unfolding all quoted
all_quoted f t h = all_doubled f t (all_left f (doubled t) (34 ∷ []) (and_right (f 34) (all f (doubled t ++ 34 ∷ [])) h))

-- A field is closed: behind it the reading stands outside again, and no semicolon of it separates.
unfoldable pub graft : Bytes → List Bytes → List Bytes
graft f [] = f ∷ []
graft f (g ∷ gs) = (f ++ g) ∷ gs

abbrev pub Closed : Bool → Bytes → Type 0
Closed q f = (r : Bytes) → split q (f ++ r) ≡ graft f (split false r)

pub into_graft : (b : ℕ) (f : Bytes) (gs : List Bytes) → into false b (graft f gs) ≡ graft (b ∷ f) gs
unfolding graft
into_graft b f [] = refl
into_graft b f (g ∷ gs) = refl

pub into_one : (b : ℕ) (gs : List Bytes) → into false b gs ≡ graft (b ∷ []) gs
unfolding graft
into_one b [] = refl
into_one b (g ∷ gs) = refl

closed_doubled : (t : Bytes) → Closed true (doubled t ++ 34 ∷ [])
unfolding split doubled
closed_doubled [] r = into_one 34 (split false r)
closed_doubled (b ∷ t) r = go (closed_doubled t r) (eqb b 34) refl
  where
    go : split true ((doubled t ++ 34 ∷ []) ++ r) ≡ graft (doubled t ++ 34 ∷ []) (split false r) → (e : Bool) → eqb b 34 ≡ e →
        split true ((doubled (b ∷ t) ++ 34 ∷ []) ++ r) ≡ graft (doubled (b ∷ t) ++ 34 ∷ []) (split false r)
    go ih true e = let f : eqb b 59 ≡ false = rw (eqb-true b 34 e) in simp (e, ih, f, into_graft)
    go ih false e = simp (e, ih, into_graft)

pub closed_quoted : (t : Bytes) → Closed false (quoted t)
unfolding quoted split
closed_quoted t r = rw (closed_doubled t r) (into_graft 34 (doubled t ++ 34 ∷ []) (split false r))
