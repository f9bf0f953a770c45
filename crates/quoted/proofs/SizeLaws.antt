-- The size of a text that is counted byte by byte, and texts of spaces.
-- Assumes nothing.
use Rattle.std.specs.Prelude.{None, Option, Some}
use mathlib.Core.Path.{◌≡◌, refl, ap}
use mathlib.Core.Bool.{false}
use mathlib.Core.List.{[], ◌∷◌}
use Prim.Native.Nat.{ℕ, suc, ◌+◌, ◌-◌}
use native.Mathlib.Nat.{add-zero, zero-add}
use native.Mathlib.Omega.{arith}
use borrow.Author.Tests.{ne_eqb}
use lib.Dec.{eqb}
use lib.ListN.{length, take}
use Rattle.page.specs.Bytes.{Bytes, keep, space, unpadded}
use Rattle.page.specs.Fields.{with_byte, text_of}
use Rattle.page.specs.Section.{record_text, no_bytes}
use Rattle.page.specs.Records.{own_bytes}
use Rattle.page.specs.Form.{doubled}
use Rattle.page.proofs.TextLaws.{doubled_least, text_kept, record_text_is}
use Rattle.quoted.specs.Sizes.{size_of}

-- n bytes, and those that follow
unfoldable pub counted : ℕ → Option Bytes → Option ℕ
counted n None = None
counted n (Some t) = Some (n + length t)

pub counted_all : (o : Option Bytes) → counted 0 o ≡ size_of o
unfolding counted size_of
counted_all None = refl
counted_all (Some t) = rw zero-add

pub counted_byte : (n b : ℕ) (o : Option Bytes) → counted n (with_byte b o) ≡ counted (n + 1) o
unfolding counted
counted_byte n b None = refl
counted_byte n b (Some t) =
    let e : n + suc (length t) ≡ n + 1 + length t = omega arith in
    ap Some e

pub counted_end : (n : ℕ) → counted n (Some []) ≡ Some n
unfolding counted
counted_end n = rw add-zero

pub counted_none : (n : ℕ) → counted n None ≡ None
unfolding counted
counted_none n = refl

pub size_some : (o : Option Bytes) (n : ℕ) → size_of o ≡ Some n → o ≡ Some (own_bytes o)
unfolding size_of
size_some None n e = absurd (let z : ◌≡◌ {A = ℕ} 0 1 = cc in omega arith)
size_some (Some t) n e = refl

pub size_none : (o : Option Bytes) → size_of o ≡ None → o ≡ None
unfolding size_of
size_none None e = refl
size_none (Some t) e = absurd (let z : ◌≡◌ {A = ℕ} 0 1 = cc in omega arith)

-- "A text of spaces only is empty": nothing but the opening quote is left before the closing one

nothing_left : (t : Bytes) → eqb (suc (length (doubled t))) 1 ≡ no_bytes (Some t)
unfolding doubled
nothing_left [] = refl
nothing_left (b ∷ t) = ne_eqb (suc (length (doubled (b ∷ t)))) 1 (λ (e : suc (length (doubled (b ∷ t))) ≡ 1). omega (arith, doubled_least (b ∷ t)))

pub empty_kept : (f : Bytes) (n : ℕ) → size_of (text_of f) ≡ Some n → eqb (keep space (take (length f - 1) f)) 1 ≡ no_bytes (record_text f)
unfolding size_of
empty_kept f n e = by (text_of f) refl e
  where
    by : (o : Option Bytes) → text_of f ≡ o → size_of o ≡ Some n → eqb (keep space (take (length f - 1) f)) 1 ≡ no_bytes (record_text f)
    by None q z = absurd (let y : ◌≡◌ {A = ℕ} 0 1 = cc in omega arith)
    by (Some t) q z = rw (record_text_is f, q, text_kept f t q) (nothing_left (unpadded t))

pub empty_not : (f : Bytes) → size_of (text_of f) ≡ None → false ≡ no_bytes (record_text f)
empty_not f e = rw (record_text_is f, size_none (text_of f) e)
