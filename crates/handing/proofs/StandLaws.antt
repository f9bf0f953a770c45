-- Where a record's fields stand in the file. Assumes nothing.
use mathlib.Core.Path.{◌≡◌, refl, sym}
use mathlib.Core.Bool.{Bool, true, false}
use mathlib.Core.List.{List, [], ◌∷◌, ◌++◌}
use Prim.Native.Nat.{ℕ, zero, suc, ◌+◌, ◌-◌, ◌<◌, ◌≤◌}
use native.Mathlib.Nat.{add-zero, sub-zero, le_of_eq}
use native.Mathlib.Omega.{arith}
use borrow.Author.Tests.{eqb-true}
use lib.Dec.{eqb}
use lib.ListN.{length, take, drop, length-append, length-drop}
use lib.Seq.{drop-append_seam, take-append_seam, take_all}
use Rattle.page.specs.Bytes.{Bytes, pick, until}
use Rattle.page.specs.Lines.{joined, content_size, content, command, rest, semicolon, Rec}
use Rattle.page.specs.Records.{waits}
use Rattle.page.specs.Places.{Standing, nowhere, stands, this_or, record_at}
use Rattle.page.proofs.ScanLaws.{part_length, part_moved}
use Rattle.page.proofs.ContentLaws.{content_le}
use Rattle.headers.proofs.FoundLaws.{command_in}

-- what follows a line's first `;` lies in the file
pub record Lain (s : Bytes) (x : Standing) : Type 0 where
  pub within : x.at + length x.rest ≤ length s
  pub is : take (length x.rest) (drop x.at s) ≡ x.rest

-- bytes that lie in the file at a place
abbrev pub Here : Bytes → ℕ → Bytes → Type 0
Here s at w = (at + length w ≤ length s) × (take (length w) (drop at s) ≡ w)

none_lain : (s : Bytes) → Lain s nowhere
none_lain s = record { within = omega arith; is = refl }

-- a part of bytes that lie there
part_here : (s : Bytes) (at : ℕ) (w : Bytes) (a e : ℕ) → Here s at w → a ≤ e → e ≤ length w → Here s (at + a) (take (e - a) (drop a w))
part_here s at w a e h i j =
    let n : length (take (e - a) (drop a w)) ≡ e - a = part_length a e w j in
    let m : at + e - (at + a) ≡ e - a = omega arith in
    let p : take (e - a) (drop a (take (length w) (drop at s))) ≡ take (at + e - (at + a)) (drop (at + a) s) =
    part_moved (record { from = a; to = e }) at (length w) s i j in
    (rw n (omega (arith, h.0)), rw n (sym (rw (h.1, m) at p)))

-- the front of bytes, and what follows it
front_here : (s : Bytes) (at : ℕ) (w : Bytes) (e : ℕ) → Here s at w → e ≤ length w → Here s at (take e w)
front_here s at w e h i = rw (sub-zero, add-zero) at (part_here s at w 0 e h (omega arith) i)

back_here : (s : Bytes) (at : ℕ) (w : Bytes) (a : ℕ) → Here s at w → a ≤ length w → Here s (at + a) (drop a w)
back_here s at w a h i =
    let t : take (length w - a) (drop a w) ≡ drop a w = take_all _ _ (le_of_eq (length-drop a w)) in
    rw t at (part_here s at w a (length w) h i (omega arith))

stands_lain : (s : Bytes) (at : ℕ) (l : Bytes) (m : ℕ) → Here s at l → command (content l) ≡ Rec → Lain s (stands at l m)
unfolding stands rest content
stands_lain s at l m h c =
    let i = until semicolon (content l) in
    let k : i < length (content l) = command_in (content l) i Rec refl c (omega arith) in
    let z : Here s at (content l) = front_here s at l (content_size l) h (content_le l) in
    let n : at + (i + 1) ≡ at + i + 1 = omega arith in
    let y : Here s (at + i + 1) (drop (i + 1) (content l)) = rw n at (back_here s at (content l) (i + 1) z (omega arith)) in
    record { within = y.0; is = y.1 }

line_here : (s : Bytes) (at : ℕ) (l w : Bytes) → Here s at (l ++ w) → Here s at l × Here s (at + length l) w
line_here s at l w h =
    let n = length-append l w in (
      rw (take-append_seam l w) at (front_here s at (l ++ w) (length l) h (omega arith)),
      rw (drop-append_seam l w) at (back_here s at (l ++ w) (length l) h (omega arith)),
    )

pub record_lain : (s : Bytes) (ls : List Bytes) (r m at : ℕ) → Here s at (joined ls) → Lain s (record_at r m at ls)
unfolding record_at joined
record_lain s [] r m at h = none_lain s
record_lain s (l ∷ ls) r m at h =
    let i = line_here s at l (joined ls) h in
    by (eqb (command (content l)) Rec) refl r i.0 (λ q n. record_lain s ls q n (at + length l) i.1)
  where
    by : (b : Bool) → eqb (command (content l)) Rec ≡ b → (r : ℕ) → Here s at l → ((q n : ℕ) → Lain s (record_at q n (at + length l) ls))
        → Lain s (pick b (this_or r (stands at l m) (λ q. record_at q 0 (at + length l) ls)) (record_at r (waits m (content l)) (at + length l) ls))
    by true q zero h f = stands_lain s at l m h (eqb-true (command (content l)) Rec q)
    by true q (suc r) h f = f r 0
    by false q r h f = f r (waits m (content l))
