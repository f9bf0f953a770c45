-- Bytes fall into fields exactly as the page says. Assumes nothing.
use mathlib.Core.Path.{◌≡◌, refl, ap, sym, ◌∙◌, subst}
use mathlib.Core.Bool.{Bool, true, false}
use mathlib.Core.List.Memᴰ
use mathlib.Core.List.{List, [], ◌∷◌, ◌++◌, append_assoc, append-nil, map, Memᴰ}
use mathlib.Core.Logic.{◌↔◌}
use Prim.Native.Nat.{ℕ}
use borrow.Author.Tests.{eqb-true, eqb-false, ne_eqb}
use lib.Dec.{eqb}
use Rattle.page.specs.Bytes.{Bytes, trim}
use Rattle.page.specs.Fields.{into, split, fields}
use Rattle.page.specs.Lexical.{Piece, no_byte, plain_byte, quoted_run, LastPiece, outside, inside, Separated, the_last, one_before}
use Rattle.page.specs.Lexical.{Trimmed, Pairs, no_pair, a_pair, FieldsOf}
use Rattle.lexical.proofs.Lines.{absent}
use Rattle.lexical.proofs.Trims.{trim_exactly}

-- what is split falls into these pieces

plain_first : {b : ℕ} {w : Bytes} {ps : List Bytes} → ¬ (b ≡ 59) → ¬ (b ≡ 34) → Separated w ps → Separated (b ∷ w) (into false b ps)
plain_first n m (the_last (outside p)) = the_last (outside (plain_byte n m p))
plain_first n m (the_last (inside p q)) = the_last (inside (plain_byte n m p) q)
plain_first n m (one_before p h) = one_before (plain_byte n m p) h

-- bytes split inside: no quote follows, or what follows the next one is split outside
data Within : Bytes → List Bytes → Type 0 where
  stays : {w : Bytes} → ¬ Memᴰ 34 w → Within w (w ∷ [])
  leaves_last : {q p : Bytes} → ¬ Memᴰ 34 q → LastPiece p → Within (q ++ (34 ∷ p)) ((q ++ (34 ∷ p)) ∷ [])
  leaves : {q p w : Bytes} {ps : List Bytes} → ¬ Memᴰ 34 q → Piece p → Separated w ps → Within ((q ++ (34 ∷ p)) ++ (59 ∷ w)) ((q ++ (34 ∷ p)) ∷ ps)

quote_first : {w : Bytes} {ps : List Bytes} → Within w ps → Separated (34 ∷ w) (into false 34 ps)
quote_first (stays n) = the_last (inside no_byte n)
quote_first (leaves_last n (outside p)) = the_last (outside (quoted_run n p))
quote_first (leaves_last {q} n (inside {p} {q = r} h m)) =
    let e : (34 ∷ q ++ (34 ∷ p)) ++ (34 ∷ r) ≡ 34 ∷ q ++ (34 ∷ p ++ (34 ∷ r)) = ap (λ (l : Bytes). 34 ∷ l) (append_assoc q (34 ∷ p) (34 ∷ r)) in
    rw e at (the_last (inside (quoted_run n h) m))
quote_first (leaves n p h) = one_before (quoted_run n p) h

within_first : {b : ℕ} {w : Bytes} {ps : List Bytes} → ¬ (b ≡ 34) → Within w ps → Within (b ∷ w) (into false b ps)
within_first n (stays m) = stays (absent 34 n m)
within_first n (leaves_last m p) = leaves_last (absent 34 n m) p
within_first n (leaves m p h) = leaves (absent 34 n m) p h

within_quote : {w : Bytes} {ps : List Bytes} → Separated w ps → Within (34 ∷ w) (into false 34 ps)
within_quote (the_last p) = leaves_last Memᴰ.not-nil p
within_quote (one_before p h) = leaves Memᴰ.not-nil p h

split_both : (w : Bytes) → Separated w (split false w) × Within w (split true w)
unfolding split
split_both [] = (the_last (outside no_byte), stays Memᴰ.not-nil)
split_both (b ∷ w) = (out (eqb b 59) refl (eqb b 34) refl (split_both w), within (eqb b 34) refl (split_both w))
  where
    out : (x : Bool) → eqb b 59 ≡ x → (y : Bool) → eqb b 34 ≡ y → Separated w (split false w) × Within w (split true w) → Separated (b ∷ w) (split false (b ∷ w))
    out true e y f h = let q = eqb-true b 59 e in rw q (one_before no_byte h.0)
    out false e true f h = let q = eqb-true b 34 f in rw q (quote_first h.1)
    out false e false f h = rw (e, f) (plain_first (eqb-false b 59 e) (eqb-false b 34 f) h.0)

    within : (y : Bool) → eqb b 34 ≡ y → Separated w (split false w) × Within w (split true w) → Within (b ∷ w) (split true (b ∷ w))
    within true f h = subst (λ (c : ℕ). Within (c ∷ w) (split true (c ∷ w))) (sym (eqb-true b 34 f)) (within_quote h.0)
    within false f h = rw f (within_first (eqb-false b 34 f) h.1)

-- pieces put together are split as they were

-- what stands in front of the bytes r, whose first piece is g
module _ (r g : Bytes) (gs : List Bytes) (e : split false r ≡ g ∷ gs) where
  run_split : (q p : Bytes) → ¬ Memᴰ 34 q → split false (p ++ r) ≡ (p ++ g) ∷ gs → split true (q ++ (34 ∷ p ++ r)) ≡ (q ++ (34 ∷ p ++ g)) ∷ gs
  unfolding split
  run_split [] p n h = rw h
  run_split (b ∷ q) p n h = rw (ne_eqb b 34 (λ (x : b ≡ 34). n (Memᴰ.head (sym x))), run_split q p (λ m. n (Memᴰ.tail m)) h)

  piece_split : {p : Bytes} → Piece p → split false (p ++ r) ≡ (p ++ g) ∷ gs
  unfolding split
  piece_split no_byte = e
  piece_split (plain_byte {b} n m p) = rw (ne_eqb b 59 n, ne_eqb b 34 m, piece_split p)
  piece_split (quoted_run {q} {p} n h) = rw (append_assoc q (34 ∷ p) r, append_assoc q (34 ∷ p) g, run_split q p n (piece_split h))

open_split : (q : Bytes) → ¬ Memᴰ 34 q → split true q ≡ q ∷ []
unfolding split
open_split [] n = refl
open_split (b ∷ q) n = rw (ne_eqb b 34 (λ (x : b ≡ 34). n (Memᴰ.head (sym x))), open_split q (λ m. n (Memᴰ.tail m)))

last_split : {p : Bytes} → LastPiece p → split false p ≡ p ∷ []
unfolding split
last_split (outside {p} h) = rw (append-nil p) at (piece_split [] [] [] refl h)
last_split (inside {p} {q} h n) = piece_split (34 ∷ q) (34 ∷ q) [] (rw (open_split q n)) h

split_back : {w : Bytes} {ps : List Bytes} → Separated w ps → split false w ≡ ps
unfolding split
split_back (the_last p) = last_split p
split_back (one_before {p} {w} {ps} h t) = piece_split (59 ∷ w) [] ps (rw (split_back t)) h ∙ rw (append-nil p)

-- "Fields after the command are separated by `;`. A quote switches between outside and inside; inside, `;` is plain."
pub split_exactly : (w : Bytes) (ps : List Bytes) → split false w ≡ ps ↔ Separated w ps
split_exactly w ps = (λ e. rw e at (split_both w).0, split_back)

trimmed_each : (ps : List Bytes) → Pairs Trimmed ps (map trim ps)
trimmed_each [] = no_pair
trimmed_each (p ∷ ps) = a_pair ((trim_exactly p (trim p)).0 refl) (trimmed_each ps)

trimmed_back : {ps fs : List Bytes} → Pairs Trimmed ps fs → map trim ps ≡ fs
trimmed_back no_pair = refl
trimmed_back (a_pair {x = p} {y = f} h t) = rw ((trim_exactly p f).1 h, trimmed_back t)

-- "Spaces around a field are trimmed."
pub fields_exactly : (w : Bytes) (fs : List Bytes) → fields w ≡ fs ↔ FieldsOf w fs
unfolding fields
fields_exactly w fs = (there, λ x. ap (map trim) (split_back x.separated) ∙ trimmed_back x.trimmed)
  where
    there : map trim (split false w) ≡ fs → FieldsOf w fs
    there e = record { pieces = split false w; separated = (split_both w).0; trimmed = rw e at (trimmed_each (split false w)) }
