-- A line's command, and what stands behind it, are exactly what the page says. Assumes nothing.
use mathlib.Core.Path.{◌≡◌, refl, ap, sym, ◌∙◌}
use mathlib.Core.Bool.{Bool, true, false}
use mathlib.Core.List.Memᴰ
use mathlib.Core.List.{List, [], ◌∷◌, ◌++◌, Memᴰ}
use mathlib.Core.Logic.{◌⊎◌, inl, inr, ◌↔◌}
use Prim.Native.Nat.{ℕ, suc, ◌+◌, ◌<◌}
use Prim.Native.String.{String}
use native.Mathlib.Omega.{arith}
use borrow.Author.Tests.{eqb-true, eqb-false, ne_eqb}
use lib.Dec.{eqb}
use lib.ListN.{length, length-append}
use lib.Seq.{take-append_seam, drop-append-add}
use Rattle.page.specs.Bytes.{Bytes, bytes, pick, same, until, trim}
use Rattle.page.specs.Lines.{known, find, semicolon, command, rest, Mod, Unknown}
use Rattle.page.specs.Lexical.{Parted, Commanded, CommandOf, a_known, an_unknown, no_command, Known}
use Rattle.page.specs.Lexical.{is_mod, is_src, is_chs, is_ver, is_ifv, is_dve, is_fft, is_tbl, is_atr, is_frm, is_rec, is_end, is_com, is_eof}
use Rattle.page.proofs.ContentLaws.{command_some, command_none, rest_at}
use Rattle.page.proofs.TestLaws.{same_true}
use Rattle.lexical.proofs.Lines.{absent}
use Rattle.lexical.proofs.Trims.{trim_exactly}

-- the first `;`

-- a line has a first `;`, or none
parted_or_none : (c : Bytes) → ((front : Bytes) × (rest : Bytes) × Parted c front rest) ⊎ (¬ Memᴰ 59 c)
parted_or_none [] = inr Memᴰ.not-nil
parted_or_none (b ∷ c) = by (eqb b 59) refl (parted_or_none c)
  where
    by : (x : Bool) → eqb b 59 ≡ x → ((front : Bytes) × (rest : Bytes) × Parted c front rest) ⊎ (¬ Memᴰ 59 c) →
        ((front : Bytes) × (rest : Bytes) × Parted (b ∷ c) front rest) ⊎ (¬ Memᴰ 59 (b ∷ c))
    by true e h = inl ([], c, record { whole = rw (eqb-true b 59 e); first = Memᴰ.not-nil })
    by false e (inl x) =
        inl (b ∷ x.0, x.1, record { whole = ap (λ (l : Bytes). b ∷ l) x.2.whole; first = absent 59 (eqb-false b 59 e) x.2.first })
    by false e (inr n) = inr (absent 59 (eqb-false b 59 e) n)

until_parted : (front rest : Bytes) → ¬ Memᴰ 59 front → until semicolon (front ++ (59 ∷ rest)) ≡ length front
unfolding until
until_parted [] rest n = refl
until_parted (b ∷ front) rest n = rw (ne_eqb b 59 (λ (e : b ≡ 59). n (Memᴰ.head (sym e))), until_parted front rest (λ m. n (Memᴰ.tail m)))

until_none : (c : Bytes) → ¬ Memᴰ 59 c → until semicolon c ≡ length c
unfolding until
until_none [] n = refl
until_none (b ∷ c) n = rw (ne_eqb b 59 (λ (e : b ≡ 59). n (Memᴰ.head (sym e))), until_none c (λ m. n (Memᴰ.tail m)))

module _ {c front after : Bytes} (p : Parted c front after) where
  size : length front ≡ until semicolon c
  size = rw p.whole (sym (until_parted front after p.first))

  parted_command : command c ≡ find Mod known (trim front)
  parted_command =
      let l : length front < length c = omega (arith, ap length p.whole, length-append front (59 ∷ after)) in
      command_some c (length front) size l ∙ rw (p.whole, take-append_seam front (59 ∷ after))

  parted_rest : rest c ≡ after
  parted_rest = sym (rest_at c (length front) size) ∙ rw p.whole (drop-append-add front (59 ∷ after) 1)

-- what stands behind the first `;` of a line that has one
pub rest_exactly : (c after : Bytes) → Memᴰ 59 c → rest c ≡ after ↔ ((front : Bytes) × Parted c front after)
rest_exactly c after m = (by (parted_or_none c), λ x. parted_rest x.1)
  where
    by : ((front : Bytes) × (r : Bytes) × Parted c front r) ⊎ (¬ Memᴰ 59 c) → rest c ≡ after → (front : Bytes) × Parted c front after
    by (inl x) e = (x.0, rw (sym (parted_rest x.2) ∙ e) at x.2)
    by (inr n) e = absurd (n m)

-- the known commands

-- each name in the list of commands has its number
abbrev Numbered : ℕ → List String → Type 0
Numbered i [] = Unit
Numbered i (s ∷ ks) = Known i (bytes s) × Numbered (suc i) ks

numbered : Numbered Mod known
unfolding known
numbered = (is_mod, (is_src, (is_chs, (is_ver, (is_ifv, (is_dve, (is_fft, (is_tbl, (is_atr, (is_frm, (is_rec, (is_end, (is_com, (is_eof, tt))))))))))))))

-- a word is found as one of the names, or it is none
found_known : (i : ℕ) (ks : List String) → Numbered i ks → (w : Bytes) → Known (find i ks w) w ⊎ (find i ks w ≡ i + length ks)
unfolding find
found_known i [] n w = inr (omega arith)
found_known i (s ∷ ks) n w = by (same w (bytes s)) refl (found_known (suc i) ks n.1 w)
  where
    by : (x : Bool) → same w (bytes s) ≡ x → Known (find (suc i) ks w) w ⊎ (find (suc i) ks w ≡ suc i + length ks) →
        Known (pick x i (find (suc i) ks w)) w ⊎ (pick x i (find (suc i) ks w) ≡ i + suc (length ks))
    by true e x = inl (rw (same_true w (bytes s) e) n.0)
    by false e (inl x) = inl x
    by false e (inr x) = inr (omega arith)

known_found : {k : ℕ} {w : Bytes} → Known k w → (find Mod known w ≡ k) × (k < Unknown)
unfolding find known bytes same
known_found is_mod = (refl, omega arith)
known_found is_src = (refl, omega arith)
known_found is_chs = (refl, omega arith)
known_found is_ver = (refl, omega arith)
known_found is_ifv = (refl, omega arith)
known_found is_dve = (refl, omega arith)
known_found is_fft = (refl, omega arith)
known_found is_tbl = (refl, omega arith)
known_found is_atr = (refl, omega arith)
known_found is_frm = (refl, omega arith)
known_found is_rec = (refl, omega arith)
known_found is_end = (refl, omega arith)
known_found is_com = (refl, omega arith)
known_found is_eof = (refl, omega arith)

-- the command

command_of : (c : Bytes) → CommandOf c (command c)
unfolding known
command_of c = by (parted_or_none c)
  where
    unknown : (w : Bytes) → find Mod known w ≡ Unknown → (k : ℕ) → ¬ Known k w
    unknown w e k h = let x = known_found h in omega (arith, x.0, x.1)

    named : (w : Bytes) → Commanded c w → Known (find Mod known w) w ⊎ (find Mod known w ≡ Mod + length known) → CommandOf c (find Mod known w)
    named w h (inl k) = a_known h k
    named w h (inr e) = rw e (an_unknown h (unknown w e))

    by : ((front : Bytes) × (after : Bytes) × Parted c front after) ⊎ (¬ Memᴰ 59 c) → CommandOf c (command c)
    by (inl x) =
        let w = trim x.0 in
        rw (parted_command x.2)
        (named w (record { front = x.0; rest = x.1; parted = x.2; trimmed = (trim_exactly x.0 w).0 refl }) (found_known Mod known numbered w))
    by (inr n) = rw (command_none c (length c) (sym (until_none c n)) (omega arith)) (no_command n)

worded : {c w : Bytes} → Commanded c w → command c ≡ find Mod known w
worded {c} {w} h = parted_command h.parted ∙ ap (find Mod known) ((trim_exactly h.front w).1 h.trimmed)

command_back : {c : Bytes} {k : ℕ} → CommandOf c k → command c ≡ k
unfolding known
command_back (a_known {word} h k) = worded h ∙ (known_found k).0
command_back (an_unknown {word} h n) = worded h ∙ by (found_known Mod known numbered word)
  where
    by : Known (find Mod known word) word ⊎ (find Mod known word ≡ Mod + length known) → find Mod known word ≡ Unknown
    by (inl k) = absurd (n (find Mod known word) k)
    by (inr e) = e
command_back {c} (no_command n) = command_none c (length c) (sym (until_none c n)) (omega arith)

-- "The command is what stands before the first `;`, spaces trimmed; a line without `;` has none"
pub command_exactly : (c : Bytes) (k : ℕ) → command c ≡ k ↔ CommandOf c k
command_exactly c k = (λ e. rw e at (command_of c), command_back)
