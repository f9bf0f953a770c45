-- A name of three bytes is told by their number. Assumes nothing.
use mathlib.Core.Path.{◌≡◌, refl, ap, sym, ◌∙◌}
use mathlib.Core.Bool.{Bool, true, false, ◌&&◌, false≢true}
use mathlib.Core.List.{List, [], ◌∷◌}
use Prim.Native.Nat.{ℕ, suc, ◌+◌, ◌<◌}
use Prim.Native.String.{String}
use native.Mathlib.Omega.{arith}
use borrow.Author.Tests.{eq-eqb, ne_eqb, eqb-true, eqb-false, ltb-true}
use lib.Dec.{eqb, ltb}
use lib.ListN.{length, get_or, drop}
use Rattle.page.specs.Bytes.{Bytes, bytes, same, until, keep, trim}
use Rattle.page.specs.Lines.{find, known, Mod, Unknown, semicolon, command}
use Rattle.page.proofs.ContentLaws.{command_some}
use Rattle.page.proofs.ScanLaws.{same_length}
use Rattle.commands.specs.Commands.{key, key_of, find_key, Set}

shape : (w : Bytes) → length w ≡ 3 → w ≡ get_or w 0 0 ∷ get_or w 1 0 ∷ get_or w 2 0 ∷ []
shape [] h = absurd (omega arith)
shape (a ∷ []) h = absurd (omega arith)
shape (a ∷ b ∷ []) h = absurd (omega arith)
shape (a ∷ b ∷ c ∷ []) h = refl
shape (a ∷ b ∷ c ∷ d ∷ w) h = absurd (omega arith)

no_three : (p q r : Bool) → (p ≡ true → q ≡ true → r ≡ true → ⊥) → p && (q && (r && true)) ≡ false
no_three true true true h = absurd (h refl refl refl)
no_three true true false h = refl
no_three true false r h = refl
no_three false q r h = refl

module _ (a b c x y z : ℕ) (hb : b < 256) (hc : c < 256) (hy : y < 256) (hz : z < 256) where
  three_same : same (a ∷ b ∷ c ∷ []) (x ∷ y ∷ z ∷ []) ≡ eqb (key_of a b c) (key_of x y z)
  unfolding same
  three_same = go (eqb (key_of a b c) (key_of x y z)) refl
    where
      go : (t : Bool) → eqb (key_of a b c) (key_of x y z) ≡ t → eqb a x && (eqb b y && (eqb c z && true)) ≡ eqb (key_of a b c) (key_of x y z)
      go true e =
          let k : key_of a b c ≡ key_of x y z = eqb-true (key_of a b c) (key_of x y z) e in
          rw (e, eq-eqb a x (omega arith), eq-eqb b y (omega arith), eq-eqb c z (omega arith))
      go false e =
          rw e
          (no_three (eqb a x) (eqb b y) (eqb c z)
          (λ p q r.
          let i : a ≡ x = eqb-true a x p in
          let j : b ≡ y = eqb-true b y q in
          let k : c ≡ z = eqb-true c z r in
          eqb-false (key_of a b c) (key_of x y z) e (omega arith)))

-- three bytes, of which the last two are bytes indeed
abbrev three : Bytes → Bool
three n = eqb (length n) 3 && (ltb (get_or n 1 0) 256 && ltb (get_or n 2 0) 256)

abbrev all_three : List String → Bool
all_three [] = true
all_three (n ∷ ns) = three (bytes n) && all_three ns

both : (a b : Bool) → a && b ≡ true → (a ≡ true) × (b ≡ true)
both true b e = (refl, e)
both false b e = absurd (false≢true e)

module _ (w : Bytes) (h : length w ≡ 3) (hb : get_or w 1 0 < 256) (hc : get_or w 2 0 < 256) where
  same_key : (n : Bytes) → three n ≡ true → same w n ≡ eqb (key w) (key n)
  unfolding key
  same_key n t =
      let e = both (eqb (length n) 3) (ltb (get_or n 1 0) 256 && ltb (get_or n 2 0) 256) t in
      let f = both (ltb (get_or n 1 0) 256) (ltb (get_or n 2 0) 256) e.1 in
      let y = ltb-true (get_or n 1 0) 256 f.0 in
      let z = ltb-true (get_or n 2 0) 256 f.1 in
      ap (λ (v : Bytes). same v n) (shape w h)
      ∙ ap (same (get_or w 0 0 ∷ get_or w 1 0 ∷ get_or w 2 0 ∷ [])) (shape n (eqb-true (length n) 3 e.0))
      ∙ three_same (get_or w 0 0) (get_or w 1 0) (get_or w 2 0) (get_or n 0 0) (get_or n 1 0) (get_or n 2 0) hb hc y z

  find_three : (ns : List String) (i : ℕ) → all_three ns ≡ true → find i ns w ≡ find_key i ns (key w)
  unfolding find find_key
  find_three [] i t = refl
  find_three (n ∷ ns) i t =
      let e = both (three (bytes n)) (all_three ns) t in
      rw (same_key (bytes n) e.0, find_three ns (suc i) e.1)

  pub command_three : find Mod known w ≡ find_key Mod known (key w)
  unfolding known bytes
  command_three = find_three known Mod refl

module _ (w : Bytes) (h : length w ≡ 3 → ⊥) where
  find_other : (ns : List String) (i : ℕ) → all_three ns ≡ true → find i ns w ≡ i + length ns
  unfolding find
  find_other [] i t = omega arith
  find_other (n ∷ ns) i t =
      let e = both (three (bytes n)) (all_three ns) t in
      let f = both (eqb (length (bytes n)) 3) (ltb (get_or (bytes n) 1 0) 256 && ltb (get_or (bytes n) 2 0) 256) e.0 in
      let ne : length w ≡ length (bytes n) → ⊥ = λ (x : length w ≡ length (bytes n)). h (x ∙ eqb-true (length (bytes n)) 3 f.0) in
      rw (same_length w (bytes n) ne, find_other ns (suc i) e.1) (omega arith)

  pub command_other : find Mod known w ≡ Unknown
  unfolding known bytes
  command_other = find_other known Mod refl

-- three bytes that are neither `;` nor a space, and then a `;`

module _ (a b c : ℕ) (w : Bytes) (ha : 59 < a) (hb : 59 < b) (hc : 59 < c) where
  three_first : until semicolon (a ∷ b ∷ c ∷ 59 ∷ w) ≡ 3
  unfolding until
  three_first = rw (ne_eqb a 59 (omega arith), ne_eqb b 59 (omega arith), ne_eqb c 59 (omega arith))

  three_trimmed : trim (a ∷ b ∷ c ∷ []) ≡ a ∷ b ∷ c ∷ []
  unfolding trim keep until
  three_trimmed =
      let x : eqb a 32 ≡ false = ne_eqb a 32 (omega arith) in
      let y : eqb b 32 ≡ false = ne_eqb b 32 (omega arith) in
      let z : eqb c 32 ≡ false = ne_eqb c 32 (omega arith) in
      simp (x, y, z)

  pub three_command : b < 256 → c < 256 → command (a ∷ b ∷ c ∷ 59 ∷ w) ≡ find_key Mod known (key_of a b c)
  unfolding key
  three_command kb kc =
      command_some (a ∷ b ∷ c ∷ 59 ∷ w) 3 (sym three_first) (omega arith)
      ∙ ap (find Mod known) three_trimmed
      ∙ command_three (a ∷ b ∷ c ∷ []) refl kb kc

pub set_from : (c : Bytes) → 3 < length c
    → ((ltb 59 (get_or c 0 0) && ltb 59 (get_or c 1 0)) && ltb 59 (get_or c 2 0)) && eqb (get_or c 3 0) 59 ≡ true → Set c
set_from c h e =
    let x = both ((ltb 59 (get_or c 0 0) && ltb 59 (get_or c 1 0)) && ltb 59 (get_or c 2 0)) (eqb (get_or c 3 0) 59) e in
    let y = both (ltb 59 (get_or c 0 0) && ltb 59 (get_or c 1 0)) (ltb 59 (get_or c 2 0)) x.0 in
    let z = both (ltb 59 (get_or c 0 0)) (ltb 59 (get_or c 1 0)) y.0 in
    record {
      long = h;
      first = ltb-true 59 (get_or c 0 0) z.0;
      second = ltb-true 59 (get_or c 1 0) z.1;
      third = ltb-true 59 (get_or c 2 0) y.1;
      after = eqb-true (get_or c 3 0) 59 x.1;
    }

four_first : (c : Bytes) → 3 < length c → c ≡ get_or c 0 0 ∷ get_or c 1 0 ∷ get_or c 2 0 ∷ get_or c 3 0 ∷ drop 4 c
four_first [] h = absurd (omega arith)
four_first (x ∷ []) h = absurd (omega arith)
four_first (x ∷ y ∷ []) h = absurd (omega arith)
four_first (x ∷ y ∷ z ∷ []) h = absurd (omega arith)
four_first (x ∷ y ∷ z ∷ v ∷ w) h = refl

pub set_known : (c : Bytes) → Set c → get_or c 1 0 < 256 → get_or c 2 0 < 256
    → command c ≡ find_key Mod known (key_of (get_or c 0 0) (get_or c 1 0) (get_or c 2 0))
set_known c s kb kc =
    let e : c ≡ get_or c 0 0 ∷ get_or c 1 0 ∷ get_or c 2 0 ∷ 59 ∷ drop 4 c =
    four_first c s.long ∙ ap (λ (x : ℕ). get_or c 0 0 ∷ get_or c 1 0 ∷ get_or c 2 0 ∷ x ∷ drop 4 c) s.after in
    ap command e ∙ three_command (get_or c 0 0) (get_or c 1 0) (get_or c 2 0) (drop 4 c) s.first s.second s.third kb kc
