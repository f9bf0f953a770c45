-- A record that passes is a turn of the machine. Assumes nothing.
use Rattle.std.specs.Prelude.{Ok}
use mathlib.Core.Path.{◌≡◌, refl, ap, sym, ◌∙◌}
use mathlib.Core.Bool.{Bool, true, false, ◌&&◌, and-true}
use mathlib.Core.List.{[], ◌∷◌, ◌++◌}
use Prim.Native.Nat.{ℕ, suc, ◌+◌, ◌-◌, ◌<◌, ◌≤◌}
use native.Mathlib.Omega.{arith}
use native.Mathlib.Numerals.{add-one}
use borrow.Author.Tests.{lt-ltb, ltb-true, ne_eqb, eqb-true}
use lib.Dec.{eqb, ltb}
use lib.ListN.{length, take, drop, get_or, take-append-drop}
use lib.Seq.{drop-cons}
use Rattle.page.specs.Bytes.{Bytes, bytes, pick, same, all, until, keep, trim}
use Rattle.page.specs.Lines.{lines, content, blank, known, find, semicolon, command, rest, allowed, clean, Mod, Rec, Missing}
use Rattle.page.specs.Fields.{fields}
use Rattle.page.specs.Order.{Order}
use Rattle.page.specs.Section.{choose, rec_verdict, rec_step, line_step, content_step, step, order_after, table_in, continue, run}
use Rattle.page.specs.declared.Phase.{Phase}
use Rattle.page.specs.declared.Phase.TheVariants as P
use Rattle.page.proofs.TestLaws.{and_left, and_right}
use Rattle.page.proofs.LineLaws.{line_size, cut_at}
use Rattle.laws.proofs.Tests.{blank_missing}
use Rattle.lines.proofs.RunLaws.{all_append}

-- a content that begins `rec;`

pub plain_shape : (c w : Bytes) → w ≡ drop 4 c → (4 ≤ length c) × (get_or c 0 0 ≡ 114) × (get_or c 1 0 ≡ 101) × (get_or c 2 0 ≡ 99) × (get_or c 3 0 ≡ 59)
    → c ≡ 114 ∷ 101 ∷ 99 ∷ 59 ∷ w
plain_shape [] w e h = absurd (omega (arith, h.0))
plain_shape (x ∷ []) w e h = absurd (omega (arith, h.0))
plain_shape (x ∷ y ∷ []) w e h = absurd (omega (arith, h.0))
plain_shape (x ∷ y ∷ z ∷ []) w e h = absurd (omega (arith, h.0))
plain_shape (x ∷ y ∷ z ∷ u ∷ c) w e h = rw (e, h.1, h.2, h.3, h.4)

module _ (w : Bytes) where
  abbrev line : Bytes
  line = 114 ∷ 101 ∷ 99 ∷ 59 ∷ w

  plain_command : command line ≡ Rec
  unfolding command until known find same bytes trim keep
  plain_command = rw (lt-ltb 3 (suc (suc (suc (suc (length w))))) (omega arith))

  plain_rest : rest line ≡ w
  unfolding rest until
  plain_rest = refl

  plain_blank : blank line ≡ false
  unfolding blank until
  plain_blank = ne_eqb 0 (suc (suc (suc (suc (length w))))) (λ (e : 0 ≡ suc (suc (suc (suc (length w))))). omega arith)

  plain_clean : (latin : Bool) → clean latin line ≡ all (allowed latin) w
  unfolding clean all allowed
  plain_clean true = ap (λ (k : ℕ). all (allowed (eqb k Rec)) line) plain_command
  plain_clean false = refl

  pub plain_step : (latin : Bool) (t : ℕ) (o : Order) (m n : ℕ) → (eqb (rec_verdict t o m (fields w)) 0 && all (allowed latin) w) ≡ true
      → content_step latin (P.Rows t m n) o line ≡ Ok (P.Rows t 0 (n + 1))
  unfolding content_step choose line_step rec_step
  plain_step latin t o m n e =
      rw (plain_clean latin, and_right (eqb (rec_verdict t o m (fields w)) 0) _ e, plain_blank, plain_command, plain_rest, and_left (eqb (rec_verdict t o m (fields w)) 0) _ e)

-- any other content of a record

until_stop : (p : ℕ → Bool) (s : Bytes) → until p s < length s → p (get_or s (until p s) 0) ≡ true
unfolding until
until_stop p [] h = absurd (omega arith)
until_stop p (b ∷ s) h = by (p b) refl h (until_stop p s)
  where
    by : (x : Bool) → p b ≡ x → pick x 0 (suc (until p s)) < suc (length s) → (until p s < length s → p (get_or s (until p s) 0) ≡ true)
        → p (get_or (b ∷ s) (pick x 0 (suc (until p s))) 0) ≡ true
    by true e l f = e
    by false e l f = f (omega arith)

module _ (c : Bytes) (k : command c ≡ Rec) where
  other_within : until semicolon c < length c
  unfolding command
  other_within = by (ltb (until semicolon c) (length c)) refl k
    where
      by : (b : Bool) → ltb (until semicolon c) (length c) ≡ b → pick b (find Mod known (trim (take (until semicolon c) c))) Missing ≡ Rec → until semicolon c < length c
      by true e q = ltb-true (until semicolon c) (length c) e
      by false e q = absurd (omega arith)

  other_blank : blank c ≡ false
  other_blank = by (blank c) refl
    where
      by : (b : Bool) → blank c ≡ b → b ≡ false
      by true e = absurd (let z : ◌≡◌ {A = ℕ} Missing Rec = sym (blank_missing c e) ∙ k in omega arith)
      by false e = refl

  other_clean : (latin : Bool) → all (allowed latin) (take (until semicolon c) c) ≡ true → all (allowed latin) (rest c) ≡ true → clean latin c ≡ true
  unfolding clean all allowed rest
  other_clean latin f r =
      let i = until semicolon c in
      let h = other_within in
      let a : suc i ≡ i + 1 = omega arith in
      let b : (latin && eqb (command c) Rec) ≡ latin = rw k (and-true latin) in
      let p : c ≡ take i c ++ 59 ∷ drop (i + 1) c =
      sym (take-append-drop i c) ∙ ap (λ (l : Bytes). take i c ++ l) (drop-cons c i 0 h ∙ rw (eqb-true (get_or c i 0) 59 (until_stop semicolon c h), a)) in
      rw b (ap (all (allowed latin)) p ∙ all_append (allowed latin) (take i c) (59 ∷ drop (i + 1) c) ∙ rw (f, r))

  pub other_step : (latin : Bool) (t : ℕ) (o : Order) (m n : ℕ) → all (allowed latin) (take (until semicolon c) c) ≡ true
      → (eqb (rec_verdict t o m (fields (rest c))) 0 && all (allowed latin) (rest c)) ≡ true → content_step latin (P.Rows t m n) o c ≡ Ok (P.Rows t 0 (n + 1))
  unfolding content_step choose line_step rec_step
  other_step latin t o m n f e =
      rw (other_clean latin f (and_right (eqb (rec_verdict t o m (fields (rest c))) 0) _ e), other_blank, k, and_left (eqb (rec_verdict t o m (fields (rest c))) 0) _ e)

-- a turn of the machine: the line at a place, that ends at e
module _ (s : Bytes) (at e : ℕ) (h : at < length s) (q : e ≡ at + line_size (drop at s)) (latin : Bool) where
  abbrev l : Bytes
  l = take (e - at) (drop at s)

  pub run_more : (p : Phase) (o : Order) (n : ℕ) → run latin p o n (lines (drop at s))
      ≡ continue (step latin p o l) (table_in p) (n + 1) (λ p'. run latin p' (order_after p o (content l)) (n + 1) (lines (drop e s)))
  unfolding run
  run_more p o n = rw (cut_at s at e h q, add-one)

  pub pass_turn : (t : ℕ) (o : Order) (m n k : ℕ) → step latin (P.Rows t m n) o l ≡ Ok (P.Rows t 0 (n + 1))
      → run latin (P.Rows t m n) o k (lines (drop at s)) ≡ run latin (P.Rows t 0 (n + 1)) o (k + 1) (lines (drop e s))
  unfolding continue order_after
  pass_turn t o m n k x = run_more (P.Rows t m n) o k ∙ rw x
