-- Bytes fall into lines, and a line into its content and its end, exactly as the page says. Assumes nothing.
use mathlib.Core.Path.{◌≡◌, refl, ap, sym, ◌∙◌}
use mathlib.Core.Bool.{Bool, true, false, false≢true}
use mathlib.Core.List.Memᴰ
use mathlib.Core.List.{List, [], ◌∷◌, ◌++◌, append_assoc, append-nil, Memᴰ}
use mathlib.Core.Logic.{◌⊎◌, inl, inr, ◌↔◌}
use Prim.Native.Nat.{ℕ, ◌-◌}
use native.Mathlib.Omega.{arith}
use borrow.Author.Tests.{eqb-true, eqb-false, ne_eqb}
use lib.Dec.{eqb}
use lib.ListN.{length, get_or, length-append}
use lib.Seq.{take-length, take-append_seam, get_or-append_seam}
use Rattle.page.specs.Bytes.{Bytes}
use Rattle.page.specs.Lines.{lines, joined, content}
use Rattle.page.specs.Lexical.{Ends, LinesOf, no_line, a_line, last_line, ContentOf, by_cr_lf, by_lf, unended}
use Rattle.page.proofs.LineLaws.{joined_lines, Plain, one, more, Ended, lf, after, Laid, none, last, next, laid_lines, lines_joined}
use Rattle.page.proofs.ContentLaws.{content_whole, content_cr, content_lf}

-- no byte of the front, none behind it
pub absent : (b : ℕ) {c : ℕ} {w : Bytes} → ¬ (c ≡ b) → ¬ Memᴰ b w → ¬ Memᴰ b (c ∷ w)
absent b {c} {w} n m x = by (Memᴰ.cases_cons x)
  where
    by : (b ≡ c) ⊎ Memᴰ b w → ⊥
    by (inl e) = n (sym e)
    by (inr k) = m k

-- lines

plain_of : {l : Bytes} → Plain l → LinesOf l (l ∷ [])
plain_of {l} p = last_line (some p) (no_lf p)
  where
    some : {l : Bytes} → Plain l → ¬ (l ≡ [])
    some (one q) e = false≢true (cc)
    some (more q h) e = false≢true (cc)

    no_lf : {l : Bytes} → Plain l → ¬ Memᴰ 10 l
    no_lf (one {b} q) = absent 10 (eqb-false b 10 q) Memᴰ.not-nil
    no_lf (more {b} q h) = absent 10 (eqb-false b 10 q) (no_lf h)

ended_of : {l : Bytes} → Ended l → (c : Bytes) × (l ≡ c ++ (10 ∷ [])) × ¬ Memᴰ 10 c
ended_of (lf {b} q) = ([], rw (eqb-true b 10 q), Memᴰ.not-nil)
ended_of (after {b} q h) = let x = ended_of h in (b ∷ x.0, ap (λ (l : Bytes). b ∷ l) x.1, absent 10 (eqb-false b 10 q) x.2)

laid_of : {ls : List Bytes} → Laid ls → LinesOf (joined ls) ls
unfolding joined
laid_of none = no_line
laid_of (last {l} p) = rw (append-nil l) (plain_of p)
laid_of (next {l} {ls} p h) = let x = ended_of p in rw x.1 (a_line x.2 (laid_of h))

plain_back : (l : Bytes) → ¬ (l ≡ []) → ¬ Memᴰ 10 l → Plain l
plain_back [] s n = absurd (s refl)
plain_back (b ∷ []) s n = one (ne_eqb b 10 (λ (e : b ≡ 10). n (Memᴰ.head (sym e))))
plain_back (b ∷ c ∷ l) s n = more (ne_eqb b 10 (λ (e : b ≡ 10). n (Memᴰ.head (sym e)))) (plain_back (c ∷ l) (λ e. false≢true (cc)) (λ m. n (Memᴰ.tail m)))

ended_back : (c : Bytes) → ¬ Memᴰ 10 c → Ended (c ++ (10 ∷ []))
ended_back [] n = lf refl
ended_back (b ∷ c) n = after (ne_eqb b 10 (λ (e : b ≡ 10). n (Memᴰ.head (sym e)))) (ended_back c (λ m. n (Memᴰ.tail m)))

laid_back : {s : Bytes} {ls : List Bytes} → LinesOf s ls → Laid ls × (joined ls ≡ s)
unfolding joined
laid_back no_line = (none, refl)
laid_back (a_line {c} n h) = let x = laid_back h in (next (ended_back c n) x.0, ap (λ (r : Bytes). (c ++ (10 ∷ [])) ++ r) x.1)
laid_back (last_line {l} s n) = (last (plain_back l s n), append-nil l)

-- "A line ends at LF. Bytes after the last LF, if any, are a last line."
pub lines_exactly : (s : Bytes) (ls : List Bytes) → lines s ≡ ls ↔ LinesOf s ls
lines_exactly s ls = (λ e. rw e at (rw (joined_lines s) at (laid_of (laid_lines s))), back)
  where
    back : LinesOf s ls → lines s ≡ ls
    back h = let x = laid_back h in ap lines (sym x.1) ∙ lines_joined x.0

-- a line's content

-- bytes are none, or have a last
data Seen : Bytes → Type 0 where
  nothing : Seen []
  ending : (r : Bytes) (b : ℕ) → Seen (r ++ (b ∷ []))

see : (l : Bytes) → Seen l
see [] = nothing
see (b ∷ l) = by (see l)
  where
    by : {l : Bytes} → Seen l → Seen (b ∷ l)
    by nothing = ending [] b
    by (ending r c) = ending (b ∷ r) c

last_at : (r : Bytes) (b : ℕ) → get_or (r ++ (b ∷ [])) (length (r ++ (b ∷ [])) - 1) 0 ≡ b
last_at r b = let n : length (r ++ (b ∷ [])) - 1 ≡ length r = omega (arith, length-append r (b ∷ [])) in rw n (get_or-append_seam r b [] 0)

before_last : (r : Bytes) (c b : ℕ) → get_or ((r ++ (c ∷ [])) ++ (b ∷ [])) (length ((r ++ (c ∷ [])) ++ (b ∷ [])) - 2) 0 ≡ c
before_last r c b =
    let n : length (r ++ (c ∷ b ∷ [])) - 2 ≡ length r = omega (arith, length-append r (c ∷ b ∷ [])) in
    rw (append_assoc r (c ∷ []) (b ∷ []), n) (get_or-append_seam r c (b ∷ []) 0)

ends_none : (b : ℕ) → ¬ Ends b []
ends_none b x = omega (arith, ap length x.1, length-append x.0 (b ∷ []))

-- the last byte is one only
ends_in : {b : ℕ} (r : Bytes) (c : ℕ) → Ends b (r ++ (c ∷ [])) → c ≡ b
ends_in {b} r c x = sym (last_at r c) ∙ (ap (λ (l : Bytes). get_or l (length l - 1) 0) x.1 ∙ last_at x.0 b)

-- every line has a content
content_some : (l : Bytes) → (c : Bytes) × ContentOf l c
content_some l = by (see l)
  where
    cr : (r : Bytes) (b : ℕ) (x : Bool) → eqb b 13 ≡ x → (c : Bytes) × ContentOf ((r ++ (b ∷ [])) ++ (10 ∷ [])) c
    cr r b true e = (r, by_cr_lf (rw (append_assoc r (b ∷ []) (10 ∷ []), eqb-true b 13 e)))
    cr r b false e = (r ++ (b ∷ []), by_lf refl (λ x. eqb-false b 13 e (ends_in r b x)))

    ended : {r : Bytes} → Seen r → (c : Bytes) × ContentOf (r ++ (10 ∷ [])) c
    ended nothing = ([], by_lf refl (λ x. ends_none 13 x))
    ended (ending r b) = cr r b (eqb b 13) refl

    line : (r : Bytes) (b : ℕ) (x : Bool) → eqb b 10 ≡ x → (c : Bytes) × ContentOf (r ++ (b ∷ [])) c
    line r b true e = rw (eqb-true b 10 e) (ended (see r))
    line r b false e = (r ++ (b ∷ []), unended refl (λ x. eqb-false b 10 e (ends_in r b x)))

    by : {l : Bytes} → Seen l → (c : Bytes) × ContentOf l c
    by nothing = ([], unended refl (λ x. ends_none 10 x))
    by (ending r b) = line r b (eqb b 10) refl

content_back : (l c : Bytes) → ContentOf l c → content l ≡ c
unfolding content
content_back l c (by_cr_lf e) =
    let m : Bytes = (c ++ (13 ∷ [])) ++ (10 ∷ []) in
    let q : l ≡ m = e ∙ sym (append_assoc c (13 ∷ []) (10 ∷ [])) in
    let n : length m - 2 ≡ length c = omega (arith, length-append (c ++ (13 ∷ [])) (10 ∷ []), length-append c (13 ∷ [])) in
    rw (q, content_cr m (last_at (c ++ (13 ∷ [])) 10) (before_last c 13 10), n, append_assoc c (13 ∷ []) (10 ∷ [])) (take-append_seam c (13 ∷ 10 ∷ []))
content_back l c (by_lf e h) =
    let m : Bytes = c ++ (10 ∷ []) in
    let n : length m - 1 ≡ length c = omega (arith, length-append c (10 ∷ [])) in
    rw (e, content_lf m (last_at c 10) (no_cr (see c) h), n) (take-append_seam c (10 ∷ []))
  where
    no_cr : {c : Bytes} → Seen c → ¬ Ends 13 c → ¬ (get_or (c ++ (10 ∷ [])) (length (c ++ (10 ∷ [])) - 2) 0 ≡ 13)
    no_cr nothing h e = omega arith
    no_cr (ending r b) h e = h (r, rw (sym (before_last r b 10) ∙ e))
content_back l c (unended e h) = rw (content_whole l (no_lf (see l) h), take-length l) e
  where
    no_lf : {l : Bytes} → Seen l → ¬ Ends 10 l → ¬ (get_or l (length l - 1) 0 ≡ 10)
    no_lf nothing h e = omega arith
    no_lf (ending r b) h e = h (r, rw (sym (last_at r b) ∙ e))

-- "one CR directly before that LF belongs to the end"
pub content_exactly : (l c : Bytes) → content l ≡ c ↔ ContentOf l c
content_exactly l c = (λ e. let x = content_some l in rw (sym (content_back l x.0 x.1) ∙ e) at x.1, content_back l c)
