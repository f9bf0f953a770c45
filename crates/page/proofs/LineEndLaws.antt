-- What a line's end must be for what is written to be read back: it ends in LF and holds no other, it is no part of the line's
-- content, and it is short. Which ends there are is asked here alone. Assumes nothing.
use mathlib.Core.Path.{◌≡◌, refl, sym, ◌∙◌}
use mathlib.Core.Bool.{true}
use mathlib.Core.List.{[], ◌∷◌, ◌++◌}
use Prim.Native.Nat.{ℕ, ◌+◌, ◌-◌, ◌<◌, ◌≤◌}
use native.Mathlib.Omega.{arith}
use borrow.Author.Tests.{ne_eqb, leb-true}
use lib.Dec.{leb}
use lib.ListN.{length, get_or, length-append, get_or-append}
use lib.Seq.{take-append_seam, get_or-append_seam}
use Rattle.page.specs.Bytes.{Bytes, all}
use Rattle.page.specs.Lines.{content_size, content}
use Rattle.page.specs.Form.{line_end}
use Rattle.page.specs.declared.LineEnd.{LineEnd}
use Rattle.page.specs.declared.LineEnd.TheVariants as E
use Rattle.page.proofs.ContentLaws.{content_lf}
use Rattle.page.proofs.LineLaws.{Ended, lf, after, ended_some}
use Rattle.page.proofs.ScanLaws.{all_at}
use Rattle.page.proofs.TestLaws.{and_left, and_right}

-- behind bytes from 32 on, which are neither CR nor LF

no_return : (w : Bytes) → all (leb 32) w ≡ true → get_or (w ++ 10 ∷ []) (length w - 1) 0 ≡ 13 → ⊥
no_return [] h e = let z : ◌≡◌ {A = ℕ} 10 13 = e in omega arith
no_return (b ∷ w) h e =
    let p : length (b ∷ w) - 1 < length (b ∷ w) = omega arith in
    let q : get_or (b ∷ w) (length (b ∷ w) - 1) 0 ≡ 13 = sym (get_or-append (b ∷ w) (10 ∷ []) 0 (length (b ∷ w) - 1) p) ∙ e in
    omega (arith, leb-true 32 (get_or (b ∷ w) (length (b ∷ w) - 1) 0) (all_at (leb 32) (b ∷ w) (length (b ∷ w) - 1) h p))

lf_content : (w : Bytes) → all (leb 32) w ≡ true → content (w ++ 10 ∷ []) ≡ w
unfolding content
lf_content w h =
    let n : length (w ++ 10 ∷ []) ≡ length w + 1 = length-append w (10 ∷ []) in
    let a : length (w ++ 10 ∷ []) - 1 ≡ length w = omega arith in
    let c : length (w ++ 10 ∷ []) - 2 ≡ length w - 1 = omega arith in
    let z : content_size (w ++ 10 ∷ []) ≡ length (w ++ 10 ∷ []) - 1 =
    content_lf (w ++ 10 ∷ []) (rw a (get_or-append_seam w 10 [] 0)) (λ (k : get_or (w ++ 10 ∷ []) (length (w ++ 10 ∷ []) - 2) 0 ≡ 13). no_return w h (rw c at k)) in
    rw (z, a) (take-append_seam w (10 ∷ []))

pub content_without_end : (e : LineEnd) (w : Bytes) → all (leb 32) w ≡ true → content (w ++ line_end e) ≡ w
unfolding line_end
content_without_end E.Lf w h = lf_content w h

pub line_end_ended : (e : LineEnd) → Ended (line_end e)
unfolding line_end
line_end_ended E.Lf = lf refl

pub line_end_length : (e : LineEnd) → length (line_end e) ≤ 2
unfolding line_end
line_end_length E.Lf = omega arith

-- whichever it is

pub line_end_some : (e : LineEnd) → 0 < length (line_end e)
line_end_some e = ended_some (line_end_ended e)

pub ended_of : (e : LineEnd) (w : Bytes) → all (leb 32) w ≡ true → Ended (w ++ line_end e)
unfolding all
ended_of e [] h = line_end_ended e
ended_of e (b ∷ w) h =
    after (ne_eqb b 10 (λ (q : b ≡ 10). omega (arith, leb-true 32 b (and_left (leb 32 b) (all (leb 32) w) h))))
    (ended_of e w (and_right (leb 32 b) (all (leb 32) w) h))
