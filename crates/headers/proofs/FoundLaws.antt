-- The first line of a command, looked for line by line. Assumes nothing.
use mathlib.Core.Path.{◌≡◌, refl, ap, sym, ◌∙◌}
use mathlib.Core.Bool.{Bool, true, false, not, ◌||◌}
use mathlib.Core.List.{List, [], ◌∷◌}
use Prim.Native.Nat.{ℕ, ◌+◌, ◌-◌, ◌<◌, ◌≤◌}
use native.Mathlib.Omega.{arith}
use borrow.Author.Tests.{eq-eqb, ne_eqb, ltb-true, ltb-false}
use lib.Dec.{eqb, ltb}
use lib.ListN.{length, take, drop}
use lib.Seq.{take-take}
use Rattle.page.specs.Bytes.{Bytes, pick, part, moved, until}
use Rattle.page.specs.Lines.{lines, content_size, content, command, rest, semicolon}
use Rattle.page.specs.Places.{Standing, stands, line_of}
use Rattle.page.specs.Head.{stands_in}
use Rattle.page.proofs.PartLaws.{part_rest}
use Rattle.page.proofs.ScanLaws.{part_length, part_moved}
use Rattle.page.proofs.LineLaws.{line_size, line_in, cut_at, lines_end}
use Rattle.page.proofs.ContentLaws.{content_le, command_none, rest_at}
use Rattle.headers.specs.Found.{Found}

-- a line that has a command has a `;`
pub command_in : (c : Bytes) (i k : ℕ) → i ≡ until semicolon c → command c ≡ k → k < 16 → i < length c
command_in c i k e q h = go (ltb i (length c)) refl
  where
    go : (b : Bool) → ltb i (length c) ≡ b → i < length c
    go true x = ltb-true i (length c) x
    go false x = absurd (omega (arith, command_none c i e (ltb-false i (length c) x)))

pub line_none : (k at : ℕ) (s : Bytes) → length s ≤ at → line_of k at (lines (drop at s)) ≡ record { at = 0; rest = []; mark = 0 }
unfolding line_of
line_none k at s h = rw (lines_end s at h)

-- the line at a place, that ends at e and its content at `to`
module _ (s : Bytes) (at e to : ℕ) (h : at < length s) (q : e ≡ at + line_size (drop at s)) (n : to ≡ at + content_size (take (e - at) (drop at s))) where
  pub content_in : (at ≤ to) × (to ≤ e) × (e ≤ length s)
  content_in =
      let i = line_in s at e h q in
      omega (arith, content_le (take (e - at) (drop at s)), part_length at e s i.1)

  pub content_here : take (to - at) (drop at s) ≡ content (take (e - at) (drop at s))
  unfolding content
  content_here =
      let i = content_in in
      let m : content_size (take (e - at) (drop at s)) ≡ to - at = omega arith in
      let l : to - at ≤ e - at = omega arith in
      rw m (sym (take-take (to - at) (e - at) (drop at s) l))

  pub line_hit : (k : ℕ) → command (take (to - at) (drop at s)) ≡ k → line_of k at (lines (drop at s)) ≡ stands at (take (e - at) (drop at s)) 0
  unfolding line_of
  line_hit k x =
      let y : command (content (take (e - at) (drop at s))) ≡ k = sym (ap command content_here) ∙ x in
      rw (cut_at s at e h q, eq-eqb (command (content (take (e - at) (drop at s)))) k y)

  pub line_more : (k : ℕ) → (command (take (to - at) (drop at s)) ≡ k → ⊥) → line_of k at (lines (drop at s)) ≡ line_of k e (lines (drop e s))
  unfolding line_of
  line_more k x =
      let i = content_in in
      let y : command (content (take (e - at) (drop at s))) ≡ k → ⊥ = λ z. x (ap command content_here ∙ z) in
      let m : at + length (take (e - at) (drop at s)) ≡ e = omega (arith, part_length at e s i.2) in
      rw (cut_at s at e h q, ne_eqb (command (content (take (e - at) (drop at s)))) k y, m)

  module _ (k i : ℕ) (b : k < 16) (x : command (take (to - at) (drop at s)) ≡ k) (y : i ≡ until semicolon (take (to - at) (drop at s))) where
    pub semicolon_in : at + i + 1 ≤ to
    semicolon_in =
        let j = content_in in
        omega (arith, command_in (take (to - at) (drop at s)) i k y x b, part_length at to s (omega arith))

    pub rest_here : take (to - (at + i + 1)) (drop (at + i + 1) s) ≡ rest (take (to - at) (drop at s))
    rest_here =
        let j = content_in in
        let l : length (take (to - at) (drop at s)) ≡ to - at = part_length at to s (omega arith) in
        let m : at + (i + 1) ≡ at + i + 1 = omega arith in
        let o : at + (to - at) ≡ to = omega arith in
        let z : part (record { from = i + 1; to = to - at }) (take (to - at) (drop at s)) ≡ part (moved at (record { from = i + 1; to = to - at })) s =
        part_moved (record { from = i + 1; to = to - at }) at (to - at) s (omega (arith, semicolon_in)) (omega arith) in
        sym (rw (m, o) at z) ∙ rw l at (part_rest (i + 1) (take (to - at) (drop at s))) ∙ rest_at (take (to - at) (drop at s)) i y

    pub found_here : line_of k at (lines (drop at s)) ≡ line_of k 0 (lines s) → Found k s (record { from = at + i + 1; to = to })
    unfolding stands
    found_here v =
        let j = content_in in
        let w : stands at (take (e - at) (drop at s)) 0 ≡ line_of k 0 (lines s) = sym (line_hit k x) ∙ v in
        let u : until semicolon (content (take (e - at) (drop at s))) ≡ i = sym (y ∙ ap (until semicolon) content_here) in
        record {
          order = semicolon_in;
          within = omega arith;
          at = sym (ap (λ (n : ℕ). at + n + 1) u) ∙ ap (λ (z : Standing). z.at) w;
          rest = rest_here ∙ ap rest content_here ∙ ap (λ (z : Standing). z.rest) w;
        }

-- a line that is found has a place behind its `;`, which is never 0
pub stands_place : (k at : ℕ) (ls : List Bytes) → stands_in k ls ≡ not (eqb (line_of k at ls).at 0)
unfolding stands_in line_of stands
stands_place k at [] = refl
stands_place k at (l ∷ ls) = by (eqb (command (content l)) k) (stands_place k (at + length l) ls)
  where
    by : (b : Bool) → stands_in k ls ≡ not (eqb (line_of k (at + length l) ls).at 0)
        → (b || stands_in k ls) ≡ not (eqb (pick b (stands at l 0) (line_of k (at + length l) ls)).at 0)
    by true r = rw (ne_eqb (at + until semicolon (content l) + 1) 0 (omega arith))
    by false r = r
