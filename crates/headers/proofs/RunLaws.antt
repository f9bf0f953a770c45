-- A header's lines, one after the other. Assumes nothing.
use Rattle.std.specs.Prelude.{None, Option, Some}
use mathlib.Core.Path.{◌≡◌, sym, ◌∙◌}
use Prim.Native.Nat.{ℕ, ◌+◌, ◌-◌, ◌<◌, ◌≤◌}
use native.Mathlib.Numerals.{add-one}
use lib.ListN.{length, take, drop}
use Rattle.page.specs.Bytes.{Bytes}
use Rattle.page.specs.Lines.{lines, content}
use Rattle.page.specs.Header.{head_step, head_continue, head_end, head_run}
use Rattle.page.specs.declared.Met.{Met}
use Rattle.page.proofs.LineLaws.{line_size, cut_at, lines_end}

-- the line at a place, that ends at e, leads to r
module _ (s : Bytes) (at e : ℕ) (h : at < length s) (q : e ≡ at + line_size (drop at s)) (m : Met) (n : ℕ) (r : Option Met)
    (x : r ≡ head_step m (content (take (e - at) (drop at s)))) where
  pub turn_go : (p : Met) → r ≡ Some p → head_run m n (lines (drop at s)) ≡ head_run p (n + 1) (lines (drop e s))
  unfolding head_run head_continue
  turn_go p g = rw (cut_at s at e h q, sym x ∙ g, add-one)

  pub turn_stop : r ≡ None → head_run m n (lines (drop at s)) ≡ record { verdict = 2; line = n + 1 }
  unfolding head_run head_continue
  turn_stop g = rw (cut_at s at e h q, sym x ∙ g, add-one)

pub run_end : (s : Bytes) (at : ℕ) (m : Met) (n : ℕ) → length s ≤ at → head_run m n (lines (drop at s)) ≡ head_end m n
unfolding head_run
run_end s at m n h = rw (lines_end s at h)
