-- What the cursor hands back, in the words of the loops that move it. Assumes nothing.
use mathlib.Core.Path.{◌≡◌, refl, sym, ◌∙◌}
use Prim.Native.Nat.{ℕ, ◌+◌, ◌-◌, ◌<◌, ◌≤◌}
use native.Mathlib.Nat.{add-zero, le_refl}
use borrow.Author.Tests.{lt-ltb, le-ltb}
use lib.ListN.{length, take, drop}
use mathlib.Core.List.{◌∷◌}
use Rattle.page.specs.Bytes.{Bytes}
use Rattle.page.specs.Lines.{lines}
use Rattle.page.proofs.LineLaws.{line_size, size_end, line_in, cut_at}
use Rattle.lines.specs.declared.cursor.Walked.{Walked}
use Rattle.lines.specs.Lines.{line_at, line_to}

pub line_here : (s : Bytes) (at e : ℕ) → at < length s → e ≡ at + line_size (drop at s) → line_to at e ≡ line_at s at
unfolding line_at
line_here s at e h q = rw (lt-ltb at (length s) h, q)

pub line_none : (s : Bytes) (at : ℕ) → length s ≤ at → line_to (length s) (length s) ≡ line_at s at
unfolding line_at
line_none s at h = rw (le-ltb at (length s) h, size_end s (length s) (le_refl (length s)), add-zero)

-- the line at a place before the end
pub record Handed (s : Bytes) (at : ℕ) (r : Walked) : Type 0 where
  pub from : r.span.from ≡ at
  pub next : r.next.at ≡ r.span.to
  pub some : at < r.span.to
  pub within : r.span.to ≤ length s
  pub size : r.span.to ≡ at + line_size (drop at s)
  pub cut : lines (drop at s) ≡ take (r.span.to - at) (drop at s) ∷ lines (drop r.span.to s)

pub handed : (s : Bytes) (at : ℕ) (r : Walked) → at < length s → r ≡ line_at s at → Handed s at r
handed s at r h q =
    let e = at + line_size (drop at s) in
    let x : r ≡ line_to at e = q ∙ sym (line_here s at e h refl) in
    let i = line_in s at e h refl in
    rw x (record { from = refl; next = refl; some = i.0; within = i.1; size = refl; cut = cut_at s at e h refl })
