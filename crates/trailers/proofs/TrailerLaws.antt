-- A trailer's lines, one after the other. Assumes nothing.
use mathlib.Core.Path.{◌≡◌}
use mathlib.Core.Bool.{true, false}
use Prim.Native.Nat.{ℕ, ◌+◌, ◌-◌, ◌<◌, ◌≤◌}
use native.Mathlib.Numerals.{add-one}
use lib.ListN.{length, take, drop}
use Rattle.page.specs.Bytes.{Bytes}
use Rattle.page.specs.Lines.{lines, content, blank}
use Rattle.page.specs.Trailer.{eof_ok, all_blank, trailer_finding}
use Rattle.page.proofs.LineLaws.{line_size, cut_at, lines_end}

module _ (s : Bytes) (at e n : ℕ) (h : at < length s) (q : e ≡ at + line_size (drop at s)) where
  pub blank_more : blank (content (take (e - at) (drop at s))) ≡ true → all_blank n (lines (drop at s)) ≡ all_blank (n + 1) (lines (drop e s))
  unfolding all_blank
  blank_more b = rw (cut_at s at e h q, b, add-one)

  pub blank_stop : blank (content (take (e - at) (drop at s))) ≡ false → all_blank n (lines (drop at s)) ≡ record { verdict = 3; line = n + 1 }
  unfolding all_blank
  blank_stop b = rw (cut_at s at e h q, b, add-one)

  pub trailer_more : eof_ok n (content (take (e - at) (drop at s))) ≡ true → trailer_finding n (lines (drop at s)) ≡ all_blank 1 (lines (drop e s))
  unfolding trailer_finding
  trailer_more b = rw (cut_at s at e h q, b)

  pub trailer_stop : eof_ok n (content (take (e - at) (drop at s))) ≡ false → trailer_finding n (lines (drop at s)) ≡ record { verdict = 3; line = 1 }
  unfolding trailer_finding
  trailer_stop b = rw (cut_at s at e h q, b)

module _ (s : Bytes) (at n : ℕ) (h : length s ≤ at) where
  pub blank_end : all_blank n (lines (drop at s)) ≡ record { verdict = 0; line = 0 }
  unfolding all_blank
  blank_end = rw (lines_end s at h)

  pub trailer_none : trailer_finding n (lines (drop at s)) ≡ record { verdict = 3; line = 0 }
  unfolding trailer_finding
  trailer_none = rw (lines_end s at h)
