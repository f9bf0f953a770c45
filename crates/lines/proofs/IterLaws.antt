-- The lines that the iterator has still to hand out. Assumes nothing.
use Rattle.std.proofs.Common.{◌≡◌, ℕ, List, ap, ap₂, subst, length, drop}
use Rattle.std.proofs.lemmas.Iterator.{YieldsList}
use Rattle.std.proofs.lemmas.Iterator.Consumers.{YieldsList-from_shown}
use Rattle.page.specs.Bytes.{Bytes}
use Rattle.page.specs.Lines.{lines}
use Rattle.page.proofs.LineLaws.{lines_end}
use Rattle.lines.specs.declared.iter.Line.{Line}
use Rattle.lines.specs.declared.iter.Lines.{Lines}
use Rattle.lines.specs.Lines.{GivesLine}

abbrev pub line_bytes : Line → Bytes
line_bytes l = l.bytes.now

left : Lines → List Bytes
left x = lines (drop x.at x.bytes.now)

-- it yields the lines of s from a place on
pub yields_lines : (x : Lines) (s : Bytes) (at : ℕ) → x.bytes.now ≡ s → x.at ≡ at → YieldsList GivesLine line_bytes x (lines (drop at s))
unfolding left
yields_lines x s at b p =
    subst (YieldsList GivesLine line_bytes x) (ap₂ (λ n w. lines (drop n w)) p b)
    (YieldsList-from_shown GivesLine line_bytes left (λ x y h. ap length (lines_end x.bytes.now x.at h.2)) (λ x l y h. rw h.0 h.1.cut) x)
