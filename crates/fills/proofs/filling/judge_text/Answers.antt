use mathlib.Core.Path.{sym, ◌∙◌}
use borrow.Author.Tests.{lt-ltb, le-ltb, eq-eqb, ne_eqb, not-true, not-false}
use Rattle.fills.specs.Filling.{text_number}
use Rattle.fills.proofs.filling.judge_text.Goals as goal

pub returns-then-text-eq0 : goal.returns-then-text-eq0
unfolding text_number
returns-then-text-eq0 c = rw (eq-eqb _ 0 c.if-text-eq0.true)

pub returns-then-not-all_allowed : goal.returns-then-not-all_allowed
unfolding text_number
returns-then-not-all_allowed c = rw (ne_eqb _ 0 c.if-text-eq0.false, sym c.read_charset-latin.ensures, sym c.all_allowed.ensures ∙ not-true _ c.if-not-all_allowed.true-raw)

pub returns-then-text-gt40 : goal.returns-then-text-gt40
unfolding text_number
returns-then-text-gt40 c = rw (ne_eqb _ 0 c.if-text-eq0.false, sym c.read_charset-latin.ensures, sym c.all_allowed.ensures ∙ not-false _ c.if-not-all_allowed.false-raw, lt-ltb _ _ c.if-text-gt40.true)

pub returns : goal.returns
unfolding text_number
returns c = rw (ne_eqb _ 0 c.if-text-eq0.false, sym c.read_charset-latin.ensures, sym c.all_allowed.ensures ∙ not-false _ c.if-not-all_allowed.false-raw, le-ltb _ _ c.if-text-gt40.false)
