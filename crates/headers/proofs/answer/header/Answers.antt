use mathlib.Core.Path.{ap, sym, ◌∙◌}
use borrow.Author.Tests.{eq-eqb, ne_eqb}
use Rattle.page.specs.declared.Refusal.{Refusal}
use Rattle.page.specs.Answers.{answered}
use Rattle.page.specs.Reading.{header_of}
use Rattle.page.proofs.LimitLaws.{header_short}
use Rattle.headers.proofs.answer.header.Goals as goal

pub returns-then-r-ne0 : goal.returns-then-r-ne0
unfolding header_of answered
returns-then-r-ne0 c =
    rw (sym c.refuse_header-r.ensures, ne_eqb c.refuse_header-r.result.number 0 c.if-r-ne0.true)

pub read_values-requires : goal.read_values-requires
read_values-requires c =
    header_short c.args.file.now (sym (ap (λ (x : Refusal). x.number) c.refuse_header-r.ensures) ∙ c.if-r-ne0.false)

pub returns : goal.returns
unfolding header_of answered
returns c =
    rw (sym c.refuse_header-r.ensures, eq-eqb c.refuse_header-r.result.number 0 c.if-r-ne0.false, c.read_values.ensures)
