use Rattle.std.proofs.Common.{ap, sym, ◌∙◌}
use lib.ListN.{get_or}
use borrow.Author.Tests.{eqb-true}
use Rattle.page.proofs.PartLaws.{part_rest}
use Rattle.copies.specs.Parts.{stands}
use Rattle.copies.proofs.StandLaws.{spaced_of, spaced_nothing}
use Rattle.copies.proofs.standing.is_spaced.Goals as goal

pub returns-then-g-eq1 : goal.returns-then-g-eq1
returns-then-g-eq1 c = let g = c.args.g.now in λ e. spaced_nothing g c.if-g-eq1.true (eqb-true (get_or g 0 0) 32 e)

pub returns : goal.returns
returns c =
    let g = c.args.g.now in
    λ e. spaced_of g c.if-g-lt2.false c.if-g-ne32.false c.if-g-eq32.false c.if-g-last-eq32.false
    (ap stands (sym (part_rest 1 g)) ∙ sym c.is_written.ensures ∙ e)
