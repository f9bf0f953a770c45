use Rattle.page.specs.Handing.{cell_of}
use Rattle.cells.proofs.put_value.Goals as goal

pub returns-in-Number : goal.returns-in-Number
unfolding cell_of
returns-in-Number c = rw c.in-Number.is c.put_three.ensures

pub returns-in-Missing : goal.returns-in-Missing
unfolding cell_of
returns-in-Missing c = rw c.in-Missing.is c.put_three-in-Missing.ensures

pub returns-in-Words : goal.returns-in-Words
unfolding cell_of
returns-in-Words c = rw c.in-Words.is (rw c.number_owner.ensures at c.put_three-in-Words.ensures)
