use mathlib.Core.Logic.{⊎_elim}
use Rattle.page.specs.Section.{table_in}
use Rattle.sections.proofs.reading.table_in.Goals as goal

pub returns-in-Tbl : goal.returns-in-Tbl
unfolding table_in
returns-in-Tbl c = rw c.in-Tbl.is

pub returns-in-Atr : goal.returns-in-Atr
unfolding table_in
returns-in-Atr c =
    rw c.find_number.ensures
    (⊎_elim (λ e. rw e) (⊎_elim (λ e. rw e) (⊎_elim (λ x. rw x.2) (λ x. rw x.1))) c.in-Atr.is)
