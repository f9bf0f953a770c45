use mathlib.Core.Path.{sym}
use borrow.Author.Tests.{lt-ltb, le-ltb, eq-eqb, ne_eqb}
use Rattle.page.specs.Tables.{TABLES}
use Rattle.page.specs.Section.{tbl_step, choose}
use Rattle.machine.proofs.machine.step_tbl.Goals as goal

pub returns-then-count_fields-ne1 : goal.returns-then-count_fields-ne1
unfolding tbl_step choose
returns-then-count_fields-ne1 c =
    rw (sym c.count_fields.ensures, ne_eqb c.count_fields.result 1 c.if-count_fields-ne1.true)

pub returns-then-t-lt-TABLES : goal.returns-then-t-lt-TABLES
unfolding tbl_step choose
returns-then-t-lt-TABLES c =
    rw (sym c.count_fields.ensures, eq-eqb c.count_fields.result 1 c.if-count_fields-ne1.false, sym c.field_at.ensures, sym c.find_table-t.ensures, lt-ltb c.find_table-t.result TABLES c.if-t-lt-TABLES.true)

pub returns-else-t-lt-TABLES : goal.returns-else-t-lt-TABLES
unfolding tbl_step choose
returns-else-t-lt-TABLES c =
    rw (sym c.count_fields.ensures, eq-eqb c.count_fields.result 1 c.if-count_fields-ne1.false, sym c.field_at.ensures, sym c.find_table-t.ensures, le-ltb c.find_table-t.result TABLES c.if-t-lt-TABLES.false)
