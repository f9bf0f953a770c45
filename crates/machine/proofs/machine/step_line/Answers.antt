use mathlib.Core.Path.{sym}
use Rattle.page.specs.Section.{line_step, atr_step, choose}
use Rattle.commands.specs.declared.command.Command.TheVariants.{Tbl, Atr, Frm}
use Rattle.commands.proofs.CodeLaws.{apart}
use Rattle.machine.specs.Carries.{records_in, order_at, Carries, Found}
use Rattle.machine.proofs.machine.step_line.Goals as goal

pub step_frm-requires : goal.step_frm-requires
unfolding Carries
step_frm-requires c = let x = rw c.in-Frm-Frm.is-0 at c.requires.0 in x.orderly

pub step_rows-requires : goal.step_rows-requires
unfolding records_in Carries
step_rows-requires c =
    let x = rw c.in-Rows-default.is-0 at c.requires.0 in
    let y = rw c.in-Rows-default.is-0 at c.requires.1 in
    (x, y)

pub returns-in-Tbl-Tbl : goal.returns-in-Tbl-Tbl
unfolding line_step choose
returns-in-Tbl-Tbl c = rw (c.in-Tbl-Tbl.is-0, c.in-Tbl-Tbl.is-1) c.step_tbl.ensures

pub returns-in-Atr-Atr : goal.returns-in-Atr-Atr
unfolding line_step atr_step choose Found
returns-in-Atr-Atr c =
    let f = rw c.in-Atr-Atr.is-0 at c.requires.2 in
    rw (c.in-Atr-Atr.is-0, c.in-Atr-Atr.is-1, sym f) c.step_atr.ensures

pub returns-in-Frm-Frm : goal.returns-in-Frm-Frm
unfolding line_step order_at choose
returns-in-Frm-Frm c = rw (c.in-Frm-Frm.is-0, c.in-Frm-Frm.is-1) c.step_frm.ensures

pub returns-in-Rows-default : goal.returns-in-Rows-default
unfolding order_at
returns-in-Rows-default c = rw c.in-Rows-default.is-0 c.step_rows.ensures

pub returns-in_default : goal.returns-in_default
unfolding line_step choose
returns-in_default c = rw (c.in_default.is-0, apart c.args.k Tbl c.in_default.not-Tbl-1)

pub returns-in_default-2 : goal.returns-in_default-2
unfolding line_step choose
returns-in_default-2 c = rw (c.in_default.is-0, apart c.args.k Atr c.in_default.not-Atr-1)

pub returns-in_default-3 : goal.returns-in_default-3
unfolding line_step choose
returns-in_default-3 c = rw (c.in_default.is-0, apart c.args.k Frm c.in_default.not-Frm-1)

pub returns-in_default-4 : goal.returns-in_default-4
unfolding line_step choose
returns-in_default-4 c = rw c.in_default.is-0
