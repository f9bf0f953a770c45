use native.Mathlib.Nat.{add-zero}
use native.Mathlib.Omega.{arith}
use Rattle.machine.specs.Carries.{records_in, Carries}
use Rattle.sections.proofs.RunLaws.{rows_stand, rows_count, rows_run}
use Rattle.sections.proofs.records.skip_records.Goals as goal

pub pass_records-r-requires : goal.pass_records-r-requires
pass_records-r-requires c =
    let q = c.requires in
    (q.0, rows_stand _ _ _ _ _ c.in-Rows.is q.2)

pub overflow_add-result : goal.overflow_add-result
overflow_add-result c =
    let x = c.pass_records-r.ensures in
    omega (arith, c.requires.1, rows_count _ _ _ _ c.args.o.now c.in-Rows.is, x.0, x.1, c.well_formed.0.1)

pub returns-in-Rows : goal.returns-in-Rows
unfolding records_in Carries
returns-in-Rows c =
    let a = c.args in
    let r = c.pass_records-r in (
      r.ensures.0,
      r.ensures.1,
      omega (arith, rows_count _ _ _ _ a.o.now c.in-Rows.is),
      rows_stand _ _ _ _ a.o.now c.in-Rows.is c.requires.2,
      rows_run _ _ _ _ a.o.now c.in-Rows.is a.latin a.s.now a.at r.result.at r.result.mark r.result.count r.ensures.2,
    )

pub returns : goal.returns
returns c =
    let q = c.requires in
    (omega arith, q.0, omega arith, q.2, λ n. rw (add-zero n))
