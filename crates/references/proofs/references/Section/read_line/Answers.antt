use Rattle.std.specs.Prelude.{is_some}
use mathlib.Core.Bool.{true, false, not}
use mathlib.Core.Path.{◌≡◌, refl, ap, sym, ◌∙◌}
use Prim.Native.Nat.{◌-◌}
use borrow.Author.Rules.{rules}
use borrow.Author.Tests.{eqb-true, eqb-false}
use lib.Dec.{eqb}
use Rattle.page.specs.Lines.{content, command}
use native.Mathlib.Omega.{arith}
use Rattle.scans.proofs.ScanLaws.{some_hit, some_more, some_end}
use Rattle.aims.proofs.AimLaws.{lacks_is, lacks_other, lacks_record}
use Rattle.references.proofs.RecentLaws.{first_met}
use Rattle.references.proofs.references.Section.read_line.Goals as goal
use Rattle.references.proofs.references.Section.read_line.Goals.{then-r-eq0, else-r-eq0}

pub returns-then-not-is_record : goal.returns-then-not-is_record
returns-then-not-is_record c =
    let r : eqb (command (content c.args.line.bytes.now)) 11 ≡ false = search rules in
    record { found = rw (lacks_other _ _ _ _ _ refl refl (eqb-false _ 11 r)); recent = c.requires }

pub loop-r-init : goal.loop-r-init
loop-r-init c =
    let n : c.count_references-n.result - 0 ≡ c.count_references-n.result = omega arith in
    (rw n, c.requires)

pub returns-in_err-known-clause-found : goal.returns-in_err-known-clause-found
returns-in_err-known-clause-found c =
    let z = lacks_is c.args.self.now.aims c.args.self.now.table _ c.loop-r.r c.aim.result c.aim.ensures _ c.read_chosen-key.ensures _ true c.in_err-known.ensures refl in
    let h = some_hit _ c.loop-r.r c.count_references-n.result (omega arith) z in
    let r : eqb (command (content c.args.line.bytes.now)) 11 ≡ true = search rules in
    let k = ap command c.content_of.ensures ∙ eqb-true _ 11 r in
    let e = lacks_record _ c.args.self.now.table _ _ _ c.content_of.ensures refl k _ c.rest_of-f.ensures _ c.count_references-n.ensures in
    let n : is_some c.from_residual.result ≡ false = search rules in
    n ∙ sym (ap not (e ∙ sym c.loop-r.invariant.0 ∙ h))

pub loop-r-preserved : goal.loop-r-preserved
loop-r-preserved c =
    let z = lacks_is c.args.self.now.aims c.args.self.now.table _ c.loop-r.r c.aim.result c.aim.ensures _ c.read_chosen-key.ensures _ false c.in_ok-known.ensures refl in
    let m = some_more _ c.loop-r.r c.count_references-n.result (omega arith) z in (
      sym m ∙ c.loop-r.invariant.0,
      elim c.if-r-eq0.branch [
        | then-r-eq0 w ↦ rw w.recent-is (first_met c.args.self.now.aims c.loop-r.r w.if-r-eq0.true _ c.in_ok-known.ensures)
        | else-r-eq0 w ↦ rw w.recent-is c.loop-r.invariant.1
      ],
    )

pub returns-clause-found : goal.returns-clause-found
returns-clause-found c =
    let h = some_end _ c.loop-r.r c.count_references-n.result (omega arith) in
    let r : eqb (command (content c.args.line.bytes.now)) 11 ≡ true = search rules in
    let k = ap command c.content_of.ensures ∙ eqb-true _ 11 r in
    let e = lacks_record _ c.args.self.now.table _ _ _ c.content_of.ensures refl k _ c.rest_of-f.ensures _ c.count_references-n.ensures in
    sym (ap not (e ∙ sym c.loop-r.invariant.0 ∙ h))
