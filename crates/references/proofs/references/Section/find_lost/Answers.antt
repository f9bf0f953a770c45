use mathlib.Core.Path.{refl, sym, ◌∙◌}
use native.Mathlib.Omega.{arith}
use Rattle.page.specs.Lines.{lines}
use Rattle.scans.proofs.ScanLaws.{starts_first, starts_next, line_more, line_hit, line_end}
use Rattle.aims.specs.Aims.{lacks_any}
use Rattle.references.proofs.RecentLaws.{not_false, not_true}
use Rattle.references.proofs.references.Section.find_lost.Goals as goal

pub loop-i-init : goal.loop-i-init
unfolding lines
loop-i-init c =
    let e = c.into_iter-i-iterator.ensures.into_iter_gives in
    let r = c.enumerate-i-items.ensures in
    rw (e, r.count, r.source, c.lines_of.ensures.bytes, c.lines_of.ensures.at) (refl, omega arith, starts_first _, refl, tt)

pub returns-in_default : goal.returns-in_default
returns-in_default c =
    let a = c.args.self.now in
    let v = c.loop-i.invariant in
    let g = c.in-Some.ensures.steps in
    let t = rw v.0 at g.0.1 in
    let b = rw t.bytes at (not_false _ c.in_default.ensures.found) in
    (omega arith, rw g.1 (sym v.3 ∙ line_hit _ _ _ t.before t.size (lacks_any a.aims a.table) c.loop-i.i-iterator.count b))

pub loop-i-preserved : goal.loop-i-preserved
loop-i-preserved c =
    let a = c.args.self.now in
    let v = c.loop-i.invariant in
    let g = c.in-Some.ensures.steps in
    let t = rw v.0 at g.0.1 in
    let b = rw t.bytes at (not_true _ c.in-Some-read_line.ensures.found) in
    rw g.2 (
      g.0.0 ∙ v.0,
      omega (arith, v.1, t.some),
      starts_next _ _ _ t.before t.size v.2,
      sym (line_more _ _ _ t.before t.size v.2 (lacks_any a.aims a.table) c.loop-i.i-iterator.count b) ∙ v.3,
      c.in-Some-read_line.ensures.recent,
    )

pub returns : goal.returns
returns c =
    let a = c.args.self.now in
    let v = c.loop-i.invariant in
    let e = rw v.0 at c.in-None.ensures.steps.0.2 in
    sym v.3 ∙ line_end _ _ (lacks_any a.aims a.table) _ c.loop-i.i-iterator.count e
