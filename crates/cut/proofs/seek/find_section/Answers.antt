use Rattle.std.proofs.Common.{◌≡◌, ◌∙◌, sym, length, arith, rules}
use Rattle.cut.proofs.WalkLaws.{sections_other, next_stop, next_more, next_end, settled_zero}
use Rattle.cut.proofs.seek.find_section.Goals as goal

pub returns-then-begins_table : goal.returns-then-begins_table
returns-then-begins_table c =
    let s = c.args.s.now in
    let l = c.loop-line in
    let t = rw l.invariant.0 at c.in-Some.ensures.steps.1 in
    let z = next_stop s _ _ t.before t.size (rw t.bytes at (sym c.begins_table.ensures ∙ c.if-begins_table.true)) in
    rw t.at (record { is = omega (arith, settled_zero s _ z); after = omega arith; within = omega arith; settled = z; same = l.invariant.4 })

pub loop-line-preserved : goal.loop-line-preserved
loop-line-preserved c =
    let s = c.args.s.now in
    let l = c.loop-line in
    let t = rw l.invariant.0 at c.in-Some.ensures.steps.1 in
    let b = rw t.bytes at (sym c.begins_table.ensures ∙ c.if-begins_table.false) in (
      search rules,
      omega arith,
      t.within,
      omega (arith, next_more s _ _ t.before t.size b),
      sym (sections_other s _ _ t.before t.size b) ∙ l.invariant.4,
    )

pub returns : goal.returns
returns c =
    let s = c.args.s.now in
    let l = c.loop-line in
    let o = rw l.invariant.0 at c.in-None.ensures.steps.2 in
    let n : l.line-iterator.at ≡ length s = omega arith in
    let z = next_end s _ o in
    rw (sym n) (record { is = omega (arith, settled_zero s _ z); after = omega arith; within = omega arith; settled = z; same = l.invariant.4 })
