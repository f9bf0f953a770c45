use mathlib.Core.Path.{ap, sym, ◌∙◌}
use Prim.Native.Nat.{ℕ, ◌-◌}
use native.Mathlib.Omega.{arith}
use lib.ListN.{get_or}
use Rattle.keys.specs.Numbers.{packed}
use Rattle.keys.proofs.StoreLaws.{packed_second, packed_first, packed_end, push_some}
use Rattle.keys.proofs.read.pack_own.Goals as goal
use Rattle.keys.proofs.read.pack_own.Goals.{then-met, else-met}

pub loop-b-preserved : goal.loop-b-preserved
loop-b-preserved c =
    let l = c.loop-b in
    let raw = c.args.raw.now in
    elim c.if-met.branch [
      | then-met w ↦ rw (w.met-is, w.n-is) (l.invariant.0, sym (packed_second l.n l.met raw l.b-index (omega arith) w.if-met.true) ∙ l.invariant.1)
      | else-met w ↦ rw (w.met-is, w.n-is, w.put_byte-n.ensures) (
        push_some l.n (get_or raw l.b-index 0) l.invariant.0,
        sym (packed_first l.n l.met raw l.b-index (omega arith) w.if-met.false) ∙ l.invariant.1,
      )
    ]

pub returns : goal.returns
unfolding packed
returns c =
    let l = c.loop-b in
    ap (λ (n : ℕ). n - 1) (sym (packed_end l.n l.met c.args.raw.now l.b-index (omega arith)) ∙ l.invariant.1)
