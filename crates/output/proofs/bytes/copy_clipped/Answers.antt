use Rattle.std.proofs.Common.{[], ◌∷◌, get_or, sym, arith, refl}
use native.Mathlib.Nat.{add-zero}
use Rattle.output.proofs.PutLaws.{begin, next_by, first_of, same, sets_past}
use Rattle.output.proofs.OutputLaws.{sets_fit}
use Rattle.output.proofs.bytes.copy_clipped.Goals as goal

pub loop-i-init : goal.loop-i-init
loop-i-init c = rw (add-zero c.args.at) begin

pub bounds-room-at : goal.bounds-room-at
bounds-room-at c = omega (arith, same c.loop-i.invariant)

pub loop-i-preserved : goal.loop-i-preserved
loop-i-preserved c =
    next_by {a = get_or c.args.s.now c.loop-i.i 0 ∷ []} (first_of c.args.s.now c.loop-i.i (omega arith)) c.loop-i.invariant
    (record { is = refl; next = omega arith })

pub returns-after-loop-i : goal.returns-after-loop-i
returns-after-loop-i c = sets_fit c.args.room.now c.args.s.now _ c.args.at c.loop-i.i c.if-at-room.true (omega arith) c.loop-i.invariant

pub returns-else-at-room : goal.returns-else-at-room
returns-else-at-room c = sym (sets_past c.args.room.now c.args.at c.args.s.now c.if-at-room.false)
