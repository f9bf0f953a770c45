use mathlib.Core.Path.{◌≡◌, refl, sym, ◌∙◌}
use mathlib.Core.Bool.{Bool, true, false}
use Prim.Native.Nat.{◌≤◌}
use mir.Val.{bool_byte}
use native.Mathlib.Omega.{arith}
use borrow.Author.Count.{below_more}
use lib.ListN.{get_or, length-set}
use lib.Seq.{get_or-set_same, get_or-set_other}
use Rattle.page.specs.Bytes.{pick}
use Rattle.choices.proofs.ChoiceLaws.{rank_first, rank_step}
use Rattle.choices.proofs.rank_columns.Goals as goal

counted : (b : Bool) → (bool_byte b ≡ pick b 1 0) × (bool_byte b ≤ 1)
counted true = (refl, omega arith)
counted false = (refl, omega arith)

pub loop-c-init : goal.loop-c-init
loop-c-init c = (omega arith, refl, sym (rank_first c.args.taken), λ k h. absurd (omega arith))

pub loop-c-preserved : goal.loop-c-preserved
loop-c-preserved c =
    let l = c.loop-c in
    let s = rank_step c.args.taken l.c in
    let b = counted (get_or c.args.taken l.c false) in
    let i = l.invariant in (
      omega arith,
      length-set l.ranks l.c l.n ∙ i.1,
      omega arith,
      below_more _ _ (λ k h. get_or-set_other l.ranks l.c k l.n 0 (λ e. omega arith) ∙ i.3 k h)
          (get_or-set_same l.ranks l.c l.n 0 (omega arith) ∙ i.2),
    )

pub returns : goal.returns
returns c = λ k h. c.loop-c.invariant.3 k (omega arith)
