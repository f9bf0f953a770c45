use mathlib.Core.Path.{◌≡◌, ap, sym, ◌∙◌}
use native.Mathlib.Nat.{le_of_eq}
use Prim.Native.Nat.{◌-◌}
use lib.ListN.{length, take, drop, length-drop}
use lib.Seq.{take_all}
use Rattle.std.proofs.Common.{rules}
use Rattle.page.specs.Section.{content_step, step}
use Rattle.page.specs.declared.Phase.TheVariants as P
use Rattle.arrangement.specs.Orders.{held}
use Rattle.passing.proofs.PassLaws.{plain_shape, plain_step}
use Rattle.passing.proofs.passes_line.Goals as goal

pub returns-in-114 : goal.returns-in-114
unfolding step
returns-in-114 c =
    let a = c.args in
    let k = c.content_of in
    let w = take (length k.result.now - 4) (drop 4 k.result.now) in
    let y : w ≡ drop 4 k.result.now = take_all _ _ (le_of_eq (length-drop 4 k.result.now)) in
    let x = plain_shape k.result.now w y (search rules, search rules, search rules, search rules, search rules) in
    λ e n.
    ap (content_step a.latin (P.Rows a.t a.m n) (held a.t a.o.now)) (sym k.ensures ∙ x)
    ∙ plain_step w a.latin a.t (held a.t a.o.now) a.m n (sym c.passes.ensures ∙ e)

pub returns-in_default : goal.returns-in_default
unfolding step
returns-in_default c =
    let a = c.args in
    λ e n. ap (content_step a.latin (P.Rows a.t a.m n) (held a.t a.o.now)) (sym c.content_of.ensures) ∙ c.passes_other.ensures e n
