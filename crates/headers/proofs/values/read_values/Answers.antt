use mathlib.Core.Path.{ap, sym, ◌∙◌}
use native.Mathlib.Omega.{arith}
use lib.Seq.{length-take-le}
use Rattle.page.specs.Head.{header_values}
use Rattle.headers.proofs.values.read_values.Goals as goal

pub slice_bounds-values_in-end : goal.slice_bounds-values_in-end
slice_bounds-values_in-end c =
    sym (length-take-le c.header_size-e.result c.args.s.now c.header_size-e.ensures.1)

pub values_in-requires : goal.values_in-requires
values_in-requires c =
    omega (arith, length-take-le c.header_size-e.result c.args.s.now c.header_size-e.ensures.1)

pub returns : goal.returns
returns c =
    c.values_in.ensures ∙ ap header_values c.header_size-e.ensures.2
