use mathlib.Core.Path.{ap, sym, ◌∙◌}
use lib.Seq.{length-take-le}
use Rattle.page.specs.Header.{head_of}
use Rattle.headers.proofs.steps.read_header.Goals as goal

pub slice_bounds-read_lines-end : goal.slice_bounds-read_lines-end
slice_bounds-read_lines-end c =
    sym (length-take-le c.header_size-e.result c.args.s.now c.header_size-e.ensures.1)

pub returns : goal.returns
returns c =
    c.read_lines.ensures ∙ ap head_of c.header_size-e.ensures.2
