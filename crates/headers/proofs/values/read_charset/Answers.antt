use mathlib.Core.Path.{ap, sym, ◌∙◌}
use lib.Seq.{length-take-le}
use Rattle.page.specs.Head.{latin_in, latin_of}
use Rattle.headers.proofs.values.read_charset.Goals as goal

pub slice_bounds-charset_in-end : goal.slice_bounds-charset_in-end
slice_bounds-charset_in-end c =
    sym (length-take-le c.header_size-e.result c.args.s.now c.header_size-e.ensures.1)

pub returns : goal.returns
unfolding latin_of
returns c =
    c.charset_in.ensures ∙ ap latin_in c.header_size-e.ensures.2
