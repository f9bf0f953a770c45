use mathlib.Core.Path.{sym, ◌∙◌}
use native.Mathlib.Omega.{arith}
use Rattle.page.specs.Fields.{text_of}
use Rattle.page.proofs.TextLaws.{text_long}
use Rattle.quoted.proofs.SizeLaws.{size_some, empty_kept, empty_not}
use Rattle.quoted.proofs.texts.is_empty_text.Goals as goal

pub slice_bounds-kept-count : goal.slice_bounds-kept-count
slice_bounds-kept-count c =
    let f = c.args.f.now in
    omega (arith, text_long f _ (size_some (text_of f) _ (sym c.text_size.ensures ∙ c.in-Some.is)))

pub returns-in-Some : goal.returns-in-Some
returns-in-Some c =
    let f = c.args.f.now in
    rw c.kept.ensures (empty_kept f _ (sym c.text_size.ensures ∙ c.in-Some.is))

pub returns-in-None : goal.returns-in-None
returns-in-None c =
    let f = c.args.f.now in
    empty_not f (sym c.text_size.ensures ∙ c.in-None.is)
