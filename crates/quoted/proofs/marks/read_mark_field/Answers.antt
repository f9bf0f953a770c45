use mathlib.Core.Path.{sym, ◌∙◌}
use native.Mathlib.Omega.{arith}
use Rattle.page.specs.Fields.{text_of}
use Rattle.page.proofs.TextLaws.{text_long}
use Rattle.page.proofs.MarkLaws.{mark_between}
use Rattle.quoted.proofs.SizeLaws.{size_some, size_none}
use Rattle.quoted.proofs.marks.read_mark_field.Goals as goal

pub overflow_sub-f : goal.overflow_sub-f
overflow_sub-f c =
    let f = c.args.f.now in
    omega (arith, text_long f _ (size_some (text_of f) _ (sym c.text_size.ensures ∙ c.in-Some.is)))

pub slice_bounds-read_mark_text-count : goal.slice_bounds-read_mark_text-count
slice_bounds-read_mark_text-count c =
    let f = c.args.f.now in
    omega (arith, text_long f _ (size_some (text_of f) _ (sym c.text_size.ensures ∙ c.in-Some.is)))

pub slice_bounds-read_mark_text-start : goal.slice_bounds-read_mark_text-start
slice_bounds-read_mark_text-start c =
    let f = c.args.f.now in
    omega (arith, text_long f _ (size_some (text_of f) _ (sym c.text_size.ensures ∙ c.in-Some.is)))

pub returns-in-Some : goal.returns-in-Some
returns-in-Some c =
    let f = c.args.f.now in
    c.read_mark_text.ensures ∙ sym (mark_between f _ (size_some (text_of f) _ (sym c.text_size.ensures ∙ c.in-Some.is)))

pub returns-in-None : goal.returns-in-None
returns-in-None c =
    let f = c.args.f.now in
    rw (size_none (text_of f) (sym c.text_size.ensures ∙ c.in-None.is))
