use mathlib.Core.Path.{ap, ◌∙◌}
use Rattle.page.specs.Bytes.{Bytes}
use Rattle.page.specs.Fields.{text_of}
use Rattle.page.specs.Marks.{mark_in, remark_of}
use Rattle.quoted.proofs.marks.read_remark.Goals as goal

pub returns : goal.returns
unfolding remark_of
returns c = c.read_mark_field.ensures ∙ ap (λ (f : Bytes). mark_in (text_of f)) c.trimmed.ensures
