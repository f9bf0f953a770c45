use Rattle.std.proofs.Common.{◌∙◌, None, Some}
use Rattle.commands.proofs.IterLaws.{nth_text}
use Rattle.commands.proofs.fields.field_at.Goals as goal

pub returns-in-Some : goal.returns-in-Some
returns-in-Some c =
    c.trimmed.ensures
    ∙ nth_text c.fields_of.result c.args.w.now c.fields_of.ensures.bytes c.fields_of.ensures.at c.args.k c.nth.new.self (Some c.in-Some.field) c.in-Some.ensures.ran

pub returns-in-None : goal.returns-in-None
returns-in-None c =
    nth_text c.fields_of.result c.args.w.now c.fields_of.ensures.bytes c.fields_of.ensures.at c.args.k c.nth.new.self None c.in-None.ensures.ran
