use Rattle.std.proofs.Common.{◌∙◌, inl, inr, ap, sym}
use Rattle.page.specs.Marks.{remark_of}
use Rattle.commands.specs.declared.command.Command.TheVariants.{Com}
use Rattle.commands.proofs.CodeLaws.{other_command, that_command}
use Rattle.quoted.proofs.WaitLaws.{waits_other, waits_remark}
use Rattle.quoted.proofs.marks.wait_on.Goals as goal

pub returns-then-ne : goal.returns-then-ne
returns-then-ne c = waits_other _ _ (other_command _ Com _ _ c.ne.ensures c.of.ensures c.if-ne.true)

pub returns-in-Comment : goal.returns-in-Comment
returns-in-Comment c =
    let k = that_command _ Com _ _ c.ne.ensures c.of.ensures c.if-ne.false in
    let r = ap remark_of (sym c.rest_of.ensures) ∙ sym c.read_remark.ensures in
    elim c.in-Comment.is [ inl e ↦ waits_remark _ _ _ k (r ∙ e) | inr e ↦ waits_remark _ _ _ k (r ∙ e) ]

pub returns-in-Mark : goal.returns-in-Mark
returns-in-Mark c =
    waits_remark _ _ _ (that_command _ Com _ _ c.ne.ensures c.of.ensures c.if-ne.false)
    (ap remark_of (sym c.rest_of.ensures) ∙ sym c.read_remark.ensures ∙ c.in-Mark.is)
