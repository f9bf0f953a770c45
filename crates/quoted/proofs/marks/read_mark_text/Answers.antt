use Rattle.std.proofs.Common.{◌∙◌, sym, ap}
use Rattle.page.specs.Bytes.{bytes}
use Rattle.page.specs.Marks.{mark_number}
use Rattle.page.proofs.MarkLaws.{mark_other, mark_word}
use Rattle.page.proofs.ChainLaws.{same_is}
use Rattle.quoted.proofs.marks.read_mark_text.Goals as goal

pub returns-in-Some : goal.returns-in-Some
unfolding bytes
returns-in-Some c =
    let t = c.args.t.now in
    let x = c.in-Some.ensures.cases in
    c.read_mark_number.ensures ∙ ap mark_number x.1 ∙ sym (mark_word t (sym (same_is _ _) ∙ x.0))

pub returns-in-None : goal.returns-in-None
unfolding bytes
returns-in-None c = sym (mark_other c.args.t.now (sym (same_is _ _) ∙ c.in-None.ensures.cases))
