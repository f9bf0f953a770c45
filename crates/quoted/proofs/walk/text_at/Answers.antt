use Rattle.std.proofs.Common.{◌≡◌, ◌∙◌, ◌&&◌, true, eqb, ltb, sym, length, get_or}
use borrow.Author.Tests.{eqb-true, ltb-true}
use Rattle.page.proofs.TestLaws.{and_left, and_right}
use Rattle.quoted.proofs.WalkLaws.{text_met}
use Rattle.quoted.proofs.walk.text_at.Goals as goal

pub returns : goal.returns
returns c =
    let a = c.args in
    let s = c.skip_space-from in
    let b = c.in_ok-body.body in
    let q : (ltb s.result (length a.w.now) && eqb (get_or a.w.now s.result 0) 34) ≡ true = sym c.is_quote.ensures ∙ c.if-not-is_quote.false in
    text_met a.w.now a.wide a.at s.result b.end b.size c.if-w-at.false s.ensures (ltb-true _ _ (and_left _ _ q))
    (eqb-true _ 34 (and_right (ltb s.result (length a.w.now)) _ q)) c.in_ok-body.ensures (eqb-true _ 0 (sym c.ends_at.ensures ∙ c.if-not-ends_at.false))
