use Rattle.std.proofs.Common.{◌≤◌, ◌∙◌, false, length, get_or, ap, arith, rules}
use borrow.Author.Tests.{eq-eqb, ne_eqb}
use lib.ListN.{get_or-eq_default}
use Rattle.page.specs.Bytes.{Bytes}
use Rattle.page.specs.Fields.{text_of, body_of}
use Rattle.page.proofs.PartLaws.{part_rest}
use Rattle.quoted.specs.Sizes.{size_of}
use Rattle.quoted.proofs.texts.text_size.Goals as goal

pub returns-in-34 : goal.returns-in-34
unfolding text_of
returns-in-34 c =
    let f = c.args.f.now in
    rw (eq-eqb (get_or f 0 0) 34 (search rules)) (c.body_size.ensures ∙ ap (λ (l : Bytes). size_of (body_of false l)) (part_rest 1 f))

pub returns-in_default : goal.returns-in_default
unfolding text_of size_of
returns-in_default c =
    let f = c.args.f.now in
    let none : length f ≤ 0 = omega arith in
    rw (get_or-eq_default f 0 none)

pub returns-in_default-2 : goal.returns-in_default-2
unfolding text_of size_of
returns-in_default-2 c = rw (ne_eqb (get_or c.args.f.now 0 0) 34 (search rules))
