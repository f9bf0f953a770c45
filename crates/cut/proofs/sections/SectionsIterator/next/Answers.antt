use Rattle.std.proofs.Common.{◌≡◌, ◌∷◌, ◌∙◌, ◌-◌, refl, sym, ap, drop, arith}
use Rattle.page.proofs.ScanLaws.{part_length}
use Rattle.page.proofs.CutLaws.{sections_from}
use Rattle.cut.specs.Walk.{section_size, section_from}
use Rattle.cut.proofs.WalkLaws.{walk_here}
use Rattle.cut.proofs.sections.SectionsIterator.next.Goals as goal

pub returns-clause-steps : goal.returns-clause-steps
unfolding section_from
returns-clause-steps c =
    let x = c.args.self in
    let s = x.now.bytes.now in
    let at = x.now.at in
    let to = c.section_end-to in
    let e = to.ensures.0 in
    let k : section_size (drop at s) ≡ to.result - at = omega arith in
    let n = part_length at to.result s to.ensures.2 in
    let f = c.find_section-self.ensures in (
      refl,
      record {
        before = c.if-s-at.false;
        at = refl;
        bytes = rw k refl;
        size = omega arith;
        some = omega arith;
        within = omega arith;
        next = rw (sym e) f;
        lines = rw k refl;
        cut = λ z. walk_here s at c.if-s-at.false z ∙ ap (λ xs. section_from s at ∷ xs) (ap (sections_from s) (sym e) ∙ sym f.same);
      },
    )
