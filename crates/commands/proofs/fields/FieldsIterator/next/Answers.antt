use Rattle.std.proofs.Common.{◌≡◌, ◌-◌, false, ap, drop, take, refl, arith, rules}
use Rattle.page.specs.Fields.{field_size}
use Rattle.page.proofs.ScanLaws.{part_length}
use Rattle.page.proofs.FieldLaws.{end_in, from_more}
use Rattle.commands.proofs.fields.FieldsIterator.next.Goals as goal

pub overflow_add-self : goal.overflow_add-self
overflow_add-self c =
    let i = end_in _ _ _ c.if-w-at.false c.field_end-to.ensures in
    search rules

pub slice_bounds-result-end : goal.slice_bounds-result-end
slice_bounds-result-end c =
    let i = end_in _ _ _ c.if-w-at.false c.field_end-to.ensures in
    search rules

pub returns-clause-steps : goal.returns-clause-steps
returns-clause-steps c =
    let w = c.args.self.now.bytes.now in
    let at = c.args.self.now.at in
    let h = c.if-w-at.false in
    let q = c.field_end-to.ensures in
    let i = end_in _ _ _ h q in
    let n : c.field_end-to.result - at ≡ field_size false (drop at w) = omega arith in
    (refl, record { before = h; at = refl; bytes = ap (λ k. take k (drop at w)) n; next_is = omega arith; long = omega (arith, part_length at c.field_end-to.result w i.1); within = omega arith; cut = from_more _ _ _ h q })
