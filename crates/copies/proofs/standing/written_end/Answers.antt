use Rattle.std.proofs.Common.{rules}
use Rattle.page.proofs.FieldLaws.{end_in}
use Rattle.copies.proofs.standing.written_end.Goals as goal

pub slice_bounds-is_spaced-end : goal.slice_bounds-is_spaced-end
slice_bounds-is_spaced-end c =
    let w = c.args.w.now in
    let e = c.field_end-e in
    let h = end_in w c.args.p e.result c.requires e.ensures in
    search rules
