use Rattle.page.specs.Bytes.{trim}
use Rattle.page.specs.Fields.{field_size, number_of}
use Rattle.page.proofs.FieldLaws.{end_in}
use Prim.Native.Nat.{ℕ, ◌-◌}
use mathlib.Core.Path.{◌≡◌, refl, ap, ◌∙◌}
use mathlib.Core.Bool.{false}
use native.Mathlib.Omega.{arith}
use lib.ListN.{take, drop}
use borrow.Author.Rules.{rules}
use Rattle.digits.proofs.walk.number_slowly.Goals as goal

pub slice_bounds-trimmed-end : goal.slice_bounds-trimmed-end
slice_bounds-trimmed-end c = let a = c.args in
    let h = end_in a.w.now a.at c.field_end-end.result (search rules) c.field_end-end.ensures in
    search rules

pub returns : goal.returns
returns c = let a = c.args in
    let e = c.field_end-end in
    let n : e.result - a.at ≡ field_size false (drop a.at a.w.now) = omega arith in
    (e.ensures, c.read_number.ensures ∙ ap number_of c.trimmed.ensures ∙ ap (λ (k : ℕ). number_of (trim (take k (drop a.at a.w.now)))) n, refl)
