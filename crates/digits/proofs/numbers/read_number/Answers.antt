use Rattle.std.proofs.Common.{◌∙◌, ◌≤◌, length, ap, rules, arith}
use lib.ListN.{get_or-eq_default}
use Rattle.page.proofs.PartLaws.{part_rest}
use Rattle.digits.specs.Magnitudes.{magnitude_of}
use Rattle.digits.proofs.MagnitudeLaws.{negated, plain}
use Rattle.digits.proofs.numbers.read_number.Goals.{in_default-via-then-f-lt1, in_default-via-else-f-lt1+in_default-1}
use Rattle.digits.proofs.numbers.read_number.Goals as goal

pub returns-in-45 : goal.returns-in-45
returns-in-45 c =
    let f = c.args.f.now in
    negated f c.read_digits.result c.map_or.result (c.read_digits.ensures ∙ ap magnitude_of (part_rest 1 f)) (search rules) c.map_or.ensures

pub returns-in_default : goal.returns-in_default
returns-in_default c =
    let f = c.args.f.now in
    plain f c.read_digits-in_default.result c.map_or-in_default.result c.read_digits-in_default.ensures
    (elim c.in_default.branch [
      | in_default-via-then-f-lt1 w ↦ let n : length f ≤ 0 = search rules in λ e. omega (arith, get_or-eq_default f 0 n)
      | in_default-via-else-f-lt1+in_default-1 w ↦ search rules
    ]) c.map_or-in_default.ensures
