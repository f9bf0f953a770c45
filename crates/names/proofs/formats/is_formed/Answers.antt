use mathlib.Core.Path.{sym, ◌∙◌}
use native.Mathlib.Omega.{arith}
use borrow.Author.Rules.{rules}
use Rattle.names.proofs.FormatLaws.{formed_short, formed_other, counted_in, formed_size, formed_tail}
use Rattle.names.proofs.formats.is_formed.Goals as goal
use Rattle.names.proofs.formats.is_formed.Goals.{then-w-p-via-then-w-p, then-w-p-via-else-w-p+then-not-equal}

pub returns-then-w-p : goal.returns-then-w-p
returns-then-w-p c =
    let a = c.args in
    elim c.then-w-p.branch [
      | then-w-p-via-then-w-p w ↦ sym (formed_short a.name.now a.tail.now a.w.now w.if-w-p.true)
      | then-w-p-via-else-w-p+then-not-equal w ↦ sym (formed_other a.name.now a.tail.now a.w.now (sym w.equal.ensures ∙ w.if-not-equal.true))
    ]

pub overflow_add-d : goal.overflow_add-d
overflow_add-d c = omega (arith, counted_in c.args.name.now c.args.tail.now c.args.w.now _ c.count_digits.ensures (omega arith))

pub slice_bounds-is_size-end : goal.slice_bounds-is_size-end
slice_bounds-is_size-end c =
    let h = counted_in c.args.name.now c.args.tail.now c.args.w.now _ c.count_digits.ensures (omega arith) in
    search rules

pub returns-then-is_size : goal.returns-then-is_size
returns-then-is_size c =
    let a = c.args in
    c.equal-then-is_size.ensures
    ∙ sym
    (formed_tail a.name.now a.tail.now a.w.now _ c.count_digits.ensures
    (sym c.equal.ensures ∙ c.if-not-equal.false) (sym c.is_size.ensures ∙ c.if-is_size.true))

pub returns-else-is_size : goal.returns-else-is_size
returns-else-is_size c =
    let a = c.args in
    c.if-is_size.false
    ∙ sym
    (formed_size a.name.now a.tail.now a.w.now _ c.count_digits.ensures
    (sym c.equal.ensures ∙ c.if-not-equal.false) (sym c.is_size.ensures ∙ c.if-is_size.false))
