use mathlib.Core.Path.{◌≡◌, sym}
use mathlib.Core.Bool.{false}
use Prim.Native.Nat.{◌-◌}
use native.Mathlib.Omega.{arith}
use lib.ListN.{length, get_or}
use Rattle.page.specs.Tables.{width, column_at}
use Rattle.page.proofs.TableLaws.{width_le}
use Rattle.choices.specs.Choices.{kind_of}
use Rattle.arrangement.specs.Orders.{held}
use Rattle.arrangement.proofs.OrderLaws.{held_length}
use Rattle.choices.proofs.ChoiceLaws.{kinds_end, slots_end, choice_down, choice_all}
use Rattle.choices.proofs.choose_columns.Goals as goal

pub loop-k-init : goal.loop-k-init
loop-k-init c =
    let a = c.args in
    let o = held a.t a.o.now in
    let n : length o ≡ width a.t = held_length a.t a.o.now c.requires.0 in (
      omega arith,
      sym (kinds_end a.taken a.t o c.find_width-k.result (omega arith)),
      sym (slots_end a.taken a.t o c.find_width-k.result (omega arith)),
    )

pub bounds-o-k : goal.bounds-o-k
bounds-o-k c = let w = width_le c.args.t in omega arith

pub overflow_mul-kinds : goal.overflow_mul-kinds
overflow_mul-kinds c =
    let a = c.args in
    let d = choice_down a.taken a.t a.o.now c.loop-k.k c.requires (omega arith) (omega arith) in
    omega arith

pub overflow_add-kinds : goal.overflow_add-kinds
overflow_add-kinds c =
    let a = c.args in
    let d = choice_down a.taken a.t a.o.now c.loop-k.k c.requires (omega arith) (omega arith) in
    omega arith

pub overflow_mul-slots : goal.overflow_mul-slots
overflow_mul-slots c =
    let a = c.args in
    let d = choice_down a.taken a.t a.o.now c.loop-k.k c.requires (omega arith) (omega arith) in
    omega arith

pub overflow_add-slots : goal.overflow_add-slots
overflow_add-slots c =
    let a = c.args in
    let d = choice_down a.taken a.t a.o.now c.loop-k.k c.requires (omega arith) (omega arith) in
    omega (arith, c.rank_columns-ranks.ensures (get_or a.o.now (c.loop-k.k - 1) 0) d.below)

pub loop-k-preserved : goal.loop-k-preserved
unfolding kind_of
loop-k-preserved c =
    let a = c.args in
    let k = c.loop-k.k in
    let x = get_or a.o.now (k - 1) 0 in
    let d = choice_down a.taken a.t a.o.now k c.requires (omega arith) (omega arith) in
    let f : c.find_kind.result ≡ kind_of (get_or a.taken x false) (column_at a.t x) = rw (← c.is_text.ensures) c.find_kind.ensures.0 in
    let r = c.rank_columns-ranks.ensures x d.below in
    (omega arith, omega arith, omega arith)

pub returns : goal.returns
returns c =
    let a = c.args in
    let l = c.loop-k in
    let z : l.k ≡ 0 = omega arith in
    let u = rw z at l.invariant.1 in
    let v = rw z at l.invariant.2 in
    rw (u, v) (choice_all a.taken a.t (held a.t a.o.now))
