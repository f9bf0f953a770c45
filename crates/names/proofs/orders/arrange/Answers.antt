use mathlib.Core.Path.{◌≡◌, ap, sym, ◌∙◌}
use Prim.Native.Nat.{◌<◌}
use native.Mathlib.Omega.{arith}
use borrow.Author.Rules.{rules}
use lib.ListN.{length}
use Rattle.page.specs.Tables.{WIDEST, width}
use Rattle.page.specs.Fields.{fields}
use Rattle.page.proofs.FieldLaws.{from_all, end_in}
use Rattle.page.proofs.TableLaws.{width_le}
use Rattle.tables.specs.Arrays.{fill}
use Rattle.names.specs.Told.{column_named}
use Rattle.names.proofs.ToldLaws.{no_left, some_left, not_many, not_named, not_once, told_none, heads}
use Rattle.names.proofs.EnteredLaws.{entered_none, entered_more, entered_all}
use Rattle.names.proofs.orders.arrange.Goals as goal
use Rattle.names.proofs.orders.arrange.Goals.{then-n-c-via-then-n-c, then-n-c-via-else-n-c+then-seen-c}

pub loop-k-init : goal.loop-k-init
unfolding fill
loop-k-init c =
    let a = c.args in
    record { within = omega arith; left = sym (from_all a.w.now); some = omega arith; entered = entered_none a.t (fields a.w.now) _ c.list_columns-o.ensures }

pub returns-then-w-at : goal.returns-then-w-at
returns-then-w-at c =
    let a = c.args in
    let i = c.loop-k.invariant in
    told_none a.t (fields a.w.now) _
    (not_many a.t (fields a.w.now)
    (λ (x : length (fields a.w.now) ≡ width a.t). omega (arith, no_left a.w.now c.loop-k.k c.loop-k.at i.left i.some c.if-w-at.true)))
    c.list_columns-o.ensures

pub slice_bounds-trimmed-count : goal.slice_bounds-trimmed-count
slice_bounds-trimmed-count c = omega (arith, end_in c.args.w.now c.loop-k.at c.field_end-e.result (search rules) c.field_end-e.ensures)

pub slice_bounds-trimmed-end : goal.slice_bounds-trimmed-end
slice_bounds-trimmed-end c =
    let h = end_in c.args.w.now c.loop-k.at c.field_end-e.result (search rules) c.field_end-e.ensures in
    search rules

pub bounds-seen-c : goal.bounds-seen-c
bounds-seen-c c = omega (arith, c.loop-k.invariant.entered.wide, width_le c.args.t, c.find_width-n.ensures)

pub returns-then-n-c : goal.returns-then-n-c
returns-then-n-c c =
    let a = c.args in
    let l = c.loop-k in
    let i = l.invariant in
    let n = c.find_width-n.ensures in
    let f = c.find_column-c in
    let x = heads a.t a.w.now l.k l.at c.field_end-e.result f.result i.left i.some (search rules) c.field_end-e.ensures
    (f.ensures ∙ ap (column_named a.t) c.trimmed.ensures) in
    told_none a.t (fields a.w.now) _
    (elim c.then-n-c.branch [
      | then-n-c-via-then-n-c w ↦ not_named a.t (fields a.w.now) l.k x.there (omega (arith, w.if-n-c.true, x.named))
      | then-n-c-via-else-n-c+then-seen-c w ↦
          let y = i.entered.known f.result w.if-seen-c.true in
          not_once a.t (fields a.w.now) y.0 l.k y.1 x.there (sym (i.entered.filled y.0 y.1) ∙ y.2 ∙ x.named)
    ])
    c.list_columns-o.ensures

pub bounds-seen-c-in-loop-k : goal.bounds-seen-c-in-loop-k
bounds-seen-c-in-loop-k c = omega (arith, c.loop-k.invariant.entered.wide, width_le c.args.t, c.find_width-n.ensures)

pub overflow_cast-o : goal.overflow_cast-o
overflow_cast-o c =
    let h : c.find_column-c.result < 256 = omega (arith, width_le c.args.t, c.find_width-n.ensures) in
    search rules

pub bounds-o-k : goal.bounds-o-k
bounds-o-k c = omega (arith, c.loop-k.invariant.entered.orderly.long, width_le c.args.t, c.find_width-n.ensures)

pub loop-k-preserved : goal.loop-k-preserved
loop-k-preserved c =
    let a = c.args in
    let l = c.loop-k in
    let i = l.invariant in
    let n = c.find_width-n.ensures in
    let f = c.find_column-c in
    let x = heads a.t a.w.now l.k l.at c.field_end-e.result f.result i.left i.some (search rules) c.field_end-e.ensures
    (f.ensures ∙ ap (column_named a.t) c.trimmed.ensures) in
    let v : f.result < width a.t = omega arith in
    let j : l.k < WIDEST = omega (arith, width_le a.t) in
    record {
      within = omega arith;
      left = x.next;
      some = omega arith;
      entered = entered_more a.t (fields a.w.now) l.k l.o l.seen i.entered f.result x.named v j c.if-seen-c.false;
    }

pub returns-then-at-w : goal.returns-then-at-w
returns-then-at-w c =
    let a = c.args in
    let i = c.loop-k.invariant in
    told_none a.t (fields a.w.now) _
    (not_many a.t (fields a.w.now)
    (λ (x : length (fields a.w.now) ≡ width a.t). omega (arith, some_left a.w.now c.loop-k.k c.loop-k.at i.left i.some c.if-at-w.true)))
    c.list_columns-o.ensures

pub returns : goal.returns
returns c =
    let a = c.args in
    let l = c.loop-k in
    let i = l.invariant in
    let k : l.k ≡ width a.t = omega arith in
    entered_all a.t (fields a.w.now) l.k l.o l.seen i.entered k (no_left a.w.now l.k l.at i.left i.some c.if-at-w.false ∙ k)
