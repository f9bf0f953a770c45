use mathlib.Core.Path.{◌≡◌, ap, sym, ◌∙◌}
use mathlib.Core.Bool.{Bool}
use Prim.Native.Nat.{◌-◌, ◌<◌, ◌≤◌}
use native.Mathlib.Omega.{arith}
use borrow.Author.Rules.{rules}
use lib.ListN.{length, get_or, take, drop}
use Rattle.page.specs.declared.Column.{Column}
use Rattle.page.specs.Bytes.{trim}
use Rattle.page.specs.Fields.{fields}
use Rattle.page.specs.Tables.{no_column}
use Rattle.page.specs.Order.{standing}
use Rattle.page.specs.Section.{format_ok}
use Rattle.page.proofs.FieldLaws.{from, from_more, from_end, from_all, end_in}
use Rattle.page.proofs.MatchLaws.{matches, has_format, formats_matches, matches_none, matches_not, matches_more, matches_last}
use Rattle.page.proofs.TableLaws.{width_le}
use Rattle.arrangement.specs.Orders.{held}
use Rattle.arrangement.proofs.OrderLaws.{held_standing, held_column}
use Rattle.names.proofs.formats_match.Goals as goal

pub loop-k-init : goal.loop-k-init
loop-k-init c =
    let a = c.args in
    let cs = standing a.t (held a.t a.o.now) in
    (omega arith, ap (matches has_format cs) (from_all a.w.now) ∙ sym (formats_matches cs (fields a.w.now)))

pub returns-then-w-at : goal.returns-then-w-at
returns-then-w-at c =
    let a = c.args in
    let cs = standing a.t (held a.t a.o.now) in
    let n : c.find_width-k-end.result ≡ length cs = c.find_width-k-end.ensures ∙ sym (held_standing a.t a.o.now c.requires) in
    let l = c.loop-k in
    let w = a.w.now in
    sym (matches_none has_format cs l.k (omega arith) (from w l.at) (from_end w l.at c.if-w-at.true)) ∙ l.invariant.1

pub bounds-o-k : goal.bounds-o-k
bounds-o-k c = omega (arith, width_le c.args.t, c.find_width-k-end.ensures)

pub overflow_cast-o : goal.overflow_cast-o
overflow_cast-o c = let s = c.requires.small c.loop-k.k in search rules

pub slice_bounds-trimmed-count : goal.slice_bounds-trimmed-count
slice_bounds-trimmed-count c = omega (arith, end_in c.args.w.now c.loop-k.at c.field_end-e.result (search rules) c.field_end-e.ensures)

pub slice_bounds-trimmed-end : goal.slice_bounds-trimmed-end
slice_bounds-trimmed-end c = let h = end_in c.args.w.now c.loop-k.at c.field_end-e.result (search rules) c.field_end-e.ensures in search rules

pub returns-then-not-is_format : goal.returns-then-not-is_format
returns-then-not-is_format c =
    let a = c.args in
    let cs = standing a.t (held a.t a.o.now) in
    let n : c.find_width-k-end.result ≡ length cs = c.find_width-k-end.ensures ∙ sym (held_standing a.t a.o.now c.requires) in
    let l = c.loop-k in
    let e = c.field_end-e in
    let w = a.w.now in
    let h : l.at ≤ length w = search rules in
    let k : l.k < length cs = omega arith in
    let f = take (e.result - l.at) (drop l.at w) in
    let i : (get_or cs l.k no_column).column.text ≡ c.is_text-text.result =
    ap (λ (x : Column). x.text) (held_column a.t a.o.now l.k c.requires (omega (arith, c.find_width-k-end.ensures))) ∙ sym c.is_text-text.ensures in
    let q : format_ok (get_or cs l.k no_column).column.text (trim f) ≡ c.is_format.result =
    ap (λ (x : Bool). format_ok x (trim f)) i
    ∙ ap (format_ok c.is_text-text.result) (sym c.trimmed.ensures) ∙ sym c.is_format.ensures in
    let m = from_more w l.at e.result h e.ensures in
    sym (matches_not has_format cs l.k k (from w l.at) _ _ m (q ∙ c.if-not-is_format.true)) ∙ l.invariant.1

pub overflow_add-at : goal.overflow_add-at
overflow_add-at c =
    let h = end_in c.args.w.now c.loop-k.at c.field_end-e.result (search rules) c.field_end-e.ensures in
    search rules

pub loop-k-preserved : goal.loop-k-preserved
loop-k-preserved c =
    let a = c.args in
    let cs = standing a.t (held a.t a.o.now) in
    let n : c.find_width-k-end.result ≡ length cs = c.find_width-k-end.ensures ∙ sym (held_standing a.t a.o.now c.requires) in
    let l = c.loop-k in
    let e = c.field_end-e in
    let w = a.w.now in
    let h : l.at ≤ length w = search rules in
    let k : l.k < length cs = omega arith in
    let f = take (e.result - l.at) (drop l.at w) in
    let i : (get_or cs l.k no_column).column.text ≡ c.is_text-text.result =
    ap (λ (x : Column). x.text) (held_column a.t a.o.now l.k c.requires (omega (arith, c.find_width-k-end.ensures))) ∙ sym c.is_text-text.ensures in
    let q : format_ok (get_or cs l.k no_column).column.text (trim f) ≡ c.is_format.result =
    ap (λ (x : Bool). format_ok x (trim f)) i
    ∙ ap (format_ok c.is_text-text.result) (sym c.trimmed.ensures) ∙ sym c.is_format.ensures in
    let m = from_more w l.at e.result h e.ensures in (
      omega (arith, end_in w l.at e.result h e.ensures),
      sym (matches_more has_format cs l.k k (from w l.at) _ _ m (q ∙ c.if-not-is_format.false)) ∙ l.invariant.1,
    )

pub returns : goal.returns
returns c =
    let a = c.args in
    let cs = standing a.t (held a.t a.o.now) in
    let n : c.find_width-k-end.result ≡ length cs = c.find_width-k-end.ensures ∙ sym (held_standing a.t a.o.now c.requires) in
    let l = c.loop-k in
    matches_last has_format cs l.k (omega arith) a.w.now l.at ∙ l.invariant.1
