use mathlib.Core.Path.{◌≡◌, refl, ap, sym, ◌∙◌}
use Prim.Native.Nat.{◌<◌}
use Prim.Native.String.{String}
use native.Mathlib.Omega.{arith}
use lib.ListN.{length, get_or}
use Rattle.page.specs.Bytes.{bytes, same}
use Rattle.page.proofs.NameLaws.{find_hit, find_more, find_none}
use Rattle.names.proofs.ToldLaws.{names, names_length, name_listed, column_own}
use Rattle.names.proofs.orders.find_column.Goals as goal

pub returns-then-equal : goal.returns-then-equal
returns-then-equal c =
    let a = c.args in
    column_own a.t a.k a.f.now c.requires (rw (← c.find_name.ensures) (sym c.equal.ensures ∙ c.if-equal.true))

pub loop-i-init : goal.loop-i-init
loop-i-init c = refl

pub returns-then-equal-2 : goal.returns-then-equal-2
returns-then-equal-2 c =
    let a = c.args in
    let l = c.loop-i in
    let h : l.i < length (names a.t) = omega (arith, names_length a.t, c.find_width-n.ensures) in
    let q : same a.f.now (bytes (get_or (names a.t) l.i "")) ≡ c.equal-in-loop-i.result =
    ap (λ (x : String). same a.f.now (bytes x)) (name_listed a.t l.i) ∙ ap (same a.f.now) (sym c.find_name-in-loop-i.ensures) ∙ sym c.equal-in-loop-i.ensures in
    sym (find_hit (names a.t) a.f.now l.i l.i h (q ∙ c.if-equal-2.true)) ∙ l.invariant

pub loop-i-preserved : goal.loop-i-preserved
loop-i-preserved c =
    let a = c.args in
    let l = c.loop-i in
    let h : l.i < length (names a.t) = omega (arith, names_length a.t, c.find_width-n.ensures) in
    let q : same a.f.now (bytes (get_or (names a.t) l.i "")) ≡ c.equal-in-loop-i.result =
    ap (λ (x : String). same a.f.now (bytes x)) (name_listed a.t l.i) ∙ ap (same a.f.now) (sym c.find_name-in-loop-i.ensures) ∙ sym c.equal-in-loop-i.ensures in
    sym (find_more (names a.t) a.f.now l.i l.i h (q ∙ c.if-equal-2.false)) ∙ l.invariant

pub returns : goal.returns
returns c =
    let a = c.args in
    let l = c.loop-i in
    let n = c.find_width-n.result in
    let e : l.i ≡ n = omega arith in
    rw (← e) (sym (find_none (names a.t) a.f.now l.i l.i (omega (arith, names_length a.t, c.find_width-n.ensures))) ∙ l.invariant)
