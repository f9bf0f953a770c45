use mathlib.Core.Path.{◌≡◌, refl, ap, sym, ◌∙◌}
use Prim.Native.Nat.{◌<◌}
use Prim.Native.String.{String}
use native.Mathlib.Omega.{arith}
use lib.ListN.{length, get_or}
use Rattle.page.specs.Bytes.{bytes, same}
use Rattle.page.specs.Tables.{TABLES, table_named}
use Rattle.page.proofs.NameLaws.{find_hit, find_more, find_none}
use Rattle.names.proofs.ToldLaws.{titles, titles_length, title_listed}
use Rattle.names.proofs.find_table.Goals as goal

pub loop-t-init : goal.loop-t-init
unfolding table_named
loop-t-init c = refl

pub returns-then-equal : goal.returns-then-equal
returns-then-equal c =
    let w = c.args.w.now in
    let l = c.loop-t in
    let h : l.t < length titles = omega (arith, titles_length) in
    let q : same w (bytes (get_or titles l.t "")) ≡ c.equal.result =
    ap (λ (x : String). same w (bytes x)) (title_listed l.t) ∙ ap (same w) (sym c.find_title.ensures) ∙ sym c.equal.ensures in
    sym (find_hit titles w l.t l.t h (q ∙ c.if-equal.true)) ∙ l.invariant

pub loop-t-preserved : goal.loop-t-preserved
loop-t-preserved c =
    let w = c.args.w.now in
    let l = c.loop-t in
    let h : l.t < length titles = omega (arith, titles_length) in
    let q : same w (bytes (get_or titles l.t "")) ≡ c.equal.result =
    ap (λ (x : String). same w (bytes x)) (title_listed l.t) ∙ ap (same w) (sym c.find_title.ensures) ∙ sym c.equal.ensures in
    sym (find_more titles w l.t l.t h (q ∙ c.if-equal.false)) ∙ l.invariant

pub returns : goal.returns
returns c =
    let l = c.loop-t in
    let e : l.t ≡ TABLES = omega arith in
    rw (← e) (sym (find_none titles c.args.w.now l.t l.t (omega (arith, titles_length))) ∙ l.invariant)
