use Rattle.std.proofs.Common.{◌≡◌, ◌∙◌, sym, arith, rules}
use Rattle.places.proofs.PlaceLaws.{record_hit, record_next, record_other, record_none, nowhere_placed}
use Rattle.places.proofs.find_record.Goals as goal

pub returns-then-k-eq0 : goal.returns-then-k-eq0
returns-then-k-eq0 c =
    let l = c.loop-line in
    let t = rw l.invariant.0 at c.in-Some.ensures.steps.1 in
    let x = rw t.bytes at c.is_record.ensures in
    let q : c.end.result ≡ c.next.new.self.at = omega arith in
    let e = record_hit c.args.s.now _ _ t.before t.size l.k l.m _ x c.if-is_record.true c.if-k-eq0.true in
    rw (q, t.at, sym e ∙ l.invariant.2) at c.place_fields.ensures

pub loop-line-preserved-then-is_record : goal.loop-line-preserved-then-is_record
loop-line-preserved-then-is_record c =
    let l = c.loop-line in
    let t = rw l.invariant.0 at c.in-Some.ensures.steps.1 in
    let x = rw t.bytes at c.is_record.ensures in
    (search rules, t.within, sym (record_next c.args.s.now _ _ t.before t.size l.k l.m _ x c.if-is_record.true c.if-k-eq0.false) ∙ l.invariant.2)

pub loop-line-preserved : goal.loop-line-preserved
loop-line-preserved c =
    let l = c.loop-line in
    let t = rw l.invariant.0 at c.in-Some.ensures.steps.1 in
    let x = rw t.bytes at c.is_record.ensures in
    let w = rw t.bytes at c.wait_on-m.ensures in
    (search rules, t.within, rw w (sym (record_other c.args.s.now _ _ t.before t.size l.k l.m _ x c.if-is_record.false) ∙ l.invariant.2))

pub returns : goal.returns
returns c =
    let l = c.loop-line in
    let e = record_none c.args.s.now _ l.k l.m (rw l.invariant.0 at c.in-None.ensures.steps.2) in
    rw (sym e ∙ l.invariant.2) at (nowhere_placed c.args.s.now)
