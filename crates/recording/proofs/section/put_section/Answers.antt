use Rattle.std.proofs.Common.{◌∙◌}
use Rattle.page.specs.Bytes.{bytes}
use Rattle.page.specs.Lines.{lines}
use Rattle.arrangement.specs.Orders.{held}
use Rattle.output.proofs.OutputLaws.{puts, put_as}
use Rattle.recording.proofs.SectionLaws.{table_alone, order_told, passes_so, content_is}
use Rattle.recording.proofs.section.put_section.Goals as goal

pub put_records-n-requires : goal.put_records-n-requires
put_records-n-requires c =
    let ls = lines c.args.s.now in
    let q = c.requires in
    let t = c.table_at-t in
    let o = c.find_order-o in
    let z = t.ensures ∙ table_alone c.args.s.now q.0 in
    let e = order_told ls t.result o.result z o.ensures q.1 in
    (o.ensures.stands, passes_so ls t.result (held t.result o.result) z e q.1)

pub returns : goal.returns
unfolding bytes
returns c =
    let a = c.args in
    let ls = lines a.s.now in
    let q = c.requires in
    let t = c.table_at-t in
    let o = c.find_order-o in
    let z = t.ensures ∙ table_alone a.s.now q.0 in
    let e = order_told ls t.result o.result z o.ensures q.1 in
    put_as (content_is a.plan ls t.result (held t.result o.result) _ z e c.put_records-n.ensures.count)
    (puts c.put_table_head.ensures (puts c.put_records-n.ensures.form c.put_count_line.ensures))
