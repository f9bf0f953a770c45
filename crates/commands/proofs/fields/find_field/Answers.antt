use Rattle.std.proofs.Common.{◌≡◌, ◌+◌, false, length, ◌≤◌, drop, sym, arith, rules}
use Rattle.page.specs.Fields.{field_size}
use Rattle.page.proofs.FieldLaws.{span_here, span_in}
use Rattle.commands.proofs.IterLaws.{nth_some, nth_at}
use Rattle.commands.proofs.fields.find_field.Goals as goal

pub unwrap-field-requires : goal.unwrap-field-requires
unwrap-field-requires c =
    nth_some c.fields_of.result c.args.w.now c.fields_of.ensures.bytes c.fields_of.ensures.at c.args.k c.nth.new.self c.nth.result c.nth.ensures.ran c.requires

pub overflow_add-field : goal.overflow_add-field
overflow_add-field c =
    let t =
    nth_at c.fields_of.result c.args.w.now c.fields_of.ensures.bytes c.fields_of.ensures.at c.args.k c.nth.new.self c.unwrap-field.result (rw c.unwrap-field.ensures at c.nth.ensures.ran) in
    search rules

pub trim_in-requires : goal.trim_in-requires
trim_in-requires c =
    let t =
    nth_at c.fields_of.result c.args.w.now c.fields_of.ensures.bytes c.fields_of.ensures.at c.args.k c.nth.new.self c.unwrap-field.result (rw c.unwrap-field.ensures at c.nth.ensures.ran) in
    (omega arith, omega arith)

pub returns : goal.returns
returns c =
    let w = c.args.w.now in
    let f = c.unwrap-field.result in
    let e = f.at + length f.bytes.now in
    let t = nth_at c.fields_of.result w c.fields_of.ensures.bytes c.fields_of.ensures.at c.args.k c.nth.new.self f (rw c.unwrap-field.ensures at c.nth.ensures.ran) in
    let q : e ≡ f.at + field_size false (drop f.at w) = rw t.at (omega arith) in
    let h : (f.at ≤ e) × (e ≤ length w) = (omega arith, omega arith) in
    let y = span_in w f.at e q h c.trim_in.result c.trim_in.ensures in
    (span_here w f.at e q h c.trim_in.result c.trim_in.ensures c.args.k (sym t.at), y.0, y.1)
