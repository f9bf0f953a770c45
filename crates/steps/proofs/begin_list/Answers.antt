use mathlib.Core.Path.{◌∙◌}
use Rattle.steps.proofs.PlaceLaws.{first_next}
use Rattle.steps.proofs.StartLaws.{start_header, start_small, start_all}
use Rattle.steps.proofs.begin_list.Goals as goal

pub returns-then-r-ne0 : goal.returns-then-r-ne0
returns-then-r-ne0 c =
    let s = c.args.file.now in
    let room = c.args.room in
    let r = c.refuse_header-r in
    c.refuse_list.ensures ∙ start_header s room r.result r.ensures c.if-r-ne0.true

pub returns-then-room-n : goal.returns-then-room-n
returns-then-room-n c =
    let s = c.args.file.now in
    let room = c.args.room in
    let r = c.refuse_header-r in
    let n = c.count_sections-n in
    c.refuse_list-then-room-n.ensures ∙ start_small s room r.result r.ensures c.if-r-ne0.false n.result n.ensures c.if-room-n.true

pub returns : goal.returns
returns c =
    let s = c.args.file.now in
    let room = c.args.room in
    let r = c.refuse_header-r in
    let n = c.count_sections-n in
    let a = c.find_section-at in
    start_all s room r.result r.ensures c.if-r-ne0.false n.result n.ensures c.if-room-n.false a.result (first_next s 0 a.result a.ensures)
    c.read_charset-latin.result c.read_charset-latin.ensures
