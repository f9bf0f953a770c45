use Rattle.std.proofs.Common.{◌∙◌, sym, tests, rules}
use Rattle.std.proofs.lemmas.Iterator.Consumers.{count_from_yields_List, YieldsList-from_filter, YieldsList-at}
use Rattle.page.specs.Cut.{begins_table}
use Rattle.lines.proofs.IterLaws.{line_bytes, yields_lines}
use Rattle.cut.proofs.CountLaws.{sections_count}
use Rattle.cut.proofs.cut.count_from.Goals as goal

pub returns-clause-sections : goal.returns-clause-sections
returns-clause-sections c =
    let all = yields_lines c.lines_from.result c.args.s.now c.args.at c.lines_from.ensures.bytes c.lines_from.ensures.at in
    count_from_yields_List {v = line_bytes} _ _ c.count.ensures.ran (YieldsList-from_filter _ begins_table (YieldsList-at c.filter.ensures.source all) c.filter.ensures.closure (λ x r q k. search (rules, tests)))
    ∙ sym (sections_count c.args.s.now c.args.at)
