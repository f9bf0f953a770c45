use Rattle.lines.proofs.CursorLaws.{line_here, line_none}
use Rattle.lines.proofs.cursor.Cursor.line.Goals as goal

pub returns-then-at-n : goal.returns-then-at-n
returns-then-at-n c =
    let a = c.args in
    line_here a.s.now a.self.at c.line_end-e.result c.if-at-n.true c.line_end-e.ensures

pub returns : goal.returns
returns c = line_none c.args.s.now c.args.self.at c.if-at-n.false
