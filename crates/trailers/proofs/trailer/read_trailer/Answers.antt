use Rattle.std.proofs.Common.{◌≡◌, ◌∙◌, ap, sym, arith}
use Rattle.page.specs.Lines.{content}
use Rattle.page.specs.Trailer.{eof_ok, trailer_of}
use Rattle.trailers.proofs.TrailerLaws.{trailer_more, trailer_stop, trailer_none}
use Rattle.trailers.proofs.trailer.read_trailer.Goals as goal

pub returns-in_default : goal.returns-in_default
unfolding trailer_of
returns-in_default c =
    let f = c.survey_file-survey in
    let o = rw (c.lines_from.ensures.bytes, c.lines_from.ensures.at) at c.in_default.ensures.steps.2 in
    rw (sym f.ensures.0, sym f.ensures.2) (sym (trailer_none c.args.s.now f.result.end f.result.sections o))

pub returns-then-not-holds_count : goal.returns-then-not-holds_count
unfolding trailer_of
returns-then-not-holds_count c =
    let f = c.survey_file-survey in
    let t = rw (c.lines_from.ensures.bytes, c.lines_from.ensures.at) at c.in-Some.ensures.steps.1 in
    let b = sym (ap (eof_ok f.result.sections) (c.content_of.ensures ∙ ap content t.bytes)) ∙ sym c.holds_count.ensures ∙ c.if-not-holds_count.true in
    rw (sym f.ensures.0, sym f.ensures.2) (sym (trailer_stop c.args.s.now _ _ f.result.sections t.before t.size b))

pub read_blanks-requires : goal.read_blanks-requires
read_blanks-requires c =
    let t = rw (c.lines_from.ensures.bytes, c.lines_from.ensures.at) at c.in-Some.ensures.steps.1 in
    (omega arith, omega arith)

pub returns : goal.returns
unfolding trailer_of
returns c =
    let s = c.args.s.now in
    let f = c.survey_file-survey in
    let t = rw (c.lines_from.ensures.bytes, c.lines_from.ensures.at) at c.in-Some.ensures.steps.1 in
    let b = sym (ap (eof_ok f.result.sections) (c.content_of.ensures ∙ ap content t.bytes)) ∙ sym c.holds_count.ensures ∙ c.if-not-holds_count.false in
    let q : c.end.result ≡ c.next.new.self.at = omega arith in
    rw (sym f.ensures.0, sym f.ensures.2) (rw q at c.read_blanks.ensures ∙ sym (trailer_more s _ _ f.result.sections t.before t.size b))
