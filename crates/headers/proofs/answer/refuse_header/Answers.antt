use borrow.Author.Tests.{lt-ltb, le-ltb}
use lib.ListN.{length}
use Rattle.page.specs.Answers.{earlier, refuse_if}
use Rattle.page.specs.File.{header_refusal, too_long}
use Rattle.headers.proofs.answer.refuse_header.Goals as goal

pub returns-then-file-gt16777216 : goal.returns-then-file-gt16777216
unfolding header_refusal too_long earlier refuse_if
returns-then-file-gt16777216 c =
    rw (lt-ltb 16777216 (length c.args.file.now) c.if-file-gt16777216.true)

pub returns : goal.returns
unfolding header_refusal too_long earlier refuse_if
returns c =
    rw (le-ltb 16777216 (length c.args.file.now) c.if-file-gt16777216.false, c.read_header-f.ensures)
