use borrow.Author.Rules.{rules}
use Rattle.steps.proofs.StepLaws.{row_within, step_is}
use Rattle.steps.proofs.step_over.Goals as goal

pub overflow_add-at : goal.overflow_add-at
overflow_add-at c =
    let w = row_within c.args.file.now c.args.at c.requires.0 c.args.row c.requires.1 in
    search rules

pub find_section-next-requires : goal.find_section-next-requires
find_section-next-requires c =
    row_within c.args.file.now c.args.at c.requires.0 c.args.row c.requires.1

pub returns : goal.returns
returns c =
    let x = c.find_section-next in
    step_is c.args.file.now c.args.at c.requires.0 c.args.row c.requires.1 x.result x.ensures c.args.before c.stay_sound-sound.result c.stay_sound-sound.ensures
