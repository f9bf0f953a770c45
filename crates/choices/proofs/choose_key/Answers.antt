use mathlib.Core.Path.{ap, ◌∙◌}
use mathlib.Core.Bool.{Bool}
use mathlib.Core.List.{List}
use Rattle.choices.specs.Choices.{choice_of, key_choice}
use Rattle.arrangement.specs.Orders.{held}
use Rattle.choices.proofs.ChoiceLaws.{key_few}
use Rattle.choices.proofs.choose_key.Goals as goal

pub choose_columns-requires : goal.choose_columns-requires
choose_columns-requires c = let a = c.args in (c.requires, rw c.find_key.ensures (key_few a.second a.t))

pub returns : goal.returns
unfolding key_choice
returns c =
    let a = c.args in
    c.choose_columns.ensures ∙ ap (λ (bs : List Bool). choice_of bs a.t (held a.t a.o.now)) c.find_key.ensures
