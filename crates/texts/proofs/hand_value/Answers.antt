use mathlib.Core.Path.{refl}
use Rattle.texts.proofs.hand_value.Goals as goal

pub hand_words-requires : goal.hand_words-requires
hand_words-requires c = rw c.in-Words.is at c.requires

pub returns-in-Number : goal.returns-in-Number
returns-in-Number c = rw c.in-Number.is (record { answer = c.refuse_number.ensures; left = refl })

pub returns-in-Missing : goal.returns-in-Missing
returns-in-Missing c = rw c.in-Missing.is (record { answer = c.refuse_number-in-Missing.ensures; left = refl })

pub returns-in-Words : goal.returns-in-Words
returns-in-Words c = rw c.in-Words.is c.hand_words.ensures
