use mathlib.Core.Path.{ap, ◌∙◌}
use lib.ListN.{length}
use Rattle.page.specs.Answers.{sound}
use Rattle.texts.specs.Own.{owned, own_of}
use Rattle.texts.proofs.OwnerLaws.{owned_put}
use Rattle.texts.proofs.hand_words.Goals as goal

pub returns : goal.returns
returns c =
    let a = c.args in
    let h = c.hand_own.ensures in
    record {
      answer =
          c.tell_owner.ensures ∙ ap (owned a.x.owner) h.answer
          ∙ owned_put a.x.owner sound (own_of a.file.now a.x) (length a.out.now);
      left = h.left;
    }
