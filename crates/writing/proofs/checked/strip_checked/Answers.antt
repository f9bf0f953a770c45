use Rattle.page.specs.declared.Refusal.{Refusal}
use Rattle.writing.proofs.FormLaws.{strip_done}
use mathlib.Core.Path.{ap, sym, ◌∙◌}
use Rattle.writing.proofs.checked.strip_checked.Goals as goal

pub hand_form-requires : goal.hand_form-requires
hand_form-requires c =
    λ e. sym (ap (λ (r : Refusal). r.number) c.requires) ∙ e

pub returns : goal.returns
returns c =
    strip_done _ _ _ _ _ c.requires c.hand_form.ensures
