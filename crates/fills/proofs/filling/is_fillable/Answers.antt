use mathlib.Core.Path.{ap, sym, ◌∙◌}
use Prim.Native.Nat.{ℕ, ◌-◌}
use Rattle.page.specs.Cut.{Section}
use Rattle.page.specs.Tables.{column_at}
use Rattle.page.specs.Records.{table_index}
use Rattle.page.specs.declared.Refusal.{Refusal}
use Rattle.fills.proofs.filling.is_fillable.Goals as goal

pub table_at-requires : goal.table_at-requires
table_at-requires c = (rw c.in-Ok.is at c.locate.ensures.1).inside

pub returns-in-Ok : goal.returns-in-Ok
returns-in-Ok c =
    let a = c.args in
    let b = rw c.in-Ok.is at c.locate.ensures.1 in
    let t = c.table_at.ensures ∙ ap (λ (x : Section). table_index x.lines) (sym b.is) in
    c.is_fillable.ensures ∙ ap (λ (n : ℕ). (column_at n (a.f - 1)).fillable) t

pub returns-in-Err : goal.returns-in-Err
returns-in-Err c =
    let b = rw c.in-Err.is at c.locate.ensures.1 in
    absurd (b.0 (ap (λ (x : Refusal). x.number) b.1 ∙ c.requires.0))
