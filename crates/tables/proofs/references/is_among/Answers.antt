use mathlib.Core.Path.{◌≡◌, refl, sym, ◌∙◌}
use mathlib.Core.Bool.{Bool, true, false}
use mathlib.Core.List.{List, [], ◌∷◌}
use Prim.Native.Nat.{ℕ}
use lib.Dec.{eqb}
use borrow.Author.Tests.{eqb-true, eqb-false, eq-eqb, ne_eqb}
use Rattle.std.specs.List.{list_any}
use Rattle.page.specs.File.{any}
use Rattle.tables.proofs.references.is_among.Goals as goal

eqb_turned : (x k : ℕ) → eqb x k ≡ eqb k x
eqb_turned x k = by (eqb x k) refl
  where
    by : (b : Bool) → eqb x k ≡ b → eqb x k ≡ eqb k x
    by true e = e ∙ sym (eq-eqb k x (sym (eqb-true x k e)))
    by false e = e ∙ sym (ne_eqb k x (λ q. eqb-false x k e (sym q)))

any_of : (k : ℕ) (ks : List ℕ) → list_any (λ y. eqb y k) ks ≡ any (eqb k) ks
unfolding any
any_of k [] = refl
any_of k (x ∷ ks) = rw (eqb_turned x k, any_of k ks)

pub returns : goal.returns
returns c = c.contains.ensures.value ∙ any_of c.args.k c.args.columns.now
