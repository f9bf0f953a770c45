-- A list as an array holds it.
use Rattle.std.specs.Prelude.{List, [], ◌∷◌, ℕ, zero, suc}

-- a list cut or filled up to n places
unfoldable pub fill : {A : Type 0} → ℕ → A → List A → List A
fill zero d xs = []
fill (suc n) d [] = d ∷ fill n d []
fill (suc n) d (x ∷ xs) = x ∷ fill n d xs
