-- The first of a list that breaks a rule, where the rule may look at what stands before.
use Rattle.std.specs.Prelude.{◌≡◌, List, ◌∷◌, ◌++◌}

-- none of xs breaks the rule, where `seen` stands before them
abbrev pub NoneOf : {A : Type 0} → (List A → A → Type 0) → List A → List A → Type 0
NoneOf {A} Breaks seen xs = (before after : List A) (x : A) → xs ≡ before ++ (x ∷ after) → ¬ Breaks (seen ++ before) x

-- x is the first of xs that breaks it
pub record First {A : Type 0} (Breaks : List A → A → Type 0) (seen xs : List A) (x : A) : Type 0 where
  pub before : List A
  pub after : List A
  pub split : xs ≡ before ++ (x ∷ after)
  pub breaks : Breaks (seen ++ before) x
  pub none_before : NoneOf Breaks seen before
