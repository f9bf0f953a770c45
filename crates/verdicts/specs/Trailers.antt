-- What a refused trailer is: "the first that breaks this is the place, 0 if no `eof` stands".
use Rattle.std.specs.Prelude.{◌≡◌, true, false, List, [], ◌∷◌, ◌++◌, ℕ, suc, length}
use Rattle.page.specs.Bytes.{Bytes}
use Rattle.page.specs.Lines.{content, blank, clean}
use Rattle.page.specs.Fields.{number_of}
use Rattle.page.specs.Grammar.{fields_of}
use Rattle.page.specs.Rules.{Every}
use Rattle.page.specs.declared.Number.TheVariants as N

-- "`eof; n`, n the number of `tbl` lines"
pub record EofLine (n : ℕ) (l : Bytes) : Type 0 where
  pub clean : clean false (content l) ≡ true
  pub count : Bytes
  pub alone : fields_of l ≡ count ∷ []
  pub reads : number_of count ≡ N.Plus n

-- the trailer's lines ls are refused at line j
pub data TrailerFault (n : ℕ) (ls : List Bytes) (j : ℕ) : Type 0 where
  no_eof : ls ≡ [] → j ≡ 0 → TrailerFault n ls j
  bad_eof : (l : Bytes) (others : List Bytes) → ls ≡ l ∷ others → ¬ EofLine n l → j ≡ 1 → TrailerFault n ls j
  not_blank : (l x : Bytes) (before after : List Bytes) → ls ≡ l ∷ (before ++ (x ∷ after)) → EofLine n l → Every (λ y. blank (content y) ≡ true) before →
      ¬ (blank (content x) ≡ true) → j ≡ suc (suc (length before)) → TrailerFault n ls j
