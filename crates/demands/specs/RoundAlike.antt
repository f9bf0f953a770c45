-- Files that differ only in texts that may be marked and filled.
use Rattle.std.specs.Prelude.{◌≡◌, true, List, [], ◌∷◌}
use Rattle.page.specs.Tables.{Named, columns}
use Rattle.page.specs.Records.{Datum, Record}
use Rattle.page.specs.Model.{Content}

-- one by one
pub data Pairs {A : Type 0} (R : A → A → Type 0) : List A → List A → Type 0 where
  no_pair : Pairs R [] []
  a_pair : {x y : A} {xs ys : List A} → R x y → Pairs R xs ys → Pairs R (x ∷ xs) (y ∷ ys)

-- two records that agree but in columns that may be marked
pub data Alike : List Named → Record → Record → Type 0 where
  alike_none : Alike [] [] []
  alike_same : {c : Named} {cs : List Named} {v : Datum} {vs us : Record} → Alike cs vs us → Alike (c ∷ cs) (v ∷ vs) (v ∷ us)
  alike_text : {c : Named} {cs : List Named} {v u : Datum} {vs us : Record} → c.column.fillable ≡ true → Alike cs vs us → Alike (c ∷ cs) (v ∷ vs) (u ∷ us)

pub record AlikeContent (c d : Content) : Type 0 where
  pub table : c.table ≡ d.table
  pub records : Pairs (Alike (columns c.table)) c.records d.records
