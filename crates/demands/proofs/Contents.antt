-- Table i of what a file says is what its section i says. Assumes nothing.
use mathlib.Core.Path.{◌≡◌, refl, ap, sym, ◌∙◌}
use mathlib.Core.List.{List, [], ◌∷◌, map}
use Prim.Native.Nat.{ℕ, zero, suc, ◌-◌, ◌<◌, ◌≤◌}
use native.Mathlib.Omega.{arith}
use lib.ListN.{length, get_or, length-map}
use Rattle.page.specs.Bytes.{Bytes}
use Rattle.page.specs.Cut.{sections}
use Rattle.page.specs.Head.{latin_of}
use Rattle.page.specs.Model.{Content, content_of, model_of}
use Rattle.page.specs.File.{row_given, row_of}
use Rattle.page.specs.Reading.{no_section, section_at, row_at}
use Rattle.grammar.proofs.Counts.{count_handed}
use Rattle.demands.proofs.Fill.{no_content}

map_at : {A B : Type 0} (f : A → B) (xs : List A) (k : ℕ) (d : A) (e : B) → k < length xs → get_or (map f xs) k e ≡ f (get_or xs k d)
map_at f [] k d e h = absurd (omega arith)
map_at f (x ∷ xs) zero d e h = refl
map_at f (x ∷ xs) (suc k) d e h = map_at f xs k d e (omega arith)

pub tables_count : (s : Bytes) → length (model_of s).tables ≡ length (sections s)
unfolding model_of
tables_count s = length-map (sections s) (content_of (latin_of s))

module _ (s : Bytes) (i : ℕ) (p : 0 < i) (h : i ≤ length (sections s)) where
  pub content_at : get_or (model_of s).tables (i - 1) no_content ≡ content_of (latin_of s) (section_at s i)
  unfolding model_of section_at
  content_at = map_at (content_of (latin_of s)) (sections s) (i - 1) no_section no_content (omega arith)

  -- as many records as its row says
  pub records_count : length (get_or (model_of s).tables (i - 1) no_content).records ≡ (row_at s i).records
  unfolding content_of row_at row_of row_given
  records_count = ap (λ (c : Content). length c.records) content_at ∙ sym (count_handed (latin_of s) (section_at s i).lines)
