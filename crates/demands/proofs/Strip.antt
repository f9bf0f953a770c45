-- Stripping leaves no suggestion, empties the marked texts and changes nothing else; stripping again changes nothing. Assumes nothing.
use mathlib.Core.Path.{◌≡◌, refl}
use mathlib.Core.List.{List, [], ◌∷◌, map}
use Prim.Native.Nat.{ℕ, ◌-◌}
use native.Mathlib.Omega.{arith}
use lib.ListN.{get_or, get_or-map}
use Rattle.page.specs.Bytes.{Bytes}
use Rattle.page.specs.Records.{Datum, number, missing, words, Record}
use Rattle.page.specs.Model.{Content, Model, strip_datum, strip_content, strip_model, datum_at}
use Rattle.page.specs.declared.Owner.TheVariants as O

-- no suggestion is left
pub strip_none : (v : Datum) (t : Bytes) → ¬ (strip_datum v ≡ words O.Suggestion t)
unfolding strip_datum
strip_none (number n) t e = let z : ◌≡◌ {A = ℕ} 0 1 = cc in omega arith
strip_none missing t e = let z : ◌≡◌ {A = ℕ} 0 1 = cc in omega arith
strip_none (words O.Operator u) t e = let z : ◌≡◌ {A = ℕ} 0 1 = cc in omega arith
strip_none (words O.Suggestion u) t e = let z : ◌≡◌ {A = ℕ} 0 1 = cc in omega arith

-- a suggestion becomes an empty text of the operator's; a number, a missing one and the operator's text stay
pub strip_suggestion : (t : Bytes) → strip_datum (words O.Suggestion t) ≡ words O.Operator []
unfolding strip_datum
strip_suggestion t = refl

pub strip_operator : (t : Bytes) → strip_datum (words O.Operator t) ≡ words O.Operator t
unfolding strip_datum
strip_operator t = refl

pub strip_number : (n : ℕ) → strip_datum (number n) ≡ number n
unfolding strip_datum
strip_number n = refl

pub strip_missing : strip_datum missing ≡ missing
unfolding strip_datum
strip_missing = refl

pub strip_again : (v : Datum) → strip_datum (strip_datum v) ≡ strip_datum v
unfolding strip_datum
strip_again (number n) = refl
strip_again missing = refl
strip_again (words O.Operator t) = refl
strip_again (words O.Suggestion t) = refl

records_again : (vs : Record) → map strip_datum (map strip_datum vs) ≡ map strip_datum vs
records_again [] = refl
records_again (v ∷ vs) = rw (strip_again v, records_again vs)

content_again : (rs : List Record) → map (map strip_datum) (map (map strip_datum) rs) ≡ map (map strip_datum) rs
content_again [] = refl
content_again (r ∷ rs) = rw (records_again r, content_again rs)

tables_again : (cs : List Content) → map strip_content (map strip_content cs) ≡ map strip_content cs
unfolding strip_content
tables_again [] = refl
tables_again (c ∷ cs) = rw (content_again c.records, tables_again cs)

-- strip twice is strip once
pub strip_twice : (m : Model) → strip_model (strip_model m) ≡ strip_model m
unfolding strip_model
strip_twice m = rw (tables_again m.tables)

-- each value of the stripped file is the file's, stripped
pub strip_at : (i r f : ℕ) (m : Model) → datum_at i r f (strip_model m) ≡ strip_datum (datum_at i r f m)
unfolding datum_at strip_model strip_content strip_datum
strip_at i r f m =
    let none : Content = record { table = 0; records = [] } in
    let a : get_or (map strip_content m.tables) (i - 1) none ≡ strip_content (get_or m.tables (i - 1) none) = get_or-map strip_content m.tables (i - 1) none in
    let rs : List Record = (get_or m.tables (i - 1) none).records in
    let b : get_or (map (map strip_datum) rs) (r - 1) [] ≡ map strip_datum (get_or rs (r - 1) []) = get_or-map (map strip_datum) rs (r - 1) [] in
    rw (a, b) (get_or-map strip_datum (get_or rs (r - 1) []) (f - 1) (number 0))
