-- Each table of an accepted file is its own section's: as many tables as sections, each with the records that its own lines denote.
use mathlib.Core.Path.{◌≡◌, refl, ap, ◌∙◌}
use mathlib.Core.Bool.{Bool}
use mathlib.Core.List.{List, []}
use Prim.Native.Nat.{ℕ, zero, suc, ◌<◌}
use native.Mathlib.Omega.{arith}
use lib.ListN.{length, get_or}
use borrow.Author.Tests.{ne_eqb}
use Rattle.page.specs.Bytes.{Bytes}
use Rattle.page.specs.Lines.{Rec}
use Rattle.page.specs.Cut.{Section, sections}
use Rattle.page.specs.Head.{latin_of}
use Rattle.page.specs.Section.{outcome}
use Rattle.page.specs.Records.{entries_of, records_of}
use Rattle.page.specs.File.{row_given, row_of}
use Rattle.page.specs.Model.{Content}
use Rattle.page.specs.Grammar.{Denotes}
use Rattle.page.specs.Rules.{Tables, no_table, a_table, times, SoundFile}
use Rattle.grammar.proofs.Counts.{records_counted, sound_count, count_handed}

-- the section and the content past the end of a list
abbrev no_section : Section
no_section = record { place = 0; lines = [] }

abbrev no_content : Content
no_content = record { table = 0; records = [] }

as_many : {latin : Bool} {xs : List Section} {cs : List Content} → Tables latin xs cs → length cs ≡ length xs
as_many no_table = refl
as_many (a_table d t) = ap suc (as_many t)

own : {latin : Bool} {xs : List Section} {cs : List Content} (i : ℕ) → i < length cs → Tables latin xs cs →
    Denotes latin (get_or xs i no_section).lines (get_or cs i no_content).table (get_or cs i no_content).records
own i h no_table = absurd (let z : ⊥ = omega arith in z)
own zero h (a_table d t) = d
own (suc i) h (a_table d t) = own i (omega arith) t

-- an accepted file says as many tables as it has sections
pub as_many_tables : (s : Bytes) (cs : List Content) → SoundFile s cs → length cs ≡ length (sections s)
as_many_tables s cs f = as_many f.tables

-- table i is what section i's own lines denote, and nothing else
pub own_table : (s : Bytes) (cs : List Content) → SoundFile s cs → (i : ℕ) → i < length cs →
    Denotes (latin_of s) (get_or (sections s) i no_section).lines (get_or cs i no_content).table (get_or cs i no_content).records
own_table s cs f i h = own i h f.tables

-- so it has as many records as section i has `rec` lines: none is called empty, and none is another's
pub own_count : (s : Bytes) (cs : List Content) → SoundFile s cs → (i : ℕ) → i < length cs →
    length (get_or cs i no_content).records ≡ times Rec (get_or (sections s) i no_section).lines
own_count s cs f i h = records_counted (latin_of s) (get_or (sections s) i no_section).lines (get_or cs i no_content).table (get_or cs i no_content).records (own_table s cs f i h)

-- a row of the listing: a sound table's record count is the number of its `rec` lines, and a refused one's is 0
pub row_count : (latin : Bool) (x : Section) → (row_of latin x).verdict ≡ 0 → (row_of latin x).records ≡ times Rec x.lines
unfolding row_of row_given
row_count latin x e = sound_count latin x.lines e

-- "A refused section hands out no records, and its record count is 0."
pub row_refused : (latin : Bool) (x : Section) → ¬ ((row_of latin x).verdict ≡ 0) → (row_of latin x).records ≡ 0
unfolding row_of row_given records_of entries_of
row_refused latin x n = count_handed latin x.lines ∙ rw (ne_eqb (outcome latin x.lines).verdict 0 n)
