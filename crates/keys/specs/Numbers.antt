-- Keys as numbers: seven of them, the most columns that a key has, the last ones 0 where a key has fewer.
use Rattle.std.specs.Prelude.{Bool, List, [], ◌∷◌, map, ℕ, ◌+◌, ◌-◌, ◌*◌, ◌/◌, ◌%◌, eqb, ltb, set, replicate}
use Rattle.page.specs.Bytes.{Bytes, pick}
use Rattle.page.specs.Fields.{number_of}
use Rattle.page.specs.Tables.{columns}
use Rattle.page.specs.Section.{record_text, amount}
use Rattle.page.specs.Records.{Datum, number, missing, words, Record, own_bytes}
use Rattle.page.specs.File.{key_in, referred}
use Rattle.tables.specs.Arrays.{fill}
use Rattle.choices.specs.declared.Choice.{Choice}
use Rattle.page.specs.declared.Column.{Column}

-- one byte more, in base 256; past seven bytes there is no room
abbrev pub room : ℕ
room = 72057594037927936

unfoldable pub push : ℕ → ℕ → ℕ
push n b = pick (ltb n room) (n * 256 + b) n

unfoldable pub packed_from : ℕ → Bytes → ℕ
packed_from n [] = n
packed_from n (b ∷ bs) = packed_from (push n b) bs

-- a text as a number: it begins with 1, so that its length is in it; less 1, so that one without bytes is 0, as a field that is missing
unfoldable pub packed : Bytes → ℕ
packed t = packed_from 1 t - 1

unfoldable pub datum_number : Datum → ℕ
datum_number (number n) = n
datum_number missing = 0
datum_number (words o t) = packed t

abbrev pub places : ℕ
places = 7

unfoldable pub seven : List ℕ → List ℕ
seven ns = fill places 0 ns

-- a record's key
unfoldable pub key_numbers : (Column → Bool) → ℕ → Record → List ℕ
key_numbers p t vs = seven (map datum_number (key_in p (columns t) vs))

-- what a record refers to, in the columns of a reference
unfoldable pub refer_numbers : List ℕ → Record → List ℕ
refer_numbers ks vs = seven (map datum_number (referred ks vs))

-- the fields of a choice (`tables/specs/Choices`)
unfoldable pub field_as : ℕ → Bytes → ℕ
field_as d f = pick (eqb d 1) (amount (number_of f)) (packed (own_bytes (record_text f)))

-- from the left, each put where it stands in the key
unfoldable pub gather : ℕ → ℕ → List Bytes → List ℕ → List ℕ
gather q z [] k = k
gather q z (f ∷ fs) k = gather (q / 4) (z / 8) fs (pick (eqb (q % 4) 0) k (set k (z % 8) (field_as (q % 4) f)))

unfoldable pub gathered : Choice → List Bytes → List ℕ
gathered c fs = gather c.kinds c.slots fs (replicate places 0)
