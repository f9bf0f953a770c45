-- What a field, and one walk over a record's fields, says or refuses.
use Rattle.std.specs.Prelude.{◌≡◌, Bool, true, false, ℕ, ◌+◌, ◌-◌, take, drop, Result, Ok, Err}
use Rattle.page.specs.Bytes.{Bytes, all}
use Rattle.page.specs.Lines.{allowed}
use Rattle.page.specs.Fields.{fields, field_size}
use Rattle.page.specs.Order.{Order, standing}
use Rattle.page.specs.Section.{field_of, field_number, first_wrong}
use Rattle.page.specs.declared.Column.{Column}
use Rattle.digits.specs.Runs.{field_from}
use Rattle.judging.specs.Judging.{judged_number, Judged}
use Rattle.judging.specs.declared.records.Told.{Told}
use Rattle.judging.specs.declared.records.Judgement.{Judgement}

-- the field that begins at a place of w
abbrev pub Tells : Bool → Column → Bytes → ℕ → Result Told ℕ → Type 0
Tells wide c w at (Ok told) =
    (told.end ≡ at + field_size false (drop at w))
    × (field_number (field_of c (field_from w at)) ≡ 0)
    × (told.value ≡ judged_number (field_of c (field_from w at)))
    × (told.clean ≡ true → all (allowed wide) (take (told.end - at) (drop at w)) ≡ true)
Tells wide c w at (Err v) = (v ≡ field_number (field_of c (field_from w at))) × (v ≡ 0 → ⊥)

-- the fields of w
abbrev pub Found : Bool → ℕ → Order → Bytes → Result Judgement ℕ → Type 0
Found wide t o w (Ok j) = Judged t o (fields w) 0 j.whole j.numbers × (j.clean ≡ true → all (allowed wide) w ≡ true)
Found wide t o w (Err v) = (v ≡ first_wrong (standing t o) (fields w)) × (v ≡ 0 → ⊥)
