-- The records of a sound section pass their rules: no field of a column is refused. Assumes nothing.
use mathlib.Core.Path.{◌≡◌}
use mathlib.Core.Bool.{Bool, true, false≢true}
use mathlib.Core.List.{List, [], ◌∷◌}
use Prim.Native.Nat.{ℕ, zero, suc, ◌<◌}
use native.Mathlib.Omega.{arith}
use lib.ListN.{length, get_or}
use Rattle.page.specs.Bytes.{Bytes}
use Rattle.page.specs.Fields.{fields}
use Rattle.page.specs.Tables.{column_at, width}
use Rattle.page.specs.Order.{Order, arranged, standing, place}
use Rattle.page.specs.Cut.{Section}
use Rattle.page.specs.Section.{field_of, field_number, rec_verdict, outcome}
use Rattle.page.specs.Records.{table_index, order_in}
use Rattle.page.specs.Places.{record_at}
use Rattle.page.specs.Rules.{Every, one_more}
use Rattle.page.proofs.OrderLaws.{arranged_long, place_in, standing_length, standing_column, none_wrong}
use Rattle.laws.specs.Begins.{begins}
use Rattle.laws.proofs.Passed.{passed_width, passed_wrong}
use Rattle.machine.proofs.SoundLaws.{sound_passed}

-- the field of a column, in a record that passed
module _ (t : ℕ) (o : Order) (m : ℕ) (fs : List Bytes) (a : arranged (width t) o ≡ true) (e : rec_verdict t o m fs ≡ 0) (c : ℕ) (h : c < width t) where
  pub passed_there : place c o < length fs
  passed_there = omega (arith, (place_in (width t) o a c h).0, arranged_long (width t) o a, passed_width t o m fs e)

  pub passed_right : field_number (field_of (column_at t c) (get_or fs (place c o) [])) ≡ 0
  passed_right =
      let l = place_in (width t) o a c h in
      rw (standing_column t o (place c o) l.0, l.1) at (none_wrong (standing t o) fs (passed_wrong t o m fs e) (place c o) (omega (arith, l.0, standing_length t o)) passed_there)

-- of a section's lines
pub section_passed : (latin : Bool) (ls : List Bytes) (r at : ℕ) → begins ls ≡ true → (outcome latin ls).verdict ≡ 0 → r < (outcome latin ls).records
    → rec_verdict (table_index ls) (order_in ls) (record_at r 0 at ls).mark (fields (record_at r 0 at ls).rest) ≡ 0
unfolding begins
section_passed latin [] r at b e h = absurd (false≢true b)
section_passed latin (l ∷ ls) r at b e h = sound_passed latin l ls r at b e h

pub every_at : {P : Section → Type 0} (d : Section) (xs : List Section) (k : ℕ) → Every P xs → k < length xs → P (get_or xs k d)
every_at d [] k e h = absurd (omega arith)
every_at d (x ∷ xs) zero (one_more p q) h = p
every_at d (x ∷ xs) (suc k) (one_more p q) h = every_at d xs k q (omega arith)
