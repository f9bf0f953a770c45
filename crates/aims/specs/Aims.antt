-- Where the references of a table go.
use Rattle.std.specs.Prelude.{◌≡◌, Bool, false, not, List, ℕ, ◌<◌, eqb, length}
use Rattle.page.specs.Bytes.{Bytes, pick}
use Rattle.page.specs.Lines.{lines, content, rest}
use Rattle.page.specs.Fields.{fields}
use Rattle.page.specs.Tables.{MOST, table_at}
use Rattle.page.specs.Order.{Order}
use Rattle.page.specs.File.{any}
use Rattle.keys.specs.Numbers.{gathered}
use Rattle.scans.specs.Scan.{is_record, bears, some}
use Rattle.seats.specs.Faults.{reaches}
use Rattle.aims.specs.declared.Aim.{Aim}
use Rattle.aims.specs.declared.Aims.{Aims}
use Rattle.seats.specs.declared.seating.Seats.{Seats}

unfoldable pub aim_at : Aims → ℕ → Aim
aim_at a r = pick (eqb r 0) a.first (pick (eqb r 1) a.second a.third)

-- a record in the bytes of an aim has the key k
unfoldable pub reached : Aim → List ℕ → Bool
reached a k = any (bears a.key k) (lines a.part.now)

-- a record with the fields fs has no record where its reference k aims
unfoldable pub lacks : Aims → List Bytes → ℕ → Bool
lacks aims fs k = not (reached (aim_at aims k) (gathered (aim_at aims k).refer fs))

unfoldable pub lacks_some : Aims → ℕ → Bytes → Bool
lacks_some aims t l = pick (is_record l) (some (lacks aims (fields (rest (content l)))) 0 (length (table_at t).references)) false

abbrev pub lacks_any : Aims → ℕ → List Bytes → Bytes → Bool
lacks_any aims t before l = lacks_some aims t l

-- the aim of reference r of table t, where its columns stand in the order o
pub record Aimed (s : Bytes) (seats : Seats) (t : ℕ) (o : Order) (r : ℕ) (a : Aim) : Type 0 where
  pub is : (fs : List Bytes) → reaches s seats t o fs r ≡ reached a (gathered a.refer fs)

pub record Aiming (s : Bytes) (seats : Seats) (t : ℕ) (o : Order) (aims : Aims) : Type 0 where
  pub each : (r : ℕ) → r < MOST → Aimed s seats t o r (aim_at aims r)
