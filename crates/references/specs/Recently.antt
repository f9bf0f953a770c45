-- What is remembered from record to record of a table's first reference.
use Rattle.std.specs.Prelude.{◌≡◌, true, Option, IfSome}
use Rattle.aims.specs.Aims.{aim_at, reached}
use Rattle.aims.specs.declared.Aims.{Aims}
use Rattle.keys.specs.declared.key.Key.{Key}

-- a record has the key that was met
abbrev pub Recently : Aims → Option Key → Type 0
Recently aims x = IfSome x (λ k. reached (aim_at aims 0) k.k ≡ true)
