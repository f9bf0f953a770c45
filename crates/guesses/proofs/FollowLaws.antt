-- A record that is met at any place where a line begins is one of the section's. Assumes nothing.
use mathlib.Core.Path.{◌≡◌, refl, sym}
use mathlib.Core.Bool.{Bool, true}
use Prim.Native.Nat.{ℕ, ◌+◌, ◌-◌, ◌<◌}
use lib.ListN.{length, take, drop}
use Rattle.page.specs.Bytes.{Bytes}
use Rattle.page.specs.Lines.{lines}
use Rattle.page.specs.File.{any}
use Rattle.page.proofs.LineLaws.{line_size}
use Rattle.page.proofs.PartLaws.{part_rest}
use Rattle.scans.specs.Scan.{Starts}
use Rattle.scans.proofs.ScanLaws.{any_hit, ahead_hit}

pub near_hit : (w : Bytes) (at e : ℕ) → at < length w → e ≡ at + line_size (drop at w) → Starts w at → (p : Bytes → Bool)
    → p (take (e - at) (drop at w)) ≡ true → any p (lines w) ≡ true
near_hit w at e h q z p b = sym (ahead_hit w at z p true (rw (part_rest at w) (sym (any_hit w at e h q p b))) refl)
