use mathlib.Core.Path.{◌≡◌}
use Prim.Native.Nat.{ℕ, ◌<◌, ◌≤◌}
use lib.ListN.{length, get_or}
use Rattle.page.specs.Tables.{WIDEST}
use Rattle.choices.specs.Choices.{rank}
use Rattle.choices.proofs.rank_columns.Given as goal

abbrev pub invariant-loop-c : goal.invariant-loop-c
invariant-loop-c l =
    (l.n ≤ l.c) × (length l.ranks ≡ WIDEST) × (l.n ≡ rank l.taken l.c) × ((k : ℕ) → k < l.c → get_or l.ranks k 0 ≡ rank l.taken k)
