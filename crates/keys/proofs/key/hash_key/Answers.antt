use mathlib.Core.Path.{◌≡◌, ◌∙◌}
use Prim.Native.Nat.{ℕ}
use borrow.Author.Rules.{rules}
use lib.Bits.{bit_xor}
use Rattle.std.specs.List.{fold}
use Rattle.keys.specs.Orders.{mixed}
use Rattle.keys.proofs.DeriveLaws.{hashed_folded}
use Rattle.keys.proofs.key.hash_key.Goals as goal

pub returns : goal.returns
returns c =
    let e : c.fold.result ≡ fold (λ (n x : ℕ). mixed (bit_xor n x)) 0 c.args.key.k = search rules in
    e ∙ hashed_folded 0 c.args.key.k
