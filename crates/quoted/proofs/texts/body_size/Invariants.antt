use Rattle.std.proofs.Common.{◌≡◌, ◌≤◌, false, drop}
use Rattle.page.specs.Fields.{body_of}
use Rattle.quoted.specs.Sizes.{size_of}
use Rattle.quoted.proofs.SizeLaws.{counted}
use Rattle.quoted.proofs.texts.body_size.Given as goal

abbrev pub invariant-loop-b : goal.invariant-loop-b
invariant-loop-b l = (l.n ≤ l.b-index) × (counted l.n (body_of l.met (drop l.b-index l.w)) ≡ size_of (body_of false l.w))
