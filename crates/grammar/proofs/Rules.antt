-- The rules of a record: the machine asks them of its fields, the grammar of its values, and each test decides its rule. Assumes nothing.
use Rattle.std.specs.Prelude.{Some}
use mathlib.Core.Path.{◌≡◌, refl, ap, sym, ◌∙◌}
use mathlib.Core.Bool.{Bool, true, false, not, ◌&&◌, ◌||◌, false≢true}
use mathlib.Core.List.{List, [], ◌∷◌, Memᴰ}
use mathlib.Core.Logic.{◌⊎◌, inl, inr}
use Prim.Native.Nat.{ℕ, zero, suc, ◌+◌}
use native.Mathlib.Omega.{arith}
use lib.Dec.{eqb}
use lib.ListN.{get_or}
use borrow.Author.Tests.{ne_eqb}
use Rattle.page.specs.Bytes.{Bytes, pick}
use Rattle.page.specs.Fields.{number_of}
use Rattle.page.specs.Tables.{Named, Rule, points_differ, feeder_combined, columns, rules}
use Rattle.page.specs.Section.{record_text, amount, amount_at, no_bytes, empty_at, own_feeder, foreign_feeder, broken, first_broken}
use Rattle.page.specs.Records.{Datum, number, words, Record}
use Rattle.page.specs.Grammar.{Holds, a_number, no_number, a_text, Is, Above, Empty, Filled, OwnFeeder, ForeignFeeder, Breaks, same_points, neither_way}
use Rattle.page.specs.declared.Column.{Column}
use Rattle.page.specs.declared.Owner.{Owner}
use Rattle.page.proofs.TestLaws.{or_false}
use Rattle.page.proofs.TableLaws.{Counted, Worded, Four, points_there, Fed, feeder_there}
use Rattle.laws.proofs.Decides.{Decides, holds, fails, untested, when, denied, both, one_of, equal}
use Rattle.grammar.proofs.Values.{Held}

-- what a column holds whose number is never missing, and what one of texts

number_held : {o : Owner} {c : Column} {f : Bytes} {v : Datum} → Holds o c f v → c.text ≡ false → c.optional ≡ false → v ≡ number (amount (number_of f))
number_held (a_number t e g h d) u w = rw e
number_held (no_number t p q) u w = absurd (false≢true (cc))
number_held (a_text t e g) u w = absurd (false≢true (cc))

text_held : {o : Owner} {c : Column} {f : Bytes} {v : Datum} → Holds o c f v → c.text ≡ true → (w : Bytes) × (v ≡ words o w) × (record_text f ≡ Some w)
text_held (a_number t e g h d) u = absurd (false≢true (cc))
text_held (no_number t p q) u = absurd (false≢true (cc))
text_held (a_text {t} u e g) w = (t, refl, e)

-- the tests on columns of a record

module _ (vs : Record) (k : ℕ) where
  above_by : (n : ℕ) → Is vs k n → Decides (Above vs k) (not (eqb n 0))
  above_by zero e = fails (λ x. let q = x.1 in let z : 0 ≡ suc x.0 = cc in omega arith)
  above_by (suc n) e = rw (ne_eqb (suc n) 0 (λ z. omega arith)) (holds (n, e))

  empty_by : (o : Owner) (w : Bytes) → get_or vs k (number 0) ≡ words o w → Decides (Empty vs k) (no_bytes (Some w))
  empty_by o [] e = holds (o, e)
  empty_by o (b ∷ w) e = fails (λ x. let q = x.1 in absurd (false≢true (cc)))

  filled_by : (o : Owner) (w : Bytes) → get_or vs k (number 0) ≡ words o w → Decides (Filled vs k) (not (no_bytes (Some w)))
  filled_by o [] e = fails (λ x. let q = x.3 in absurd (false≢true (cc)))
  filled_by o (b ∷ w) e = holds (o, b, w, e)

module _ {cs : List Named} {fs : List Bytes} {vs : Record} (h : Held cs fs vs) where
  number_at : (k : ℕ) → Counted cs k → Is vs k (amount_at fs k)
  unfolding amount_at
  number_at k c = number_held (h.at k c.within).1 c.number c.given

  number_d : (k n : ℕ) → Counted cs k → Decides (Is vs k n) (eqb (amount_at fs k) n)
  number_d k n c = let e = number_at k c in when (λ q. e ∙ ap number q) (λ q. cc) (equal (amount_at fs k) n)

  above_d : (k : ℕ) → Counted cs k → Decides (Above vs k) (not (eqb (amount_at fs k) 0))
  above_d k c = above_by vs k (amount_at fs k) (number_at k c)

  empty_d : (k : ℕ) → Worded cs k → Decides (Empty vs k) (empty_at fs k)
  empty_d k c =
      let x = h.at k c.within in
      let y = text_held x.1 c.text in
      rw y.2 (empty_by vs k x.0 y.0 y.1)

  filled_d : (k : ℕ) → Worded cs k → Decides (Filled vs k) (not (empty_at fs k))
  filled_d k c =
      let x = h.at k c.within in
      let y = text_held x.1 c.text in
      rw y.2 (filled_by vs k x.0 y.0 y.1)

  -- 14: "the two points are the same"
  points_d : (p : ℕ) → Four cs p → Decides (Breaks vs (points_differ p)) (broken (points_differ p) fs)
  unfolding broken
  points_d p q =
      let a = number_at p q.first in
      let b = number_at (p + 1) q.second in
      let c = number_at (p + 2) q.third in
      let d = number_at (p + 3) q.fourth in
      when (λ x. let y = x.0 in let z = x.1 in same_points (cc) (cc)) (back a b c d)
      (both (equal (amount_at fs p) (amount_at fs (p + 2))) (equal (amount_at fs (p + 1)) (amount_at fs (p + 3))))
    where
      back : Is vs p (amount_at fs p) → Is vs (p + 1) (amount_at fs (p + 1)) → Is vs (p + 2) (amount_at fs (p + 2)) → Is vs (p + 3) (amount_at fs (p + 3)) →
          Breaks vs (points_differ p) → (amount_at fs p ≡ amount_at fs (p + 2)) × (amount_at fs (p + 1) ≡ amount_at fs (p + 3))
      back a b c d (same_points x y) = ((cc), (cc))

  -- the two ways in which a feeder is told
  module _ (c x : ℕ) (f : Fed cs c x) where
    own_d : Decides (OwnFeeder vs c x) (eqb (amount_at fs c) 0 && own_feeder c x fs)
    unfolding own_feeder
    own_d =
        let n = f.numbers in
        when
        (λ p. record { centre = p.0; line = p.1.1.0; stop = p.1.1.1; line_id = p.1.0.0; direction_id = p.1.0.1.0; area_id = p.1.0.1.1 })
        (λ o. (o.centre, ((o.line_id, (o.direction_id, o.area_id)), (o.line, o.stop))))
        (both (number_d c 0 n.first)
        (both (both (empty_d x f.line_id) (both (empty_d (x + 1) f.direction_id) (empty_d (x + 2) f.area_id)))
        (both (above_d (c + 1) n.second) (above_d (c + 3) n.fourth))))

    foreign_d : Decides (ForeignFeeder vs c x) (not (eqb (amount_at fs c) 0) && foreign_feeder c x fs)
    unfolding foreign_feeder
    foreign_d =
        let n = f.numbers in
        when
        (λ p. record { centre = p.0; line = p.1.1.0; direction = p.1.1.1.0; stop = p.1.1.1.1; line_id = p.1.0.0; direction_id = p.1.0.1.0; area_id = p.1.0.1.1 })
        (λ o. (o.centre, ((o.line_id, (o.direction_id, o.area_id)), (o.line, (o.direction, o.stop)))))
        (both (above_d c n.first)
        (both (both (filled_d x f.line_id) (both (filled_d (x + 1) f.direction_id) (filled_d (x + 2) f.area_id)))
        (both (number_d (c + 1) 0 n.second) (both (number_d (c + 2) 0 n.third) (number_d (c + 3) 0 n.fourth)))))

    pub told_d : Decides (OwnFeeder vs c x ⊎ ForeignFeeder vs c x) (pick (eqb (amount_at fs c) 0) (own_feeder c x fs) (foreign_feeder c x fs))
    told_d = rw (picked (eqb (amount_at fs c) 0) (own_feeder c x fs) (foreign_feeder c x fs)) (one_of own_d foreign_d)
      where
        picked : (a y z : Bool) → pick a y z ≡ (a && y || not a && z)
        picked true y z = sym (or_false y)
        picked false y z = refl

    -- 25: "wrong combination"
    feeder_d : Decides (Breaks vs (feeder_combined c x)) (broken (feeder_combined c x) fs)
    unfolding broken
    feeder_d = when (λ n. neither_way (λ o. n (inl o)) (λ g. n (inr g))) back (denied told_d)
      where
        back : Breaks vs (feeder_combined c x) → ¬ (OwnFeeder vs c x ⊎ ForeignFeeder vs c x)
        back (neither_way n m) s = elim s [ inl o ↦ n o | inr g ↦ m g ]

pub rule_decided : (t : ℕ) {fs : List Bytes} {vs : Record} → Held (columns t) fs vs → (r : Rule) → Memᴰ r (rules t) → Decides (Breaks vs r) (broken r fs)
rule_decided t h (points_differ p) m = points_d h p (points_there t p m)
rule_decided t h (feeder_combined c x) m = feeder_d h c x (feeder_there t c x m)

-- values that break no rule of a list have no number of one
pub rules_kept : (fs : List Bytes) (vs : Record) (rs : List Rule) → ((r : Rule) → Memᴰ r rs → Decides (Breaks vs r) (broken r fs)) →
    ((r : Rule) → Memᴰ r rs → ¬ Breaks vs r) → first_broken rs fs ≡ 0
unfolding first_broken
rules_kept fs vs [] d n = refl
rules_kept fs vs (r ∷ rs) d n =
    rw (untested (d r (Memᴰ.head refl)) (n r (Memᴰ.head refl)), rules_kept fs vs rs (λ x k. d x (Memᴰ.tail k)) (λ x k. n x (Memᴰ.tail k)))
