-- Rounds by the hash of a key: the records passed, of a round, are new and have their bits set. Assumes nothing.
use mathlib.Core.Path.{◌≡◌, refl, ap, sym, ◌∙◌}
use mathlib.Core.Bool.{Bool, true, false, not, false≢true}
use mathlib.Core.List.{List, []}
use mathlib.Core.Logic.{◌⊎◌, inl, inr, ⊎_elim}
use Prim.Native.Nat.{ℕ, ◌+◌, ◌-◌, ◌<◌}
use native.Mathlib.Omega.{arith}
use borrow.Author.Count.{below_more}
use lib.ListN.{length, get_or, take, drop}
use Rattle.page.specs.Bytes.{Bytes}
use Rattle.page.specs.Lines.{lines}
use Rattle.page.proofs.LineLaws.{line_size}
use Rattle.keys.specs.Orders.{hashed}
use Rattle.choices.specs.declared.Choice.{Choice}
use Rattle.scans.specs.Scan.{is_record, line_key, again}
use Rattle.bits.specs.Bits.{Has, Added, two_of, four_of, lane_of}
use Rattle.rounds.specs.Rounds.{again_at, hash_of, hash_at, Round, Crowded, Doubtful, Sieved, MarkedLine, Doubted, SettledLine, Settled}
use Rattle.rounds.proofs.NumberLaws.{Stands, stands_in, stands_line, again_here, again_other, again_new}

pub not_true : (b : Bool) → not b ≡ true → b ≡ false
not_true true e = sym e
not_true false e = refl

pub not_both : (b : Bool) → not b ≡ true → b ≡ true → ⊥
not_both b n y = false≢true (sym (not_true b n) ∙ y)

same_hash : (q : Choice) (a b : Bytes) → line_key q a ≡ line_key q b → hash_of q a ≡ hash_of q b
unfolding hash_of
same_hash q a b e = ap (hashed 0) e

-- a record whose hash no record before it has
hash_new : (q : Choice) (ls : List Bytes) (i : ℕ) → i < length ls
    → ((j : ℕ) → j < i → is_record (get_or ls j []) ≡ true → hash_at q ls j ≡ hash_at q ls i → ⊥) → again_at q ls i ≡ false
hash_new q ls i x f = again_new q ls i x (λ j k y p. f j k y (same_hash q (get_or ls j []) (get_or ls i []) p))

-- one line of the first pass
module _ (l : Bytes) (h r n nt : ℕ) (t₀ t : List ℕ) (na : ℕ) (a₀ : List ℕ) (b : Bool) where
  pub line_doubtful : (a : List ℕ) → Sieved ((lane_of h n ≡ r) × (is_record l ≡ true)) nt h (two_of h) t₀ b t → b ≡ true → (c : Bool) → Added a₀ na h (four_of h) c a → MarkedLine l h r n nt t₀ t na a₀ true a
  line_doubtful a s f c p = record { crowd = rw f at s; keeps = p.keeps; holds = λ y. p.holds }

  pub line_new : Sieved ((lane_of h n ≡ r) × (is_record l ≡ true)) nt h (two_of h) t₀ b t → b ≡ false → MarkedLine l h r n nt t₀ t na a₀ false a₀
  line_new s f = record { crowd = rw f at s; keeps = λ g k x. x; holds = λ y. absurd (false≢true y) }

-- the lines before line i that are wanted are in the table: line i is new if its bits were not all set
sieved_new : (q : Choice) (ls : List Bytes) (i : ℕ) → i < length ls → (wanted : ℕ → Type 0) (bits : ℕ → ℕ) (n : ℕ) (t : List ℕ)
    → ((m : ℕ) → m < i → wanted m → Has t n (hash_at q ls m) (bits (hash_at q ls m)))
    → ((m : ℕ) → is_record (get_or ls m []) ≡ true → hash_at q ls m ≡ hash_at q ls i → wanted i → wanted m)
    → (b : Bool) (t' : List ℕ) → Sieved (wanted i) n (hash_at q ls i) (bits (hash_at q ls i)) t b t' → b ≡ false → wanted i → again_at q ls i ≡ false
sieved_new q ls i x wanted bits n t s c b t' p f u = hash_new q ls i x (λ j k y z. p.fresh f u (rw z at (s j k (c j y z u))))

-- the first pass: of the lines before line i, those in round r of n are new or doubtful, and the records among them are in the table;
-- o: some may be doubtful

abbrev pub Marked : Choice → List Bytes → ℕ → ℕ → ℕ → List ℕ → ℕ → List ℕ → Bool → ℕ → Type 0
Marked q ls r n nt t na a o i =
    (m : ℕ) → m < i → lane_of (hash_at q ls m) n ≡ r
    → ((again_at q ls m ≡ false) ⊎ ((o ≡ true) × Doubtful na a (hash_at q ls m))) × (is_record (get_or ls m []) ≡ true → Crowded nt t (hash_at q ls m))

module _ (q : Choice) (w : Bytes) (at i e : ℕ) (z : Stands w at i) (v : at < length w) (y : e ≡ at + line_size (drop at w)) where
  module _ (r n nt na : ℕ) (t a : List ℕ) (o : Bool) (s : Marked q (lines w) r n nt t na a o i) (t' a' : List ℕ) (b : Bool)
      (p : MarkedLine (take (e - at) (drop at w)) (hash_of q (take (e - at) (drop at w))) r n (length t) t t' (length a) a b a')
      (g : length t ≡ nt) (h : length a ≡ na) where
    marks : MarkedLine (get_or (lines w) i []) (hash_at q (lines w) i) r n nt t t' na a b a'
    marks = rw (stands_line w at i e z v y, sym g, sym h) p

    pub marked_doubt : b ≡ true → Marked q (lines w) r n nt t' na a' true (i + 1)
    marked_doubt f =
        let d = marks in
        below_more _ _
        (λ m k l. (⊎_elim (λ f. inl f) (λ g. inr (refl, d.keeps _ _ g.1)) (s m k l).0, λ y. d.crowd.keeps _ _ ((s m k l).1 y)))
        (λ l. (inr (refl, d.holds f), λ y. d.crowd.holds (l, y)))

    new : b ≡ false → lane_of (hash_at q (lines w) i) n ≡ r → again_at q (lines w) i ≡ false
    new f l = by (is_record (get_or (lines w) i [])) refl
      where
        by : (x : Bool) → is_record (get_or (lines w) i []) ≡ x → again_at q (lines w) i ≡ false
        by false x = again_other q (lines w) i x
        by true x =
            sieved_new q (lines w) i (stands_in w at i e z v y) (λ m. (lane_of (hash_at q (lines w) m) n ≡ r) × (is_record (get_or (lines w) m []) ≡ true)) two_of nt t
            (λ m k u. (s m k u.0).1 u.1) (λ m k c u. (rw c u.0, k)) b t' marks.crowd f (l, x)

    pub marked_new : b ≡ false → Marked q (lines w) r n nt t' na a' o (i + 1)
    marked_new f =
        let d = marks in
        below_more _ _
        (λ m k l. (⊎_elim (λ f. inl f) (λ g. inr (g.0, d.keeps _ _ g.1)) (s m k l).0, λ y. d.crowd.keeps _ _ ((s m k l).1 y)))
        (λ l. (inl (new f l), λ y. d.crowd.holds (l, y)))

-- the second pass: of the lines before line i, the doubtful ones are new and in the table

abbrev pub Told : Choice → List Bytes → ℕ → List ℕ → ℕ → List ℕ → ℕ → Type 0
Told q ls na a nt t i =
    (m : ℕ) → m < i → Doubtful na a (hash_at q ls m) → (again_at q ls m ≡ false) × Has t nt (hash_at q ls m) (four_of (hash_at q ls m))

module _ (q : Choice) (w : Bytes) (at i e : ℕ) (z : Stands w at i) (v : at < length w) (y : e ≡ at + line_size (drop at w)) where
  module _ (na nt : ℕ) (a t : List ℕ) (s : Told q (lines w) na a nt t i) (t' : List ℕ) (b : Bool)
      (p : SettledLine (hash_of q (take (e - at) (drop at w))) na a (length t) t b t') (g : length t ≡ nt) where
    settles : SettledLine (hash_at q (lines w) i) na a nt t b t'
    settles = rw (stands_line w at i e z v y, sym g) p

    told_more : (Doubtful na a (hash_at q (lines w) i) → again_at q (lines w) i ≡ false) → Told q (lines w) na a nt t' (i + 1)
    told_more f =
        let d = settles in
        below_more _ _ (λ m k l. ((s m k l).0, d.keeps _ _ (s m k l).1)) (λ l. (f l, d.holds l))

    pub told_new : b ≡ false → Told q (lines w) na a nt t' (i + 1)
    told_new f =
        told_more
        (sieved_new q (lines w) i (stands_in w at i e z v y) (λ m. Doubtful na a (hash_at q (lines w) m)) four_of nt t (λ m k u. (s m k u).1) (λ m k c u. rw c u) b t' settles f)

    pub told_met : (c : Bool) → c ≡ again q (lines (take at w)) (take (e - at) (drop at w)) → c ≡ false → Told q (lines w) na a nt t' (i + 1)
    told_met c x f = told_more (λ l. again_here w at i e z v y q c x ∙ f)

pub round_none : (q : Choice) (ls : List Bytes) (r n last na : ℕ) (a : List ℕ) (o : Bool) → Doubted q ls r n last na a o → not o ≡ true → Round q ls r n last last
round_none q ls r n last na a o d f =
    record {
      within = omega arith;
      hit = λ l. absurd (omega arith);
      clear = λ m k x l. ⊎_elim (λ g. g) (λ g. absurd (false≢true (sym (ap not g.0) ∙ f))) (d.each m k x l);
    }

pub round_done : (q : Choice) (ls : List Bytes) (r n last na nb : ℕ) (a : List ℕ) (o : Bool) (e : ℕ) → nb ≡ na → Doubted q ls r n last na a o
    → Settled q ls nb a last e → Round q ls r n last e
round_done q ls r n last na nb a o e b d s =
    record {
      within = s.within;
      hit = s.hit;
      clear = λ m k x l. ⊎_elim (λ f. f) (λ g. s.clear m k x (rw b g.1)) (d.each m (omega (arith, s.within)) x l);
    }
