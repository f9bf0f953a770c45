-- 25, "wrong combination", as a rule of the grammar, both ways: each record of a sound section of 432 tells its feeder in exactly one of the two
-- ways, and a line is refused with 25 exactly if it is a record of 432 that tells it in neither. Assumes nothing.
use Rattle.std.specs.Prelude.{Err}
use mathlib.Core.Path.{◌≡◌, refl, ap, sym, ◌∙◌}
use mathlib.Core.Bool.{Bool, true, false, ◌&&◌}
use mathlib.Core.List.{List, [], ◌∷◌, ◌++◌, Memᴰ}
use mathlib.Core.Logic.{◌⊎◌, inl, inr, ◌↔◌}
use Prim.Native.Nat.{ℕ, suc, ◌<◌}
use native.Mathlib.Omega.{arith}
use lib.Dec.{eqb, ltb}
use lib.ListN.{length}
use borrow.Author.Tests.{eq-eqb}
use Rattle.page.specs.Bytes.{Bytes}
use Rattle.page.specs.Lines.{Rec}
use Rattle.page.specs.Tables.{Named, Table, Rule, points_differ, feeder_combined, TABLES, all_tables, table_at, number_at, width, rules}
use Rattle.page.specs.Order.{Order, standing}
use Rattle.page.specs.Section.{choose, first_broken, rec_verdict, rec_step, line_step, step, table_in}
use Rattle.page.specs.Records.{Record}
use Rattle.page.specs.Grammar.{fields_of, Says, OwnFeeder, ForeignFeeder, Breaks, neither_way, Reads, Denotes}
use Rattle.page.specs.Refusals.{Law, FirstBroken, marks_of, kind_law, fields_laws, rules_laws, laws, Reaches, Refused, at_line, unfinished}
use Rattle.page.specs.File.{any}
use Rattle.page.specs.Rules.{Every}
use Rattle.page.specs.declared.Phase.{Phase}
use Rattle.page.specs.declared.Phase.TheVariants as P
use Rattle.page.proofs.TableLaws.{past_tables, each, each_in, table_test, number_injective, feeder_there}
use Rattle.page.proofs.OrderLaws.{arranged_long}
use Rattle.laws.proofs.Decides.{Decides, holds, fails, fact, tested, both, equal, below}
use Rattle.laws.proofs.Lists.{every_map}
use Rattle.grammar.proofs.Values.{held}
use Rattle.grammar.proofs.Rules.{told_d}
use Rattle.grammar.proofs.Arranged.{Ordered, reads_rule, reads_right}
use Rattle.grammar.proofs.Steps.{known_step, stop_exactly}
use Rattle.grammar.proofs.Readings.{denoted_lines}
use Rattle.grammar.proofs.Refuses.{reach_ordered}
use Rattle.grammar.proofs.Tells.{Tells, none, other, this, record_laws, OfRecord, of_record, told_record}

-- the rule of 432: LEITSTELLENKENNUNG is its column 4 from 0, and LinienID its column 11
abbrev combination : Rule
combination = feeder_combined 4 11

-- 432 is table 8 from 0, and has no other rule
combination_of : (t : ℕ) → number_at t ≡ 432 → rules t ≡ combination ∷ []
unfolding rules table_at number_at all_tables
combination_of t e = by (ltb t TABLES) (below t TABLES)
  where
    by : (b : Bool) → Decides (t < TABLES) b → rules t ≡ combination ∷ []
    by true (holds h) = rw (number_injective t 8 h (omega arith) e)
    by false (fails n) = let z = ap (λ (x : Table). x.number) (past_tables t (omega arith)) in absurd (let y : ⊥ = omega arith in y)

-- nor has any other table one of its kind
abbrev only_combination : ℕ → Rule → Bool
only_combination n (points_differ p) = true
only_combination n (feeder_combined c x) = eqb n 432 && (eqb c 4 && eqb x 11)

of_combination : (t c x : ℕ) → Memᴰ (feeder_combined c x) (rules t) → (number_at t ≡ 432) × ((c ≡ 4) × (x ≡ 11))
unfolding rules number_at all_tables each
of_combination t c x m =
    fact (both (equal (number_at t) 432) (both (equal c 4) (equal x 11)))
    (each_in (only_combination (number_at t)) (rules t) (table_test (λ (y : Table). each (only_combination y.number) y.rules) refl refl t) (feeder_combined c x) m)

-- a feeder is never told in both ways
pub never_both : {vs : Record} {c x : ℕ} → OwnFeeder vs c x → ¬ ForeignFeeder vs c x
never_both o f =
    let a = o.centre in
    let b = f.centre.1 in
    let z : 0 ≡ suc f.centre.0 = cc in
    omega arith

-- in one way, and not in the other
abbrev pub OneWay : Record → Type 0
OneWay vs = (OwnFeeder vs 4 11 × ¬ ForeignFeeder vs 4 11) ⊎ (ForeignFeeder vs 4 11 × ¬ OwnFeeder vs 4 11)

one_way : (t : ℕ) → Memᴰ combination (rules t) → {o : Order} {ms : List ℕ} {fs : List Bytes} {vs : Record} → Reads t o ms fs vs → ¬ Breaks vs combination → OneWay vs
one_way t m {vs = vs} h n = by (told_d (held h.values) 4 11 (feeder_there t 4 11 m))
  where
    told : OwnFeeder vs 4 11 ⊎ ForeignFeeder vs 4 11 → OneWay vs
    told (inl o) = inl (o, never_both o)
    told (inr f) = inr (f, λ o. never_both o f)

    by : {b : Bool} → Decides (OwnFeeder vs 4 11 ⊎ ForeignFeeder vs 4 11) b → OneWay vs
    by (holds s) = told s
    by (fails k) = absurd (n (neither_way (λ o. k (inl o)) (λ f. k (inr f))))

-- in a sound section of 432 every record tells its feeder in exactly one way
pub told_one_way : (latin : Bool) (ls : List Bytes) (t : ℕ) (rs : List Record) → number_at t ≡ 432 → Denotes latin ls t rs → Every OneWay rs
told_one_way latin ls t rs e d =
    let m : Memᴰ combination (rules t) = rw (combination_of t e) (mathlib.Core.List.Memᴰ.head refl) in
    every_map (λ vs x. one_way t m x.2.fields (x.2.rules combination m)) (denoted_lines t rs d)

-- a record of 432, all of whose fields are read, that tells its feeder in neither way
pub data NeitherWay (latin : Bool) (l : Bytes) : Phase → Order → Type 0 where
  in_neither : {t m n : ℕ} {o : Order} {vs : Record} → number_at t ≡ 432 → Says latin Rec l → Reads t o (marks_of m) (fields_of l) vs →
      ¬ OwnFeeder vs 4 11 → ¬ ForeignFeeder vs 4 11 → NeitherWay latin l (P.Rows t m n) o

-- its line is refused with 25
neither_stops : {latin : Bool} {l : Bytes} {p : Phase} {o : Order} → Ordered p o → NeitherWay latin l p o → step latin p o l ≡ Err 25
unfolding choose line_step rec_step rec_verdict first_broken
neither_stops {l = l} a (in_neither {t} {m} {n} {o} {vs} e s h p q) =
    let i : Memᴰ combination (rules t) = rw (combination_of t e) (mathlib.Core.List.Memᴰ.head refl) in
    rw (
      known_step Rec s (omega arith) (P.Rows t m n) o,
      eq-eqb (length (fields_of l)) (width t) (h.many ∙ arranged_long (width t) o a),
      reads_right t o a h,
      combination_of t e,
      tested (reads_rule t o m h combination i) (neither_way p q),
    )

-- no law of a field has the number 25, and of the rules that of 432 has it
module _ {A : Type 0} where
  fields_tell : (cs : List Named) (fs : List Bytes) (ls : List Law) → Tells 25 A ls → Tells 25 A (fields_laws cs fs ++ ls)
  fields_tell [] fs ls k = k
  fields_tell (c ∷ cs) [] ls k = k
  fields_tell (c ∷ cs) (f ∷ fs) ls k = by c.column.text c.column.optional (other (λ e. omega arith) (λ n. other (λ e. omega arith) (λ n. fields_tell cs fs ls k)))
    where
      by : (b optional : Bool) {xs : List Law} → Tells 25 A xs → Tells 25 A (kind_law b optional f ∷ xs)
      by true optional k = other (λ e. omega arith) (λ n. k)
      by false optional k = other (λ e. omega arith) (λ n. k)

  rules_tell : (B : Rule → Type 0) (rs : List Rule) (ls : List Law) → ((c x : ℕ) → Memᴰ (feeder_combined c x) rs → B (feeder_combined c x) → A) → Tells 25 A ls →
      Tells 25 A (rules_laws B rs ++ ls)
  rules_tell B [] ls f k = k
  rules_tell B (points_differ p ∷ rs) ls f k = other (λ e. omega arith) (λ n. rules_tell B rs ls (λ c x m. f c x (mathlib.Core.List.Memᴰ.tail m)) k)
  rules_tell B (feeder_combined c x ∷ rs) ls f k = this (f c x (mathlib.Core.List.Memᴰ.head refl)) (λ n. rules_tell B rs ls (λ c x m. f c x (mathlib.Core.List.Memᴰ.tail m)) k)

told_neither : {latin : Bool} {l : Bytes} {p : Phase} {o : Order} → OfRecord 25 latin l p o → NeitherWay latin l p o
told_neither {latin} {l} (of_record {t} {m} {n} {o} s e b) =
    let k : Tells 25 (NeitherWay latin l (P.Rows t m n) o) (record_laws t o (marks_of m) (fields_of l)) =
    fields_tell (standing t o) (fields_of l) _ (rules_tell _ (rules t) _ (λ c x i y. told c x (of_combination t c x i) y.1 y.2) (other (λ e. omega arith) (λ k. none))) in
    k.so b
  where
    told : {vs : Record} (c x : ℕ) → (number_at t ≡ 432) × ((c ≡ 4) × (x ≡ 11)) → Reads t o (marks_of m) (fields_of l) vs → Breaks vs (feeder_combined c x) → NeitherWay latin l (P.Rows t m n) o
    told c x z h (neither_way p q) = in_neither z.0 s h (rw (z.1.0, z.1.1) at p) (rw (z.1.0, z.1.1) at q)

neither_told : (latin : Bool) (p : Phase) (o : Order) (l : Bytes) → FirstBroken (laws latin p o l) 25 → NeitherWay latin l p o
unfolding any
neither_told latin p o l b = told_neither (told_record 25 refl latin l p o b)

-- a line is refused with 25 exactly if it is such a record
pub combined_exactly : (latin : Bool) (l : Bytes) (p : Phase) (o : Order) → Ordered p o → step latin p o l ≡ Err 25 ↔ NeitherWay latin l p o
combined_exactly latin l p o a = (λ e. neither_told latin p o l ((stop_exactly latin l p o a 25).0 e), neither_stops a)

-- the first failing line of a section, its line n, is one
pub data Miscombined (latin : Bool) (ls : List Bytes) (n : ℕ) : Type 0 where
  at_record : (before after : List Bytes) (l : Bytes) (q : Phase) (o : Order) → ls ≡ before ++ (l ∷ after) → Reaches latin P.Tbl [] before q o →
      NeitherWay latin l q o → n ≡ suc (length before) → Miscombined latin ls n

neither_table : {latin : Bool} {l : Bytes} {q : Phase} {o : Order} → NeitherWay latin l q o → table_in q ≡ 432
unfolding table_in
neither_table (in_neither e s h p q) = e

-- 25, of a section
pub refused_25 : (latin : Bool) (ls : List Bytes) (k n : ℕ) → Refused latin ls k 25 n ↔ ((k ≡ 432) × Miscombined latin ls n)
refused_25 latin ls k n = (into, λ x. back x.0 x.1)
  where
    into : Refused latin ls k 25 n → (k ≡ 432) × Miscombined latin ls n
    into (at_line before after l q o s g b t p) = let x = neither_told latin q o l b in (t ∙ neither_table x, at_record before after l q o s g x p)
    into (unfinished q o g c t v p) = absurd (let y : ⊥ = omega arith in y)

    back : k ≡ 432 → Miscombined latin ls n → Refused latin ls k 25 n
    back e (at_record before after l q o s g x p) =
        let a = reach_ordered latin tt g in
        at_line before after l q o s g ((stop_exactly latin l q o a 25).0 (neither_stops a x)) (e ∙ sym (neither_table x)) p
