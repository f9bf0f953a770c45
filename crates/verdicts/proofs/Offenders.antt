-- 18, 19, 20: no record breaks the rule, or the answer is the first in file order that does.
use mathlib.Core.Path.{◌≡◌, refl, ap, sym, ◌∙◌}
use mathlib.Core.Bool.{Bool, true, false, not, ◌&&◌, false≢true}
use mathlib.Core.List.Memᴰ
use mathlib.Core.List.{List, [], ◌∷◌, ◌++◌, map, Memᴰ}
use mathlib.Core.Logic.{◌⊎◌, inl, inr, ◌↔◌}
use Prim.Native.Nat.{ℕ, ◌<◌}
use native.Mathlib.Omega.{arith}
use lib.Dec.{eqb, ltb}
use Rattle.page.specs.Bytes.{bytes, pick, same}
use Rattle.page.specs.Lines.{find}
use Rattle.page.specs.Tables.{Reference, all_tables, table_at, table_named, TABLES}
use Rattle.page.specs.Records.{Datum, number, missing, words, Record}
use Rattle.page.specs.File.{any, Filed, same_datum, same_record, key_of, by_primary, has_key, repeats, referred, meets, lost, first_record}
use Rattle.page.specs.Answers.{refusal, sound}
use Rattle.page.specs.Rules.{Every, none_left, one_more, bare, key}
use Rattle.page.specs.declared.Column.{Column}
use Rattle.page.proofs.TableLaws.{past_tables, listed, each_table, name_tells}
use Rattle.verdicts.specs.First.{First, NoneOf}
use Rattle.verdicts.specs.Files.{KeyAgain, Found, Lost}
use Rattle.laws.proofs.Decides.{Decides, holds, fails, when, denied, both, equal, below}
use Rattle.laws.proofs.Tests.{same_d, is_d}
use Rattle.laws.proofs.Lists.{every_at}
use Rattle.verdicts.proofs.Firsts.{any_d, none_nil, none_cons, first_here, first_later}

-- keys compare by value
same_datum_d : (u v : Datum) → Decides (bare u ≡ bare v) (same_datum u v)
same_datum_d (number a) (number b) = when (λ e. ap number e) (λ e. cc) (equal a b)
same_datum_d (number a) missing = fails (λ e. absurd (false≢true (cc)))
same_datum_d (number a) (words o t) = fails (λ e. absurd (false≢true (cc)))
same_datum_d missing (number b) = fails (λ e. absurd (false≢true (cc)))
same_datum_d missing missing = holds refl
same_datum_d missing (words o t) = fails (λ e. absurd (false≢true (cc)))
same_datum_d (words o t) (number b) = fails (λ e. absurd (false≢true (cc)))
same_datum_d (words o t) missing = fails (λ e. absurd (false≢true (cc)))
same_datum_d (words o t) (words p u) = when (λ e. rw e) (λ e. cc) (same_d t u)

-- two keys are the same by value, whoever's their texts are
pub same_record_d : (us vs : Record) → Decides (map bare us ≡ map bare vs) (same_record us vs)
unfolding same_record
same_record_d [] [] = holds refl
same_record_d [] (v ∷ vs) = fails (λ e. absurd (false≢true (cc)))
same_record_d (u ∷ us) [] = fails (λ e. absurd (false≢true (cc)))
same_record_d (u ∷ us) (v ∷ vs) = when (λ p. let a = p.0 in let b = p.1 in cc) (λ e. ((cc), (cc))) (both (same_datum_d u v) (same_record_d us vs))

-- the same members, in whatever order
abbrev Alike : List Filed → List Filed → Type 0
Alike ms ss = (d : Filed) → Memᴰ d ms ↔ Memᴰ d ss

alike_more : (ms ss : List Filed) (e : Filed) → Alike ms ss → Alike (e ∷ ms) (ss ++ (e ∷ []))
alike_more ms ss e a d = (λ m. into (Memᴰ.cases_cons m), λ m. back (Memᴰ.append_cases ss m))
  where
    into : (d ≡ e) ⊎ Memᴰ d ms → Memᴰ d (ss ++ (e ∷ []))
    into (inl q) = Memᴰ.append_right ss (Memᴰ.head q)
    into (inr m) = Memᴰ.append_left (e ∷ []) ((a d).0 m)

    back : Memᴰ d ss ⊎ Memᴰ d (e ∷ []) → Memᴰ d (e ∷ ms)
    back (inl m) = Memᴰ.tail ((a d).1 m)
    back (inr m) = Memᴰ.head (Memᴰ.eq_of_singleton m)

-- a scan over the records, each test seeing those before
module _ (v : ℕ) (bad : List Filed → Filed → Bool) (Breaks : List Filed → Filed → Type 0) (test : (ms ss : List Filed) (e : Filed) → Alike ms ss → Decides (Breaks ss e) (bad ms e)) where
  abbrev Told : List Filed → List Filed → List Filed → Type 0
  Told ms ss es =
      (NoneOf Breaks ss es × (first_record v bad ms es ≡ sound)) ⊎
      ((e : Filed) × First Breaks ss es e × (first_record v bad ms es ≡ refusal v e.section e.line))

  scan_settled : (ms ss es : List Filed) → Alike ms ss → Told ms ss es
  unfolding first_record
  scan_settled ms ss [] a = inl (none_nil Breaks ss, refl)
  scan_settled ms ss (e ∷ es) a = by (bad ms e) (test ms ss e a) (scan_settled (e ∷ ms) (ss ++ (e ∷ [])) es (alike_more ms ss e a))
    where
      by : (b : Bool) → Decides (Breaks ss e) b → Told (e ∷ ms) (ss ++ (e ∷ [])) es →
          (NoneOf Breaks ss (e ∷ es) × (pick b (refusal v e.section e.line) (first_record v bad (e ∷ ms) es) ≡ sound)) ⊎
          ((d : Filed) × First Breaks ss (e ∷ es) d × (pick b (refusal v e.section e.line) (first_record v bad (e ∷ ms) es) ≡ refusal v d.section d.line))
      by true (holds h) r = inr (e, first_here Breaks ss e es h, refl)
      by false (fails n) (inl r) = inl (none_cons Breaks ss e es n r.0, r.1)
      by false (fails n) (inr r) = inr (r.0, first_later Breaks ss e r.0 es n r.1, r.2)

-- 18, 19: the test of a key met before
again_d : (p : Column → Bool) (ms ss : List Filed) (e : Filed) → Alike ms ss → Decides (KeyAgain p ss e) (repeats p ms e)
unfolding repeats key_of key
again_d p ms ss e a =
    both (is_d (has_key p e.table))
    (when (λ x. (x.0, (a x.0).0 x.1, x.2.0, x.2.1)) (λ x. (x.0, (a x.0).1 x.1, (x.2, x.3)))
    (any_d (λ (d : Filed). eqb d.table e.table && same_record (key_of p d) (key_of p e)) ms
    (λ d m. both (equal d.table e.table) (same_record_d (key_of p d) (key_of p e)))))

abbrev pub KeyTold : ℕ → (Column → Bool) → List Filed → Type 0
KeyTold v p es =
    (NoneOf (KeyAgain p) [] es × (first_record v (repeats p) [] es ≡ sound)) ⊎
    ((e : Filed) × First (KeyAgain p) [] es e × (first_record v (repeats p) [] es ≡ refusal v e.section e.line))

-- no record's key was met before, or this is the first record whose was
pub keys_settled : (v : ℕ) (p : Column → Bool) (es : List Filed) → KeyTold v p es
keys_settled v p es = scan_settled v (repeats p) (KeyAgain p) (again_d p) [] [] es (λ d. (λ m. m, λ m. m))

-- a reference's target is a table
abbrev Named : Reference → Type 0
Named r = (table_at (table_named (bytes r.target))).name ≡ r.target

all_named : (rs : List Reference) → map (λ (r : Reference). (table_at (table_named (bytes r.target))).name) rs ≡ map (λ (r : Reference). r.target) rs → Every Named rs
all_named [] e = none_left
all_named (r ∷ rs) e =
    let a : (table_at (table_named (bytes r.target))).name ≡ r.target = cc in
    let b : map (λ (r : Reference). (table_at (table_named (bytes r.target))).name) rs ≡ map (λ (r : Reference). r.target) rs = cc in
    one_more a (all_named rs b)

targets : (t : ℕ) → Every Named (table_at t).references
unfolding listed table_at table_named all_tables find same bytes
targets t = by (ltb t TABLES) (below t TABLES)
  where
    by : (b : Bool) → Decides (t < TABLES) b → Every Named (table_at t).references
    by true (holds h) =
        all_named (table_at t).references
        (each_table (λ (t : ℕ). map (λ (r : Reference). (table_at (table_named (bytes r.target))).name) (table_at t).references)
        (λ (t : ℕ). map (λ (r : Reference). r.target) (table_at t).references) refl t h)
    by false (fails n) = rw (past_tables t (omega arith)) none_left

-- 20: the test of a reference
meets_d : (e d : Filed) (r : Reference) → Named r → d.table < TABLES →
    Decides (((table_at d.table).name ≡ r.target) × (key by_primary d.table d.values ≡ map bare (referred r.columns e.values))) (meets e r d)
unfolding meets key_of key
meets_d e d r n h =
    both (when (λ q. rw q n) (λ q. sym (name_tells d.table h) ∙ ap (λ (x : _). table_named (bytes x)) q) (equal d.table (table_named (bytes r.target))))
    (same_record_d (key_of by_primary d) (referred r.columns e.values))

-- a reference is found among the records by the test exactly if one of them has the key
pub found_d : (every : List Filed) → Every (λ d. d.table < TABLES) every → (e : Filed) (r : Reference) → Memᴰ r (table_at e.table).references →
    Decides (Found every e r) (any (meets e r) every)
found_d every k e r m =
    when (λ x. (x.0, x.1, x.2.0, x.2.1)) (λ x. (x.0, x.1, (x.2, x.3)))
    (any_d (meets e r) every (λ d i. meets_d e d r (every_at (table_at e.table).references (targets e.table) m) (every_at every k i)))

lost_d : (every : List Filed) → Every (λ d. d.table < TABLES) every → (ms ss : List Filed) (e : Filed) → Alike ms ss → Decides (Lost every ss e) (lost every e)
unfolding lost
lost_d every k ms ss e a = any_d (λ (r : Reference). not (any (meets e r) every)) (table_at e.table).references (λ r m. denied (found_d every k e r m))

abbrev pub LostTold : List Filed → Type 0
LostTold es =
    (NoneOf (Lost es) [] es × (first_record 20 (λ before. lost es) [] es ≡ sound)) ⊎
    ((e : Filed) × First (Lost es) [] es e × (first_record 20 (λ before. lost es) [] es ≡ refusal 20 e.section e.line))

-- every record's references are found, or this is the first record of which one is not
pub lost_settled : (es : List Filed) → Every (λ d. d.table < TABLES) es → LostTold es
lost_settled es k = scan_settled 20 (λ before. lost es) (Lost es) (lost_d es k) [] [] es (λ d. (λ m. m, λ m. m))
