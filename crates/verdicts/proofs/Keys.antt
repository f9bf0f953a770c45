-- The records of a file, filed in order, and the tables that it says: keys and references of the one are those of the other.
use mathlib.Core.Path.{◌≡◌, refl, ap, sym, ◌∙◌}
use mathlib.Core.Bool.{Bool, true}
use mathlib.Core.List.{List, [], ◌∷◌, ◌++◌, map, Memᴰ}
use mathlib.Core.Logic.{◌⊎◌, inl, inr, ◌↔◌}
use Prim.Native.Nat.{ℕ, suc, ◌<◌}
use Rattle.page.specs.Tables.{Reference, table_at, TABLES}
use Rattle.page.specs.Cut.{Section}
use Rattle.page.specs.Records.{Record, Entry, entries_of, records_of, table_index}
use Rattle.page.specs.File.{Filed, filed_in, filed}
use Rattle.page.specs.Model.{Content}
use Rattle.page.specs.Rules.{Every, none_left, one_more, Tables, no_table, a_table, key, OneKey, Meets, Refers}
use Rattle.page.specs.declared.Column.{Column}
use Rattle.laws.specs.Begins.{begins}
use Rattle.verdicts.specs.First.{NoneOf}
use Rattle.verdicts.specs.Files.{TableAgain, KeyAgain, Found, Lost}
use Rattle.laws.proofs.Decides.{Decides, holds, fails}
use Rattle.laws.proofs.Lists.{every_head, every_tail, every_at, every_from, every_append, every_map}
use Rattle.grammar.proofs.Readings.{denotes_read}
use Rattle.verdicts.proofs.Firsts.{none_nil, none_head, none_tail}
use Rattle.verdicts.proofs.Splits.{split_mem, mem_split, apart_none, mem_map, map_mem, map_split, split_map, none_left as before-none, none_right as after_none, none_both}
use Rattle.verdicts.proofs.Offenders.{found_d}

abbrev values_of : List Filed → List Record
values_of ds = map (λ (d : Filed). d.values) ds

-- these records are those of a table
pub record Holding (c : Content) (ds : List Filed) : Type 0 where
  pub tables : Every (λ d. d.table ≡ c.table) ds
  pub values : values_of ds ≡ c.records

-- these records, in order, are those of the tables, one after the other
pub data FiledAs : List Content → List Filed → Type 0 where
  nothing : FiledAs [] []
  its_records : {c : Content} {cs : List Content} {ds es : List Filed} → Holding c ds → FiledAs cs es → FiledAs (c ∷ cs) (ds ++ es)

abbrev filed_as_one : ℕ → ℕ → Entry → Filed
filed_as_one i t e = record { section = i; table = t; line = e.line; values = e.values }

one_table : (i t : ℕ) (es : List Entry) → Every (λ d. d.table ≡ t) (map (filed_as_one i t) es)
one_table i t [] = none_left
one_table i t (e ∷ es) = one_more refl (one_table i t es)

same_values : (i t : ℕ) (es : List Entry) → values_of (map (filed_as_one i t) es) ≡ map (λ (e : Entry). e.values) es
same_values i t [] = refl
same_values i t (e ∷ es) = ap (λ (z : List Record). e.values ∷ z) (same_values i t es)

-- all records of a file in order are those of its tables
pub filed_tables : (latin : Bool) (i : ℕ) {xs : List Section} {cs : List Content} → Every (λ x. begins x.lines ≡ true) xs → Tables latin xs cs → FiledAs cs (filed latin i xs)
unfolding filed filed_in records_of
filed_tables latin i e no_table = nothing
filed_tables latin i e (a_table {x} {xs} {c} d t) =
    let a = denotes_read latin x.lines c.table c.records (every_head e) d in
    its_records {c = c} {ds = filed_in latin i x} (record { tables = rw a.0 (one_table i c.table (entries_of latin x.lines)); values = same_values i (table_index x.lines) (entries_of latin x.lines) ∙ a.1 })
    (filed_tables latin (suc i) (every_tail e) t)

-- a record of the file is one of a table of it
pub filed_content : {cs : List Content} {es : List Filed} (e : Filed) → FiledAs cs es → Memᴰ e es → (c : Content) × Memᴰ c cs × (e.table ≡ c.table) × Memᴰ e.values c.records
filed_content e nothing m = absurd (mathlib.Core.List.Memᴰ.not-nil m)
filed_content e (its_records {c} {cs} {ds} {es} h k) m = by (mathlib.Core.List.Memᴰ.append_cases ds m) (λ i. filed_content e k i)
  where
    by : Memᴰ e ds ⊎ Memᴰ e es → (Memᴰ e es → (b : Content) × Memᴰ b cs × (e.table ≡ b.table) × Memᴰ e.values b.records) →
        (b : Content) × Memᴰ b (c ∷ cs) × (e.table ≡ b.table) × Memᴰ e.values b.records
    by (inl i) f = (c, mathlib.Core.List.Memᴰ.head refl, every_at ds h.tables i, rw h.values at (mem_map (λ (d : Filed). d.values) ds i))
    by (inr i) f = let z = f i in (z.0, mathlib.Core.List.Memᴰ.tail z.1, z.2, z.3)

-- and the other way
pub content_filed : {cs : List Content} {es : List Filed} {c : Content} {vs : Record} → FiledAs cs es → Memᴰ c cs → Memᴰ vs c.records → (e : Filed) × Memᴰ e es × (e.table ≡ c.table) × (e.values ≡ vs)
content_filed nothing m n = absurd (mathlib.Core.List.Memᴰ.not-nil m)
content_filed {c = b} {vs} (its_records {c} {cs} {ds} {es} h k) m n = by (mathlib.Core.List.Memᴰ.cases_cons m) (λ i. content_filed k i n)
  where
    by : (b ≡ c) ⊎ Memᴰ b cs → (Memᴰ b cs → (e : Filed) × Memᴰ e es × (e.table ≡ b.table) × (e.values ≡ vs)) →
        (e : Filed) × Memᴰ e (ds ++ es) × (e.table ≡ b.table) × (e.values ≡ vs)
    by (inl q) f =
        let i : Memᴰ vs (values_of ds) = rw h.values (rw q at n) in
        let z = map_mem (λ (d : Filed). d.values) ds i in
        (z.0, mathlib.Core.List.Memᴰ.append_left es z.1, every_at ds h.tables z.1 ∙ ap (λ (w : Content). w.table) (sym q), z.2)
    by (inr i) f = let z = f i in (z.0, mathlib.Core.List.Memᴰ.append_right ds z.1, z.2, z.3)

-- one table's keys
module _ (p : Column → Bool) (c : Content) (ds seen : List Filed) (h : Holding c ds) where
  holding_keys : NoneOf (KeyAgain p) seen ds → OneKey p c
  holding_keys n k = (apart_none [] (key p c.table) c.records).1 (λ before after vs e x. found (map_split (λ (d : Filed). d.values) ds before after vs (h.values ∙ e)) x.0 x.1 x.2)
    where
      found : {before : List Record} {vs : Record} → (b : List Filed) × (d : Filed) × (a : List Filed) × (ds ≡ b ++ (d ∷ a)) × (values_of b ≡ before) × (d.values ≡ vs) →
          (u : Record) → Memᴰ u before → key p c.table u ≡ key p c.table vs → ⊥
      found z u m q =
          let w = map_mem (λ (d : Filed). d.values) {y = u} z.0 (rw z.4 m) in
          let here = every_at ds h.tables (split_mem z.0 z.2 z.1 z.3) in
          let there : w.0.table ≡ c.table = every_at {x = w.0} ds h.tables (rw z.3 (mathlib.Core.List.Memᴰ.append_left (z.1 ∷ z.2) w.1)) in
          n z.0 z.2 z.1 z.3 (rw here k, (w.0, mathlib.Core.List.Memᴰ.append_right seen w.1, there ∙ sym here, rw (there, here, w.2, z.5) q))

  keys_holding : Every (λ d. ¬ (d.table ≡ c.table)) seen → OneKey p c → NoneOf (KeyAgain p) seen ds
  keys_holding far o b a e s x = by (mathlib.Core.List.Memᴰ.append_cases seen x.1.1)
    where
      here : e.table ≡ c.table
      here = every_at ds h.tables (split_mem b a e s)

      split : c.records ≡ values_of b ++ (e.values ∷ values_of a)
      split = sym h.values ∙ ap values_of s ∙ split_map (λ (d : Filed). d.values) b a e

      by : Memᴰ x.1.0 seen ⊎ Memᴰ x.1.0 b → ⊥
      by (inl m) = every_at seen far m (x.1.2 ∙ here)
      by (inr m) =
          (apart_none [] (key p c.table) c.records).0 (o (rw here at x.0)) (values_of b) (values_of a) e.values split
          (x.1.0.values, mem_map (λ (d : Filed). d.values) b m, rw (x.1.2 ∙ here, here) at x.1.3)

-- the tables of records that stand before
abbrev Among : List Content → List Filed → Type 0
Among bs seen = Every (λ d. (b : Content) × Memᴰ b bs × (d.table ≡ b.table)) seen

among_more : (bs : List Content) (c : Content) (seen ds : List Filed) → Among bs seen → Holding c ds → Among (bs ++ (c ∷ [])) (seen ++ ds)
among_more bs c seen ds a h =
    every_append (every_map (λ d x. (x.0, mathlib.Core.List.Memᴰ.append_left (c ∷ []) x.1, x.2)) a)
    (every_map (λ d e. (c, mathlib.Core.List.Memᴰ.append_right bs (mathlib.Core.List.Memᴰ.head refl), e)) h.tables)

apart_seen : (bs : List Content) (c : Content) (seen : List Filed) → ¬ TableAgain bs c → Among bs seen → Every (λ d. ¬ (d.table ≡ c.table)) seen
apart_seen bs c seen n a = every_map (λ d x e. n (x.0, x.1, sym x.2 ∙ e)) a

-- 18, 19: no key comes twice among the records exactly if none does in each table, where no table comes twice
keys_from : (p : Column → Bool) (bs : List Content) (seen : List Filed) {cs : List Content} {es : List Filed} → FiledAs cs es → NoneOf TableAgain bs cs → Among bs seen →
    NoneOf (KeyAgain p) seen es → Every (OneKey p) cs
keys_from p bs seen nothing t a n = none_left
keys_from p bs seen (its_records {c} {cs} {ds} {es} h k) t a n =
    one_more (holding_keys p c ds seen h (before-none (KeyAgain p) seen ds es n))
    (keys_from p (bs ++ (c ∷ [])) (seen ++ ds) k (none_tail TableAgain bs c cs t) (among_more bs c seen ds a h) (after_none (KeyAgain p) seen ds es n))

keys_to : (p : Column → Bool) (bs : List Content) (seen : List Filed) {cs : List Content} {es : List Filed} → FiledAs cs es → NoneOf TableAgain bs cs → Among bs seen →
    Every (OneKey p) cs → NoneOf (KeyAgain p) seen es
keys_to p bs seen nothing t a o = none_nil (KeyAgain p) seen
keys_to p bs seen (its_records {c} {cs} {ds} {es} h k) t a o =
    none_both (KeyAgain p) seen ds es (keys_holding p c ds seen h (apart_seen bs c seen (none_head TableAgain bs c cs t) a) (every_head o))
    (keys_to p (bs ++ (c ∷ [])) (seen ++ ds) k (none_tail TableAgain bs c cs t) (among_more bs c seen ds a h) (every_tail o))

-- the keys of a whole file
pub keys_exactly : (p : Column → Bool) (cs : List Content) (es : List Filed) → FiledAs cs es → NoneOf TableAgain [] cs → NoneOf (KeyAgain p) [] es ↔ Every (OneKey p) cs
keys_exactly p cs es k t = (keys_from p [] [] k t none_left, keys_to p [] [] k t none_left)

-- 20: every record's references are found exactly if every table's are
pub references_exactly : (cs : List Content) (es : List Filed) → FiledAs cs es → Every (λ d. d.table < TABLES) es → NoneOf (Lost es) [] es ↔ Every (Refers cs) cs
references_exactly cs es k known = (into, back)
  where
    meets : (e : Filed) (r : Reference) → Found es e r → Meets cs e.values r
    meets e r x =
        let y = filed_content x.0 k x.1 in
        record { table = y.0; here = y.1; named = sym (ap (λ (t : ℕ). (table_at t).name) y.2) ∙ x.2; parent = x.0.values; there = y.3; same = rw y.2 at x.3 }

    sure : (e : Filed) (r : Reference) → Memᴰ r (table_at e.table).references → {b : Bool} → Decides (Found es e r) b → ¬ Lost es [] e → Found es e r
    sure e r m (holds f) n = f
    sure e r m (fails f) n = absurd (n (r, m, f))

    into : NoneOf (Lost es) [] es → Every (Refers cs) cs
    into n = every_from cs (λ c i. every_from c.records (λ vs j. every_from (table_at c.table).references (λ r m.
        let e = content_filed k i j in
        let w : Memᴰ r (table_at e.0.table).references = rw e.2 m in
        let q = mem_split es e.1 in
        rw e.3 at (meets e.0 r (sure e.0 r w (found_d es known e.0 r w) (n q.0 q.1 e.0 q.2))))))

    met : (e : Filed) (r : Reference) (z : Meets cs e.values r) → (d : Filed) × Memᴰ d es × (d.table ≡ z.table.table) × (d.values ≡ z.parent) → Found es e r
    met e r z d = (d.0, d.1, ap (λ (t : ℕ). (table_at t).name) d.2 ∙ z.named, rw (d.2, d.3) z.same)

    back : Every (Refers cs) cs → NoneOf (Lost es) [] es
    back f before after e s x =
        let y = filed_content e k (split_mem before after e s) in
        let z = every_at (table_at y.0.table).references (every_at y.0.records (every_at cs f y.1) y.3) (rw y.2 at x.1) in
        x.2 (met e x.0 z (content_filed k z.here z.there))

-- the records' tables are known
pub filed_known : (cs : List Content) (es : List Filed) → FiledAs cs es → Every (λ c. c.table < TABLES) cs → Every (λ d. d.table < TABLES) es
filed_known cs es k a = every_from es (λ d m. let y = filed_content d k m in rw y.2 (every_at cs a y.1))
