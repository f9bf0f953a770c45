-- A file's sections: all denote their tables, or the first that does not is refused; and no table comes twice, or the first that does is.
use mathlib.Core.Path.{◌≡◌, refl, ap, sym, ◌∙◌}
use mathlib.Core.Bool.{Bool, true, false}
use mathlib.Core.List.Memᴰ
use mathlib.Core.List.{List, [], ◌∷◌, ◌++◌, map, Memᴰ}
use mathlib.Core.Logic.{◌⊎◌, inl, inr}
use Prim.Native.Nat.{ℕ, suc, ◌+◌, ◌<◌}
use native.Mathlib.Omega.{arith}
use lib.Dec.{eqb}
use lib.ListN.{length}
use borrow.Author.Tests.{ne_eqb}
use Rattle.page.specs.Bytes.{pick}
use Rattle.page.specs.Tables.{number_at, TABLES}
use Rattle.page.specs.Cut.{Section}
use Rattle.page.specs.Section.{outcome, refused}
use Rattle.page.specs.Records.{Record, records_of, table_index}
use Rattle.page.specs.File.{row_given, row_of, first_unsound, any, first_again}
use Rattle.page.specs.Answers.{refusal, sound}
use Rattle.page.specs.Model.{Content, content_of}
use Rattle.page.specs.Grammar.{Denotes}
use Rattle.page.specs.Refusals.{Refused}
use Rattle.page.specs.Rules.{Every, none_left, one_more, Tables, no_table, a_table}
use Rattle.page.specs.declared.Outcome.{Outcome}
use Rattle.page.proofs.TableLaws.{number_injective}
use Rattle.laws.specs.Begins.{begins}
use Rattle.verdicts.specs.First.{First, NoneOf}
use Rattle.verdicts.specs.Files.{Unsound, TableAgain}
use Rattle.laws.proofs.Decides.{Decides, holds, fails, when, one_of, equal}
use Rattle.grammar.proofs.Accepts.{denotes_accepted, accepted_denotes}
use Rattle.grammar.proofs.Readings.{handed_denoted, denotes_read, denoted_known}
use Rattle.grammar.proofs.Refuses.{section_settled, refuses_exactly, refused_denotes_nothing}
use Rattle.verdicts.proofs.Firsts.{none_nil, none_cons, first_here, first_later}
use Rattle.laws.proofs.Lists.{every_head, every_tail}

same_content : (c : Content) (t : ℕ) (rs : List Record) → t ≡ c.table → rs ≡ c.records → c ≡ record { table = t; records = rs }
same_content c t rs p q = rw (p, q)

module _ (latin : Bool) where
  abbrev Told : ℕ → List Section → List Section → Type 0
  Told i seen xs =
      (Tables latin xs (map (content_of latin) xs) × (first_unsound i (map (row_of latin) xs) ≡ sound)) ⊎
      ((x : Section) × (k : ℕ) × (v : ℕ) × (n : ℕ) × (f : First (Unsound latin) seen xs x) × Refused latin x.lines k v n ×
      (first_unsound i (map (row_of latin) xs) ≡ refusal v (i + length f.before) n))

  pass : (i : ℕ) (x : Section) (xs : List Section) → (outcome latin x.lines).verdict ≡ 0 → first_unsound i (map (row_of latin) (x ∷ xs)) ≡ first_unsound (suc i) (map (row_of latin) xs)
  unfolding first_unsound row_of row_given
  pass i x xs h = rw h

  stop : (i : ℕ) (x : Section) (xs : List Section) (k v n : ℕ) → outcome latin x.lines ≡ refused k v n → ¬ (v ≡ 0) → first_unsound i (map (row_of latin) (x ∷ xs)) ≡ refusal v i n
  unfolding first_unsound row_of row_given
  stop i x xs k v n h z = rw (h, ne_eqb v 0 z)

  -- "the first unsound section in file order": there is none, or it is this one
  pub unsound_settled : (i : ℕ) (seen xs : List Section) → Every (λ x. begins x.lines ≡ true) xs → Told i seen xs
  unfolding first_unsound content_of first_here first_later
  unsound_settled i seen [] e = inl (no_table, refl)
  unsound_settled i seen (x ∷ xs) e = by (section_settled latin x.lines) (unsound_settled (suc i) (seen ++ (x ∷ [])) xs (every_tail e))
    where
      by : ((outcome latin x.lines).verdict ≡ 0) ⊎ ((k : ℕ) × (v : ℕ) × (n : ℕ) × (outcome latin x.lines ≡ refused k v n) × Refused latin x.lines k v n) →
          Told (suc i) (seen ++ (x ∷ [])) xs → Told i seen (x ∷ xs)
      by (inl h) (inl y) = inl (a_table (handed_denoted latin x.lines (every_head e) h) y.0, pass i x xs h ∙ y.1)
      by (inl h) (inr y) =
          let d = accepted_denotes latin x.lines h in
          inr (y.0, y.1, y.2, y.3, first_later (Unsound latin) seen x y.0 xs (λ n. n d) y.4, y.5, pass i x xs h ∙ y.6 ∙ ap (λ (z : ℕ). refusal y.2 z y.3) (omega arith))
      by (inr r) y =
          inr (
            x,
            r.0,
            r.1,
            r.2,
            first_here (Unsound latin) seen x xs (λ d. refused_denotes_nothing latin x.lines r.0 r.1 r.2 d.0 d.1 r.4 d.2),
            r.4,
            stop i x xs r.0 r.1 r.2 r.3 ((refuses_exactly latin x.lines r.0 r.1 r.2).1 r.4).1 ∙ ap (λ (z : ℕ). refusal r.1 z r.2) (omega arith),
          )

  -- sections that denote their tables are passed
  pub tables_pass : (i : ℕ) {xs : List Section} {cs : List Content} → Tables latin xs cs → first_unsound i (map (row_of latin) xs) ≡ sound
  unfolding first_unsound
  tables_pass i no_table = refl
  tables_pass i (a_table {x} {xs} {c} d t) =
      pass i x xs (ap (λ (o : Outcome). o.verdict) (denotes_accepted latin x.lines c.table c.records d)) ∙ tables_pass (suc i) t

  -- and their tables are those handed out
  pub tables_are : {xs : List Section} {cs : List Content} → Every (λ x. begins x.lines ≡ true) xs → Tables latin xs cs → cs ≡ map (content_of latin) xs
  unfolding content_of
  tables_are e no_table = refl
  tables_are e (a_table {x} {xs} {c} d t) =
      let a = denotes_read latin x.lines c.table c.records (every_head e) d in
      let b = same_content c (table_index x.lines) (records_of latin x.lines) a.0 a.1 in
      let g = tables_are (every_tail e) t in
      cc

  -- their tables are of the list
  pub tables_known : {xs : List Section} {cs : List Content} → Tables latin xs cs → Every (λ c. c.table < TABLES) cs
  tables_known no_table = none_left
  tables_known (a_table {c} d t) = one_more (denoted_known c.table c.records d) (tables_known t)

  -- each of them denotes something
  pub tables_denoted : {x : Section} {xs : List Section} {cs : List Content} → Tables latin xs cs → Memᴰ x xs → (t : ℕ) × (rs : List Record) × Denotes latin x.lines t rs
  tables_denoted no_table m = absurd (Memᴰ.not-nil m)
  tables_denoted {x} (a_table {x = y} {xs} {c} d t) m = by (Memᴰ.cases_cons m) (λ i. tables_denoted t i)
    where
      by : (x ≡ y) ⊎ Memᴰ x xs → (Memᴰ x xs → (u : ℕ) × (rs : List Record) × Denotes latin x.lines u rs) → (u : ℕ) × (rs : List Record) × Denotes latin x.lines u rs
      by (inl e) f = rw e (c.table, c.records, d)
      by (inr i) f = f i

-- a table is met before by its number exactly if it is by its place in the list
again_more : (seen : List Content) (b : Content) (nums : List ℕ) → b.table < TABLES →
    ((c : Content) → c.table < TABLES → Decides (TableAgain seen c) (any (eqb (number_at c.table)) nums)) →
    (c : Content) → c.table < TABLES → Decides (TableAgain (seen ++ (b ∷ [])) c) (any (eqb (number_at c.table)) (number_at b.table ∷ nums))
unfolding any
again_more seen b nums l d c h =
    when into back (one_of (when (λ e. sym (number_injective c.table b.table h l e)) (λ e. ap number_at (sym e)) (equal (number_at c.table) (number_at b.table))) (d c h))
  where
    into : (b.table ≡ c.table) ⊎ TableAgain seen c → TableAgain (seen ++ (b ∷ [])) c
    into (inl e) = (b, Memᴰ.append_right seen (Memᴰ.head refl), e)
    into (inr x) = (x.0, Memᴰ.append_left (b ∷ []) x.1, x.2)

    by : (a : Content) → a.table ≡ c.table → Memᴰ a seen ⊎ Memᴰ a (b ∷ []) → (b.table ≡ c.table) ⊎ TableAgain seen c
    by a e (inl m) = inr (a, m, e)
    by a e (inr m) = inl (sym (ap (λ (z : Content). z.table) (Memᴰ.eq_of_singleton m)) ∙ e)

    back : TableAgain (seen ++ (b ∷ [])) c → (b.table ≡ c.table) ⊎ TableAgain seen c
    back x = by x.0 x.2 (Memᴰ.append_cases seen x.1)

module _ (latin : Bool) where
  row_table : (x : Section) (c : Content) → Denotes latin x.lines c.table c.records → (row_of latin x).table ≡ number_at c.table
  unfolding row_of row_given
  row_table x c d = ap (λ (o : Outcome). o.table) (denotes_accepted latin x.lines c.table c.records d)

  abbrev AgainTold : List ℕ → ℕ → List Content → List Section → List Content → Type 0
  AgainTold nums i seen xs cs =
      (NoneOf TableAgain seen cs × (first_again nums i (map (row_of latin) xs) ≡ sound)) ⊎
      ((c : Content) × (f : First TableAgain seen cs c) × (first_again nums i (map (row_of latin) xs) ≡ refusal 17 (i + length f.before) 1))

  -- 17: no table comes a second time, or this is the first that does
  pub again_settled : (nums : List ℕ) (i : ℕ) (seen : List Content) {xs : List Section} {cs : List Content} → Tables latin xs cs →
      ((c : Content) → c.table < TABLES → Decides (TableAgain seen c) (any (eqb (number_at c.table)) nums)) → AgainTold nums i seen xs cs
  unfolding first_again first_here first_later
  again_settled nums i seen no_table d = inl (none_nil TableAgain seen, refl)
  again_settled nums i seen (a_table {x} {xs} {c} {cs} h t) d =
      by (any (eqb (number_at c.table)) nums) refl (d c known)
      (again_settled (number_at c.table ∷ nums) (suc i) (seen ++ (c ∷ [])) t (again_more seen c nums known d))
    where
      known : c.table < TABLES
      known = denoted_known c.table c.records h

      one : (b : Bool) → any (eqb (number_at c.table)) nums ≡ b →
          first_again nums i (map (row_of latin) (x ∷ xs)) ≡ pick b (refusal 17 i 1) (first_again (number_at c.table ∷ nums) (suc i) (map (row_of latin) xs))
      one b e = rw (row_table x c h, e)

      by : (b : Bool) → any (eqb (number_at c.table)) nums ≡ b → Decides (TableAgain seen c) b → AgainTold (number_at c.table ∷ nums) (suc i) (seen ++ (c ∷ [])) xs cs → AgainTold nums i seen (x ∷ xs) (c ∷ cs)
      by true e (holds g) r = inr (c, first_here TableAgain seen c cs g, one true e ∙ ap (λ (z : ℕ). refusal 17 z 1) (omega arith))
      by false e (fails n) (inl r) = inl (none_cons TableAgain seen c cs n r.0, one false e ∙ r.1)
      by false e (fails n) (inr r) = inr (r.0, first_later TableAgain seen c r.0 cs n r.1, one false e ∙ r.2 ∙ ap (λ (z : ℕ). refusal 17 z 1) (omega arith))
