-- 17 to 20 depend only on what a file says, not on where it stands. Assumes nothing.
use mathlib.Core.Path.{◌≡◌, refl, sym, ◌∙◌}
use mathlib.Core.Bool.{Bool, true, false, not, ◌&&◌, ◌||◌}
use mathlib.Core.List.{List, [], ◌∷◌, map}
use Prim.Native.Nat.{ℕ, suc}
use native.Mathlib.Omega.{arith}
use lib.Dec.{eqb}
use borrow.Author.Tests.{ne_eqb}
use Rattle.page.specs.Bytes.{Bytes, pick}
use Rattle.page.specs.Tables.{Reference, number_at, table_at}
use Rattle.page.specs.Cut.{Section, sections}
use Rattle.page.specs.Head.{latin_of}
use Rattle.page.specs.Section.{outcome}
use Rattle.page.specs.Records.{Entry, entries_of, records_of, table_index}
use Rattle.page.specs.Model.{Content, content_of, model_of}
use Rattle.page.specs.Answers.{refusal, sound, earlier}
use Rattle.page.specs.File.{row_given, row_of, rows_of, first_unsound, any, first_again, Filed, filed_in, filed, same_record, key_of, by_primary, by_second, repeats, meets, lost, first_record, filed_of, record_refusal, section_refusal}
use Rattle.page.specs.Rules.{Every, none_left, one_more}
use Rattle.page.specs.declared.Column.{Column}
use Rattle.page.specs.declared.Row.{Row}
use Rattle.page.specs.declared.Refusal.{Refusal}
use Rattle.round.specs.RoundKeys.{again, breaks, placeless, filed_content, KeysHold, keys_number}
use Rattle.round.proofs.Local.{map_append}
use Rattle.page.proofs.TestLaws.{neither}
use Rattle.laws.proofs.Earlier.{earlier_none}

-- a record without its place
abbrev forget : Filed → Filed
forget e = placeless e.table e.values

any_forget : (p q : Filed → Bool) → ((d : Filed) → p d ≡ q (forget d)) → (ds : List Filed) → any p ds ≡ any q (map forget ds)
unfolding any
any_forget p q f [] = refl
any_forget p q f (d ∷ ds) = rw (f d, any_forget p q f ds)

repeats_forget : (p : Column → Bool) (before : List Filed) (e : Filed) → repeats p before e ≡ repeats p (map forget before) (forget e)
unfolding repeats key_of
repeats_forget p before e =
    rw (any_forget (λ (d : Filed). eqb d.table e.table && same_record (key_of p d) (key_of p e))
    (λ (d : Filed). eqb d.table e.table && same_record (key_of p d) (key_of p e)) (λ d. refl) before)

meets_forget : (e : Filed) (r : Reference) (every : List Filed) → any (meets e r) every ≡ any (meets (forget e) r) (map forget every)
unfolding meets key_of
meets_forget e r every = any_forget (meets e r) (meets (forget e) r) (λ d. refl) every

references_forget : (every : List Filed) (e : Filed) (rs : List Reference) →
    any (λ (r : Reference). not (any (meets e r) every)) rs ≡ any (λ (r : Reference). not (any (meets (forget e) r) (map forget every))) rs
unfolding any
references_forget every e [] = refl
references_forget every e (r ∷ rs) = rw (meets_forget e r every, references_forget every e rs)

lost_forget : (every : List Filed) (e : Filed) → lost every e ≡ lost (map forget every) (forget e)
unfolding lost
lost_forget every e = references_forget every e (table_at e.table).references

breaks_forget : (bad worse : List Filed → Filed → Bool) → ((before : List Filed) (e : Filed) → bad before e ≡ worse (map forget before) (forget e)) →
    (before es : List Filed) → breaks bad before es ≡ breaks worse (map forget before) (map forget es)
unfolding breaks
breaks_forget bad worse f before [] = refl
breaks_forget bad worse f before (e ∷ es) = rw (f before e, breaks_forget bad worse f (e ∷ before) es)

-- "each at the first record in file order that breaks it": sound exactly if none does
breaks_none : (v : ℕ) (bad : List Filed → Filed → Bool) (before es : List Filed) → breaks bad before es ≡ false → first_record v bad before es ≡ sound
unfolding breaks first_record
breaks_none v bad before [] h = refl
breaks_none v bad before (e ∷ es) h =
    let z = neither (bad before e) (breaks bad (e ∷ before) es) h in
    rw z.0 (breaks_none v bad (e ∷ before) es z.1)

none_breaks : (v : ℕ) → ¬ (v ≡ 0) → (bad : List Filed → Filed → Bool) (before es : List Filed) → (first_record v bad before es).number ≡ 0 → breaks bad before es ≡ false
unfolding breaks first_record
none_breaks v n bad before [] h = refl
none_breaks v n bad before (e ∷ es) h = by (none_breaks v n bad (e ∷ before) es) (bad before e) h
  where
    by : ((first_record v bad (e ∷ before) es).number ≡ 0 → breaks bad (e ∷ before) es ≡ false) → (b : Bool) →
        (pick b (refusal v e.section e.line) (first_record v bad (e ∷ before) es)).number ≡ 0 → (b || breaks bad (e ∷ before) es) ≡ false
    by ih true h = absurd (n h)
    by ih false h = ih h

-- the same for tables
again_none : (seen : List ℕ) (i : ℕ) (rs : List Row) → again seen (map (λ (r : Row). r.table) rs) ≡ false → first_again seen i rs ≡ sound
unfolding again first_again
again_none seen i [] h = refl
again_none seen i (r ∷ rs) h =
    let z = neither (any (eqb r.table) seen) (again (r.table ∷ seen) (map (λ (r : Row). r.table) rs)) h in
    rw z.0 (again_none (r.table ∷ seen) (suc i) rs z.1)

none_again : (seen : List ℕ) (i : ℕ) (rs : List Row) → (first_again seen i rs).number ≡ 0 → again seen (map (λ (r : Row). r.table) rs) ≡ false
unfolding again first_again
none_again seen i [] h = refl
none_again seen i (r ∷ rs) h = by (none_again (r.table ∷ seen) (suc i) rs) (any (eqb r.table) seen) h
  where
    by : ((first_again (r.table ∷ seen) (suc i) rs).number ≡ 0 → again (r.table ∷ seen) (map (λ (q : Row). q.table) rs) ≡ false) → (b : Bool) →
        (pick b (refusal 17 i 1) (first_again (r.table ∷ seen) (suc i) rs)).number ≡ 0 → (b || again (r.table ∷ seen) (map (λ (q : Row). q.table) rs)) ≡ false
    by ih true h = absurd (let z : ⊥ = omega arith in z)
    by ih false h = ih h

-- the number of the first that breaks a rule
pub breaks_number : (v : ℕ) (bad : List Filed → Filed → Bool) (before es : List Filed) → (first_record v bad before es).number ≡ pick (breaks bad before es) v 0
unfolding breaks first_record
breaks_number v bad before [] = refl
breaks_number v bad before (e ∷ es) = by (breaks_number v bad (e ∷ before) es) (bad before e)
  where
    by : (first_record v bad (e ∷ before) es).number ≡ pick (breaks bad (e ∷ before) es) v 0 → (b : Bool) →
        (pick b (refusal v e.section e.line) (first_record v bad (e ∷ before) es)).number ≡ pick (b || breaks bad (e ∷ before) es) v 0
    by ih true = refl
    by ih false = ih

pub again_number : (seen : List ℕ) (i : ℕ) (rs : List Row) → (first_again seen i rs).number ≡ pick (again seen (map (λ (r : Row). r.table) rs)) 17 0
unfolding again first_again
again_number seen i [] = refl
again_number seen i (r ∷ rs) = by (again_number (r.table ∷ seen) (suc i) rs) (any (eqb r.table) seen)
  where
    by : (first_again (r.table ∷ seen) (suc i) rs).number ≡ pick (again (r.table ∷ seen) (map (λ (q : Row). q.table) rs)) 17 0 → (b : Bool) →
        (pick b (refusal 17 i 1) (first_again (r.table ∷ seen) (suc i) rs)).number ≡ pick (b || again (r.table ∷ seen) (map (λ (q : Row). q.table) rs)) 17 0
    by ih true = refl
    by ih false = ih

earlier_number : (a b : Refusal) (x : Bool) (v w : ℕ) → ¬ (v ≡ 0) → a.number ≡ pick x v 0 → b.number ≡ w → (earlier a b).number ≡ pick x v w
unfolding earlier
earlier_number a b true v w n e f = rw (e, ne_eqb v 0 n)
earlier_number a b false v w n e f = rw e f

-- the first of two that refuses: none does
pass_sound : (b : Refusal) → (earlier sound b).number ≡ b.number
unfolding earlier
pass_sound b = refl

-- records of a file, without their places

map_map : {A B C : Type 0} (g : B → C) (f : A → B) (xs : List A) → map g (map f xs) ≡ map (λ (x : A). g (f x)) xs
map_map g f [] = refl
map_map g f (x ∷ xs) = rw (map_map g f xs)

forget_in : (latin : Bool) (i : ℕ) (x : Section) → map forget (filed_in latin i x) ≡ map (placeless (table_index x.lines)) (records_of latin x.lines)
unfolding filed_in records_of
forget_in latin i x =
    map_map forget (λ (e : Entry). record { section = i; table = table_index x.lines; line = e.line; values = e.values }) (entries_of latin x.lines)
    ∙ sym (map_map (placeless (table_index x.lines)) (λ (e : Entry). e.values) (entries_of latin x.lines))

forget_filed : (latin : Bool) (i : ℕ) (xs : List Section) → map forget (filed latin i xs) ≡ filed_content (map (content_of latin) xs)
unfolding filed filed_content content_of
forget_filed latin i [] = refl
forget_filed latin i (x ∷ xs) = map_append forget (filed_in latin i x) (filed latin (suc i) xs) ∙ rw (forget_in latin i x, forget_filed latin (suc i) xs)

pub forget_file : (s : Bytes) → map forget (filed_of s) ≡ filed_content (model_of s).tables
unfolding filed_of model_of
forget_file s = forget_filed (latin_of s) 1 (sections s)

-- a section that is sound, whose row has its table's number
pub record SoundSection (latin : Bool) (x : Section) : Type 0 where
  pub verdict : (outcome latin x.lines).verdict ≡ 0
  pub table : (outcome latin x.lines).table ≡ number_at (table_index x.lines)

tables_of : (latin : Bool) {xs : List Section} → Every (SoundSection latin) xs →
    map (λ (r : Row). r.table) (map (row_of latin) xs) ≡ map (λ (c : Content). number_at c.table) (map (content_of latin) xs)
unfolding row_of row_given content_of
tables_of latin none_left = refl
tables_of latin (one_more s ss) = rw (s.table, tables_of latin ss)

all_sound : (latin : Bool) {xs : List Section} → Every (SoundSection latin) xs → (i : ℕ) → first_unsound i (map (row_of latin) xs) ≡ sound
unfolding first_unsound row_of row_given
all_sound latin none_left i = refl
all_sound latin (one_more s ss) i = rw s.verdict (all_sound latin ss (suc i))

module _ (s : Bytes) (ss : Every (SoundSection (latin_of s)) (sections s)) where
  rows_tables : map (λ (r : Row). r.table) (rows_of s) ≡ map (λ (c : Content). number_at c.table) (model_of s).tables
  unfolding rows_of model_of
  rows_tables = tables_of (latin_of s) ss

  breaks_same : (p : Column → Bool) → breaks (repeats p) [] (filed_of s) ≡ breaks (repeats p) [] (filed_content (model_of s).tables)
  breaks_same p = breaks_forget (repeats p) (repeats p) (repeats_forget p) [] (filed_of s) ∙ rw (forget_file s)

  lost_same : breaks (λ before. lost (filed_of s)) [] (filed_of s) ≡ breaks (λ before. lost (filed_content (model_of s).tables)) [] (filed_content (model_of s).tables)
  lost_same =
      breaks_forget (λ before. lost (filed_of s)) (λ before. lost (map forget (filed_of s))) (λ before. lost_forget (filed_of s)) [] (filed_of s) ∙ rw (forget_file s)

  -- 17 to 20 do not refuse a file of sound sections whose keys hold
  pub keys_sound : KeysHold (model_of s).tables → section_refusal s ≡ sound
  unfolding section_refusal record_refusal earlier rows_of
  keys_sound k =
      rw (
        all_sound (latin_of s) ss 1,
        again_none [] 1 (map (row_of (latin_of s)) (sections s)) (rw rows_tables k.once),
        breaks_none 18 (repeats by_primary) [] (filed_of s) (rw (breaks_same by_primary) k.primary),
        breaks_none 19 (repeats by_second) [] (filed_of s) (rw (breaks_same by_second) k.second),
        breaks_none 20 (λ before. lost (filed_of s)) [] (filed_of s) (rw lost_same k.references),
      )

  -- and the keys of a file that they do not refuse hold
  pub sound_keys : (section_refusal s).number ≡ 0 → KeysHold (model_of s).tables
  unfolding section_refusal record_refusal
  sound_keys h =
      let a = earlier_none (first_unsound 1 (rows_of s)) (earlier (first_again [] 1 (rows_of s)) (record_refusal (filed_of s))) h in
      let b = earlier_none (first_again [] 1 (rows_of s)) (record_refusal (filed_of s)) a.1 in
      let c = earlier_none (first_record 18 (repeats by_primary) [] (filed_of s))
      (earlier (first_record 19 (repeats by_second) [] (filed_of s)) (first_record 20 (λ before. lost (filed_of s)) [] (filed_of s))) b.1 in
      let d = earlier_none (first_record 19 (repeats by_second) [] (filed_of s)) (first_record 20 (λ before. lost (filed_of s)) [] (filed_of s)) c.1 in
      record {
        once = rw (← rows_tables) (none_again [] 1 (rows_of s) b.0);
        primary = rw (← breaks_same by_primary) (none_breaks 18 (λ (e : 18 ≡ 0). omega arith) (repeats by_primary) [] (filed_of s) c.0);
        second = rw (← breaks_same by_second) (none_breaks 19 (λ (e : 19 ≡ 0). omega arith) (repeats by_second) [] (filed_of s) d.0);
        references = rw (← lost_same) (none_breaks 20 (λ (e : 20 ≡ 0). omega arith) (λ before. lost (filed_of s)) [] (filed_of s) d.1);
      }

  -- the number that 17 to 20 give is a function of what the file says
  pub keys_told : (section_refusal s).number ≡ keys_number (model_of s).tables
  unfolding section_refusal record_refusal rows_of keys_number
  keys_told =
      rw (all_sound (latin_of s) ss 1, ← rows_tables, ← breaks_same by_primary, ← breaks_same by_second, ← lost_same)
      (pass_sound (earlier (first_again [] 1 (rows_of s)) (record_refusal (filed_of s)))
      ∙ earlier_number (first_again [] 1 (rows_of s)) (record_refusal (filed_of s)) (again [] (map (λ (r : Row). r.table) (rows_of s))) 17 _ (λ (z : 17 ≡ 0). omega arith)
      (again_number [] 1 (rows_of s))
      (earlier_number (first_record 18 (repeats by_primary) [] (filed_of s))
      (earlier (first_record 19 (repeats by_second) [] (filed_of s)) (first_record 20 (λ before. lost (filed_of s)) [] (filed_of s)))
      (breaks (repeats by_primary) [] (filed_of s)) 18 _ (λ (z : 18 ≡ 0). omega arith) (breaks_number 18 (repeats by_primary) [] (filed_of s))
      (earlier_number (first_record 19 (repeats by_second) [] (filed_of s)) (first_record 20 (λ before. lost (filed_of s)) [] (filed_of s))
      (breaks (repeats by_second) [] (filed_of s)) 19 _ (λ (z : 19 ≡ 0). omega arith) (breaks_number 19 (repeats by_second) [] (filed_of s))
      (breaks_number 20 (λ before. lost (filed_of s)) [] (filed_of s)))))
