-- Each record that is handed out stands in its line: a `rec` line of its section, of these values.
use mathlib.Core.Path.{◌≡◌, refl, ap, sym, ◌∙◌}
use mathlib.Core.Bool.{Bool, true}
use mathlib.Core.List.{List, [], ◌∷◌, ◌++◌, map, append_assoc}
use mathlib.Core.Logic.{◌⊎◌, inl, inr}
use Prim.Native.Nat.{ℕ, suc}
use native.Mathlib.Omega.{arith}
use lib.ListN.{length, length-append}
use Rattle.page.specs.Bytes.{Bytes}
use Rattle.page.specs.Lines.{Tbl, Atr, Frm, End}
use Rattle.page.specs.Tables.{width}
use Rattle.page.specs.Order.{Order, arranged}
use Rattle.page.specs.Cut.{Section, sections}
use Rattle.page.specs.Head.{latin_of}
use Rattle.page.specs.Marks.{may_mark}
use Rattle.page.specs.Records.{Record, Entry, waits, record_in, entries, order_in, entries_of}
use Rattle.page.specs.File.{filed_in, filed, filed_of}
use Rattle.page.specs.Model.{Content}
use Rattle.page.specs.Grammar.{MarkLine, RecLine, Then, found, skip, Silence, over, still, Records, pause, a_mark, a_record, the_end, Denotes}
use Rattle.page.specs.Refusals.{marks_of}
use Rattle.page.specs.Rules.{Every, none_left, one_more, Tables, no_table, a_table}
use Rattle.laws.specs.Begins.{begins}
use Rattle.demands.specs.Places.{EntryStands, FiledStands}
use Rattle.laws.proofs.Lists.{every_head, every_tail, every_map, every_append}
use Rattle.laws.proofs.Sections.{sections_begin}
use Rattle.grammar.proofs.Arranged.{reads_are}
use Rattle.grammar.proofs.Accepts.{only_mark, denotes_accepted}
use Rattle.grammar.proofs.Readings.{quiet_line, plain_line, table_denoted, denoted_arranged, denoted_order}

module _ {latin : Bool} where
  -- one line further
  further : (t : ℕ) (o : Order) (n : ℕ) (l : Bytes) (ls : List Bytes) {es : List Entry} → Every (EntryStands latin t o (suc n) ls) es → Every (EntryStands latin t o n (l ∷ ls)) es
  further t o n l ls e =
      every_map (λ d x. record {
        before = l ∷ x.before;
        after = x.after;
        line = x.line;
        split = ap (λ (z : List Bytes). l ∷ z) x.split;
        place = x.place ∙ (omega arith);
        marks = x.marks;
        reads = x.reads;
      }) e

  silence_stands : (t : ℕ) (o : Order) (m n : ℕ) {ls : List Bytes} → Silence latin ls → Every (EntryStands latin t o n ls) (entries t o m n ls)
  unfolding entries
  silence_stands t o m n over = none_left
  silence_stands t o m n (still {l} {ls} h s) = rw (quiet_line t o m n l ls h) (further t o n l ls (silence_stands t o m (suc n) s))

  records_stand : (t : ℕ) (o : Order) → arranged (width t) o ≡ true → (c m n : ℕ) {ms : List ℕ} {ls : List Bytes} {rs : List Record} → ms ≡ marks_of m →
      (m ≡ 0) ⊎ (may_mark t o m ≡ true) → Records latin t o c ms ls rs → Every (EntryStands latin t o n ls) (entries t o m n ls)
  unfolding waits entries record_in
  records_stand t o a c m n q f (pause {l} {ls} h x) = rw (quiet_line t o m n l ls h) (further t o n l ls (records_stand t o a c m (suc n) q f x))
  records_stand t o a c m n q f (a_mark {i} {l} {ls} h x) =
      let k : MarkLine latin t o (marks_of m) i l = rw q at h in
      rw (h.says.named, h.reads)
      (further t o n l ls (records_stand t o a c i (suc n) (ap (λ (z : List ℕ). i ∷ z) q ∙ sym (only_mark t o a m i f k.may k.rises)) (inr h.may) x))
  records_stand t o a c m n q f (a_record {vs} {l} {ls} h x) =
      let k : RecLine latin t o (marks_of m) vs l = rw q at h in
      rw (h.says.named, ← reads_are t o m k.fields)
      (one_more {x = record { line = suc n; values = vs }} (record { before = []; after = ls; line = l; split = refl; place = omega arith; marks = marks_of m; reads = k })
      (further t o n l ls (records_stand t o a c 0 (suc n) refl (inl refl) x)))
  records_stand t o a c m n q f (the_end {l} {ls} h s) =
      rw (plain_line t o m n End l ls h.says.named refl refl) (further t o n l ls (silence_stands t o m (suc n) s))

  skipped_stand : {P : Bytes → Type 0} {Q : List Bytes → Type 0} (t : ℕ) (o : Order) (n : ℕ) {ls : List Bytes} →
      ((l : Bytes) (m : ℕ) (ms : List Bytes) → P l → Q ms → Every (EntryStands latin t o m (l ∷ ms)) (entries t o 0 m (l ∷ ms))) → Then latin P Q ls →
      Every (EntryStands latin t o n ls) (entries t o 0 n ls)
  skipped_stand t o n f (found {l} {ls} h x) = f l n ls h x
  skipped_stand t o n f (skip {l} {ls} h x) = rw (quiet_line t o 0 n l ls h) (further t o n l ls (skipped_stand t o (suc n) f x))

  -- the entries of a section stand in its `rec` lines
  pub entries_stand : (ls : List Bytes) (t : ℕ) (rs : List Record) (d : Denotes latin ls t rs) → Every (EntryStands latin t d.0 0 ls) (entries t d.0 0 0 ls)
  entries_stand ls t rs d =
      let o = d.0 in
      skipped_stand t o 0 (λ l a xs h x. rw (plain_line t o 0 a Tbl l xs h.says.named refl refl) (further t o a l xs
      (skipped_stand t o (suc a) (λ l b ys h x. rw (plain_line t o 0 b Atr l ys h.says.named refl refl) (further t o b l ys
      (skipped_stand t o (suc b) (λ l c zs h x. rw (plain_line t o 0 c Frm l zs h.says.named refl refl) (further t o c l zs
      (records_stand t o (denoted_arranged t rs d) (length rs) 0 (suc c) refl (inl refl) x))) x))) x))) d.1

-- a section's records, filed
section_stands : (s : Bytes) (i : ℕ) (x : Section) (c : Content) (xs ys : List Section) → begins x.lines ≡ true → Denotes (latin_of s) x.lines c.table c.records →
    sections s ≡ xs ++ (x ∷ ys) → i ≡ suc (length xs) → Every (FiledStands s) (filed_in (latin_of s) i x)
unfolding filed_in entries_of
section_stands s i x c xs ys b d e n =
    rw (denotes_accepted (latin_of s) x.lines c.table c.records d, table_denoted x.lines c.table c.records b d, order_is)
    (all_filed (entries_stand x.lines c.table c.records d))
  where
    order_is : order_in x.lines ≡ d.0
    order_is = denoted_order x.lines c.table c.records b d

    all_filed : {es : List Entry} → Every (EntryStands (latin_of s) c.table d.0 0 x.lines) es →
        Every (FiledStands s) (map (λ (e : Entry). record { section = i; table = c.table; line = e.line; values = e.values }) es)
    all_filed none_left = none_left
    all_filed (one_more {x = g} h k) =
        one_more (record {
          before = xs;
          after = ys;
          section = x;
          sections_split = e;
          number = n;
          lines_before = h.before;
          lines_after = h.after;
          line = h.line;
          lines_split = h.split;
          place = h.place ∙ (omega arith);
          marks = h.marks;
          reads = rw (← order_is) at h.reads;
        }) (all_filed k)

sections_stand : (s : Bytes) (i : ℕ) (seen : List Section) {xs : List Section} {cs : List Content} → Every (λ x. begins x.lines ≡ true) xs → Tables (latin_of s) xs cs →
    sections s ≡ seen ++ xs → i ≡ suc (length seen) → Every (FiledStands s) (filed (latin_of s) i xs)
unfolding filed
sections_stand s i seen b no_table e n = none_left
sections_stand s i seen b (a_table {x} {xs} {c} d t) e n =
    every_append (section_stands s i x c seen xs (every_head b) d e n)
    (sections_stand s (suc i) (seen ++ (x ∷ [])) (every_tail b) t (e ∙ sym (append_assoc seen (x ∷ []) xs)) (rw length-append (omega arith)))

-- each record of a file whose sections are sound stands at its place: the section and the line that 18, 19 and 20 give
pub filed_stand : (s : Bytes) (cs : List Content) → Tables (latin_of s) (sections s) cs → Every (FiledStands s) (filed_of s)
unfolding filed_of
filed_stand s cs t = sections_stand s 1 [] (sections_begin s) t refl refl
