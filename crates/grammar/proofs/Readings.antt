-- What a sound section says is read in one way only, and is what is handed out of it.
use mathlib.Core.Path.{◌≡◌, refl, ap, sym, ◌∙◌}
use mathlib.Core.Bool.{Bool, true, false}
use mathlib.Core.List.{List, [], ◌∷◌, map}
use mathlib.Core.Logic.{◌⊎◌, inl, inr, ◌↔◌}
use Prim.Native.Nat.{ℕ, suc, ◌<◌}
use native.Mathlib.Omega.{arith}
use lib.Dec.{eqb}
use lib.ListN.{length}
use borrow.Author.Tests.{eqb-true}
use Rattle.page.specs.Bytes.{Bytes, bytes}
use Rattle.page.specs.Lines.{content, command, Tbl, Atr, Frm, Rec, End, Com, Missing}
use Rattle.page.specs.Fields.{fields}
use Rattle.page.specs.Tables.{number_at, width, name_at, TABLES}
use Rattle.page.specs.Order.{Order, order_of, arranged}
use Rattle.page.specs.Cut.{begins_table}
use Rattle.page.specs.Marks.{may_mark}
use Rattle.page.specs.Section.{outcome}
use Rattle.page.specs.Records.{Record, Entry, waits, record_in, entries, table_index, atr_in, order_in, entries_of, records_of}
use Rattle.page.specs.Grammar.{Arrangement, Quiet, empty, remark, TblLine, MarkLine, RecLine, Then, found, skip, Silence, over, still, Records, pause, a_mark, a_record, the_end, Denotes}
use Rattle.page.specs.Refusals.{marks_of}
use Rattle.page.specs.Rules.{Every, none_left, one_more}
use Rattle.page.specs.declared.Outcome.{Outcome}
use Rattle.page.proofs.TableLaws.{name_tells, number_injective}
use Rattle.page.proofs.ArrangeLaws.{arrangement_arranged, order_named}
use Rattle.laws.specs.Begins.{begins}
use Rattle.laws.proofs.Tests.{blank_missing}
use Rattle.grammar.proofs.Arranged.{reads_are}
use Rattle.grammar.proofs.Accepts.{only_mark, denotes_accepted, accepted_denotes}

abbrev values_of : List Entry → List Record
values_of es = map (λ (e : Entry). e.values) es

-- a line of another command than `rec` hands out no record
other_line : (t : ℕ) (o : Order) (m n k : ℕ) (l : Bytes) (ls : List Bytes) → command (content l) ≡ k → eqb k Rec ≡ false →
    entries t o m n (l ∷ ls) ≡ entries t o (waits m (content l)) (suc n) ls
unfolding entries
other_line t o m n k l ls e h = rw (e, h)

no_mark : (m k : ℕ) (c : Bytes) → command c ≡ k → eqb k Com ≡ false → waits m c ≡ m
unfolding waits
no_mark m k c e h = rw (e, h)

-- and one of another than `com` too leaves the mark that waits
pub plain_line : (t : ℕ) (o : Order) (m n k : ℕ) (l : Bytes) (ls : List Bytes) → command (content l) ≡ k → eqb k Rec ≡ false → eqb k Com ≡ false →
    entries t o m n (l ∷ ls) ≡ entries t o m (suc n) ls
plain_line t o m n k l ls e h g = other_line t o m n k l ls e h ∙ ap (λ (z : ℕ). entries t o z (suc n) ls) (no_mark m k (content l) e g)

-- a line that says nothing hands out no record and leaves the mark
pub quiet_line : {latin : Bool} (t : ℕ) (o : Order) (m n : ℕ) (l : Bytes) (ls : List Bytes) → Quiet latin l → entries t o m n (l ∷ ls) ≡ entries t o m (suc n) ls
unfolding waits
quiet_line t o m n l ls (empty ok b) = plain_line t o m n Missing l ls (blank_missing (content l) b) refl refl
quiet_line t o m n l ls (remark s e) = other_line t o m n Com l ls s.named refl ∙ rw (s.named, e)

silence_read : {latin : Bool} (t : ℕ) (o : Order) (m n : ℕ) {ls : List Bytes} → Silence latin ls → values_of (entries t o m n ls) ≡ []
unfolding entries
silence_read t o m n over = refl
silence_read t o m n (still {l} {ls} h s) = rw (quiet_line t o m n l ls h) (silence_read t o m (suc n) s)

-- nor does one of another than `atr` state the order
other_atr : (k : ℕ) (l : Bytes) (ls : List Bytes) → command (content l) ≡ k → eqb k Atr ≡ false → atr_in (l ∷ ls) ≡ atr_in ls
unfolding atr_in
other_atr k l ls e h = rw (e, h)

quiet_atr : {latin : Bool} (l : Bytes) (ls : List Bytes) → Quiet latin l → atr_in (l ∷ ls) ≡ atr_in ls
quiet_atr l ls (empty ok b) = other_atr Missing l ls (blank_missing (content l) b) refl
quiet_atr l ls (remark s e) = other_atr Com l ls s.named refl

module _ {latin : Bool} where
  records_read : (t : ℕ) (o : Order) → arranged (width t) o ≡ true → (c m n : ℕ) {ms : List ℕ} {ls : List Bytes} {rs : List Record} → ms ≡ marks_of m →
      (m ≡ 0) ⊎ (may_mark t o m ≡ true) → Records latin t o c ms ls rs → values_of (entries t o m n ls) ≡ rs
  unfolding waits entries record_in
  records_read t o a c m n q f (pause {l} {ls} h x) = rw (quiet_line t o m n l ls h) (records_read t o a c m (suc n) q f x)
  records_read t o a c m n q f (a_mark {i} {l} {ls} h x) =
      let k : MarkLine latin t o (marks_of m) i l = rw q at h in
      rw (h.says.named, h.reads)
      (records_read t o a c i (suc n) (ap (λ (z : List ℕ). i ∷ z) q ∙ sym (only_mark t o a m i f k.may k.rises)) (inr h.may) x)
  records_read t o a c m n q f (a_record {vs} {l} {ls} h x) =
      let k : RecLine latin t o (marks_of m) vs l = rw q at h in
      let d = reads_are t o m k.fields in
      let b = records_read t o a c 0 (suc n) refl (inl refl) x in
      rw h.says.named (cc)
  records_read t o a c m n q f (the_end {l} {ls} h s) = rw (plain_line t o m n End l ls h.says.named refl refl) (silence_read t o m (suc n) s)

  skipped_read : {P : Bytes → Type 0} {Q : List Bytes → Type 0} (t : ℕ) (o : Order) (n : ℕ) (rs : List Record) {ls : List Bytes} →
      ((l : Bytes) (m : ℕ) (ms : List Bytes) → P l → Q ms → values_of (entries t o 0 m (l ∷ ms)) ≡ rs) → Then latin P Q ls → values_of (entries t o 0 n ls) ≡ rs
  skipped_read t o n rs f (found {l} {ls} h x) = f l n ls h x
  skipped_read t o n rs f (skip {l} {ls} h x) = rw (quiet_line t o 0 n l ls h) (skipped_read t o (suc n) rs f x)

  -- the entries of the lines are the records that they denote
  pub entries_denoted : (ls : List Bytes) (t : ℕ) (rs : List Record) (d : Denotes latin ls t rs) → values_of (entries t d.0 0 0 ls) ≡ rs
  entries_denoted ls t rs d =
      let o = d.0 in
      skipped_read t o 0 rs (λ l a xs h x. rw (plain_line t o 0 a Tbl l xs h.says.named refl refl)
      (skipped_read t o (suc a) rs (λ l b ys h x. rw (plain_line t o 0 b Atr l ys h.says.named refl refl)
      (skipped_read t o (suc b) rs (λ l d zs g y. rw (plain_line t o 0 d Frm l zs g.says.named refl refl)
      (records_read t o (arrangement_arranged t o h.arrangement) (length rs) 0 (suc d) refl (inl refl) y)) x)) x)) d.1

  -- what the line that is looked for tells, or those after it
  told : {P : Bytes → Type 0} {Q : List Bytes → Type 0} {A : Type 0} {ls : List Bytes} → ((l : Bytes) (ms : List Bytes) → P l → Q ms → A) → Then latin P Q ls → A
  told f (found {l} {ls} h x) = f l ls h x
  told f (skip h x) = told f x

  -- a table that is denoted is one of the list
  pub denoted_known : {ls : List Bytes} (t : ℕ) (rs : List Record) → Denotes latin ls t rs → t < TABLES
  denoted_known t rs d = told (λ l ms h x. h.known) d.1

  -- its columns are arranged
  denoted_arrangement : {ls : List Bytes} (t : ℕ) (rs : List Record) (d : Denotes latin ls t rs) → Arrangement t d.0
  denoted_arrangement t rs d = told (λ l ms h x. told (λ l ms g y. g.arrangement) x) d.1

  pub denoted_arranged : {ls : List Bytes} (t : ℕ) (rs : List Record) (d : Denotes latin ls t rs) → arranged (width t) d.0 ≡ true
  denoted_arranged t rs d = arrangement_arranged t d.0 (denoted_arrangement t rs d)

  -- as the first `atr` line of its lines names them
  skipped_atr : {P : Bytes → Type 0} {Q : List Bytes → Type 0} {fs : List Bytes} {ls : List Bytes} →
      ((l : Bytes) (ms : List Bytes) → P l → Q ms → fields (atr_in (l ∷ ms)) ≡ fs) → Then latin P Q ls → fields (atr_in ls) ≡ fs
  skipped_atr f (found {l} {ls} h x) = f l ls h x
  skipped_atr f (skip {l} {ls} h x) = rw (quiet_atr l ls h) (skipped_atr f x)

  denoted_names : {ls : List Bytes} (t : ℕ) (rs : List Record) (d : Denotes latin ls t rs) → fields (atr_in ls) ≡ map (λ (c : ℕ). bytes (name_at t c)) d.0
  unfolding atr_in
  denoted_names t rs d =
      skipped_atr (λ l xs h x. rw (other_atr Tbl l xs h.says.named refl) (skipped_atr (λ l ys g y. rw g.says.named g.names) x)) d.1

  order_read : {ls : List Bytes} (t : ℕ) (rs : List Record) (d : Denotes latin ls t rs) → order_of t (fields (atr_in ls)) ≡ d.0
  order_read t rs d = rw (denoted_names t rs d) (order_named t d.0 (denoted_arrangement t rs d).only)

  first_table : {Q : List Bytes → Type 0} (ls : List Bytes) (t : ℕ) → begins ls ≡ true → Then latin (TblLine latin t) Q ls → table_index ls ≡ t
  unfolding table_index begins begins_table
  first_table ls t b (found h x) = rw h.name (name_tells t h.known)
  first_table ls t b (skip {l} h x) = absurd (by h)
    where
      is_tbl : command (content l) ≡ Tbl
      is_tbl = eqb-true (command (content l)) Tbl b

      by : Quiet latin l → ⊥
      by (empty ok e) = let a = blank_missing (content l) e in let z = is_tbl in omega arith
      by (remark s e) = let a = s.named in let z = is_tbl in omega arith

  -- the table that is denoted is the one that the first line names, where that is the `tbl` line
  pub table_denoted : (ls : List Bytes) (t : ℕ) (rs : List Record) → begins ls ≡ true → Denotes latin ls t rs → table_index ls ≡ t
  table_denoted ls t rs b d = first_table ls t b d.1

  -- and the order the one that is read of them
  pub denoted_order : (ls : List Bytes) (t : ℕ) (rs : List Record) → begins ls ≡ true → (d : Denotes latin ls t rs) → order_in ls ≡ d.0
  unfolding order_in
  denoted_order ls t rs b d = rw (table_denoted ls t rs b d) (order_read t rs d)

  -- each record that is denoted stands in a `rec` line
  records_lines : {t : ℕ} {o : Order} {n : ℕ} {ms : List ℕ} {ls : List Bytes} {rs : List Record} → Records latin t o n ms ls rs →
      Every (λ vs. (ms : List ℕ) × (l : Bytes) × RecLine latin t o ms vs l) rs
  records_lines (pause h x) = records_lines x
  records_lines (a_mark h x) = records_lines x
  records_lines {ms = ms} (a_record {l} h x) = one_more (ms, l, h) (records_lines x)
  records_lines (the_end h s) = none_left

  pub denoted_lines : {ls : List Bytes} (t : ℕ) (rs : List Record) (d : Denotes latin ls t rs) → Every (λ vs. (ms : List ℕ) × (l : Bytes) × RecLine latin t d.0 ms vs l) rs
  denoted_lines t rs d = told (λ l ms h x. told (λ l ms g y. told (λ l ms k z. records_lines z) y) x) d.1

-- one reading only: the same lines denote one table and one list of records
pub one_reading : (latin : Bool) (ls : List Bytes) (t u : ℕ) (rs qs : List Record) → Denotes latin ls t rs → Denotes latin ls u qs → (t ≡ u) × (rs ≡ qs)
one_reading latin ls t u rs qs d e =
    let a = denotes_accepted latin ls t rs d in
    let b = denotes_accepted latin ls u qs e in
    let n : number_at t ≡ number_at u = ap (λ (o : Outcome). o.table) (sym a ∙ b) in
    let z : t ≡ u = number_injective t u (denoted_known t rs d) (denoted_known u qs e) n in
    let w : d.0 ≡ e.0 = sym (order_read t rs d) ∙ ap (λ (x : ℕ). order_of x (fields (atr_in ls))) z ∙ order_read u qs e in
    (z, sym (entries_denoted ls t rs d) ∙ rw (z, w) (entries_denoted ls u qs e))

-- a section's table and records, as they are handed out, are those that its lines denote
pub denotes_read : (latin : Bool) (ls : List Bytes) (t : ℕ) (rs : List Record) → begins ls ≡ true → Denotes latin ls t rs → (table_index ls ≡ t) × (records_of latin ls ≡ rs)
unfolding records_of entries_of
denotes_read latin ls t rs b d =
    let z = table_denoted ls t rs b d in
    (z, rw (denotes_accepted latin ls t rs d, z, denoted_order ls t rs b d) (entries_denoted ls t rs d))

-- a section is denoted exactly if its verdict is 0, with the table and records handed out
pub section_exactly : (latin : Bool) (ls : List Bytes) (t : ℕ) (rs : List Record) → begins ls ≡ true →
    Denotes latin ls t rs ↔ (((outcome latin ls).verdict ≡ 0) × (table_index ls ≡ t) × (records_of latin ls ≡ rs))
section_exactly latin ls t rs b = (into, back)
  where
    into : Denotes latin ls t rs → ((outcome latin ls).verdict ≡ 0) × (table_index ls ≡ t) × (records_of latin ls ≡ rs)
    into d = let x = denotes_read latin ls t rs b d in (ap (λ (o : Outcome). o.verdict) (denotes_accepted latin ls t rs d), x.0, x.1)

    back : ((outcome latin ls).verdict ≡ 0) × (table_index ls ≡ t) × (records_of latin ls ≡ rs) → Denotes latin ls t rs
    back x =
        let y = accepted_denotes latin ls x.0 in
        let z = denotes_read latin ls y.0 y.1 b y.2 in
        rw (sym x.1 ∙ z.0, sym x.2 ∙ z.1) y.2

-- a section of verdict 0 denotes what is handed out of it
pub handed_denoted : (latin : Bool) (ls : List Bytes) → begins ls ≡ true → (outcome latin ls).verdict ≡ 0 → Denotes latin ls (table_index ls) (records_of latin ls)
handed_denoted latin ls b e = (section_exactly latin ls (table_index ls) (records_of latin ls) b).1 (e, refl, refl)

-- and has each column of its table once
pub sound_arranged : (latin : Bool) (ls : List Bytes) → begins ls ≡ true → (outcome latin ls).verdict ≡ 0 → arranged (width (table_index ls)) (order_in ls) ≡ true
sound_arranged latin ls b e =
    let d = handed_denoted latin ls b e in
    rw (denoted_order ls (table_index ls) (records_of latin ls) b d) (denoted_arranged (table_index ls) (records_of latin ls) d)
