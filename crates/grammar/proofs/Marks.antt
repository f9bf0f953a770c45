-- "Each text handed out says whose it is": a suggestion's exactly if a mark of its field stands before its record. Assumes nothing.
use mathlib.Core.Path.{◌≡◌, refl, ap, sym, ◌∙◌}
use mathlib.Core.Bool.{Bool, true, false, false≢true}
use mathlib.Core.List.{List, [], ◌∷◌, map}
use mathlib.Core.Logic.{◌⊎◌, inl, inr}
use Prim.Native.Nat.{ℕ, zero, suc, ◌+◌, ◌-◌, ◌<◌, ◌≤◌}
use native.Mathlib.Omega.{arith}
use lib.Dec.{eqb}
use lib.ListN.{length, get_or}
use Rattle.page.specs.Bytes.{Bytes, pick}
use Rattle.page.specs.Lines.{content, command, rest, Tbl, Atr, Frm, Rec, Com, Missing}
use Rattle.page.specs.Cut.{Section}
use Rattle.page.specs.Tables.{Named, width}
use Rattle.page.specs.Order.{Order, arranged, place, column_in}
use Rattle.page.specs.Marks.{remark_of, may_mark, owner_of}
use Rattle.page.specs.Section.{outcome}
use Rattle.page.specs.Records.{number, words, Record, waits, records_of, table_index, order_in}
use Rattle.page.specs.Places.{stands, record_at, this_or}
use Rattle.page.specs.Reading.{record_of}
use Rattle.page.specs.Grammar as Grammar
use Rattle.page.specs.Grammar.{Quiet, empty, remark, marked, owner_by, Values, no_field, a_field, MarkLine, Then, found, skip, Records, pause, a_mark, a_record, the_end, Denotes}
use Rattle.page.specs.Refusals.{marks_of}
use Rattle.page.specs.declared.Owner.{Owner}
use Rattle.page.specs.declared.Owner.TheVariants as O
use Rattle.page.specs.declared.Remark.TheVariants as R
use Rattle.page.proofs.TableLaws.{may_mark_within}
use Rattle.laws.specs.Begins.{begins}
use Rattle.grammar.specs.Marks.{note, marks_at, here_or}
use Rattle.laws.proofs.Tests.{blank_missing}
use Rattle.grammar.proofs.Values.{owner_one}
use Rattle.grammar.proofs.Arranged.{marks_by_column, owner_place}
use Rattle.grammar.proofs.Accepts.{only_mark}
use Rattle.grammar.proofs.Readings.{handed_denoted, denoted_arranged, denoted_order}

-- lines that are no record: one of another command, one that says nothing, a mark

pub pass_marks : (r : ℕ) (ms : List ℕ) (k : ℕ) (l : Bytes) (ls : List Bytes) → command (content l) ≡ k → eqb k Rec ≡ false → eqb k Com ≡ false → marks_at r ms (l ∷ ls) ≡ marks_at r ms ls
unfolding marks_at note
pass_marks r ms k l ls e a b = rw (e, a, b)

pub quiet_marks : {latin : Bool} (r : ℕ) (ms : List ℕ) (l : Bytes) (ls : List Bytes) → Quiet latin l → marks_at r ms (l ∷ ls) ≡ marks_at r ms ls
unfolding marks_at note
quiet_marks r ms l ls (empty c b) = pass_marks r ms Missing l ls (blank_missing (content l) b) refl refl
quiet_marks r ms l ls (remark s e) = rw (s.named, e)

pub mark_marks : (r : ℕ) (ms : List ℕ) (i : ℕ) (l : Bytes) (ls : List Bytes) → command (content l) ≡ Com → remark_of (rest (content l)) ≡ R.Mark i →
    marks_at r ms (l ∷ ls) ≡ marks_at r (i ∷ ms) ls
unfolding marks_at note
mark_marks r ms i l ls e f = rw (e, f)

pub record_marks : (r : ℕ) (ms : List ℕ) (l : Bytes) (ls : List Bytes) → command (content l) ≡ Rec → marks_at r ms (l ∷ ls) ≡ here_or r ms (λ q. marks_at q [] ls)
unfolding marks_at
record_marks r ms l ls e = rw e

-- whose a record's texts are
abbrev Whose : List ℕ → ℕ → Record → Type 0
Whose ms i vs = (j : ℕ) (o : Owner) (u : Bytes) → get_or vs j (number 0) ≡ words o u → o ≡ owner_by ms (i + j)

values_whose : {ms : List ℕ} {i : ℕ} {cs : List Named} {fs : List Bytes} {vs : Record} → Values ms i cs fs vs → Whose ms i vs
values_whose no_field j o u e = absurd (false≢true (cc))
values_whose (a_field (Grammar.a_number a b c d k) g) zero o u e = absurd (false≢true (cc))
values_whose (a_field (Grammar.no_number a b c) g) zero o u e = absurd (false≢true (cc))
values_whose {ms} (a_field {i} (Grammar.a_text {t} a b c) g) zero o u e =
    let z : i + 0 ≡ i = omega arith in
    let y : owner_by ms i ≡ o = cc in
    rw z (sym y)
values_whose {ms} (a_field {i} h g) (suc j) o u e =
    let z : i + suc j ≡ suc i + j = omega arith in
    rw z (values_whose g j o u e)

module _ (latin : Bool) (t : ℕ) (o : Order) where
  abbrev WhoseAt : List ℕ → List Record → ℕ → Type 0
  WhoseAt ms rs r = Whose (map (column_in o) ms) 1 (get_or rs r [])

  records_whose : {n : ℕ} {ms : List ℕ} {ls : List Bytes} {rs : List Record} → Records latin t o n ms ls rs → (r : ℕ) → r < length rs → WhoseAt (marks_at r ms ls) rs r
  records_whose {ms} (pause {l} {ls} q x) r h = rw (quiet_marks r ms l ls q) (records_whose x r h)
  records_whose {ms} (a_mark {i} {l} {ls} m x) r h = rw (mark_marks r ms i l ls m.says.named m.reads) (records_whose x r h)
  records_whose {ms} (a_record {l} {ls} m x) zero h = rw (record_marks zero ms l ls m.says.named) (values_whose m.fields.values)
  records_whose {ms} (a_record {l} {ls} m x) (suc r) h = rw (record_marks (suc r) ms l ls m.says.named) (records_whose x r (omega arith))
  records_whose (the_end e s) r h = absurd (let z : ⊥ = omega arith in z)

  past_whose : {Q : Bytes → Type 0} {R : List Bytes → Type 0} {ls : List Bytes} (r : ℕ) (rs : List Record) →
      ((l : Bytes) (ms : List Bytes) → Q l → R ms → WhoseAt (marks_at r [] (l ∷ ms)) rs r) → Then latin Q R ls → WhoseAt (marks_at r [] ls) rs r
  past_whose r rs f (found {l} {ls} h x) = f l ls h x
  past_whose r rs f (skip {l} {ls} h x) = rw (quiet_marks r [] l ls h) (past_whose r rs f x)

denoted_whose : (latin : Bool) (t : ℕ) {ls : List Bytes} (rs : List Record) (d : Denotes latin ls t rs) (r : ℕ) → r < length rs → WhoseAt latin t d.0 (marks_at r [] ls) rs r
denoted_whose latin t rs d r h =
    let o = d.0 in
    past_whose latin t o r rs (λ l xs p x. rw (pass_marks r [] Tbl l xs p.says.named refl refl)
    (past_whose latin t o r rs (λ l ys q y. rw (pass_marks r [] Atr l ys q.says.named refl refl)
    (past_whose latin t o r rs (λ l zs w z. rw (pass_marks r [] Frm l zs w.says.named refl refl) (records_whose latin t o z r h)) y)) x)) d.1

-- in a section of verdict 0: the text in column j + 1 of the record after r others is the one's whom the marks before that record say
pub handed_whose : (latin : Bool) (ls : List Bytes) → begins ls ≡ true → (outcome latin ls).verdict ≡ 0 → (r j : ℕ) → r < length (records_of latin ls) → (o : Owner) (u : Bytes) →
    get_or (get_or (records_of latin ls) r []) j (number 0) ≡ words o u → o ≡ owner_by (map (column_in (order_in ls)) (marks_at r [] ls)) (1 + j)
handed_whose latin ls b e r j h =
    let d = handed_denoted latin ls b e in
    rw (denoted_order ls (table_index ls) (records_of latin ls) b d) (denoted_whose latin (table_index ls) (records_of latin ls) d r h j)

-- the operator's: no mark of the field stands before its record
pub operator_unmarked : (ms : List ℕ) (i : ℕ) → O.Operator ≡ owner_by ms i → marked i ms ≡ false
unfolding owner_by
operator_unmarked ms i e = by (marked i ms) e
  where
    by : (b : Bool) → O.Operator ≡ pick b O.Suggestion O.Operator → b ≡ false
    by true e = cc
    by false e = refl

-- a suggestion's: one does
pub suggestion_marked : (ms : List ℕ) (i : ℕ) → O.Suggestion ≡ owner_by ms i → marked i ms ≡ true
unfolding owner_by
suggestion_marked ms i e = by (marked i ms) e
  where
    by : (b : Bool) → O.Suggestion ≡ pick b O.Suggestion O.Operator → b ≡ true
    by true e = refl
    by false e = cc

-- the same of the value that a call hands out: the mark that waits is the only one

pub pass_at : (r m at k : ℕ) (l : Bytes) (ls : List Bytes) → command (content l) ≡ k → eqb k Rec ≡ false → eqb k Com ≡ false → record_at r m at (l ∷ ls) ≡ record_at r m (at + length l) ls
unfolding record_at waits
pass_at r m at k l ls e a b = rw (e, a, b)

pub quiet_at : {latin : Bool} (r m at : ℕ) (l : Bytes) (ls : List Bytes) → Quiet latin l → record_at r m at (l ∷ ls) ≡ record_at r m (at + length l) ls
unfolding record_at waits
quiet_at r m at l ls (empty c b) = pass_at r m at Missing l ls (blank_missing (content l) b) refl refl
quiet_at r m at l ls (remark s e) = rw (s.named, e)

pub mark_at : (r m at i : ℕ) (l : Bytes) (ls : List Bytes) → command (content l) ≡ Com → remark_of (rest (content l)) ≡ R.Mark i → record_at r m at (l ∷ ls) ≡ record_at r i (at + length l) ls
unfolding record_at waits
mark_at r m at i l ls e f = rw (e, f)

pub rec_at : (r m at : ℕ) (l : Bytes) (ls : List Bytes) → command (content l) ≡ Rec → record_at r m at (l ∷ ls) ≡ this_or r (stands at l m) (λ q. record_at q 0 (at + length l) ls)
unfolding record_at
rec_at r m at l ls e = rw e

stands_mark : (at : ℕ) (l : Bytes) (m : ℕ) → (stands at l m).mark ≡ m
unfolding stands
stands_mark at l m = refl

module _ (latin : Bool) (t : ℕ) (o : Order) (a : arranged (width t) o ≡ true) where
  -- these are the one mark that waits, of a field that may be marked, or there is none
  abbrev OneMark : List ℕ → ℕ → Type 0
  OneMark ms m = (ms ≡ marks_of m) × ((m ≡ 0) ⊎ (may_mark t o m ≡ true))

  records_wait : {n : ℕ} {ms : List ℕ} {ls : List Bytes} {rs : List Record} (m : ℕ) → OneMark ms m → Records latin t o n ms ls rs → (r at : ℕ) → r < length rs →
      OneMark (marks_at r ms ls) (record_at r m at ls).mark
  records_wait {ms} m w (pause {l} {ls} q x) r at h = rw (quiet_marks r ms l ls q, quiet_at r m at l ls q) (records_wait m w x r (at + length l) h)
  records_wait {ms} m w (a_mark {i} {l} {ls} k x) r at h =
      let y : MarkLine latin t o (marks_of m) i l = rw w.0 at k in
      rw (mark_marks r ms i l ls k.says.named k.reads, mark_at r m at i l ls k.says.named k.reads)
      (records_wait i (ap (λ (z : List ℕ). i ∷ z) w.0 ∙ sym (only_mark t o a m i w.1 y.may y.rises), inr k.may) x r (at + length l) h)
  records_wait {ms} m w (a_record {l} {ls} k x) zero at h = rw (record_marks zero ms l ls k.says.named, rec_at zero m at l ls k.says.named, stands_mark at l m) w
  records_wait {ms} m w (a_record {l} {ls} k x) (suc r) at h =
      rw (record_marks (suc r) ms l ls k.says.named, rec_at (suc r) m at l ls k.says.named) (records_wait 0 (refl, inl refl) x r (at + length l) (omega arith))
  records_wait m w (the_end q s) r at h = absurd (let z : ⊥ = omega arith in z)

  past_wait : {Q : Bytes → Type 0} {R : List Bytes → Type 0} {ls : List Bytes} (r at : ℕ) →
      ((l : Bytes) (ms : List Bytes) (p : ℕ) → Q l → R ms → OneMark (marks_at r [] (l ∷ ms)) (record_at r 0 p (l ∷ ms)).mark) → Then latin Q R ls →
      OneMark (marks_at r [] ls) (record_at r 0 at ls).mark
  past_wait r at f (found {l} {ls} h x) = f l ls at h x
  past_wait r at f (skip {l} {ls} h x) = rw (quiet_marks r [] l ls h, quiet_at r 0 at l ls h) (past_wait r (at + length l) f x)

  -- by column, the marks before a record say the same of a text as the one that waits for its place
  one_owner : (ms : List ℕ) (m c : ℕ) → OneMark ms m → owner_of m (suc (place c o)) ≡ owner_by (map (column_in o) ms) (suc c)
  one_owner ms m c w =
      sym (owner_place (width t) o a m c (within w.1)) ∙ sym (owner_one (column_in o m) (suc c) (omega arith))
      ∙ ap (λ (x : List ℕ). owner_by x (suc c)) (sym (marks_by_column o m) ∙ ap (map (column_in o)) (sym w.0))
    where
      within : (m ≡ 0) ⊎ (may_mark t o m ≡ true) → m ≤ length o
      within (inl e) = omega arith
      within (inr e) = (may_mark_within t o m e).1

denoted_wait : (latin : Bool) (t : ℕ) {ls : List Bytes} (rs : List Record) (d : Denotes latin ls t rs) (r at : ℕ) → r < length rs →
    OneMark latin t d.0 (denoted_arranged t rs d) (marks_at r [] ls) (record_at r 0 at ls).mark
denoted_wait latin t rs d r at h =
    let o = d.0 in
    let a = denoted_arranged t rs d in
    past_wait latin t o a r at (λ l xs b p x. rw (pass_marks r [] Tbl l xs p.says.named refl refl, pass_at r 0 b Tbl l xs p.says.named refl refl)
    (past_wait latin t o a r (b + length l) (λ l ys c q y. rw (pass_marks r [] Atr l ys q.says.named refl refl, pass_at r 0 c Atr l ys q.says.named refl refl)
    (past_wait latin t o a r (c + length l) (λ l zs e w z. rw (pass_marks r [] Frm l zs w.says.named refl refl, pass_at r 0 e Frm l zs w.says.named refl refl)
    (records_wait latin t o a 0 (refl, inl refl) z r (e + length l) h)) y)) x)) d.1

-- record r and column f, from 1
pub owner_handed : (latin : Bool) (x : Section) → begins x.lines ≡ true → (outcome latin x.lines).verdict ≡ 0 → (r f : ℕ) → 0 < r → r ≤ length (records_of latin x.lines) → 0 < f →
    owner_of (record_of x r).mark (suc (place (f - 1) (order_in x.lines))) ≡ owner_by (map (column_in (order_in x.lines)) (marks_at (r - 1) [] x.lines)) f
unfolding record_of
owner_handed latin x b e r f p h q =
    let t = table_index x.lines in
    let d = handed_denoted latin x.lines b e in
    let w = denoted_wait latin t (records_of latin x.lines) d (r - 1) x.place (omega arith) in
    let z : suc (f - 1) ≡ f = omega arith in
    rw (denoted_order x.lines t (records_of latin x.lines) b d)
    (rw z at (one_owner latin t d.0 (denoted_arranged t (records_of latin x.lines) d) (marks_at (r - 1) [] x.lines) (record_at (r - 1) 0 x.place x.lines).mark (f - 1) w))
