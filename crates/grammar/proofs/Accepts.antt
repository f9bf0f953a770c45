-- The machine accepts exactly the sections that the grammar denotes.
use Rattle.std.specs.Prelude.{Err, Ok, Result}
use mathlib.Core.Path.{◌≡◌, refl, ap, sym, ◌∙◌}
use mathlib.Core.Bool.{Bool, true, false≢true}
use mathlib.Core.List.{List, [], ◌∷◌}
use mathlib.Core.Logic.{◌⊎◌, inl, inr}
use Prim.Native.Nat.{ℕ, zero, suc, ◌+◌}
use native.Mathlib.Omega.{arith}
use native.Mathlib.Nat.{zero-add}
use lib.ListN.{length}
use Rattle.page.specs.Bytes.{Bytes}
use Rattle.page.specs.Lines.{content}
use Rattle.page.specs.Tables.{number_at, width}
use Rattle.page.specs.Order.{Order, arranged}
use Rattle.page.specs.Marks.{may_mark}
use Rattle.page.specs.Section.{step, order_after, continue, finish, run, outcome, table_in}
use Rattle.page.specs.Records.{Record}
use Rattle.page.specs.Grammar.{AtrLine, FrmLine, MarkLine, Rises, above, Then, found, skip, Silence, over, still, Records, pause, a_mark, a_record, the_end, Denotes}
use Rattle.page.specs.Refusals.{marks_of, Leads, quiet, tbl, atr, frm, mark, record_line, end}
use Rattle.page.specs.declared.Phase.{Phase}
use Rattle.page.specs.declared.Phase.TheVariants as P
use Rattle.page.specs.declared.Outcome.{Outcome}
use Rattle.page.proofs.TableLaws.{one_markable, may_mark_within}
use Rattle.page.proofs.ArrangeLaws.{arrangement_arranged}
use Rattle.grammar.proofs.Arranged.{Ordered}
use Rattle.grammar.proofs.Steps.{go_exactly, stop_exactly, leads_go, leads_order, ordered_on}
use Rattle.grammar.proofs.Ranged.{laws_some}

-- the machine's one mark stands for the grammar's list: no table has a second column that may be marked
abbrev pub Fits : Phase → Order → Type 0
Fits P.Tbl o = Unit
Fits (P.Atr t) o = Unit
Fits (P.Frm t) o = Unit
Fits (P.Rows t m n) o = (m ≡ 0) ⊎ (may_mark t o m ≡ true)
Fits (P.Ended t n) o = Unit

-- that stays so from line to line
pub fits_on : {latin : Bool} {l : Bytes} {p q : Phase} {o x : Order} → Leads latin l p o q x → Fits p o → Fits q x
fits_on (quiet h) x = x
fits_on (tbl h) x = tt
fits_on (atr h) x = tt
fits_on (frm h) x = inl refl
fits_on (mark h) x = inr h.may
fits_on (record_line h) x = inl refl
fits_on (end h) x = tt

-- a mark that may stand is the only one of its record
module _ (t : ℕ) (o : Order) (a : arranged (width t) o ≡ true) where
  pub only_mark : (m i : ℕ) → (m ≡ 0) ⊎ (may_mark t o m ≡ true) → may_mark t o i ≡ true → Rises i (marks_of m) → marks_of i ≡ i ∷ marks_of m
  only_mark m zero x e r = let z = (may_mark_within t o 0 e).0 in absurd (let y : ⊥ = omega arith in y)
  only_mark zero (suc i) x e r = refl
  only_mark (suc m) (suc i) (inl z) e r = absurd (let y : ⊥ = omega arith in y)
  only_mark (suc m) (suc i) (inr d) e (above h) = let z = one_markable t o a (suc m) (suc i) d e in absurd (let y : ⊥ = omega arith in y)

-- what the grammar asks of the lines that are left
abbrev Body : Bool → ℕ → Order → List Record → List Bytes → Type 0
Body latin t o rs body = Records latin t o (length rs) [] body rs

abbrev Rest : Bool → Phase → Order → List Bytes → Type 0
Rest latin P.Tbl o ls = (t : ℕ) × (rs : List Record) × Denotes latin ls t rs
Rest latin (P.Atr t) o ls = (rs : List Record) × (q : Order) × Then latin (AtrLine latin t q) (Then latin (FrmLine latin t q) (Body latin t q rs)) ls
Rest latin (P.Frm t) o ls = (rs : List Record) × Then latin (FrmLine latin t o) (Body latin t o rs) ls
Rest latin (P.Rows t m n) o ls = (rs : List Record) × Records latin t o (n + length rs) (marks_of m) ls rs
Rest latin (P.Ended t n) o ls = Silence latin ls

module _ (latin : Bool) where
  back : {l : Bytes} {p q : Phase} {o x : Order} (ls : List Bytes) → Leads latin l p o q x → Ordered p o → Fits p o → Rest latin q x ls → Rest latin p o (l ∷ ls)
  back ls (quiet {p = P.Tbl} h) a f x = (x.0, x.1, (x.2.0, skip h x.2.1))
  back ls (quiet {p = P.Atr t} h) a f x = (x.0, x.1, skip h x.2)
  back ls (quiet {p = P.Frm t} h) a f x = (x.0, skip h x.1)
  back ls (quiet {p = P.Rows t m n} h) a f x = (x.0, pause h x.1)
  back ls (quiet {p = P.Ended t n} h) a f x = still h x
  back ls (tbl {t} h) a f x = (t, x.0, (x.1, found h x.2))
  back ls (atr {q} h) a f x = (x.0, q, found h x.1)
  back ls (frm h) a f x = (x.0, found {ls = ls} h (rw zero-add at x.1))
  back ls (mark {t} {m} {i} {o} h) a f x = (x.0, a_mark h (rw (only_mark t o a m i f h.may h.rises) at x.1))
  back ls (record_line {n} {vs} h) a f x = (vs ∷ x.0, a_record {ls = ls} h (rw (let z : suc n + length x.0 ≡ n + suc (length x.0) = omega arith in z) at x.1))
  back ls (end {n} h) a f x = ([], rw (let z : n + 0 ≡ n = omega arith in z) (the_end h x))

  at_end : (p : Phase) (o : Order) (n : ℕ) → (finish p n).verdict ≡ 0 → Rest latin p o []
  unfolding finish
  at_end P.Tbl o n e = absurd (let y : ⊥ = omega arith in y)
  at_end (P.Atr t) o n e = absurd (let y : ⊥ = omega arith in y)
  at_end (P.Frm t) o n e = absurd (let y : ⊥ = omega arith in y)
  at_end (P.Rows t m k) o n e = absurd (let y : ⊥ = omega arith in y)
  at_end (P.Ended t k) o n e = over

  -- what the machine accepts, the grammar has
  into : (p : Phase) (o : Order) (n : ℕ) (ls : List Bytes) → Ordered p o → Fits p o → (run latin p o n ls).verdict ≡ 0 → Rest latin p o ls
  unfolding run continue
  into p o n [] a f e = at_end p o n e
  into p o n (l ∷ ls) a f e = by (λ q x. into q x (suc n) ls) (step latin p o l) refl e
    where
      by : ((q : Phase) (x : Order) → Ordered q x → Fits q x → (run latin q x (suc n) ls).verdict ≡ 0 → Rest latin q x ls) → (s : Result Phase ℕ) → step latin p o l ≡ s →
          (continue s (table_in p) (suc n) (λ q. run latin q (order_after p o (content l)) (suc n) ls)).verdict ≡ 0 → Rest latin p o (l ∷ ls)
      by ih (Ok q) h e = let g = (go_exactly latin l p o a q).0 h in back ls g a f (ih q (order_after p o (content l)) (ordered_on g a) (fits_on g f) e)
      by ih (Err v) h e = absurd (laws_some latin p o l v ((stop_exactly latin l p o a v).0 h) e)

-- a sound section's answer
abbrev pub accepted : ℕ → ℕ → Outcome
accepted t n = record { table = number_at t; records = n; verdict = 0; line = 0 }

-- what the grammar has, the machine accepts
module _ (latin : Bool) (y : Outcome) where
  on : {l : Bytes} {p q : Phase} {o x : Order} (n : ℕ) (ls : List Bytes) → Ordered p o → Leads latin l p o q x → run latin q x (suc n) ls ≡ y → run latin p o n (l ∷ ls) ≡ y
  unfolding run continue
  on n ls a h e = rw (leads_go a h, leads_order h) e

  silence : (t : ℕ) (o : Order) → arranged (width t) o ≡ true → (k n : ℕ) {ls : List Bytes} → accepted t k ≡ y → Silence latin ls → run latin (P.Ended t k) o n ls ≡ y
  unfolding run finish
  silence t o a k n e over = e
  silence t o a k n e (still {l} {ls} h s) = on n ls a (quiet h) (silence t o a k (suc n) e s)

  records : (t : ℕ) (o : Order) → arranged (width t) o ≡ true → (c m k n : ℕ) {ms : List ℕ} {ls : List Bytes} {rs : List Record} → accepted t c ≡ y → c ≡ k + length rs →
      ms ≡ marks_of m → (m ≡ 0) ⊎ (may_mark t o m ≡ true) → Records latin t o c ms ls rs → run latin (P.Rows t m k) o n ls ≡ y
  records t o a c m k n e g q f (pause {ls} h x) = on n ls a (quiet h) (records t o a c m k (suc n) e g q f x)
  records t o a c m k n e g q f (a_mark {i} {l} {ls} h x) =
      let b : MarkLine latin t o (marks_of m) i l = rw q at h in
      let w = only_mark t o a m i f b.may b.rises in
      on n ls a (mark b) (records t o a c i k (suc n) e g (ap (λ (z : List ℕ). i ∷ z) q ∙ sym w) (inr h.may) x)
  records t o a c m k n e g q f (a_record {ls} h x) = on n ls a (record_line (rw q at h)) (records t o a c 0 (suc k) (suc n) e (omega arith) refl (inl refl) x)
  records t o a c m k n e g q f (the_end {ls} h s) =
      rw (unmarked m q) (on n ls a (end (rw (let z : c ≡ k = omega arith in z) at h)) (silence t o a k (suc n) (rw (let z : c ≡ k = omega arith in z) at e) s))
    where
      unmarked : (m : ℕ) → [] ≡ marks_of m → m ≡ 0
      unmarked zero e = refl
      unmarked (suc m) e = absurd (false≢true (cc))

  skipping : {P : Bytes → Type 0} {Q : List Bytes → Type 0} (p : Phase) (o : Order) → Ordered p o → (n : ℕ) {ls : List Bytes} →
      ((l : Bytes) (m : ℕ) (ms : List Bytes) → P l → Q ms → run latin p o m (l ∷ ms) ≡ y) → Then latin P Q ls → run latin p o n ls ≡ y
  skipping p o a n f (found {l} {ls} h x) = f l n ls h x
  skipping p o a n f (skip {ls} h x) = on n ls a (quiet h) (skipping p o a (suc n) f x)

  from : (t n : ℕ) (rs : List Record) (ls : List Bytes) → accepted t (length rs) ≡ y → Denotes latin ls t rs → run latin P.Tbl [] n ls ≡ y
  from t n rs ls e d =
      let o = d.0 in
      skipping P.Tbl [] tt n (λ l i xs h x. on i xs tt (tbl h)
      (skipping (P.Atr t) [] tt (suc i) (λ l j ys h x. let a = arrangement_arranged t o h.arrangement in on j ys tt (atr h)
      (skipping (P.Frm t) o a (suc j) (λ l k zs h x. on k zs a (frm h) (records t o a (length rs) 0 0 (suc k) e (omega arith) refl (inl refl) x)) x)) x)) d.1

-- the section of a table with these records has verdict 0, that table's number and that many records
pub denotes_accepted : (latin : Bool) (ls : List Bytes) (t : ℕ) (rs : List Record) → Denotes latin ls t rs → outcome latin ls ≡ accepted t (length rs)
unfolding outcome
denotes_accepted latin ls t rs d = from latin (accepted t (length rs)) t 0 rs ls refl d

-- a section of verdict 0 denotes a table with records
pub accepted_denotes : (latin : Bool) (ls : List Bytes) → (outcome latin ls).verdict ≡ 0 → (t : ℕ) × (rs : List Record) × Denotes latin ls t rs
unfolding outcome
accepted_denotes latin ls e = into latin P.Tbl [] 0 ls tt tt e
