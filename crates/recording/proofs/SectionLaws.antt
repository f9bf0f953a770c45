-- The records of a section line by line, the sections of a file one after the other, and what each begins with when it is written.
-- Assumes nothing.
use mathlib.Core.Path.{◌≡◌, refl, ap, sym}
use mathlib.Core.Bool.{Bool, true, false, ◌&&◌}
use mathlib.Core.List.{List, [], ◌∷◌, ◌++◌, map, append-nil, append_assoc}
use Prim.Native.Nat.{ℕ, suc, ◌+◌, ◌-◌, ◌<◌, ◌≤◌}
use native.Mathlib.Omega.{arith}
use borrow.Author.Tests.{eq-eqb, ne_eqb, eqb-true}
use lib.Dec.{eqb}
use lib.ListN.{length, take, drop, length-append}
use Rattle.page.specs.Bytes.{Bytes, bytes}
use Rattle.page.specs.Lines.{lines, content, command, rest, Rec}
use Rattle.page.specs.Fields.{fields}
use Rattle.page.specs.Tables.{width, table_at, columns}
use Rattle.page.specs.Order.{Order, arranged, by_column, column_in}
use Rattle.page.specs.Section.{rec_verdict}
use Rattle.page.specs.Records.{Record, values_of, waits, record_in, table_index, atr_in, order_in}
use Rattle.page.specs.Cut.{Section}
use Rattle.page.specs.Model.{Content}
use Rattle.page.specs.Form.{decimal, record_form, records_form, table_head, content_form, tables_form}
use Rattle.page.specs.Rules.{one_more}
use Rattle.page.specs.declared.LineEnd.{LineEnd}
use Rattle.page.specs.declared.Stays.{Stays}
use Rattle.page.proofs.LineLaws.{line_size, cut_at, lines_end}
use Rattle.page.proofs.TestLaws.{and_left, and_right}
use Rattle.arrangement.specs.Orders.{held}
use Rattle.names.specs.Told.{Told}
use Rattle.names.proofs.ToldLaws.{told_order}
use Rattle.cut.specs.Walk.{section_from}
use Rattle.frames.specs.Lines.{line_with}
use Rattle.frames.proofs.LineLaws.{line_with_is}
use Rattle.names.proofs.TitleLaws.{table_from}
use Rattle.recording.specs.Said.{rows_of, passes, passing, said, said_in, passes_in, PassingIn}
use Rattle.copies.specs.Changed.{strips, section_of, record_of, field_of, text_of, changed_values, stays_in, kept_records, kept_content, kept_tables, changed_records, changed_content, changed_tables}
use Rattle.copies.specs.Planned.{record_plan, section_plan, record_by, records_by, content_by, tables_by}
use Rattle.copies.specs.declared.plan.Plan.{Plan}
use Rattle.copies.proofs.PlanLaws.{values_alike, records_alike, record_says, section_says}
use Rattle.copies.proofs.KeptLaws.{kept_here, kept_gone, kept_first, kept_few}

-- the line at a place, that ends at e

module _ (s : Bytes) (at e : ℕ) (h : at < length s) (q : e ≡ at + line_size (drop at s)) (t : ℕ) (o : Order) (m : ℕ) (x : Bytes) (xe : x ≡ content (take (e - at) (drop at s))) where
  module _ (r : command x ≡ Rec) where
    here : eqb (command (content (take (e - at) (drop at s)))) Rec ≡ true
    here = rw (sym xe) (eq-eqb (command x) Rec r)

    pub rows_more : (w : Bytes) → w ≡ rest x → rows_of t o m (lines (drop at s)) ≡ values_of (column_in o m) 1 (columns t) (by_column o (fields w)) ∷ rows_of t o 0 (lines (drop e s))
    unfolding rows_of record_in
    rows_more w we = rw (cut_at s at e h q, here, we, xe)

    passes_both : passes t o m (lines (drop at s)) ≡ true → (eqb (rec_verdict t o m (fields (rest (content (take (e - at) (drop at s)))))) 0 && passes t o 0 (lines (drop e s))) ≡ true
    unfolding passes
    passes_both p = rw (cut_at s at e h q, here) at p

    pub passes_here : passes t o m (lines (drop at s)) ≡ true → (w : Bytes) → w ≡ rest x → rec_verdict t o m (fields w) ≡ 0
    passes_here p w we =
        rw (we, xe) (eqb-true (rec_verdict t o m (fields (rest (content (take (e - at) (drop at s)))))) 0 (and_left (eqb (rec_verdict t o m (fields (rest (content (take (e - at) (drop at s)))))) 0) (passes t o 0 (lines (drop e s))) (passes_both p)))

    pub passes_more : passes t o m (lines (drop at s)) ≡ true → passes t o 0 (lines (drop e s)) ≡ true
    passes_more p = and_right (eqb (rec_verdict t o m (fields (rest (content (take (e - at) (drop at s)))))) 0) (passes t o 0 (lines (drop e s))) (passes_both p)

  module _ (r : command x ≡ Rec → ⊥) where
    gone : eqb (command (content (take (e - at) (drop at s)))) Rec ≡ false
    gone = rw (sym xe) (ne_eqb (command x) Rec r)

    pub rows_other : rows_of t o m (lines (drop at s)) ≡ rows_of t o (waits m x) (lines (drop e s))
    unfolding rows_of
    rows_other = rw (cut_at s at e h q, gone, xe)

    pub passes_other : passes t o m (lines (drop at s)) ≡ true → passes t o (waits m x) (lines (drop e s)) ≡ true
    unfolding passes
    passes_other p = rw xe (rw (cut_at s at e h q, gone) at p)

pub rows_end : (s : Bytes) (at t : ℕ) (o : Order) (m : ℕ) → length s ≤ at → rows_of t o m (lines (drop at s)) ≡ []
unfolding rows_of
rows_end s at t o m h = rw (lines_end s at h)

-- the records that stay, one by one

records_append : (ends : LineEnd) (a b : List Record) → records_form ends (a ++ b) ≡ records_form ends a ++ records_form ends b
unfolding records_form
records_append ends [] b = refl
records_append ends (v ∷ a) b = rw (records_append ends a b, append_assoc)

changed_append : (strip : Bool) (r f : ℕ) (x : Bytes) (a b : List Record)
    → changed_records strip r f x (a ++ b) ≡ changed_records strip r f x a ++ changed_records strip (r - length a) f x b
unfolding changed_records
changed_append strip r f x [] b = let z : r - 0 ≡ r = omega arith in rw z
changed_append strip r f x (v ∷ a) b =
    let z : r - 1 - length a ≡ r - suc (length a) = omega arith in
    rw (changed_append strip (r - 1) f x a b, z)

module _ (p : Plan) (n : ℕ) where
  pub records_more : (vs : List Record) (v : Record) (rest : List Record) (k : ℕ) → vs ≡ v ∷ rest → k ≡ n + length (kept_records p.stays (v ∷ []))
      → records_by p n vs ≡ records_by p n (v ∷ []) ++ records_by p k rest
  unfolding records_by
  records_more vs v rest k e d =
      let a = kept_records p.stays (v ∷ []) in
      let z : record_of p.change - n - length a ≡ record_of p.change - k = omega arith in
      rw (e, kept_first p.stays v rest, changed_append (strips p.change) (record_of p.change - n) (field_of p.change) (text_of p.change) a (kept_records p.stays rest), z)
      (records_append p.ends (changed_records (strips p.change) (record_of p.change - n) (field_of p.change) (text_of p.change) a) (changed_records (strips p.change) (record_of p.change - k) (field_of p.change) (text_of p.change) (kept_records p.stays rest)))

  pub records_end : (vs : List Record) → vs ≡ [] → records_by p n vs ≡ []
  unfolding records_by kept_records changed_records records_form
  records_end vs e = rw e

  module _ (v : Record) (b : Bool) (e : b ≡ stays_in p.stays v) where
    pub record_stays : b ≡ true → (q : Plan) → q ≡ record_plan p n → record_by q v ≡ records_by p n (v ∷ [])
    unfolding records_by record_by record_plan changed_records records_form
    record_stays h q d =
        let form : Bool → ℕ → Bytes → Bytes = λ strip f t. record_form p.ends (changed_values strip f t v) in
        rw (kept_here p.stays v b e h, d, append-nil)
        (record_says form (λ s t u. ap (record_form p.ends) (values_alike s t u v)) p.change n)

    pub record_goes : b ≡ false → [] ≡ records_by p n (v ∷ [])
    unfolding records_by changed_records records_form
    record_goes h = rw (kept_gone p.stays v b e h)

-- how many were written

pub stays_count : (x : Stays) (n : ℕ) (v : Record) (b : Bool) → b ≡ stays_in x v → b ≡ true → n + 1 ≡ n + length (kept_records x (v ∷ []))
stays_count x n v b e h = rw (kept_here x v b e h)

pub goes_count : (x : Stays) (n : ℕ) (v : Record) (b : Bool) → b ≡ stays_in x v → b ≡ false → n ≡ n + length (kept_records x (v ∷ []))
goes_count x n v b e h = let z : n ≡ n + 0 = omega arith in rw (kept_gone x v b e h) z

pub count_most : (x : Stays) (n k : ℕ) (v : Record) → k ≡ n + length (kept_records x (v ∷ [])) → k ≤ n + 1
count_most x n k v e = omega (arith, kept_few x (v ∷ []))

pub rows_count : (x : Stays) (vs : List Record) (v : Record) (rest : List Record) → vs ≡ v ∷ rest
    → length (kept_records x vs) ≡ length (kept_records x (v ∷ [])) + length (kept_records x rest)
rows_count x vs v rest e = rw (e, kept_first x v rest) (length-append (kept_records x (v ∷ [])) (kept_records x rest))

pub rows_none : (x : Stays) (vs : List Record) → vs ≡ [] → length (kept_records x vs) ≡ 0
unfolding kept_records
rows_none x vs e = rw e

pub changed_count : (strip : Bool) (r f : ℕ) (x : Bytes) (vs : List Record) → length (changed_records strip r f x vs) ≡ length vs
unfolding changed_records
changed_count strip r f x [] = refl
changed_count strip r f x (v ∷ vs) = ap suc (changed_count strip (r - 1) f x vs)

-- a section

-- of a section that stands alone
pub table_alone : (s : Bytes) → 0 < length s → table_index (section_from s 0).lines ≡ table_index (lines s)
unfolding table_index
table_alone s h =
    let e = line_size (drop 0 s) in
    let x : lines s ≡ take (0 + e - 0) s ∷ lines (drop (0 + e) s) = cut_at s 0 (0 + e) h refl in
    rw x (table_from s 0 h (0 + e) refl)

-- the order that its records are read by

pub order_told : (ls : List Bytes) (t : ℕ) (a : List ℕ) → t ≡ table_index ls → Told t (fields (atr_in ls)) a → passing ls ≡ true → held t a ≡ order_in ls
unfolding passing
order_told ls t a e k p =
    told_order ls t a e k (and_left (arranged (width (table_index ls)) (order_in ls)) (passes (table_index ls) (order_in ls) 0 ls) p)

pub passes_so : (ls : List Bytes) (t : ℕ) (o : Order) → t ≡ table_index ls → o ≡ order_in ls → passing ls ≡ true → passes t o 0 ls ≡ true
unfolding passing
passes_so ls t o e q p = rw (e, q) (and_right (arranged (width (table_index ls)) (order_in ls)) (passes (table_index ls) (order_in ls) 0 ls) p)

module _ (p : Plan) (ls : List Bytes) where
  pub content_is : (t : ℕ) (o : Order) (n : ℕ) → t ≡ table_index ls → o ≡ order_in ls → n ≡ length (kept_records p.stays (rows_of t o 0 ls))
      → table_head p.ends (table_at t) ++ (records_by p 0 (rows_of t o 0 ls) ++ line_with p.ends (bytes "end") (decimal n ∷ []))
      ≡ content_by p (said ls)
  unfolding content_by content_form changed_content kept_content records_by said
  content_is t o n e q d =
      let z : record_of p.change - 0 ≡ record_of p.change = omega arith in
      let vs = kept_records p.stays (rows_of (table_index ls) (order_in ls) 0 ls) in
      rw (d, e, q, z, changed_count (strips p.change) (record_of p.change) (field_of p.change) (text_of p.change) vs, line_with_is p.ends "end" (decimal (length vs) ∷ []))

-- the sections of a file

pub tables_begin : (p : Plan) (ys zs : List Section) → zs ≡ ys → tables_by p 0 (map said_in ys) ≡ tables_by p 0 (map said_in zs)
tables_begin p ys zs e = rw e

content_alike : (c : Content) (strip : Bool) (f g : ℕ) (t u : Bytes) → changed_content strip 0 f t c ≡ changed_content strip 0 g u c
unfolding changed_content
content_alike c strip f g t u = rw (records_alike strip f g t u c.records)

module _ (p : Plan) (n : ℕ) where
  pub tables_more : (ys : List Section) (y : Section) (rest : List Section) (q : Plan) (ls : List Bytes) → ys ≡ y ∷ rest → q ≡ section_plan p n → y.lines ≡ ls
      → tables_by p n (map said_in ys) ≡ content_by q (said ls) ++ tables_by p (n + 1) (map said_in rest)
  unfolding tables_by content_by section_plan kept_tables changed_tables tables_form said_in
  tables_more ys y rest q ls e d l =
      let z : section_of p.change - n - 1 ≡ section_of p.change - (n + 1) = omega arith in
      let form : Bool → ℕ → ℕ → Bytes → Bytes = λ strip r f t. content_form p.ends (changed_content strip r f t (kept_content p.stays (said ls))) in
      rw (e, d, z, l) (ap (λ (b : Bytes). b ++ tables_by p (n + 1) (map said_in rest)) (sym (section_says form (λ s f g t u. ap (content_form p.ends) (content_alike (kept_content p.stays (said ls)) s f g t u)) p.change n)))

  pub tables_end : (ys : List Section) → ys ≡ [] → tables_by p n (map said_in ys) ≡ []
  unfolding tables_by kept_tables changed_tables tables_form
  tables_end ys e = rw e

pub changed_tables_count : (strip : Bool) (i r f : ℕ) (x : Bytes) (cs : List Content) → length (changed_tables strip i r f x cs) ≡ length cs
unfolding changed_tables
changed_tables_count strip i r f x [] = refl
changed_tables_count strip i r f x (c ∷ cs) = ap suc (changed_tables_count strip (i - 1) r f x cs)

pub passing_here : {x : Section} {xs : List Section} → PassingIn (x ∷ xs) → passes_in x ≡ true
passing_here (one_more p ps) = p

pub passing_rest : {x : Section} {xs : List Section} → PassingIn (x ∷ xs) → PassingIn xs
passing_rest (one_more p ps) = ps

pub passes_section : (x : Section) (ls : List Bytes) → x.lines ≡ ls → passes_in x ≡ true → passing ls ≡ true
unfolding passes_in
passes_section x ls e p = rw e at p
