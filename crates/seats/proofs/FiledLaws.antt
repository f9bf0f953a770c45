-- A sound section's records, and its lines: what is tested of the one can be tested of the other. Assumes nothing.
use mathlib.Core.Path.{◌≡◌, refl, ◌∙◌}
use mathlib.Core.Bool.{Bool, true, false, ◌||◌}
use mathlib.Core.List.{List, [], ◌∷◌, ◌++◌, map}
use Prim.Native.Nat.{ℕ, suc, ◌+◌, ◌<◌}
use native.Mathlib.Omega.{arith}
use borrow.Author.Tests.{eq-eqb, ne_eqb}
use lib.ListN.{length, get_or}
use Rattle.page.specs.Bytes.{Bytes, pick}
use Rattle.page.specs.Lines.{content}
use Rattle.page.specs.Tables.{columns}
use Rattle.page.specs.Order.{Order}
use Rattle.page.specs.Cut.{Section}
use Rattle.page.specs.Section.{outcome}
use Rattle.page.specs.Records.{Entry, waits, record_in, entries, table_index, order_in, entries_of, records_of}
use Rattle.page.specs.Rules.{Every, one_more}
use Rattle.page.specs.Answers.{refusal, sound}
use Rattle.page.specs.File.{any, Filed, filed_in, first_record}
use Rattle.page.specs.declared.Refusal.{Refusal}
use Rattle.page.proofs.CutLaws.{no_section}
use Rattle.page.proofs.FileLaws.{first_section, section_none, section_at}
use Rattle.keys.proofs.SameLaws.{Fitting}
use Rattle.keys.proofs.SoundLaws.{Sound}
use Rattle.scans.specs.Scan.{is_record, first_line, refused_at}

abbrev pub filing : ℕ → ℕ → Entry → Filed
filing i t e = record { section = i; table = t; line = e.line; values = e.values }

-- a record of table t at line n, where its columns stand in the order o and a mark of field m waits
abbrev pub entry_of : ℕ → Order → ℕ → ℕ → Bytes → Entry
entry_of t o n m l = record { line = n; values = record_in t o m (content l) }

-- the values of each record fit their columns
abbrev pub Fit : ℕ → Order → ℕ → ℕ → List Bytes → Type 0
Fit t o m n ls = Every (Fitting (columns t)) (map (λ (e : Entry). e.values) (entries t o m n ls))

module _ (latin : Bool) (j : ℕ) (x : Section) (z : Sound latin x.lines) where
  pub filed_is : filed_in latin j x ≡ map (filing j (table_index x.lines)) (entries (table_index x.lines) (order_in x.lines) 0 0 x.lines)
  unfolding filed_in entries_of
  filed_is = rw (eq-eqb (outcome latin x.lines).verdict 0 z.verdict)

  pub fit_is : Fit (table_index x.lines) (order_in x.lines) 0 0 x.lines
  unfolding records_of entries_of
  fit_is = rw (eq-eqb (outcome latin x.lines).verdict 0 z.verdict) at z.fit

-- one of the records passes a test exactly if one of the lines does
module _ (i t : ℕ) (o : Order) (p : Filed → Bool) (q : Bytes → Bool)
    (here : (l : Bytes) (n m : ℕ) → is_record l ≡ true → Fitting (columns t) (record_in t o m (content l)) → p (filing i t (entry_of t o n m l)) ≡ q l)
    (other : (l : Bytes) → is_record l ≡ false → q l ≡ false) where
  pub any_lines : (ls : List Bytes) (m n : ℕ) → Fit t o m n ls → any p (map (filing i t) (entries t o m n ls)) ≡ any q ls
  unfolding any entries
  any_lines [] m n f = refl
  any_lines (l ∷ ls) m n f = by (is_record l) refl f (λ k g. any_lines ls k (suc n) g)
    where
      by : (x : Bool) → is_record l ≡ x
          → Every (Fitting (columns t)) (map (λ (e : Entry). e.values) (pick x (entry_of t o (suc n) m l ∷ entries t o 0 (suc n) ls) (entries t o (waits m (content l)) (suc n) ls)))
          → ((k : ℕ) → Fit t o k (suc n) ls → any p (map (filing i t) (entries t o k (suc n) ls)) ≡ any q ls)
          → any p (map (filing i t) (pick x (entry_of t o (suc n) m l ∷ entries t o 0 (suc n) ls) (entries t o (waits m (content l)) (suc n) ls))) ≡ (q l || any q ls)
      by true e (one_more g h) ih = rw (here l (suc n) m e g, ih 0 h)
      by false e g ih = rw (other l e) (ih (waits m (content l)) g)

-- the first record at fault is the first line at fault, where R relates the records passed to the lines passed
module _ (v i t : ℕ) (o : Order) (bad : List Filed → Filed → Bool) (fault : List Bytes → Bytes → Bool) (R : List Filed → List Bytes → Type 0)
    (here : (b : List Filed) (before : List Bytes) (l : Bytes) (n m : ℕ) → R b before → is_record l ≡ true → Fitting (columns t) (record_in t o m (content l))
    → (bad b (filing i t (entry_of t o n m l)) ≡ fault before l) × R (filing i t (entry_of t o n m l) ∷ b) (before ++ l ∷ []))
    (other : (b : List Filed) (before : List Bytes) (l : Bytes) → R b before → is_record l ≡ false → (fault before l ≡ false) × R b (before ++ l ∷ [])) where
  pub first_lines : (ls : List Bytes) (m n : ℕ) (b : List Filed) (before : List Bytes) → R b before → Fit t o m n ls
      → first_record v bad b (map (filing i t) (entries t o m n ls)) ≡ refused_at v i (first_line fault before n ls)
  unfolding entries first_record first_line refused_at
  first_lines [] m n b before r f = refl
  first_lines (l ∷ ls) m n b before r f = by (is_record l) refl f (λ k c after y g. first_lines ls k (suc n) c after y g)
    where
      next : ℕ
      next = first_line fault (before ++ l ∷ []) (suc n) ls

      step : (y : Bool) → pick y (refusal v i (suc n)) (refused_at v i (first_line fault (before ++ l ∷ []) (suc n) ls)) ≡ refused_at v i (pick y (suc n) (first_line fault (before ++ l ∷ []) (suc n) ls))
      step true = rw (ne_eqb (suc n) 0 (λ z. omega arith))
      step false = refl

      by : (x : Bool) → is_record l ≡ x
          → Every (Fitting (columns t)) (map (λ (e : Entry). e.values) (pick x (entry_of t o (suc n) m l ∷ entries t o 0 (suc n) ls) (entries t o (waits m (content l)) (suc n) ls)))
          → ((k : ℕ) (c : List Filed) (after : List Bytes) → R c after → Fit t o k (suc n) ls
          → first_record v bad c (map (filing i t) (entries t o k (suc n) ls)) ≡ refused_at v i (first_line fault after (suc n) ls))
          → first_record v bad b (map (filing i t) (pick x (entry_of t o (suc n) m l ∷ entries t o 0 (suc n) ls) (entries t o (waits m (content l)) (suc n) ls)))
          ≡ refused_at v i (pick (fault before l) (suc n) (first_line fault (before ++ l ∷ []) (suc n) ls))
      by true e (one_more g h) ih =
          let a = here b before l (suc n) m r e g in
          rw (a.0, ih 0 (filing i t (entry_of t o (suc n) m l) ∷ b) (before ++ l ∷ []) a.1 h) (step (fault before l))
      by false e g ih =
          let a = other b before l r e in
          rw a.0 (ih (waits m (content l)) b (before ++ l ∷ []) a.1 g)

-- the first section with a line at fault: g says which line of each
module _ (f : ℕ → Section → Refusal) (xs : List Section) (v : ℕ) (g : ℕ → ℕ)
    (is : (m : ℕ) → m < length xs → f (1 + m) (get_or xs m no_section) ≡ refused_at v (1 + m) (g m)) where
  clear : (m : ℕ) → m < length xs → g m ≡ 0 → f (1 + m) (get_or xs m no_section) ≡ sound
  unfolding refused_at
  clear m h z = is m h ∙ rw z

  pub faults_none : ((m : ℕ) → m < length xs → g m ≡ 0) → first_section f 1 xs ≡ sound
  faults_none p = section_none f 1 xs (λ m h. clear m h (p m h))

  pub faults_at : (i n : ℕ) → (v ≡ 0 → ⊥) → i < length xs → ((m : ℕ) → m < i → g m ≡ 0) → g i ≡ n + 1 → first_section f 1 xs ≡ refusal v (i + 1) (n + 1)
  unfolding refused_at
  faults_at i n z h p e =
      let k : 1 + i ≡ i + 1 = omega arith in
      section_at f i 1 xs h (λ m l. clear m (omega arith) (p m l)) v (i + 1) (n + 1) z
      (is i h ∙ rw (e, ne_eqb (n + 1) 0 (λ y. omega arith), k))
