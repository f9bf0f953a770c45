-- The sections of an accepted file: their records passed their rules, and what their lines say is what the file says.
-- Assumes nothing.
use mathlib.Core.Path.{◌≡◌, refl, ap}
use mathlib.Core.Bool.{Bool, true, false, false≢true}
use mathlib.Core.List.{List, [], ◌∷◌, map}
use Prim.Native.Nat.{ℕ, suc, ◌+◌, ◌<◌}
use native.Mathlib.Omega.{arith}
use borrow.Author.Tests.{eq-eqb}
use lib.Dec.{eqb}
use lib.ListN.{length}
use Rattle.page.specs.Bytes.{Bytes, pick}
use Rattle.page.specs.Lines.{content, command, rest, Rec}
use Rattle.page.specs.Fields.{fields}
use Rattle.page.specs.Cut.{Section, sections}
use Rattle.page.specs.Head.{latin_of}
use Rattle.page.specs.Order.{Order}
use Rattle.page.specs.Section.{rec_verdict, outcome}
use Rattle.page.specs.Records.{Record, Entry, waits, record_in, entries, entries_of, records_of, table_index, order_in}
use Rattle.page.specs.Places.{stands, record_at}
use Rattle.page.specs.Model.{content_of}
use Rattle.page.specs.File.{file_refusal}
use Rattle.page.specs.Rules.{Every, none_left, one_more, times}
use Rattle.machine.proofs.SoundLaws.{sound_passed}
use Rattle.laws.specs.Begins.{begins}
use Rattle.grammar.proofs.Counts.{sound_count}
use Rattle.grammar.proofs.Readings.{sound_arranged}
use Rattle.laws.proofs.Sections.{sections_begin}
use Rattle.round.proofs.RoundKeys.{SoundSection}
use Rattle.round.proofs.Round.{accepted_sections}
use Rattle.recording.specs.Said.{rows_of, passes, passing, said, said_in, passes_in, PassingIn, Passing}

-- what the lines say

abbrev values_of : List Entry → List Record
values_of es = map (λ (e : Entry). e.values) es

entries_rows : (t : ℕ) (o : Order) (m n : ℕ) (ls : List Bytes) → values_of (entries t o m n ls) ≡ rows_of t o m ls
unfolding entries rows_of
entries_rows t o m n [] = refl
entries_rows t o m n (l ∷ ls) =
    by (eqb (command (content l)) Rec) (entries_rows t o 0 (suc n) ls) (entries_rows t o (waits m (content l)) (suc n) ls)
  where
    by : (b : Bool) → values_of (entries t o 0 (suc n) ls) ≡ rows_of t o 0 ls → values_of (entries t o (waits m (content l)) (suc n) ls) ≡ rows_of t o (waits m (content l)) ls
        → values_of (pick b (record { line = suc n; values = record_in t o m (content l) } ∷ entries t o 0 (suc n) ls) (entries t o (waits m (content l)) (suc n) ls))
        ≡ pick b (record_in t o m (content l) ∷ rows_of t o 0 ls) (rows_of t o (waits m (content l)) ls)
    by true p q = ap (λ (rs : List Record). record_in t o m (content l) ∷ rs) p
    by false p q = q

content_said : (latin : Bool) (x : Section) → (outcome latin x.lines).verdict ≡ 0 → content_of latin x ≡ said_in x
unfolding content_of said_in said records_of entries_of
content_said latin x e =
    rw (eq-eqb (outcome latin x.lines).verdict 0 e, entries_rows (table_index x.lines) (order_in x.lines) 0 0 x.lines)

-- that the records passed

all_passed : (t : ℕ) (o : Order) (m at : ℕ) (ls : List Bytes) → ((r : ℕ) → r < times Rec ls → rec_verdict t o (record_at r m at ls).mark (fields (record_at r m at ls).rest) ≡ 0)
    → passes t o m ls ≡ true
unfolding passes times record_at stands
all_passed t o m at [] f = refl
all_passed t o m at (l ∷ ls) f =
    by (eqb (command (content l)) Rec) refl (all_passed t o 0 (at + length l) ls) (all_passed t o (waits m (content l)) (at + length l) ls) f
  where
    by : (b : Bool) → eqb (command (content l)) Rec ≡ b
        → (((r : ℕ) → r < times Rec ls → rec_verdict t o (record_at r 0 (at + length l) ls).mark (fields (record_at r 0 (at + length l) ls).rest) ≡ 0) → passes t o 0 ls ≡ true)
        → (((r : ℕ) → r < times Rec ls → rec_verdict t o (record_at r (waits m (content l)) (at + length l) ls).mark (fields (record_at r (waits m (content l)) (at + length l) ls).rest) ≡ 0) → passes t o (waits m (content l)) ls ≡ true)
        → ((r : ℕ) → r < times Rec (l ∷ ls) → rec_verdict t o (record_at r m at (l ∷ ls)).mark (fields (record_at r m at (l ∷ ls)).rest) ≡ 0)
        → passes t o m (l ∷ ls) ≡ true
    by true e p q f =
        let z : rec_verdict t o m (fields (rest (content l))) ≡ 0 = rw e at (f 0 (rw e (omega arith))) in
        let k = p (λ (r : ℕ) (h : r < times Rec ls). rw e at (f (suc r) (rw e (omega arith)))) in
        rw (e, eq-eqb (rec_verdict t o m (fields (rest (content l)))) 0 z, k)
    by false e p q f =
        let k = q (λ (r : ℕ) (h : r < times Rec ls). rw e at (f r (rw e (omega arith)))) in
        rw (e, k)

lines_pass : (latin : Bool) (ls : List Bytes) → begins ls ≡ true → (outcome latin ls).verdict ≡ 0 → passes (table_index ls) (order_in ls) 0 ls ≡ true
unfolding begins
lines_pass latin [] b e = absurd (false≢true b)
lines_pass latin (l ∷ ls) b e =
    let n = sound_count latin (l ∷ ls) e in
    all_passed (table_index (l ∷ ls)) (order_in (l ∷ ls)) 0 0 (l ∷ ls) (λ (r : ℕ) (h : r < times Rec (l ∷ ls)). sound_passed latin l ls r 0 b e (omega arith))

section_passes : (latin : Bool) (x : Section) → begins x.lines ≡ true → (outcome latin x.lines).verdict ≡ 0 → passes_in x ≡ true
unfolding passes_in passing
section_passes latin x b e = rw (sound_arranged latin x.lines b e, lines_pass latin x.lines b e)

module _ (latin : Bool) where
  all_pass : {xs : List Section} → Every (λ (x : Section). begins x.lines ≡ true) xs → Every (SoundSection latin) xs → PassingIn xs
  all_pass none_left none_left = none_left
  all_pass (one_more {x} b bs) (one_more e es) = one_more (section_passes latin x b e.verdict) (all_pass bs es)

  all_said : {xs : List Section} → Every (SoundSection latin) xs → map (content_of latin) xs ≡ map said_in xs
  all_said none_left = refl
  all_said (one_more {x} e es) = rw (content_said latin x e.verdict, all_said es)

module _ (s : Bytes) (h : (file_refusal s).number ≡ 0) where
  pub accepted_passing : Passing s
  accepted_passing = all_pass (latin_of s) (sections_begin s) (accepted_sections s h)

  pub accepted_said : map (content_of (latin_of s)) (sections s) ≡ map said_in (sections s)
  accepted_said = all_said (latin_of s) (accepted_sections s h)
