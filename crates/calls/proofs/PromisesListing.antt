-- "Listing is refused by 1, 2 and 21 only and then writes no row; other verdicts go into the rows and the file's answer." Assumes nothing.
use mathlib.Core.Path.{◌≡◌, refl, ap, sym, ◌∙◌}
use mathlib.Core.Bool.{Bool, true, false, false≢true}
use mathlib.Core.List.{List, [], ◌∷◌, ◌++◌, map}
use mathlib.Core.Logic.{◌⊎◌, inl, inr}
use Prim.Native.Nat.{ℕ, suc}
use lib.Dec.{eqb, ltb}
use lib.ListN.{length, drop}
use borrow.Author.Tests.{eqb-true, ne_eqb}
use Rattle.page.specs.Bytes.{Bytes, pick}
use Rattle.page.specs.Lines.{content, blank}
use Rattle.page.specs.Cut.{Section, sections, header_lines, trailer_lines}
use Rattle.page.specs.Header.{head_of}
use Rattle.page.specs.Head.{latin_of}
use Rattle.page.specs.Section.{outcome}
use Rattle.page.specs.Trailer.{eof_ok, all_blank, trailer_finding, trailer_of}
use Rattle.page.specs.Answers.{refusal, earlier, refuse_if, answered, paper_of}
use Rattle.page.specs.File.{too_long, found, header_refusal, row_given, row_of, rows_of, first_unsound, any, first_again, by_primary, by_second, Filed, repeats, lost, first_record, filed_of, record_refusal, section_refusal, file_refusal}
use Rattle.page.specs.Reading.{list_refusal, list_of, rows_after}
use Rattle.page.specs.Refusals.{section_numbers, header_numbers, later_numbers, file_numbers, OneOf, SoundOr}
use Rattle.page.specs.declared.Refusal.{Refusal}
use Rattle.page.specs.declared.Row.{Row}
use Rattle.page.specs.declared.Finding.{Finding}
use Rattle.round.specs.RoundKeys.{again, breaks}
use Rattle.verdicts.proofs.Headers.{header_settled}
use Rattle.grammar.proofs.Refuses.{verdict_ranged}
use Rattle.round.proofs.RoundKeys.{breaks_number, again_number}
use Rattle.laws.proofs.Earlier.{earlier_none}
use Rattle.laws.proofs.Numbers.{other_number, apart, within}

-- the first of two gives what one of them gives
earlier_ranged : (ns : List ℕ) (a b : Refusal) → SoundOr ns a.number → SoundOr ns b.number → SoundOr ns (earlier a b).number
unfolding earlier
earlier_ranged ns a b p q = by (eqb a.number 0)
  where
    by : (x : Bool) → SoundOr ns (pick x b a).number
    by true = q
    by false = p

pick_ranged : (ns : List ℕ) (b : Bool) (v : ℕ) → OneOf ns v → SoundOr ns (pick b v 0)
pick_ranged ns true v g = inr g
pick_ranged ns false v g = inl refl

blank_ranged : (n : ℕ) (ls : List Bytes) → SoundOr later_numbers (all_blank n ls).verdict
unfolding all_blank any
blank_ranged n [] = inl refl
blank_ranged n (l ∷ ls) = by (blank_ranged (suc n) ls) (blank (content l))
  where
    by : SoundOr later_numbers (all_blank (suc n) ls).verdict → (b : Bool) → SoundOr later_numbers (pick b (all_blank (suc n) ls) (record { verdict = 3; line = suc n })).verdict
    by ih true = ih
    by ih false = inr refl

trailer_ranged : (n : ℕ) (ls : List Bytes) → SoundOr later_numbers (trailer_finding n ls).verdict
unfolding trailer_finding any
trailer_ranged n [] = inr refl
trailer_ranged n (l ∷ ls) = by (eof_ok n (content l))
  where
    by : (b : Bool) → SoundOr later_numbers (pick b (all_blank 1 ls) (record { verdict = 3; line = 1 })).verdict
    by true = blank_ranged 1 ls
    by false = inr refl

unsound_ranged : (latin : Bool) (i : ℕ) (xs : List Section) → SoundOr later_numbers (first_unsound i (map (row_of latin) xs)).number
unfolding first_unsound row_of row_given
unsound_ranged latin i [] = inl refl
unsound_ranged latin i (x ∷ xs) = by (unsound_ranged latin (suc i) xs) (verdict_ranged latin x.lines) (eqb (outcome latin x.lines).verdict 0)
  where
    by : SoundOr later_numbers (first_unsound (suc i) (map (row_of latin) xs)).number → SoundOr section_numbers (outcome latin x.lines).verdict → (b : Bool) →
        SoundOr later_numbers (pick b (first_unsound (suc i) (map (row_of latin) xs)) (refusal (outcome latin x.lines).verdict i (outcome latin x.lines).line)).number
    by ih v true = ih
    by ih (inl z) false = inl z
    by ih (inr g) false = inr (within (3 ∷ []) section_numbers _ (outcome latin x.lines).verdict g)

record_ranged : (v : ℕ) → OneOf later_numbers v → (s : Bytes) (bad : List Filed → Filed → Bool) → SoundOr later_numbers (first_record v bad [] (filed_of s)).number
record_ranged v g s bad = rw (breaks_number v bad [] (filed_of s)) (pick_ranged later_numbers (breaks bad [] (filed_of s)) v g)

section_ranged : (s : Bytes) → SoundOr later_numbers (section_refusal s).number
unfolding section_refusal record_refusal rows_of any
section_ranged s =
    earlier_ranged later_numbers (first_unsound 1 (rows_of s)) (earlier (first_again [] 1 (rows_of s)) (record_refusal (filed_of s))) (unsound_ranged (latin_of s) 1 (sections s))
    (earlier_ranged later_numbers (first_again [] 1 (rows_of s)) (record_refusal (filed_of s))
    (rw (again_number [] 1 (rows_of s)) (pick_ranged later_numbers (again [] (map (λ (r : Row). r.table) (rows_of s))) 17 refl))
    (earlier_ranged later_numbers (first_record 18 (repeats by_primary) [] (filed_of s))
    (earlier (first_record 19 (repeats by_second) [] (filed_of s)) (first_record 20 (λ before. lost (filed_of s)) [] (filed_of s)))
    (record_ranged 18 refl s (repeats by_primary))
    (earlier_ranged later_numbers (first_record 19 (repeats by_second) [] (filed_of s)) (first_record 20 (λ before. lost (filed_of s)) [] (filed_of s))
    (record_ranged 19 refl s (repeats by_second)) (record_ranged 20 refl s (λ before. lost (filed_of s))))))

-- after a header that is not refused the file gives 0 or what follows 1 and 2
pub file_ranged : (s : Bytes) → (header_refusal s).number ≡ 0 → SoundOr later_numbers (file_refusal s).number
unfolding file_refusal trailer_of
file_ranged s h =
    earlier_ranged later_numbers (header_refusal s) (earlier (found (trailer_of s)) (section_refusal s)) (inl h)
    (earlier_ranged later_numbers (found (trailer_of s)) (section_refusal s) (trailer_ranged (length (sections s)) (trailer_lines s)) (section_ranged s))

-- the header gives 0, 1 or 2
pub header_told : (s : Bytes) → SoundOr header_numbers (header_refusal s).number
unfolding header_refusal earlier refuse_if any
header_told s = by (too_long s) (header_settled (header_lines s))
  where
    by : (b : Bool) → (head_of (header_lines s) ≡ record { verdict = 0; line = 0 }) ⊎ ((n : ℕ) × (head_of (header_lines s) ≡ record { verdict = 2; line = n })) →
        SoundOr header_numbers (earlier (refuse_if b 1) (found (head_of (header_lines s)))).number
    by true h = inr refl
    by false (inl e) = inl (ap (λ (f : Finding). f.verdict) e)
    by false (inr e) = inr (rw e.1)

-- the file gives 0 or one of its numbers
pub file_told : (s : Bytes) → SoundOr file_numbers (file_refusal s).number
unfolding file_refusal earlier any
file_told s = by (header_told s)
  where
    later : SoundOr later_numbers (file_refusal s).number → SoundOr file_numbers (file_refusal s).number
    later (inl z) = inl z
    later (inr g) = inr (within header_numbers later_numbers [] (file_refusal s).number g)

    by : SoundOr header_numbers (header_refusal s).number → SoundOr file_numbers (file_refusal s).number
    by (inl h) = later (file_ranged s h)
    by (inr g) =
        let z : ¬ ((header_refusal s).number ≡ 0) = other_number header_numbers (header_refusal s).number 0 g refl in
        inr (rw (ne_eqb (header_refusal s).number 0 z) (within [] header_numbers later_numbers (header_refusal s).number g))

-- 1, 2, 21
abbrev pub row_less : List ℕ
row_less = header_numbers ++ (21 ∷ [])

abbrev pub NoRows : ℕ → Type 0
NoRows n = OneOf row_less n

list_told : (s : Bytes) (room : ℕ) → SoundOr row_less (list_refusal s room).number
unfolding list_refusal refuse_if any
list_told s room = earlier_ranged row_less (header_refusal s) (refuse_if (ltb room (length (sections s))) 21) (first (header_told s)) (second (ltb room (length (sections s))))
  where
    first : SoundOr header_numbers (header_refusal s).number → SoundOr row_less (header_refusal s).number
    first (inl e) = inl e
    first (inr g) = inr (within [] header_numbers (21 ∷ []) (header_refusal s).number g)

    second : (b : Bool) → SoundOr row_less (refuse_if b 21).number
    second true = inr refl
    second false = inl refl

-- the paper's number of the answer
answer_number : (r : Refusal) → (paper_of (answered r (tt {0}))).number ≡ r.number
unfolding paper_of answered
answer_number r = by (eqb r.number 0) refl
  where
    by : (b : Bool) → eqb r.number 0 ≡ b → (paper_of (answered r (tt {0}))).number ≡ r.number
    by true e = rw e (sym (eqb-true r.number 0 e))
    by false e = rw e

module _ (s : Bytes) (rows : List Row) where
  abbrev the_answer : ℕ
  the_answer = (paper_of (list_of s (length rows))).number

  number_is : the_answer ≡ (earlier (list_refusal s (length rows)) (file_refusal s)).number
  unfolding list_of
  number_is = answer_number (earlier (list_refusal s (length rows)) (file_refusal s))

  refused_is : (n : ℕ) → (list_refusal s (length rows)).number ≡ n → ¬ (n ≡ 0) → the_answer ≡ n
  unfolding earlier
  refused_is n e z = number_is ∙ rw (e, ne_eqb n 0 z)

  open_is : (list_refusal s (length rows)).number ≡ 0 → the_answer ≡ (file_refusal s).number
  unfolding earlier
  open_is e = number_is ∙ rw e

  open_ranged : (list_refusal s (length rows)).number ≡ 0 → SoundOr later_numbers the_answer
  unfolding list_refusal
  open_ranged e =
      let h = earlier_none (header_refusal s) (refuse_if (ltb (length rows) (length (sections s))) 21) e in
      rw (open_is e) (file_ranged s h.0)

  not_zero : (n : ℕ) → NoRows n → ¬ (n ≡ 0)
  unfolding any
  not_zero n w = other_number row_less n 0 w refl

  never_both : (n : ℕ) → SoundOr later_numbers n → ¬ NoRows n
  unfolding any
  never_both n (inl z) w = not_zero n w z
  never_both n (inr g) w = false≢true (sym (apart later_numbers row_less n refl g) ∙ w)

  -- refused by 1, 2 or 21: no row is written
  pub rows_untouched : NoRows the_answer → rows_after s rows ≡ rows
  unfolding rows_after
  rows_untouched w = by (list_told s (length rows))
    where
      by : ((list_refusal s (length rows)).number ≡ 0) ⊎ NoRows (list_refusal s (length rows)).number → rows_after s rows ≡ rows
      by (inl e) = absurd (never_both the_answer (open_ranged e) w)
      by (inr n) = rw (ne_eqb (list_refusal s (length rows)).number 0 (not_zero (list_refusal s (length rows)).number n))

  -- any other answer: one row a section, and "spare rows keep their values"
  pub rows_written : ¬ NoRows the_answer → rows_after s rows ≡ rows_of s ++ drop (length (sections s)) rows
  unfolding rows_after
  rows_written w = by (list_told s (length rows))
    where
      by : ((list_refusal s (length rows)).number ≡ 0) ⊎ NoRows (list_refusal s (length rows)).number → rows_after s rows ≡ rows_of s ++ drop (length (sections s)) rows
      by (inl e) = rw e
      by (inr n) = absurd (w (rw (refused_is (list_refusal s (length rows)).number refl (not_zero (list_refusal s (length rows)).number n)) n))
