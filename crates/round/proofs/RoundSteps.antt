-- The section's machine takes a written record with its marks, and a written `end`. Assumes nothing.
use Rattle.std.specs.Prelude.{Ok}
use mathlib.Core.Path.{◌≡◌, refl, sym, ◌∙◌}
use mathlib.Core.Bool.{Bool, true, false, not, ◌&&◌, false≢true}
use mathlib.Core.List.{List, [], ◌∷◌, ◌++◌, map, append-nil}
use Prim.Native.Nat.{ℕ, suc, ◌+◌, ◌<◌, ◌≤◌, ◌^◌}
use native.Mathlib.Omega.{arith}
use lib.ListN.{length, get_or, length-map}
use borrow.Author.Tests.{eq-eqb, ne_eqb, lt-ltb, not-true}
use Rattle.page.specs.Bytes.{Bytes, bytes, all, unpadded}
use Rattle.page.specs.Lines.{content, rest, allowed, Rec, End, Com}
use Rattle.page.specs.Fields.{digit}
use Rattle.page.specs.Tables.{Named, no_column, width, rules}
use Rattle.page.specs.Order.{Order, listed_order, by_column}
use Rattle.page.specs.Marks.{remark_of, may_mark, owner_of}
use Rattle.page.specs.Section.{choose, first_broken, empty_marked, rec_verdict, rec_step, count_step, end_step, mark_step, com_step, line_step, content_step, step}
use Rattle.page.specs.Records.{Datum, number, missing, words, Record}
use Rattle.page.specs.Form.{separated, line, decimal, quoted, datum_text, mark_line}
use Rattle.page.specs.declared.LineEnd.{LineEnd}
use Rattle.page.specs.declared.Owner.TheVariants as O
use Rattle.page.specs.declared.Phase.TheVariants as P
use Rattle.page.specs.declared.Remark.TheVariants as R
use Rattle.round.specs.Round.{a_number, no_number, a_text, a_suggestion, FitAll, no_value, a_value, SoundRecord}
use Rattle.laws.proofs.WrittenScans.{all_mono}
use Rattle.round.proofs.WrittenNumbers.{number_decimal, decimal_all}
use Rattle.round.proofs.WrittenTexts.{quoted_all}
use Rattle.round.proofs.WrittenFields.{no_field, a_field, quoted_field, decimal_field}
use Rattle.round.proofs.WrittenLines.{commands, Seen, seen, separated_more, separated_none, quote_allowed}
use Rattle.round.proofs.WrittenDates.{mark_again}
use Rattle.round.proofs.RoundRecords.{tame, fillable_in, one_fillable, digit_allowed, Owned, no_owner, of_number, of_missing, of_words, wrong_back, width_back, fields_stand, separated_allowed, held_back}
use Rattle.page.proofs.TestLaws.{and_left, and_right, neither}
use Rattle.page.proofs.OrderLaws.{listed_standing, listed_column}
use Rattle.grammar.proofs.Rules.{rule_decided, rules_kept}

-- the marks of a record, line by line
unfoldable pub mark_lines_of : LineEnd → ℕ → Datum → List Bytes
mark_lines_of ends i (number n) = []
mark_lines_of ends i missing = []
mark_lines_of ends i (words O.Operator t) = []
mark_lines_of ends i (words O.Suggestion t) = mark_line ends i ∷ []

unfoldable pub mark_lines : LineEnd → ℕ → Record → List Bytes
mark_lines ends i [] = []
mark_lines ends i (v ∷ vs) = mark_lines_of ends i v ++ mark_lines ends (suc i) vs

-- the one mark of a record whose values, counted from i, fit the columns cs: none, or one with its text
pub data Marked (ends : LineEnd) (i : ℕ) (cs : List Named) (vs : Record) : ℕ → Type 0 where
  unmarked : mark_lines ends i vs ≡ [] → Owned 0 i vs → Marked ends i cs vs 0
  marked : (j : ℕ) (b : ℕ) (u : Bytes) → j < length cs → (get_or cs j no_column).column.fillable ≡ true → get_or (map datum_text vs) j [] ≡ quoted (b ∷ u) →
      unpadded (b ∷ u) ≡ b ∷ u → mark_lines ends i vs ≡ mark_line ends (i + j) ∷ [] → Owned (i + j) i vs → Marked ends i cs vs (i + j)

owner_other : (m i : ℕ) → ¬ (m ≡ i) → owner_of m i ≡ O.Operator
unfolding owner_of
owner_other m i n = rw (ne_eqb m i n)

owner_same : (i : ℕ) → owner_of i i ≡ O.Suggestion
unfolding owner_of
owner_same i = rw (eq-eqb i i refl)

-- columns of which none may be marked hold no suggestion
module _ (ends : LineEnd) (latin : Bool) where
  none_marked : (i : ℕ) {cs : List Named} {vs : Record} → FitAll latin cs vs → fillable_in cs ≡ false → mark_lines ends i vs ≡ []
  unfolding mark_lines mark_lines_of fillable_in
  none_marked i no_value e = refl
  none_marked i (a_value {c} {cs} (a_number x l h d) g) e = none_marked (suc i) g (neither c.column.fillable (fillable_in cs) e).1
  none_marked i (a_value {c} {cs} (no_number x o) g) e = none_marked (suc i) g (neither c.column.fillable (fillable_in cs) e).1
  none_marked i (a_value {c} {cs} (a_text x h a d) g) e = none_marked (suc i) g (neither c.column.fillable (fillable_in cs) e).1
  none_marked i (a_value {c} {cs} (a_suggestion x f p h a d) g) e = absurd (false≢true (sym (neither c.column.fillable (fillable_in cs) e).0 ∙ f))

  none_owned : (m i : ℕ) {cs : List Named} {vs : Record} → FitAll latin cs vs → fillable_in cs ≡ false → m < i → Owned m i vs
  unfolding fillable_in
  none_owned m i no_value e h = no_owner
  none_owned m i (a_value {c} {cs} (a_number x l q d) g) e h = of_number (none_owned m (suc i) g (neither c.column.fillable (fillable_in cs) e).1 (omega arith))
  none_owned m i (a_value {c} {cs} (no_number x o) g) e h = of_missing (none_owned m (suc i) g (neither c.column.fillable (fillable_in cs) e).1 (omega arith))
  none_owned m i (a_value {c} {cs} (a_text x q a d) g) e h =
      of_words (sym (owner_other m i (λ (z : m ≡ i). omega arith))) (none_owned m (suc i) g (neither c.column.fillable (fillable_in cs) e).1 (omega arith))
  none_owned m i (a_value {c} {cs} (a_suggestion x f p q a d) g) e h = absurd (false≢true (sym (neither c.column.fillable (fillable_in cs) e).0 ∙ f))

  -- a value of the operator's, a number or none, in front
  onto : (i m : ℕ) (c : Named) {cs : List Named} {v : Datum} {vs : Record} → mark_lines_of ends i v ≡ [] →
      ((k : ℕ) → ¬ (k ≡ i) → Owned k (suc i) vs → Owned k i (v ∷ vs)) → 0 < i → Marked ends (suc i) cs vs m → Marked ends i (c ∷ cs) (v ∷ vs) m
  unfolding mark_lines
  onto i m c q w p (unmarked e o) = unmarked (rw (q, e)) (w 0 (λ (z : 0 ≡ i). omega arith) o)
  onto i m c q w p (marked j b u h f t d e o) =
      let z : suc i + j ≡ i + suc j = omega arith in
      rw z (marked (suc j) b u (omega arith) f t d (rw (q, e, z)) (w (i + suc j) (λ (y : i + suc j ≡ i). omega arith) (rw z at o)))

  pub marks_back : (i : ℕ) {cs : List Named} {vs : Record} → 0 < i → FitAll latin cs vs → one_fillable cs ≡ true → (m : ℕ) × Marked ends i cs vs m
  unfolding one_fillable mark_lines mark_lines_of datum_text
  marks_back i p no_value e = (0, unmarked refl no_owner)
  marks_back i p (a_value {c} {cs} (a_number x l q d) g) e =
      let k = marks_back (suc i) (omega arith) g (and_right (not (c.column.fillable && fillable_in cs)) (one_fillable cs) e) in
      (k.0, onto i k.0 c refl (λ n d o. of_number o) p k.1)
  marks_back i p (a_value {c} {cs} (no_number x o) g) e =
      let k = marks_back (suc i) (omega arith) g (and_right (not (c.column.fillable && fillable_in cs)) (one_fillable cs) e) in
      (k.0, onto i k.0 c refl (λ n d o. of_missing o) p k.1)
  marks_back i p (a_value {c} {cs} (a_text x q a d) g) e =
      let k = marks_back (suc i) (omega arith) g (and_right (not (c.column.fillable && fillable_in cs)) (one_fillable cs) e) in
      (k.0, onto i k.0 c refl (λ n d o. of_words (sym (owner_other n i d)) o) p k.1)
  marks_back i p (a_value {c} {cs} {vs} (a_suggestion {t = []} x f l q a d) g) e = absurd (omega arith)
  marks_back i p (a_value {c} {cs} {vs} (a_suggestion {t = b ∷ u} x f l q a d) g) e =
      let n : fillable_in cs ≡ false = rw f at (not-true (c.column.fillable && fillable_in cs) (and_left (not (c.column.fillable && fillable_in cs)) (one_fillable cs) e)) in
      let z : i + 0 ≡ i = omega arith in
      (i + 0, marked 0 b u (omega arith) f refl d (rw (none_marked (suc i) g n, z)) (of_words {i = i} (let y : O.Suggestion ≡ owner_of (i + 0) i = rw z (sym (owner_same i)) in y) (none_owned (i + 0) (suc i) g n (omega arith))))

-- one line

module _ (ends : LineEnd) (latin : Bool) (t : ℕ) where
  and_false : (latin && false) ≡ false
  and_false = by latin
    where
      by : (x : Bool) → (x && false) ≡ false
      by true = refl
      by false = refl

  and_true : (latin && true) ≡ latin
  and_true = by latin
    where
      by : (x : Bool) → (x && true) ≡ x
      by true = refl
      by false = refl

  -- `com; "SUGGESTED i"`
  suggested : (i : ℕ) → all (allowed false) (bytes "SUGGESTED " ++ decimal i) ≡ true
  unfolding bytes all allowed
  suggested i = all_mono digit (allowed false) (digit_allowed false) (decimal i) (decimal_all i)

  mark_allowed : (i : ℕ) → all (allowed false) (separated (quoted (bytes "SUGGESTED " ++ decimal i) ∷ [])) ≡ true
  mark_allowed i =
      separated_more false (quoted (bytes "SUGGESTED " ++ decimal i)) []
      (quoted_all (allowed false) (bytes "SUGGESTED " ++ decimal i) quote_allowed (suggested i)) (separated_none false)

  pub mark_seen : (i : ℕ) → Seen latin (mark_line ends i) Com (quoted (bytes "SUGGESTED " ++ decimal i)) []
  unfolding mark_line
  mark_seen i =
      seen ends commands.12 (quoted (bytes "SUGGESTED " ++ decimal i)) [] latin (a_field (quoted_field (bytes "SUGGESTED " ++ decimal i)) no_field)
      (rw and_false (mark_allowed i))

  pub mark_reads : (i : ℕ) → 1 ≤ i → i < 10 ^ 18 → remark_of (rest (content (mark_line ends i))) ≡ R.Mark i
  unfolding separated
  mark_reads i l h = rw ((mark_seen i).behind, append-nil (quoted (bytes "SUGGESTED " ++ decimal i))) (mark_again i l h)

  pub mark_step_back : (i n : ℕ) → 1 ≤ i → i < 10 ^ 18 → may_mark t (listed_order t) i ≡ true → step latin (P.Rows t 0 n) (listed_order t) (mark_line ends i) ≡ Ok (P.Rows t i n)
  unfolding step content_step com_step mark_step choose
  mark_step_back i n l h m =
      let s = mark_seen i in
      rw (s.clean, s.shown, s.named, mark_reads i l h, m, lt-ltb 0 i l)

  -- `end; n`
  decimal_allowed : (n : ℕ) → all (allowed false) (separated (decimal n ∷ [])) ≡ true
  decimal_allowed n = separated_more false (decimal n) [] (all_mono digit (allowed false) (digit_allowed false) (decimal n) (decimal_all n)) (separated_none false)

  pub end_seen : (n : ℕ) → Seen latin (line ends "end" (decimal n ∷ [])) End (decimal n) []
  end_seen n = seen ends commands.11 (decimal n) [] latin (a_field (decimal_field n) no_field) (rw and_false (decimal_allowed n))

  pub end_step_back : (o : Order) (n : ℕ) → n < 10 ^ 18 → step latin (P.Rows t 0 n) o (line ends "end" (decimal n ∷ [])) ≡ Ok (P.Ended t n)
  unfolding step content_step line_step end_step count_step choose
  end_step_back o n h =
      let s = end_seen n in
      rw (s.clean, s.shown, s.named, s.split, number_decimal n h, eq-eqb n n refl)

-- `rec` with a record's values
module _ (ends : LineEnd) (latin : Bool) (t : ℕ) (v : Datum) (vs : Record) (r : SoundRecord latin t (v ∷ vs)) where
  abbrev rec_line : Bytes
  rec_line = line ends "rec" (map datum_text (v ∷ vs))

  pub rec_seen : Seen latin rec_line Rec (datum_text v) (map datum_text vs)
  rec_seen = seen ends commands.10 (datum_text v) (map datum_text vs) latin (fields_stand latin (v ∷ vs)) (rw (and_true ends latin t) (separated_allowed latin r.fit))

  wide : length (map datum_text (v ∷ vs)) ≡ width t
  unfolding width
  wide = length-map (v ∷ vs) datum_text ∙ width_back latin r.fit

  rules_back : first_broken (rules t) (map datum_text (v ∷ vs)) ≡ 0
  rules_back =
      rules_kept (map datum_text (v ∷ vs)) (v ∷ vs) (rules t)
      (rule_decided t (held_back latin r.fit (tame t).small)) r.rules

  -- its fields stand by column
  pub fields_back : by_column (listed_order t) (map datum_text (v ∷ vs)) ≡ map datum_text (v ∷ vs)
  fields_back = listed_column t (map datum_text (v ∷ vs)) wide

  verdict_back : (m : ℕ) → empty_marked m (map datum_text (v ∷ vs)) ≡ false → rec_verdict t (listed_order t) m (map datum_text (v ∷ vs)) ≡ 0
  unfolding rec_verdict
  verdict_back m e =
      rw (
        eq-eqb (length (map datum_text (v ∷ vs))) (width t) wide,
        listed_standing t,
        fields_back,
        wrong_back latin r.fit (tame t).small,
        rules_back,
        e,
      )

  pub rec_step_back : (m n : ℕ) → empty_marked m (map datum_text (v ∷ vs)) ≡ false → step latin (P.Rows t m n) (listed_order t) rec_line ≡ Ok (P.Rows t 0 (n + 1))
  unfolding step content_step line_step rec_step choose
  rec_step_back m n e =
      let s = rec_seen in
      rw (s.clean, s.shown, s.named, s.split, verdict_back m e)
