-- The numbers that calls give before they look further: 1 and 2 are the header's for every call, and the later ones the file's where a call
-- answers for the file. Assumes nothing.
use Rattle.std.specs.Prelude.{Err}
use mathlib.Core.Path.{◌≡◌, refl, ap, sym, ◌∙◌}
use mathlib.Core.Bool.{Bool, true, false, ◌||◌, false≢true}
use mathlib.Core.Logic.{◌⊎◌, inl, inr, ◌↔◌}
use Prim.Native.Nat.{ℕ, ◌<◌, ◌≤◌}
use native.Mathlib.Omega.{arith}
use lib.Dec.{ltb}
use lib.ListN.{length}
use borrow.Author.Tests.{ltb-true, ltb-false}
use Rattle.page.specs.Bytes.{Bytes}
use Rattle.page.specs.Tables.{width}
use Rattle.page.specs.Cut.{sections, header_lines}
use Rattle.page.specs.Head.{header_values, latin_of}
use Rattle.page.specs.Records.{table_index}
use Rattle.page.specs.Answers.{refusal, earlier, refuse_if}
use Rattle.page.specs.File.{limit, found, any, header_refusal, section_refusal, file_refusal}
use Rattle.page.specs.Reading.{outside, section_at, row_at, header_of, find_refusal, section_of, list_refusal, list_of, verdict_of, value_refusal, value_at, value_of}
use Rattle.page.specs.Handing.{text_out, table_refusal, table_of}
use Rattle.page.specs.Writing.{put_refusal, put_of, write_form, write_of, strip_form, strip_of}
use Rattle.page.specs.Trailer.{trailer_of}
use Rattle.page.specs.Refusals.{section_numbers, header_numbers, later_numbers, gives, OneOf, SoundOr}
use Rattle.page.specs.declared.Refusal.{Refusal}
use Rattle.laws.proofs.Decides.{below}
use Rattle.grammar.proofs.Refuses.{refused_ranged}
use Rattle.calls.proofs.PromisesListing.{file_ranged, header_told}
use Rattle.calls.proofs.CallAnswers.{some_number, answered_exactly}
use Rattle.calls.proofs.Turns.{earlier_exactly, via}
use Rattle.calls.proofs.CallNumbers.{told_other, verdict_exactly, after_header, none_exactly, if_none, if_number, first_alone, table_first, text_else}
use Rattle.laws.proofs.Numbers.{other_number, apart}

-- 1 and 2 are the header's for each of these calls

module _ (s : Bytes) (x : Refusal) (early : OneOf header_numbers x.number) where
  -- what never gives 1 or 2
  abbrev Big : Refusal → Type 0
  Big b = ¬ (b ≡ x)

  other : (w : ℕ) → gives header_numbers w ≡ false → ¬ (x.number ≡ w)
  other w = other_number header_numbers x.number w early

  numbered : ¬ (x.number ≡ 0)
  unfolding any
  numbered = other 0 refl

  big_if : (b : Bool) (u : ℕ) → gives header_numbers u ≡ false → Big (refuse_if b u)
  unfolding refuse_if
  big_if true u l e = other u l (sym (ap (λ (q : Refusal). q.number) e))
  big_if false u l e = numbered (sym (ap (λ (q : Refusal). q.number) e))

  big_earlier : (a b : Refusal) → Big a → Big b → Big (earlier a b)
  big_earlier a b f g e = by ((earlier_exactly a b x numbered).0 e)
    where
      by : (a ≡ x) ⊎ ((a.number ≡ 0) × (b ≡ x)) → ⊥
      by (inl e) = f e
      by (inr e) = g e.1

  big_verdict : (i : ℕ) → Big (verdict_of i (row_at s i))
  unfolding any
  big_verdict i e =
      let h = (verdict_exactly s i x.number x.section x.line numbered).0 e in
      let w = refused_ranged (latin_of s) (section_at s i).lines h.1.0 x.number x.line h.1.1 in
      false≢true (sym (apart section_numbers header_numbers x.number refl w) ∙ early)

  -- a first part that the header begins, and a further one that never gives 1 or 2
  further_big : (a b : Refusal) → a ≡ x ↔ header_refusal s ≡ x → Big b → earlier a b ≡ x ↔ header_refusal s ≡ x
  further_big a b f g = via (λ e. by ((earlier_exactly a b x numbered).0 e), λ e. (earlier_exactly a b x numbered).1 (inl e)) f
    where
      by : (a ≡ x) ⊎ ((a.number ≡ 0) × (b ≡ x)) → a ≡ x
      by (inl e) = e
      by (inr e) = absurd (g e.1)

  itself : header_refusal s ≡ x ↔ header_refusal s ≡ x
  itself = (λ e. e, λ e. e)

  find_header : (i : ℕ) → find_refusal s i ≡ x ↔ header_refusal s ≡ x
  unfolding find_refusal any
  find_header i = further_big (header_refusal s) _ itself (big_if (outside i (length (sections s))) 24 refl)

  pub header_of_header : header_of s ≡ Err x ↔ header_refusal s ≡ x
  unfolding header_of
  header_of_header = answered_exactly (header_refusal s) x numbered (header_values (header_lines s))

  pub section_header : (i : ℕ) → section_of s i ≡ Err x ↔ header_refusal s ≡ x
  unfolding section_of
  section_header i = via (answered_exactly (find_refusal s i) x numbered (row_at s i)) (find_header i)

  pub value_header : (i r f : ℕ) → value_of s i r f ≡ Err x ↔ header_refusal s ≡ x
  unfolding value_of value_refusal any
  value_header i r f =
      via (answered_exactly (value_refusal s i r f) x numbered (value_at (section_at s i) r f))
      (further_big (find_refusal s i) _ (find_header i)
      (big_earlier (verdict_of i (row_at s i)) _ (big_verdict i) (big_if (outside r (row_at s i).records || outside f (width (table_index (section_at s i).lines))) 24 refl)))

  pub text_header : (i r f room : ℕ) → text_out s i r f room ≡ Err x ↔ header_refusal s ≡ x
  unfolding any
  text_header i r f room =
      via (text_else s i r f room x numbered (λ e. other 11 refl (ap (λ (q : Refusal). q.number) e)) (λ e. other 21 refl (ap (λ (q : Refusal). q.number) e)))
      (value_header i r f)

  pub table_header : (i room : ℕ) → table_of s i room ≡ Err x ↔ header_refusal s ≡ x
  unfolding table_refusal any
  table_header i room =
      via (table_first s i room x numbered (λ e. other 21 refl (ap (λ (q : Refusal). q.number) e)))
      (further_big (find_refusal s i) _ (find_header i) (big_verdict i))

  -- the file's too
  pub file_header : file_refusal s ≡ x ↔ header_refusal s ≡ x
  unfolding file_refusal any
  file_header =
      (λ e. by ((earlier_exactly (header_refusal s) _ x numbered).0 e) e, λ e. (earlier_exactly (header_refusal s) _ x numbered).1 (inl e))
    where
      by : (header_refusal s ≡ x) ⊎ (((header_refusal s).number ≡ 0) × (earlier (found (trailer_of s)) (section_refusal s) ≡ x)) → file_refusal s ≡ x → header_refusal s ≡ x
      by (inl h) e = h
      by (inr h) e = absurd (told_other later_numbers (file_ranged s h.0) numbered (apart header_numbers later_numbers x.number refl early) e)

  pub list_header : (room : ℕ) → list_of s room ≡ Err x ↔ header_refusal s ≡ x
  unfolding list_of list_refusal any
  list_header room =
      via (answered_exactly (earlier (list_refusal s room) (file_refusal s)) x numbered tt)
      (λ e. by ((earlier_exactly (list_refusal s room) (file_refusal s) x numbered).0 e), λ e. (earlier_exactly (list_refusal s room) (file_refusal s) x numbered).1 (inl (begun.1 e)))
    where
      begun : earlier (header_refusal s) (refuse_if (ltb room (length (sections s))) 21) ≡ x ↔ header_refusal s ≡ x
      begun = further_big (header_refusal s) _ itself (big_if (ltb room (length (sections s))) 21 refl)

      by : (list_refusal s room ≡ x) ⊎ (((list_refusal s room).number ≡ 0) × (file_refusal s ≡ x)) → header_refusal s ≡ x
      by (inl e) = begun.0 e
      by (inr e) = file_header.0 e.1

-- `list`: what the file gives after 1 and 2 is the file's, if the rows suffice
pub list_verdict : (s : Bytes) (room : ℕ) (x : Refusal) → OneOf later_numbers x.number → list_of s room ≡ Err x ↔ ((length (sections s) ≤ room) × (file_refusal s ≡ x))
unfolding list_of list_refusal any
list_verdict s room x g =
    via (answered_exactly (earlier (list_refusal s room) (file_refusal s)) x z tt)
    (λ e. into ((earlier_exactly (list_refusal s room) (file_refusal s) x z).0 e), λ h. (earlier_exactly (list_refusal s room) (file_refusal s) x z).1 (inr ((none_exactly (header_refusal s) _).1 (opens h.1, enough h.0), h.1)))
  where
    z : ¬ (x.number ≡ 0)
    z = other_number later_numbers x.number 0 g refl

    few : (refuse_if (ltb room (length (sections s))) 21).number ≡ 0 → length (sections s) ≤ room
    few e = under (length (sections s)) room ((if_none 21 (some_number 21 (omega arith)) (below room (length (sections s)))).0 e)
      where
        under : (a b : ℕ) → ¬ (b < a) → a ≤ b
        under a b n = by (ltb b a) refl
          where
            by : (q : Bool) → ltb b a ≡ q → a ≤ b
            by true h = absurd (n (ltb-true b a h))
            by false h = ltb-false b a h

    enough : length (sections s) ≤ room → (refuse_if (ltb room (length (sections s))) 21).number ≡ 0
    enough h = (if_none 21 (some_number 21 (omega arith)) (below room (length (sections s)))).1 (λ (l : room < length (sections s)). omega arith)

    opens : file_refusal s ≡ x → (header_refusal s).number ≡ 0
    opens e = by (header_told s)
      where
        by : SoundOr header_numbers (header_refusal s).number → (header_refusal s).number ≡ 0
        by (inl h) = h
        by (inr h) =
            let k : header_refusal s ≡ x = sym ((file_header s (header_refusal s) h).1 refl) ∙ e in
            absurd (told_other header_numbers (inr h) z (apart later_numbers header_numbers x.number refl g) k)

    into : (list_refusal s room ≡ x) ⊎ (((list_refusal s room).number ≡ 0) × (file_refusal s ≡ x)) → (length (sections s) ≤ room) × (file_refusal s ≡ x)
    into (inl e) = absurd (first ((after_header s (refuse_if (ltb room (length (sections s))) 21) x z (apart later_numbers header_numbers x.number refl g)).0 e).1)
      where
        first : refuse_if (ltb room (length (sections s))) 21 ≡ x → ⊥
        first e = if_number (ltb room (length (sections s))) 21 x.number z (λ (k : 21 ≡ x.number). other_number later_numbers x.number 21 g refl (sym k)) x e refl
    into (inr h) = (few ((none_exactly (header_refusal s) _).0 h.0).1, h.1)

-- `write` and `strip`: "Only a file with verdict 0 is written; else its verdict is given."

pub write_verdict : (s : Bytes) (room : ℕ) (x : Refusal) → ¬ (x.number ≡ 0) → ¬ (x ≡ refusal 21 0 0) → write_of s room ≡ Err x ↔ file_refusal s ≡ x
unfolding write_of put_of put_refusal
write_verdict s room x z full =
    via (answered_exactly (put_refusal (file_refusal s) (write_form s) room) x z (length (write_form s)))
    (first_alone (file_refusal s) (ltb room (length (write_form s)) || ltb limit (length (write_form s))) 21 x z full)

pub strip_verdict : (s : Bytes) (room : ℕ) (x : Refusal) → ¬ (x.number ≡ 0) → ¬ (x ≡ refusal 21 0 0) → strip_of s room ≡ Err x ↔ file_refusal s ≡ x
unfolding strip_of put_of put_refusal
strip_verdict s room x z full =
    via (answered_exactly (put_refusal (file_refusal s) (strip_form s) room) x z (length (strip_form s)))
    (first_alone (file_refusal s) (ltb room (length (strip_form s)) || ltb limit (length (strip_form s))) 21 x z full)
