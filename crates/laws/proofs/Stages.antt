-- The file's answer, stage by stage: what it is where the stages before it are clear.
use mathlib.Core.Path.{◌≡◌, ◌∙◌}
use mathlib.Core.List.{[]}
use Prim.Native.Nat.{ℕ, ◌≤◌, ◌<◌}
use lib.ListN.{length}
use borrow.Author.Tests.{lt-ltb, le-ltb, ne_eqb}
use Rattle.page.specs.Bytes.{Bytes}
use Rattle.page.specs.Cut.{header_lines}
use Rattle.page.specs.Header.{head_of}
use Rattle.page.specs.Trailer.{trailer_of}
use Rattle.page.specs.Answers.{refusal, sound, earlier, refuse_if}
use Rattle.page.specs.File.{limit, too_long, header_refusal, rows_of, first_unsound, first_again, by_primary, by_second, repeats, lost, first_record, filed_of, record_refusal, section_refusal, file_refusal}
use Rattle.page.specs.declared.Finding.{Finding}
use Rattle.page.specs.declared.Refusal.{Refusal}

abbrev pub finding : ℕ → ℕ → Finding
finding v n = record { verdict = v; line = n }

module _ (s : Bytes) where
  pub long_gives : limit < length s → file_refusal s ≡ refusal 1 0 0
  unfolding file_refusal header_refusal too_long earlier refuse_if
  long_gives h = rw (lt-ltb limit (length s) h)

  module _ (short : length s ≤ limit) where
    pub header_gives : (n : ℕ) → head_of (header_lines s) ≡ finding 2 n → file_refusal s ≡ refusal 2 0 n
    unfolding file_refusal header_refusal too_long earlier refuse_if
    header_gives n e = rw (le-ltb limit (length s) short, e)

    module _ (head : head_of (header_lines s) ≡ finding 0 0) where
      pub trailer_gives : (n : ℕ) → trailer_of s ≡ finding 3 n → file_refusal s ≡ refusal 3 0 n
      unfolding file_refusal header_refusal too_long earlier refuse_if
      trailer_gives n e = rw (le-ltb limit (length s) short, head, e)

      module _ (trail : trailer_of s ≡ finding 0 0) where
        rest_gives : file_refusal s ≡ section_refusal s
        unfolding file_refusal header_refusal too_long earlier refuse_if
        rest_gives = rw (le-ltb limit (length s) short, head, trail)

        pub unsound_gives : (v i n : ℕ) → ¬ (v ≡ 0) → first_unsound 1 (rows_of s) ≡ refusal v i n → file_refusal s ≡ refusal v i n
        unfolding section_refusal earlier
        unsound_gives v i n z e = rest_gives ∙ rw (e, ne_eqb v 0 z)

        module _ (sounds : first_unsound 1 (rows_of s) ≡ sound) where
          pub again_gives : (i n : ℕ) → first_again [] 1 (rows_of s) ≡ refusal 17 i n → file_refusal s ≡ refusal 17 i n
          unfolding section_refusal earlier
          again_gives i n e = rest_gives ∙ rw (sounds, e)

          module _ (once : first_again [] 1 (rows_of s) ≡ sound) where
            records_give : file_refusal s ≡ record_refusal (filed_of s)
            unfolding section_refusal earlier
            records_give = rest_gives ∙ rw (sounds, once)

            pub primary_gives : (i n : ℕ) → first_record 18 (repeats by_primary) [] (filed_of s) ≡ refusal 18 i n → file_refusal s ≡ refusal 18 i n
            unfolding record_refusal earlier
            primary_gives i n e = records_give ∙ rw e

            module _ (primary : first_record 18 (repeats by_primary) [] (filed_of s) ≡ sound) where
              pub second_gives : (i n : ℕ) → first_record 19 (repeats by_second) [] (filed_of s) ≡ refusal 19 i n → file_refusal s ≡ refusal 19 i n
              unfolding record_refusal earlier
              second_gives i n e = records_give ∙ rw (primary, e)

              pub last_gives : first_record 19 (repeats by_second) [] (filed_of s) ≡ sound → (r : Refusal) → first_record 20 (λ before. lost (filed_of s)) [] (filed_of s) ≡ r → file_refusal s ≡ r
              unfolding record_refusal earlier
              last_gives second r e = records_give ∙ rw (primary, second, e)
