-- An accepted file hands out its header, and every value that it says; so does what a call has put into lent output. Assumes nothing.
use Rattle.std.specs.Prelude.{Ok}
use mathlib.Core.Path.{◌≡◌}
use Prim.Native.Nat.{ℕ, ◌-◌}
use native.Mathlib.Omega.{arith}
use lib.ListN.{length, take}
use Rattle.page.specs.Bytes.{Bytes}
use Rattle.page.specs.Cut.{sections, header_lines}
use Rattle.page.specs.Head.{header_values}
use Rattle.page.specs.Trailer.{trailer_of}
use Rattle.page.specs.Model.{Model, content_of, model_of, datum_at}
use Rattle.page.specs.Answers.{earlier, answered}
use Rattle.page.specs.File.{found, row_given, row_of, header_refusal, section_refusal, file_refusal, check_of}
use Rattle.page.specs.Reading.{no_section, section_at, row_at, header_of, value_at, value_of}
use Rattle.calls.specs.Turns.{Within}
use Rattle.demands.specs.Accepted.{SaysValue, HandsHeader, HandsValue}
use Rattle.laws.proofs.Earlier.{earlier_none}
use Rattle.verdicts.proofs.Files.{accepts_exactly, check_sound}
use Rattle.round.proofs.Round.{accepted_sections}
use Rattle.calls.proofs.CallNumbers.{Given, value_given}
use Rattle.demands.proofs.Contents.{tables_count, content_at, records_count}
use Rattle.calls.proofs.Handed.{value_handed}
use Rattle.calls.proofs.HandedHeader.{header_handed}
use Rattle.demands.proofs.FillBack.{every_at}
use Rattle.demands.proofs.RoundOutput.{Put}

module _ (s : Bytes) (e : check_of s ≡ (Ok tt)) where
  none_refused : (file_refusal s).number ≡ 0
  none_refused = (accepts_exactly s).1 ((check_sound s).0 e)

  opens : (header_refusal s).number ≡ 0
  unfolding file_refusal
  opens = (earlier_none (header_refusal s) (earlier (found (trailer_of s)) (section_refusal s)) none_refused).0

  pub accepted_header : HandsHeader s (model_of s).head
  unfolding header_of answered
  accepted_header =
      let h : header_of s ≡ Ok (header_values (header_lines s)) = rw opens in
      record { header = header_values (header_lines s); handed = h; stands = header_handed s (header_values (header_lines s)) h }

  module _ (i r f : ℕ) (g : SaysValue (model_of s) i r f) where
    section_there : Within i (length (sections s))
    section_there = rw (tables_count s) at g.table_there

    row_sound : (row_at s i).verdict ≡ 0
    unfolding row_at row_of row_given section_at
    row_sound = (every_at (accepted_sections s none_refused) (i - 1) no_section (omega (arith, section_there))).verdict

    given : Given s i r f
    unfolding content_of
    given =
        record {
          opens = opens;
          section = section_there;
          sound = row_sound;
          record_there = rw (records_count s i section_there.0 section_there.1) at g.record_there;
          field_there = rw (content_at s i section_there.0 section_there.1) at g.column_there;
        }

    pub accepted_value : HandsValue s i r f (datum_at i r f (model_of s))
    unfolding value_of answered
    accepted_value =
        let h : value_of s i r f ≡ Ok (value_at (section_at s i) r f) = rw ((value_given s i r f).1 given) in
        record { value = value_at (section_at s i) r f; handed = h; stands = value_handed s i r f (value_at (section_at s i) r f) h }

-- read again, the output hands out what it should say
module _ (after : Bytes) (n : ℕ) (m : Model) (p : Put after n m) where
  pub put_header : HandsHeader (take n after) m.head
  put_header = rw p.says at (accepted_header (take n after) p.accepted)

  pub put_value : (i r f : ℕ) → SaysValue m i r f → HandsValue (take n after) i r f (datum_at i r f m)
  put_value i r f g = rw p.says at (accepted_value (take n after) p.accepted i r f (rw p.says g))
