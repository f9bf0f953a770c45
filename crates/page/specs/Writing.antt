-- Writing, filling, stripping into lent output.
use Rattle.std.specs.Prelude.{Bool, false, not, ◌||◌, ◌++◌, ℕ, ◌-◌, eqb, ltb, length, drop, Result}
use Rattle.page.specs.Bytes.{Bytes, pick, all, unpadded}
use Rattle.page.specs.Lines.{allowed}
use Rattle.page.specs.Tables.{column_at, width}
use Rattle.page.specs.Cut.{sections}
use Rattle.page.specs.Head.{latin_of}
use Rattle.page.specs.Records.{Datum, number, missing, words, table_index}
use Rattle.page.specs.Answers.{earlier, refuse_if, answered}
use Rattle.page.specs.File.{limit, file_refusal}
use Rattle.page.specs.Reading.{outside, section_at, row_at}
use Rattle.page.specs.Model.{model_of, Changes, nothing, strip, fill, changed, kept, datum_at}
use Rattle.page.specs.Form.{form_of}
use Rattle.page.specs.declared.LineEnd.{LineEnd}
use Rattle.page.specs.declared.LineEnd.TheVariants as E
use Rattle.page.specs.declared.Stays.{Stays}
use Rattle.page.specs.declared.Stays.TheVariants as St
use Rattle.page.specs.declared.Refusal.{Refusal}

-- "21 exactly if the form is longer than the lent output or than 16,777,216 bytes"
unfoldable pub put_refusal : Refusal → Bytes → ℕ → Refusal
put_refusal r form room = earlier r (refuse_if (ltb room (length form) || ltb limit (length form)) 21)

-- "On success the form's length is given, and the bytes after the form keep their values."
unfoldable pub put_of : Refusal → Bytes → ℕ → Result ℕ Refusal
put_of r form room = answered (put_refusal r form room) (length form)

unfoldable pub put_after : Refusal → Bytes → Bytes → Bytes
put_after r form out = pick (eqb (put_refusal r form (length out)).number 0) (form ++ drop (length form) out) out

-- How a file is written: how its lines end, what is changed, and which records stay.
pub record Plan : Type 0 where
  pub ends : LineEnd
  pub changes : Changes
  pub stays : Stays

-- "Each line ends in LF."
abbrev pub plan : Changes → Plan
plan c = record { ends = E.Lf; changes = c; stays = St.All }

unfoldable pub form_by : Plan → Bytes → Bytes
form_by p s = form_of p.ends (changed p.changes (kept p.stays (model_of s)))

-- "Only a file with verdict 0 is written; else its verdict is given."
unfoldable pub write_form : Bytes → Bytes
write_form s = form_by (plan nothing) s

unfoldable pub write_of : Bytes → ℕ → Result ℕ Refusal
write_of s room = put_of (file_refusal s) (write_form s) room

unfoldable pub write_after : Bytes → Bytes → Bytes
write_after s out = put_after (file_refusal s) (write_form s) out

unfoldable pub strip_form : Bytes → Bytes
strip_form s = form_by (plan strip) s

unfoldable pub strip_of : Bytes → ℕ → Result ℕ Refusal
strip_of s room = put_of (file_refusal s) (strip_form s) room

unfoldable pub strip_after : Bytes → Bytes → Bytes
strip_after s out = put_after (file_refusal s) (strip_form s) out

-- "Order: verdict, 24, 23, 22, text empty 11, text byte not allowed in a `rec` 4, over 40 bytes 13, 21."
unfoldable pub empty_datum : Datum → Bool
empty_datum (number n) = false
empty_datum missing = false
empty_datum (words o t) = eqb (length t) 0

unfoldable pub fill_place : Bytes → ℕ → ℕ → ℕ → Bool
fill_place s i r f =
    outside i (length (sections s)) || outside r (row_at s i).records || outside f (width (table_index (section_at s i).lines))

unfoldable pub fill_refusal : Bytes → ℕ → ℕ → ℕ → Bytes → Refusal
fill_refusal s i r f t =
    earlier (file_refusal s)
    (earlier (refuse_if (fill_place s i r f) 24)
    (earlier (refuse_if (not (column_at (table_index (section_at s i).lines) (f - 1)).fillable) 23)
    (earlier (refuse_if (not (empty_datum (datum_at i r f (model_of s)))) 22)
    (earlier (refuse_if (eqb (length t) 0) 11)
    (earlier (refuse_if (not (all (allowed (latin_of s)) t)) 4) (refuse_if (ltb 40 (length t)) 13))))))

unfoldable pub fill_form : Bytes → ℕ → ℕ → ℕ → Bytes → Bytes
fill_form s i r f t = form_by (plan (fill i r f t)) s

-- "a fill's text is trimmed likewise": what is left of it is judged and put in
unfoldable pub fill_of : Bytes → ℕ → ℕ → ℕ → Bytes → ℕ → Result ℕ Refusal
fill_of s i r f t room = put_of (fill_refusal s i r f (unpadded t)) (fill_form s i r f (unpadded t)) room

unfoldable pub fill_after : Bytes → ℕ → ℕ → ℕ → Bytes → Bytes → Bytes
fill_after s i r f t out = put_after (fill_refusal s i r f (unpadded t)) (fill_form s i r f (unpadded t)) out
