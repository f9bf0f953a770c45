-- The limits in bytes: what is said of an input of just so many, and of one more. A length is all that is asked of it.
use Rattle.std.specs.Prelude.{◌≡◌, length}
use Rattle.page.specs.Bytes.{Bytes, bytes}
use Rattle.page.specs.Cut.{header_lines}
use Rattle.page.specs.Header.{head_of}
use Rattle.page.specs.Answers.{refusal, sound, earlier, refuse_if}
use Rattle.page.specs.File.{found, too_long, header_refusal, file_refusal}
use Rattle.page.specs.Writing.{put_refusal}
use Rattle.page.specs.Listing.{print_file, listing}

-- file over 16,777,216 bytes
file_longest : (s : Bytes) → length s ≡ 16777216 → header_refusal s ≡ found (head_of (header_lines s))
unfolding header_refusal earlier refuse_if too_long
file_longest s h = rw h

file_over : (s : Bytes) → length s ≡ 16777217 → file_refusal s ≡ refusal 1 0 0
unfolding file_refusal header_refusal earlier refuse_if too_long
file_over s h = rw h

-- 21 exactly if the form is longer than the lent output or than 16,777,216 bytes
form_longest : (form : Bytes) → length form ≡ 16777216 → put_refusal sound form 16777216 ≡ sound
unfolding put_refusal earlier refuse_if
form_longest form h = rw h

form_over : (form : Bytes) → length form ≡ 16777217 → put_refusal sound form 16777217 ≡ refusal 21 0 0
unfolding put_refusal earlier refuse_if
form_over form h = rw h

-- reads standard input, up to 64 KiB; longer input prints the one line `too long`
input_longest : (s : Bytes) → length s ≡ 65536 → listing s ≡ print_file (head_of (header_lines s)) s
unfolding listing
input_longest s h = rw h

input_over : (s : Bytes) → length s ≡ 65537 → listing s ≡ bytes "too long\n"
unfolding listing
input_over s h = rw h
