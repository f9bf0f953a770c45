-- What a call has put into lent output, written once more: no byte of it changes. Assumes nothing.
use Rattle.std.specs.Prelude.{Ok}
use mathlib.Core.Path.{◌≡◌, ap, sym, ◌∙◌}
use Prim.Native.Nat.{ℕ, ◌≤◌}
use native.Mathlib.Omega.{arith}
use lib.ListN.{length, take, drop}
use lib.Seq.{drop-append_seam}
use borrow.Author.Tests.{le-ltb}
use Rattle.page.specs.Bytes.{Bytes, unpadded}
use Rattle.page.specs.Answers.{sound, earlier, refuse_if, answered}
use Rattle.page.specs.File.{limit, file_refusal}
use Rattle.page.specs.Writing.{put_refusal, put_of, put_after, write_form, write_of, write_after, strip_form, strip_of, strip_after, fill_refusal, fill_form, fill_of, fill_after}
use Rattle.page.specs.declared.Refusal.{Refusal}
use Rattle.demands.specs.Outputs.{Unchanged, WritesSame, StripsSame}
use Rattle.calls.proofs.Promises.{Done, done_put}
use Rattle.round.proofs.Round.{round_accepted, round_form}
use Rattle.demands.proofs.RoundOutput.{first_bytes}
use Rattle.demands.proofs.StripBack.{strip_accepted, strip_form_again, strip_written}
use Rattle.demands.proofs.FillBack.{fill_accepted, fill_written}

-- a form that is its own form again, put once more

fits_put : (form out : Bytes) → length form ≤ length out → length form ≤ limit → put_of sound form (length out) ≡ Ok (length form)
unfolding put_of put_refusal answered earlier refuse_if
fits_put form out f k = rw (le-ltb (length out) (length form) f, le-ltb limit (length form) k)

put_unchanged : (r q : Refusal) (form out room : Bytes) (n : ℕ) → Done r form out n → q ≡ sound → (again : Bytes) → again ≡ form → n ≤ length room →
    Unchanged (take n (put_after r form out)) n room (put_of q again (length room)) (put_after q again room)
put_unchanged r q form out room n d a again e h =
    let f = first_bytes r form out n d in
    let g = d.given in
    let p : put_of q again (length room) ≡ Ok n = rw (a, e, g) (fits_put form room (omega arith) d.small) in
    let w = done_put q again room n p in
    record {
      given = p;
      same = first_bytes q again room n w ∙ e ∙ sym f;
      behind = rw (w.holds, w.given) (drop-append_seam again (drop (length again) room));
    }

-- written, stripped or filled, and then written: the same bytes, in every output that has room for them

pub written_again : (s out room : Bytes) (n : ℕ) → write_of s (length out) ≡ Ok n → n ≤ length room → WritesSame (take n (write_after s out)) n room
unfolding write_of write_after
written_again s out room n e h =
    let d = done_put (file_refusal s) (write_form s) out n e in
    let f = first_bytes (file_refusal s) (write_form s) out n d in
    put_unchanged (file_refusal s) (file_refusal (take n (write_after s out))) (write_form s) out room n d
    (ap file_refusal f ∙ round_accepted s d.accepted d.small)
    (write_form (take n (write_after s out))) (ap write_form f ∙ round_form s d.accepted d.small) h

pub stripped_written : (s out room : Bytes) (n : ℕ) → strip_of s (length out) ≡ Ok n → n ≤ length room → WritesSame (take n (strip_after s out)) n room
unfolding strip_of strip_after write_of write_after
stripped_written s out room n e h =
    let d = done_put (file_refusal s) (strip_form s) out n e in
    let f = first_bytes (file_refusal s) (strip_form s) out n d in
    put_unchanged (file_refusal s) (file_refusal (take n (strip_after s out))) (strip_form s) out room n d
    (ap file_refusal f ∙ strip_accepted s d.accepted d.small)
    (write_form (take n (strip_after s out))) (ap write_form f ∙ strip_written s d.accepted d.small) h

pub filled_written : (s : Bytes) (i j f : ℕ) (t out room : Bytes) (n : ℕ) → fill_of s i j f t (length out) ≡ Ok n → n ≤ length room →
    WritesSame (take n (fill_after s i j f t out)) n room
unfolding fill_of fill_after write_of write_after
filled_written s i j f t out room n e h =
    let u : Bytes = unpadded t in
    let d = done_put (fill_refusal s i j f u) (fill_form s i j f u) out n e in
    let g = first_bytes (fill_refusal s i j f u) (fill_form s i j f u) out n d in
    put_unchanged (fill_refusal s i j f u) (file_refusal (take n (fill_after s i j f t out))) (fill_form s i j f u) out room n d
    (ap file_refusal g ∙ fill_accepted s i j f t d.accepted d.small)
    (write_form (take n (fill_after s i j f t out))) (ap write_form g ∙ fill_written s i j f t d.accepted d.small) h

-- and stripped once more
pub stripped_again : (s out room : Bytes) (n : ℕ) → strip_of s (length out) ≡ Ok n → n ≤ length room → StripsSame (take n (strip_after s out)) n room
unfolding strip_of strip_after
stripped_again s out room n e h =
    let d = done_put (file_refusal s) (strip_form s) out n e in
    let f = first_bytes (file_refusal s) (strip_form s) out n d in
    put_unchanged (file_refusal s) (file_refusal (take n (strip_after s out))) (strip_form s) out room n d
    (ap file_refusal f ∙ strip_accepted s d.accepted d.small)
    (strip_form (take n (strip_after s out))) (ap strip_form f ∙ strip_form_again s d.accepted d.small) h
