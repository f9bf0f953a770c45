-- What a call has put into lent output is a file that is accepted and says what it should. Assumes nothing.
use Rattle.std.specs.Prelude.{Ok}
use mathlib.Core.Path.{◌≡◌}
use Prim.Native.Nat.{ℕ}
use lib.ListN.{length, take, drop}
use lib.Seq.{take-append_seam}
use Rattle.page.specs.Bytes.{Bytes, unpadded}
use Rattle.page.specs.Answers.{sound, answered}
use Rattle.page.specs.File.{file_refusal, check_of}
use Rattle.page.specs.Model.{Model, model_of, fill_model, strip_model}
use Rattle.page.specs.Writing.{put_after, write_form, write_of, write_after, strip_form, strip_of, strip_after, fill_refusal, fill_form, fill_of, fill_after}
use Rattle.page.specs.declared.Refusal.{Refusal}
use Rattle.calls.proofs.Promises.{Done, done_put}
use Rattle.round.proofs.Round.{round_accepted, round_model}
use Rattle.demands.proofs.StripBack.{strip_accepted, strip_model_back}
use Rattle.demands.proofs.FillBack.{fill_accepted, fill_model_back}

-- the first n bytes of the output are an accepted file that says m
pub record Put (after : Bytes) (n : ℕ) (m : Model) : Type 0 where
  pub accepted : check_of (take n after) ≡ (Ok tt)
  pub says : model_of (take n after) ≡ m

pub first_bytes : (r : Refusal) (form out : Bytes) (n : ℕ) → Done r form out n → take n (put_after r form out) ≡ form
first_bytes r form out n d = rw (d.holds, d.given) (take-append_seam form (drop (length form) out))

check_sound : (s : Bytes) → file_refusal s ≡ sound → check_of s ≡ (Ok tt)
unfolding check_of answered
check_sound s e = rw e

put_form : (r : Refusal) (form out : Bytes) (n : ℕ) (m : Model) → Done r form out n → file_refusal form ≡ sound → model_of form ≡ m → Put (put_after r form out) n m
put_form r form out n m d a e =
    let f = first_bytes r form out n d in
    record { accepted = rw f (check_sound form a); says = rw f e }

pub write_output : (s out : Bytes) (n : ℕ) → write_of s (length out) ≡ Ok n → Put (write_after s out) n (model_of s)
unfolding write_of write_after
write_output s out n e =
    let d = done_put (file_refusal s) (write_form s) out n e in
    put_form (file_refusal s) (write_form s) out n (model_of s) d (round_accepted s d.accepted d.small) (round_model s d.accepted d.small)

pub strip_output : (s out : Bytes) (n : ℕ) → strip_of s (length out) ≡ Ok n → Put (strip_after s out) n (strip_model (model_of s))
unfolding strip_of strip_after
strip_output s out n e =
    let d = done_put (file_refusal s) (strip_form s) out n e in
    put_form (file_refusal s) (strip_form s) out n (strip_model (model_of s)) d (strip_accepted s d.accepted d.small) (strip_model_back s d.accepted d.small)

pub fill_output : (s : Bytes) (i j f : ℕ) (t out : Bytes) (n : ℕ) → fill_of s i j f t (length out) ≡ Ok n →
    Put (fill_after s i j f t out) n (fill_model i j f (unpadded t) (model_of s))
unfolding fill_of fill_after
fill_output s i j f t out n e =
    let u : Bytes = unpadded t in
    let d = done_put (fill_refusal s i j f u) (fill_form s i j f u) out n e in
    put_form (fill_refusal s i j f u) (fill_form s i j f u) out n (fill_model i j f u (model_of s)) d (fill_accepted s i j f t d.accepted d.small) (fill_model_back s i j f t d.accepted d.small)
