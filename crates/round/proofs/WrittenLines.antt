-- A written line: its content, command, rest and fields, and that it is one line. Assumes nothing.
use mathlib.Core.Path.{◌≡◌, refl, sym}
use mathlib.Core.Bool.{Bool, true, false, ◌&&◌}
use mathlib.Core.List.{List, [], ◌∷◌, ◌++◌, append_assoc}
use Prim.Native.Nat.{ℕ, ◌<◌}
use Prim.Native.String.{String}
use native.Mathlib.Omega.{arith}
use lib.Dec.{eqb, leb}
use lib.ListN.{length, length-append}
use lib.Seq.{take-append_seam, drop-append-add}
use borrow.Author.Tests.{ne_eqb, lt-ltb, le-leb, leb-true}
use Rattle.page.specs.Bytes.{Bytes, bytes, same, all, until, keep, no_space, trim}
use Rattle.page.specs.Lines.{content, blank, known, find, semicolon, command, rest, allowed, clean, Mod, Src, Chs, Ver, Ifv, Dve, Fft, Tbl, Atr, Frm, Rec, End, Com, Eof}
use Rattle.page.specs.Fields.{fields}
use Rattle.page.specs.Form.{line_end, separated, line}
use Rattle.page.specs.declared.LineEnd.{LineEnd}
use Rattle.page.proofs.LineLaws.{Ended}
use Rattle.page.proofs.LineEndLaws.{content_without_end, ended_of}
use Rattle.laws.proofs.WrittenScans.{all_mono, all_append}
use Rattle.round.proofs.WrittenFields.{Fields, fields_again}
use Rattle.page.proofs.TestLaws.{and_left}

-- an allowed byte is one from 32 on
pub allowed_printed : (wide : Bool) (b : ℕ) → allowed wide b ≡ true → leb 32 b ≡ true
unfolding allowed
allowed_printed wide b h = by (leb 32 b) refl
  where
    by : (q : Bool) → leb 32 b ≡ q → leb 32 b ≡ true
    by true e = e
    by false e =
        let k : (leb 161 b && leb b 255 && wide) ≡ true = rw e at h in
        le-leb 32 b (omega (arith, leb-true 161 b (and_left (leb 161 b) (leb b 255) (and_left (leb 161 b && leb b 255) wide k))))

pub quote_allowed : allowed false 34 ≡ true
unfolding allowed
quote_allowed = refl

-- what the definitions compute at a command's name
pub record Named (s : String) (k : ℕ) : Type 0 where
  pub cut_at : (w : Bytes) → until semicolon (bytes s ++ 59 ∷ w) ≡ length (bytes s)
  pub found : find Mod known (trim (bytes s)) ≡ k
  pub printed : (wide : Bool) → all (allowed wide) (bytes s) ≡ true
  pub starts : (w : Bytes) → until no_space (bytes s ++ w) ≡ 0
  pub some : 0 < length (bytes s)

abbrev Commands : Type 0
Commands =
    Named "mod" Mod × Named "src" Src × Named "chs" Chs × Named "ver" Ver × Named "ifv" Ifv × Named "dve" Dve × Named "fft" Fft × Named "tbl" Tbl
    × Named "atr" Atr × Named "frm" Frm × Named "rec" Rec × Named "end" End × Named "com" Com × Named "eof" Eof

pub commands : Commands
unfolding bytes until find known trim keep same all allowed
commands = (
  record { cut_at = λ w. refl; found = refl; printed = λ x. refl; starts = λ w. refl; some = omega arith },
  record { cut_at = λ w. refl; found = refl; printed = λ x. refl; starts = λ w. refl; some = omega arith },
  record { cut_at = λ w. refl; found = refl; printed = λ x. refl; starts = λ w. refl; some = omega arith },
  record { cut_at = λ w. refl; found = refl; printed = λ x. refl; starts = λ w. refl; some = omega arith },
  record { cut_at = λ w. refl; found = refl; printed = λ x. refl; starts = λ w. refl; some = omega arith },
  record { cut_at = λ w. refl; found = refl; printed = λ x. refl; starts = λ w. refl; some = omega arith },
  record { cut_at = λ w. refl; found = refl; printed = λ x. refl; starts = λ w. refl; some = omega arith },
  record { cut_at = λ w. refl; found = refl; printed = λ x. refl; starts = λ w. refl; some = omega arith },
  record { cut_at = λ w. refl; found = refl; printed = λ x. refl; starts = λ w. refl; some = omega arith },
  record { cut_at = λ w. refl; found = refl; printed = λ x. refl; starts = λ w. refl; some = omega arith },
  record { cut_at = λ w. refl; found = refl; printed = λ x. refl; starts = λ w. refl; some = omega arith },
  record { cut_at = λ w. refl; found = refl; printed = λ x. refl; starts = λ w. refl; some = omega arith },
  record { cut_at = λ w. refl; found = refl; printed = λ x. refl; starts = λ w. refl; some = omega arith },
  record { cut_at = λ w. refl; found = refl; printed = λ x. refl; starts = λ w. refl; some = omega arith },
)

-- the line as the definitions see it
pub record Seen (latin : Bool) (l : Bytes) (k : ℕ) (f : Bytes) (fs : List Bytes) : Type 0 where
  pub named : command (content l) ≡ k
  pub clean : clean latin (content l) ≡ true
  pub shown : blank (content l) ≡ false
  pub behind : rest (content l) ≡ 32 ∷ f ++ separated fs
  pub split : fields (rest (content l)) ≡ f ∷ fs
  pub ended : Ended l

module _ (ends : LineEnd) {s : String} {k : ℕ} (n : Named s k) (f : Bytes) (fs : List Bytes) where
  abbrev body : Bytes
  body = bytes s ++ separated (f ∷ fs)

  body_cut : until semicolon body ≡ length (bytes s)
  unfolding separated bytes
  body_cut = n.cut_at (32 ∷ f ++ separated fs)

  body_length : length (bytes s) < length body
  unfolding separated bytes
  body_length = omega (arith, length-append (bytes s) (separated (f ∷ fs)))

  body_command : command body ≡ k
  unfolding command
  body_command = rw (body_cut, lt-ltb (length (bytes s)) (length body) body_length, take-append_seam (bytes s) (separated (f ∷ fs))) n.found

  body_rest : rest body ≡ 32 ∷ f ++ separated fs
  unfolding rest separated bytes
  body_rest = rw body_cut (drop-append-add (bytes s) (separated (f ∷ fs)) 1)

  line_body : line ends s (f ∷ fs) ≡ body ++ line_end ends
  unfolding line
  line_body = sym (append_assoc (bytes s) (separated (f ∷ fs)) (line_end ends))

  pub seen : (latin : Bool) → Fields (f ∷ fs) → all (allowed (latin && eqb k Rec)) (separated (f ∷ fs)) ≡ true → Seen latin (line ends s (f ∷ fs)) k f fs
  unfolding clean blank
  seen latin d a =
      let ok : all (allowed (latin && eqb k Rec)) body ≡ true =
      all_append (allowed (latin && eqb k Rec)) (bytes s) (separated (f ∷ fs)) (n.printed (latin && eqb k Rec)) a in
      let pr : all (leb 32) body ≡ true = all_mono (allowed (latin && eqb k Rec)) (leb 32) (allowed_printed (latin && eqb k Rec)) body ok in
      let e : content (line ends s (f ∷ fs)) ≡ body = rw line_body (content_without_end ends body pr) in
      record {
        named = rw e body_command;
        clean = rw (e, body_command) ok;
        shown = rw (e, n.starts (separated (f ∷ fs))) (ne_eqb 0 (length body) (λ (z : 0 ≡ length body). omega (arith, body_length)));
        behind = rw e body_rest;
        split = rw (e, body_rest) (fields_again d);
        ended = rw line_body (ended_of ends body pr);
      }

-- the bytes of the fields, with what separates them
pub separated_more : (wide : Bool) (f : Bytes) (fs : List Bytes) → all (allowed wide) f ≡ true → all (allowed wide) (separated fs) ≡ true →
    all (allowed wide) (separated (f ∷ fs)) ≡ true
unfolding separated bytes all allowed
separated_more wide f fs h g = all_append (allowed wide) f (separated fs) h g

pub separated_none : (wide : Bool) → all (allowed wide) (separated []) ≡ true
unfolding separated all
separated_none wide = refl
