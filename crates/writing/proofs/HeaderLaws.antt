-- The lines of a sound header that hold texts: they stand, and hold them. Assumes nothing.
use mathlib.Core.Path.{◌≡◌, refl}
use mathlib.Core.Bool.{true, false}
use mathlib.Core.List.{List, []}
use Prim.Native.Nat.{ℕ}
use native.Mathlib.Omega.{arith}
use lib.Dec.{eqb}
use lib.ListN.{length, get_or}
use Rattle.page.specs.Bytes.{Bytes}
use Rattle.page.specs.Lines.{Mod, Src, Chs, Ver, Ifv, Dve, Fft, Com, Missing}
use Rattle.page.specs.Fields.{fields, text_of}
use Rattle.page.specs.Header.{is_text, text_ok, holds}
use Rattle.page.specs.Places.{line_of}
use Rattle.page.specs.Head.{stands_in}
use Rattle.page.specs.Rules.{times, SoundHeader}
use Rattle.page.proofs.TestLaws.{and_right}
use Rattle.writing.proofs.HeadLaws.{Texts}
use Rattle.round.proofs.RoundHeaderReads.{held_said, once_said, the_once, source_parts}

module _ (ls : List Bytes) (s : SoundHeader ls) where
  module _ (k : ℕ) (nc : ¬ (k ≡ Com)) (nm : ¬ (k ≡ Missing)) (no : eqb Mod k ≡ false) where
    text_held : eqb k Src ≡ false → eqb k Chs ≡ false → stands_in k ls ≡ true → is_text (text_of (get_or (fields (line_of k 0 ls).rest) 0 [])) ≡ true
    unfolding holds text_ok
    text_held a b h =
        let x : text_ok (fields (line_of k 0 ls).rest) ≡ true = rw (a, b) at (held_said ls s k nc nm no h) in
        and_right (eqb (length (fields (line_of k 0 ls).rest)) 1) (is_text (text_of (get_or (fields (line_of k 0 ls).rest) 0 []))) x

  one_text : (k : ℕ) → ¬ (k ≡ Com) → ¬ (k ≡ Missing) → eqb Mod k ≡ false → eqb k Src ≡ false → eqb k Chs ≡ false → times k s.others ≡ 1
      → (stands_in k ls ≡ true) × (is_text (text_of (get_or (fields (line_of k 0 ls).rest) 0 [])) ≡ true)
  one_text k nc nm other a b h = let z = once_said ls s k nc nm other h in (z, text_held k nc nm other a b z)

  pub header_texts : Texts ls
  header_texts =
      record {
        source =
            (once_said ls s Src (λ (e : Src ≡ Com). omega arith) (λ (e : Src ≡ Missing). omega arith) refl (the_once ls s).0, (source_parts ls s).0);
        ver = one_text Ver (λ (e : Ver ≡ Com). omega arith) (λ (e : Ver ≡ Missing). omega arith) refl refl refl (the_once ls s).2;
        ifv = one_text Ifv (λ (e : Ifv ≡ Com). omega arith) (λ (e : Ifv ≡ Missing). omega arith) refl refl refl (the_once ls s).3;
        dve = text_held Dve (λ (e : Dve ≡ Com). omega arith) (λ (e : Dve ≡ Missing). omega arith) refl refl refl;
        fft = text_held Fft (λ (e : Fft ≡ Com). omega arith) (λ (e : Fft ≡ Missing). omega arith) refl refl refl;
      }
