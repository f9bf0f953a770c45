-- The values of a written header are the ones that were written. Assumes nothing.
use Rattle.std.specs.Prelude.{None, Option, Some}
use mathlib.Core.Path.{◌≡◌, refl, ◌∙◌}
use mathlib.Core.Bool.{Bool, true, false}
use mathlib.Core.List.{List, [], ◌∷◌, ◌++◌}
use Prim.Native.Nat.{ℕ, ◌+◌}
use lib.Dec.{eqb}
use lib.ListN.{length, get_or}
use borrow.Author.Tests.{eq-eqb}
use Rattle.page.specs.Bytes.{Bytes, bytes, pick, same}
use Rattle.page.specs.Lines.{content, command, rest, Mod, Src, Chs, Ver, Ifv, Dve, Fft}
use Rattle.page.specs.Fields.{fields, text_of}
use Rattle.page.specs.Header.{form_named, mod_form}
use Rattle.page.specs.Records.{own_bytes}
use Rattle.page.specs.Places.{stands, line_of}
use Rattle.page.specs.Head.{Head, field_in, text_in, stands_in, form_in, latin_in, text_if, head_values}
use Rattle.page.specs.Form.{quoted, date_text, time_text, charset_name}
use Rattle.page.specs.declared.LineEnd.{LineEnd}
use Rattle.round.specs.Round.{PrintedIf, SoundHead}
use Rattle.round.proofs.WrittenLines.{commands}
use Rattle.round.proofs.WrittenDates.{date_again, time_again}
use Rattle.round.proofs.RoundHeader.{mod_line, src_line, chs_line, text_line, lines_if, head_lines, mod_seen, src_seen, chs_seen, text_seen, charset_back}
use Rattle.page.proofs.TextLaws.{quoted_text}

-- what follows the first `;` in the first line of command k does not depend on where the lines begin
rest_anywhere : (k a b : ℕ) (ls : List Bytes) → (line_of k a ls).rest ≡ (line_of k b ls).rest
unfolding line_of stands
rest_anywhere k a b [] = refl
rest_anywhere k a b (l ∷ ls) = by (rest_anywhere k (a + length l) (b + length l) ls) (eqb (command (content l)) k)
  where
    by : (line_of k (a + length l) ls).rest ≡ (line_of k (b + length l) ls).rest → (q : Bool) → (pick q (stands a l 0) (line_of k (a + length l) ls)).rest ≡ (pick q (stands b l 0) (line_of k (b + length l) ls)).rest
    by ih true = refl
    by ih false = ih

module _ (k : ℕ) (l : Bytes) (ls : List Bytes) where
  -- a line of another command, and the line looked for
  pub pass_line : (a : ℕ) → eqb (command (content l)) k ≡ false → (line_of k a (l ∷ ls)).rest ≡ (line_of k a ls).rest
  unfolding line_of
  pass_line a e = rw e (rest_anywhere k (a + length l) a ls)

  pub pass_stands : eqb (command (content l)) k ≡ false → stands_in k (l ∷ ls) ≡ stands_in k ls
  unfolding stands_in
  pass_stands e = rw e

  pub hit_line : (a : ℕ) → command (content l) ≡ k → (line_of k a (l ∷ ls)).rest ≡ rest (content l)
  unfolding line_of stands
  hit_line a e = rw (e, eq-eqb k k refl)

module _ (ends : LineEnd) (h : Head) (s : SoundHead h) where
  abbrev the_rest : List Bytes
  the_rest = lines_if ends "dve" h.dve ++ lines_if ends "fft" h.fft

  abbrev from_ifv : List Bytes
  from_ifv = text_line ends "ifv" h.ifv ∷ the_rest

  abbrev from_ver : List Bytes
  from_ver = text_line ends "ver" h.ver ∷ from_ifv

  abbrev from_chs : List Bytes
  from_chs = chs_line ends h ∷ from_ver

  abbrev from_src : List Bytes
  from_src = src_line ends h ∷ from_chs

  -- none of the first lines is of command k
  past_mod : (k : ℕ) → eqb Mod k ≡ false → (line_of k 0 (head_lines ends h)).rest ≡ (line_of k 0 from_src).rest
  unfolding head_lines
  past_mod k e = pass_line k (mod_line ends) from_src 0 (rw (mod_seen ends).named e)

  past_src : (k : ℕ) → eqb Mod k ≡ false → eqb Src k ≡ false → (line_of k 0 (head_lines ends h)).rest ≡ (line_of k 0 from_chs).rest
  past_src k d e = past_mod k d ∙ pass_line k (src_line ends h) from_chs 0 (rw (src_seen ends h s).named e)

  past_chs : (k : ℕ) → eqb Mod k ≡ false → eqb Src k ≡ false → eqb Chs k ≡ false → (line_of k 0 (head_lines ends h)).rest ≡ (line_of k 0 from_ver).rest
  past_chs k c d e = past_src k c d ∙ pass_line k (chs_line ends h) from_ver 0 (rw (chs_seen ends h).named e)

  past_ver : (k : ℕ) → eqb Mod k ≡ false → eqb Src k ≡ false → eqb Chs k ≡ false → eqb Ver k ≡ false →
      (line_of k 0 (head_lines ends h)).rest ≡ (line_of k 0 from_ifv).rest
  past_ver k b c d e = past_chs k b c d ∙ pass_line k (text_line ends "ver" h.ver) from_ifv 0 (rw (text_seen ends commands.3 h.ver s.ver).named e)

  past_ifv : (k : ℕ) → eqb Mod k ≡ false → eqb Src k ≡ false → eqb Chs k ≡ false → eqb Ver k ≡ false → eqb Ifv k ≡ false →
      (line_of k 0 (head_lines ends h)).rest ≡ (line_of k 0 the_rest).rest
  past_ifv k a b c d e = past_ver k a b c d ∙ pass_line k (text_line ends "ifv" h.ifv) the_rest 0 (rw (text_seen ends commands.4 h.ifv s.ifv).named e)

  stands_past : (k : ℕ) → eqb Mod k ≡ false → eqb Src k ≡ false → eqb Chs k ≡ false → eqb Ver k ≡ false → eqb Ifv k ≡ false →
      stands_in k (head_lines ends h) ≡ stands_in k the_rest
  unfolding head_lines
  stands_past k a b c d e =
      pass_stands k (mod_line ends) from_src (rw (mod_seen ends).named a) ∙ pass_stands k (src_line ends h) from_chs (rw (src_seen ends h s).named b)
      ∙ pass_stands k (chs_line ends h) from_ver (rw (chs_seen ends h).named c)
      ∙ pass_stands k (text_line ends "ver" h.ver) from_ifv (rw (text_seen ends commands.3 h.ver s.ver).named d)
      ∙ pass_stands k (text_line ends "ifv" h.ifv) the_rest (rw (text_seen ends commands.4 h.ifv s.ifv).named e)

  form_back : form_in (head_lines ends h) ≡ 1
  unfolding form_in head_lines mod_form form_named same bytes
  form_back = rw (hit_line Mod (mod_line ends) from_src 0 (mod_seen ends).named, (mod_seen ends).split)

  source_fields : fields (line_of Src 0 (head_lines ends h)).rest ≡ quoted h.source ∷ quoted (date_text h.date) ∷ quoted (time_text h.time) ∷ []
  source_fields = rw (past_mod Src refl, hit_line Src (src_line ends h) from_chs 0 (src_seen ends h s).named) (src_seen ends h s).split

  charset_fields : fields (line_of Chs 0 (head_lines ends h)).rest ≡ quoted (charset_name h.latin) ∷ []
  charset_fields = rw (past_src Chs refl refl, hit_line Chs (chs_line ends h) from_ver 0 (chs_seen ends h).named) (chs_seen ends h).split

  ver_fields : fields (line_of Ver 0 (head_lines ends h)).rest ≡ quoted h.ver ∷ []
  ver_fields =
      let x = text_seen ends commands.3 h.ver s.ver in
      rw (past_chs Ver refl refl refl, hit_line Ver (text_line ends "ver" h.ver) from_ifv 0 x.named) x.split

  ifv_fields : fields (line_of Ifv 0 (head_lines ends h)).rest ≡ quoted h.ifv ∷ []
  ifv_fields =
      let x = text_seen ends commands.4 h.ifv s.ifv in
      rw (past_ver Ifv refl refl refl refl, hit_line Ifv (text_line ends "ifv" h.ifv) the_rest 0 x.named) x.split

  -- what need not stand, among the lines after the first five
  stated : ℕ → List Bytes → Option Bytes
  stated k ls = pick (stands_in k ls) (Some (own_bytes (text_of (get_or (fields (line_of k 0 ls).rest) 0 [])))) None

  dve_stated : (d f : Option Bytes) → PrintedIf d → PrintedIf f → stated Dve (lines_if ends "dve" d ++ lines_if ends "fft" f) ≡ d
  unfolding stated lines_if stands_in line_of stands
  dve_stated None None p q = refl
  dve_stated (Some d) None p q = let x = text_seen ends commands.5 d p in rw (x.named, x.split, quoted_text d)
  dve_stated None (Some f) p q = let x = text_seen ends commands.6 f q in rw x.named
  dve_stated (Some d) (Some f) p q = let x = text_seen ends commands.5 d p in rw (x.named, x.split, quoted_text d)

  fft_stated : (d f : Option Bytes) → PrintedIf d → PrintedIf f → stated Fft (lines_if ends "dve" d ++ lines_if ends "fft" f) ≡ f
  unfolding stated lines_if stands_in line_of stands
  fft_stated None None p q = refl
  fft_stated (Some d) None p q = let x = text_seen ends commands.5 d p in rw x.named
  fft_stated None (Some f) p q = let x = text_seen ends commands.6 f q in rw (x.named, x.split, quoted_text f)
  fft_stated (Some d) (Some f) p q =
      let x = text_seen ends commands.5 d p in
      let y = text_seen ends commands.6 f q in
      rw (x.named, y.named, y.split, quoted_text f)

  dve_back : text_if Dve (head_lines ends h) ≡ h.dve
  unfolding text_if text_in field_in stated
  dve_back = rw (stands_past Dve refl refl refl refl refl, past_ifv Dve refl refl refl refl refl) (dve_stated h.dve h.fft s.dve s.fft)

  fft_back : text_if Fft (head_lines ends h) ≡ h.fft
  unfolding text_if text_in field_in stated
  fft_back = rw (stands_past Fft refl refl refl refl refl, past_ifv Fft refl refl refl refl refl) (fft_stated h.dve h.fft s.dve s.fft)

  pub latin_back : latin_in (head_lines ends h) ≡ h.latin
  unfolding latin_in field_in
  latin_back = rw charset_fields (charset_back h.latin)

  pub values_back : head_values (head_lines ends h) ≡ h
  unfolding head_values text_in field_in
  values_back =
      rw (
        source_fields,
        ver_fields,
        ifv_fields,
        form_back,
        latin_back,
        dve_back,
        fft_back,
        quoted_text h.source,
        quoted_text h.ver,
        quoted_text h.ifv,
        date_again h.date s.year s.date,
        time_again h.time s.time,
      )
