-- What an accepted header says may be said: texts of allowed bytes, a real date of four digits, a real time. Assumes nothing.
use Rattle.std.specs.Prelude.{None, Option, Some}
use mathlib.Core.Path.{◌≡◌, refl, sym, ◌∙◌}
use mathlib.Core.Bool.{Bool, true, false, ◌&&◌, ◌||◌, false≢true}
use mathlib.Core.List.{List, [], ◌∷◌}
use Prim.Native.Nat.{ℕ, zero, suc, ◌+◌, ◌≤◌}
use native.Mathlib.Omega.{arith}
use lib.Dec.{eqb, leb}
use lib.ListN.{length, get_or, take, drop, length-take}
use borrow.Author.Tests.{eqb-true, ne_eqb, leb-true}
use Rattle.page.specs.Bytes.{Bytes, pick, all, until}
use Rattle.page.specs.Lines.{content, blank, semicolon, command, rest, allowed, clean, Mod, Src, Chs, Ver, Ifv, Dve, Fft, Com, Missing}
use Rattle.page.specs.Fields.{fields, text_of, digit, value}
use Rattle.page.specs.Dates.{real_date, real_time, number_in, digits_in, byte_is, quoted_size, date_of, date_shape, date_ok, time_of, time_shape, time_ok}
use Rattle.page.specs.Header.{is_text, mod_form, src_ok, text_ok, holds}
use Rattle.page.specs.Records.{own_bytes}
use Rattle.page.specs.Places.{line_of}
use Rattle.page.specs.Head.{field_in, text_in, stands_in, form_in, text_if, head_values}
use Rattle.page.specs.Grammar.{fields_of}
use Rattle.page.specs.Rules.{Every, none_left, one_more, spoken, times, HeadLine, SoundHeader}
use Rattle.page.specs.declared.Date.{Date}
use Rattle.round.specs.Round.{Printed, PrintedIf, SoundHead}
use Rattle.round.proofs.WrittenTexts.{text_exactly, all_quoted}
use Rattle.round.proofs.RoundHeaderValues.{pass_line, pass_stands, hit_line}
use Rattle.round.proofs.RoundReads.{Passing, all_drop, split_all, trim_each}
use Rattle.laws.proofs.Tests.{blank_missing}
use Rattle.page.proofs.TestLaws.{and_left, and_right}

front : (k : ℕ) (l : Bytes) (xs ys : List Bytes) → stands_in k xs ≡ stands_in k ys → stands_in k (l ∷ xs) ≡ stands_in k (l ∷ ys)
unfolding stands_in
front k l xs ys h = rw h

rest_printed : (l : Bytes) → clean false (content l) ≡ true → all (allowed false) (rest (content l)) ≡ true
unfolding clean rest
rest_printed l h = all_drop (allowed false) (until semicolon (content l) + 1) (content l) h

uncounted : (k : ℕ) (xs : List Bytes) → stands_in k xs ≡ false → times k xs ≡ 0
unfolding stands_in times
uncounted k [] h = refl
uncounted k (x ∷ xs) h = by (uncounted k xs) (eqb (command (content x)) k) h
  where
    by : (stands_in k xs ≡ false → times k xs ≡ 0) → (b : Bool) → (b || stands_in k xs) ≡ false → pick b 1 0 + times k xs ≡ 0
    by ih true h = absurd (false≢true (sym h))
    by ih false h = omega (arith, ih h)

-- a line of command k is one of those that are spoken, and the first of them

module _ (k : ℕ) (nc : ¬ (k ≡ Com)) (nm : ¬ (k ≡ Missing)) where
  silent_line : (l : Bytes) → (blank (content l) || eqb (command (content l)) Com) ≡ true → eqb (command (content l)) k ≡ false
  silent_line l h = by (blank (content l)) refl h
    where
      by : (b : Bool) → blank (content l) ≡ b → (b || eqb (command (content l)) Com) ≡ true → eqb (command (content l)) k ≡ false
      by true e h = rw (blank_missing (content l) e) (ne_eqb Missing k (λ (q : Missing ≡ k). nm (sym q)))
      by false e h = rw (eqb-true (command (content l)) Com h) (ne_eqb Com k (λ (q : Com ≡ k). nc (sym q)))

  pub spoken_rest : (ls : List Bytes) → (line_of k 0 ls).rest ≡ (line_of k 0 (spoken ls)).rest
  unfolding spoken
  spoken_rest [] = refl
  spoken_rest (l ∷ ls) = by (spoken_rest ls) (blank (content l) || eqb (command (content l)) Com) refl (eqb (command (content l)) k) refl
    where
      by : (line_of k 0 ls).rest ≡ (line_of k 0 (spoken ls)).rest → (b : Bool) → (blank (content l) || eqb (command (content l)) Com) ≡ b →
          (q : Bool) → eqb (command (content l)) k ≡ q → (line_of k 0 (l ∷ ls)).rest ≡ (line_of k 0 (pick b (spoken ls) (l ∷ spoken ls))).rest
      by ih true e q f = pass_line k l ls 0 (silent_line l e) ∙ ih
      by ih false e true f = hit_line k l ls 0 (eqb-true (command (content l)) k f) ∙ sym (hit_line k l (spoken ls) 0 (eqb-true (command (content l)) k f))
      by ih false e false f = pass_line k l ls 0 f ∙ ih ∙ sym (pass_line k l (spoken ls) 0 f)

  pub spoken_stands : (ls : List Bytes) → stands_in k ls ≡ stands_in k (spoken ls)
  unfolding spoken
  spoken_stands [] = refl
  spoken_stands (l ∷ ls) = by (spoken_stands ls) (blank (content l) || eqb (command (content l)) Com) refl
    where
      by : stands_in k ls ≡ stands_in k (spoken ls) → (b : Bool) → (blank (content l) || eqb (command (content l)) Com) ≡ b →
          stands_in k (l ∷ ls) ≡ stands_in k (pick b (spoken ls) (l ∷ spoken ls))
      by ih true e = pass_stands k l ls (silent_line l e) ∙ ih
      by ih false e = front k l ls (spoken ls) ih

-- a line that stands holds what it must, and its bytes are allowed
pub held_line : (k form : ℕ) {xs : List Bytes} → Every (HeadLine form) xs → stands_in k xs ≡ true → holds k form (fields (line_of k 0 xs).rest) ≡ true
unfolding stands_in
held_line k form none_left h = absurd (false≢true h)
held_line k form (one_more {x} {xs} l ls) h = by (held_line k form ls) (eqb (command (content x)) k) refl h
  where
    by : (stands_in k xs ≡ true → holds k form (fields (line_of k 0 xs).rest) ≡ true) → (b : Bool) → eqb (command (content x)) k ≡ b →
        (b || stands_in k xs) ≡ true → holds k form (fields (line_of k 0 (x ∷ xs)).rest) ≡ true
    by ih true e h = let z : command (content x) ≡ k = eqb-true (command (content x)) k e in rw (hit_line k x xs 0 z, ← z) l.holds
    by ih false e h = rw (pass_line k x xs 0 e) (ih h)

printed_line : (k : ℕ) {xs : List Bytes} → Every (λ l. clean false (content l) ≡ true) xs → all (allowed false) (line_of k 0 xs).rest ≡ true
unfolding line_of all
printed_line k none_left = refl
printed_line k (one_more {x} {xs} l ls) = by (printed_line k ls) (eqb (command (content x)) k) refl
  where
    by : all (allowed false) (line_of k 0 xs).rest ≡ true → (b : Bool) → eqb (command (content x)) k ≡ b → all (allowed false) (line_of k 0 (x ∷ xs)).rest ≡ true
    by ih true e = rw (hit_line k x xs 0 (eqb-true (command (content x)) k e)) (rest_printed x l)
    by ih false e = rw (pass_line k x xs 0 e) ih

pub counted_stands : (k : ℕ) (xs : List Bytes) → times k xs ≡ 1 → stands_in k xs ≡ true
counted_stands k xs h = by (stands_in k xs) refl
  where
    by : (b : Bool) → stands_in k xs ≡ b → stands_in k xs ≡ true
    by true e = e
    by false e = absurd (let z : ⊥ = omega (arith, uncounted k xs e) in z)

-- one text
text_said : (f : Bytes) → is_text (text_of f) ≡ true → all (allowed false) f ≡ true → Printed (own_bytes (text_of f))
text_said f h a = by (text_of f) refl h
  where
    by : (x : Option Bytes) → text_of f ≡ x → is_text x ≡ true → Printed (own_bytes x)
    by None e h = absurd (false≢true h)
    by (Some t) e h = all_quoted (allowed false) t (rw ((text_exactly f t).0 e) at a)

field_passing : (p : ℕ → Bool) {fs : List Bytes} → Every (Passing p) fs → (i : ℕ) → all p (get_or fs i []) ≡ true
unfolding all
field_passing p none_left i = refl
field_passing p (one_more f fs) zero = f
field_passing p (one_more f fs) (suc i) = field_passing p fs i

rest_fields : (p : ℕ → Bool) (w : Bytes) → all p w ≡ true → Every (Passing p) (fields w)
unfolding fields
rest_fields p w h = trim_each p (split_all p false w h)

-- four digits make at most 9999
digit_most : (b : ℕ) → digit b ≡ true → b ≤ 57
unfolding digit
digit_most b h = leb-true b 57 (and_right (leb 48 b) (leb b 57) h)

four_digits : (w : Bytes) → all digit w ≡ true → length w ≤ 4 → value 0 w ≤ 9999
unfolding value all
four_digits [] h l = omega arith
four_digits (a ∷ []) h l = omega (arith, digit_most a (and_left (digit a) true h))
four_digits (a ∷ b ∷ []) h l =
    let t : (digit b && true) ≡ true = and_right (digit a) (digit b && true) h in
    omega (arith, digit_most a (and_left (digit a) (digit b && true) h), digit_most b (and_left (digit b) true t))
four_digits (a ∷ b ∷ c ∷ []) h l =
    let t : (digit b && (digit c && true)) ≡ true = and_right (digit a) (digit b && (digit c && true)) h in
    let u : (digit c && true) ≡ true = and_right (digit b) (digit c && true) t in
    omega (arith, digit_most a (and_left (digit a) (digit b && (digit c && true)) h), digit_most b (and_left (digit b) (digit c && true) t), digit_most c (and_left (digit c) true u))
four_digits (a ∷ b ∷ c ∷ d ∷ []) h l =
    let t : (digit b && (digit c && (digit d && true))) ≡ true = and_right (digit a) (digit b && (digit c && (digit d && true))) h in
    let u : (digit c && (digit d && true)) ≡ true = and_right (digit b) (digit c && (digit d && true)) t in
    let v : (digit d && true) ≡ true = and_right (digit c) (digit d && true) u in
    omega (
      arith,
      digit_most a (and_left (digit a) (digit b && (digit c && (digit d && true))) h),
      digit_most b (and_left (digit b) (digit c && (digit d && true)) t),
      digit_most c (and_left (digit c) (digit d && true) u),
      digit_most d (and_left (digit d) true v),
    )
four_digits (a ∷ b ∷ c ∷ d ∷ e ∷ w) h l = absurd (let z : ⊥ = omega arith in z)

year_small : (at : ℕ) (f : Bytes) → digits_in at 4 f ≡ true → number_in at 4 f ≤ 9999
unfolding digits_in number_in
year_small at f h = four_digits (take 4 (drop at f)) h (omega (arith, length-take 4 (drop at f)))

date_year : (form : ℕ) (f : Bytes) → date_shape form f ≡ true → (date_of form f).year ≤ 9999
unfolding date_shape date_of
date_year form f h = by (eqb form 1) (and_right (quoted_size 10 f) _ h)
  where
    by : (b : Bool) → pick b (digits_in 1 2 f && byte_is 3 46 f && digits_in 4 2 f && byte_is 6 46 f && digits_in 7 4 f)
        (digits_in 1 4 f && byte_is 5 47 f && digits_in 6 2 f && byte_is 8 47 f && digits_in 9 2 f) ≡ true →
        (pick {A = Date} b (record { year = number_in 7 4 f; month = number_in 4 2 f; day = number_in 1 2 f })
        (record { year = number_in 1 4 f; month = number_in 6 2 f; day = number_in 9 2 f })).year ≤ 9999
    by true h = year_small 7 f (and_right (digits_in 1 2 f && byte_is 3 46 f && digits_in 4 2 f && byte_is 6 46 f) (digits_in 7 4 f) h)
    by false h =
        year_small 1 f
        (and_left (digits_in 1 4 f) (byte_is 5 47 f)
        (and_left (digits_in 1 4 f && byte_is 5 47 f) (digits_in 6 2 f)
        (and_left (digits_in 1 4 f && byte_is 5 47 f && digits_in 6 2 f) (byte_is 8 47 f)
        (and_left (digits_in 1 4 f && byte_is 5 47 f && digits_in 6 2 f && byte_is 8 47 f) (digits_in 9 2 f) h))))

module _ (ls : List Bytes) (s : SoundHeader ls) where
  abbrev form : ℕ
  form = mod_form (fields_of s.first)

  form_said : form_in ls ≡ form
  unfolding form_in
  form_said =
      rw (spoken_rest Mod (λ (e : Mod ≡ Com). omega arith) (λ (e : Mod ≡ Missing). omega arith) ls, s.order, hit_line Mod s.first s.others 0 s.mode)

  module _ (k : ℕ) (nc : ¬ (k ≡ Com)) (nm : ¬ (k ≡ Missing)) (no : eqb Mod k ≡ false) where
    first_other : eqb (command (content s.first)) k ≡ false
    first_other = rw s.mode no

    pub stands_said : stands_in k ls ≡ stands_in k s.others
    stands_said = spoken_stands k nc nm ls ∙ rw s.order (pass_stands k s.first s.others first_other)

    pub held_said : stands_in k ls ≡ true → holds k form (fields (line_of k 0 ls).rest) ≡ true
    held_said h =
        rw (spoken_rest k nc nm ls, s.order, pass_line k s.first s.others 0 first_other) (held_line k form s.each (rw stands_said at h))

    pub once_said : times k s.others ≡ 1 → stands_in k ls ≡ true
    once_said h = rw stands_said (counted_stands k s.others h)

    field_said : (i : ℕ) → all (allowed false) (field_in k i ls) ≡ true
    unfolding field_in
    field_said i = field_passing (allowed false) (rest_fields (allowed false) (line_of k 0 ls).rest (printed_line k s.clean)) i

    -- a line of one text
    text_held : eqb k Src ≡ false → eqb k Chs ≡ false → stands_in k ls ≡ true → Printed (text_in k ls)
    unfolding text_in field_in holds text_ok
    text_held a b h =
        let x : text_ok (fields (line_of k 0 ls).rest) ≡ true = rw (a, b) at (held_said h) in
        text_said (get_or (fields (line_of k 0 ls).rest) 0 []) (and_right (eqb (length (fields (line_of k 0 ls).rest)) 1) (is_text (text_of (get_or (fields (line_of k 0 ls).rest) 0 []))) x) (field_said 0)

    text_if_held : eqb k Src ≡ false → eqb k Chs ≡ false → PrintedIf (text_if k ls)
    unfolding text_if
    text_if_held a b = by (stands_in k ls) refl
      where
        by : (q : Bool) → stands_in k ls ≡ q → PrintedIf (pick q (Some (text_in k ls)) None)
        by true e = text_held a b e
        by false e = tt

  pub the_once : (times Src s.others ≡ 1) × (times Chs s.others ≡ 1) × (times Ver s.others ≡ 1) × (times Ifv s.others ≡ 1)
  the_once = by s.once
    where
      by : Every (λ (k : ℕ). times k s.others ≡ 1) (Src ∷ Chs ∷ Ver ∷ Ifv ∷ []) →
          (times Src s.others ≡ 1) × (times Chs s.others ≡ 1) × (times Ver s.others ≡ 1) × (times Ifv s.others ≡ 1)
      by (one_more a (one_more b (one_more c (one_more d none_left)))) = (a, b, c, d)

  abbrev source_field : ℕ → Bytes
  source_field i = get_or (fields (line_of Src 0 ls).rest) i []

  pub source_held : src_ok form (fields (line_of Src 0 ls).rest) ≡ true
  unfolding holds
  source_held =
      held_said Src (λ (e : Src ≡ Com). omega arith) (λ (e : Src ≡ Missing). omega arith) refl
      (once_said Src (λ (e : Src ≡ Com). omega arith) (λ (e : Src ≡ Missing). omega arith) refl the_once.0)

  pub source_parts : (is_text (text_of (source_field 0)) ≡ true) × (date_ok form (source_field 1) ≡ true) × (time_ok (source_field 2) ≡ true)
  unfolding src_ok
  source_parts =
      let n : Bool = eqb (length (fields (line_of Src 0 ls).rest)) 3 in
      let a : Bool = is_text (text_of (source_field 0)) in
      let b : Bool = date_ok form (source_field 1) in
      let c : Bool = time_ok (source_field 2) in
      (and_right n a (and_left (n && a) b (and_left (n && a && b) c source_held)), and_right (n && a) b (and_left (n && a && b) c source_held), and_right (n && a && b) c source_held)

  pub header_said : SoundHead (head_values ls)
  unfolding head_values text_in field_in date_ok time_ok
  header_said =
      record {
        source = text_said (source_field 0) source_parts.0 (field_said Src (λ (e : Src ≡ Com). omega arith) (λ (e : Src ≡ Missing). omega arith) refl 0);
        date = rw form_said (and_right (date_shape form (source_field 1)) (real_date (date_of form (source_field 1))) source_parts.1);
        year = rw form_said (date_year form (source_field 1) (and_left (date_shape form (source_field 1)) (real_date (date_of form (source_field 1))) source_parts.1));
        time = and_right (time_shape (source_field 2)) (real_time (time_of (source_field 2))) source_parts.2;
        ver =
            text_held Ver (λ (e : Ver ≡ Com). omega arith) (λ (e : Ver ≡ Missing). omega arith) refl refl refl
            (once_said Ver (λ (e : Ver ≡ Com). omega arith) (λ (e : Ver ≡ Missing). omega arith) refl the_once.2);
        ifv =
            text_held Ifv (λ (e : Ifv ≡ Com). omega arith) (λ (e : Ifv ≡ Missing). omega arith) refl refl refl
            (once_said Ifv (λ (e : Ifv ≡ Com). omega arith) (λ (e : Ifv ≡ Missing). omega arith) refl the_once.3);
        dve = text_if_held Dve (λ (e : Dve ≡ Com). omega arith) (λ (e : Dve ≡ Missing). omega arith) refl refl refl;
        fft = text_if_held Fft (λ (e : Fft ≡ Com). omega arith) (λ (e : Fft ≡ Missing). omega arith) refl refl refl;
      }
