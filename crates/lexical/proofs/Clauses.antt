-- What the lines of a header hold: the tests of the reading pass exactly what the document names. Assumes nothing.
use Rattle.std.specs.Prelude.{None, Option, Some}
use mathlib.Core.Path.{◌≡◌, refl, ap, sym, ◌∙◌}
use mathlib.Core.Bool.{Bool, true, false, ◌&&◌, ◌||◌, false≢true}
use mathlib.Core.List.{List, []}
use mathlib.Core.Logic.{◌⊎◌, inl, inr, ◌↔◌}
use Prim.Native.Nat.{ℕ}
use native.Mathlib.Omega.{arith}
use lib.Dec.{eqb}
use lib.ListN.{length, get_or}
use borrow.Author.Tests.{ne_eqb}
use Rattle.page.specs.Bytes.{Bytes, bytes, pick, same}
use Rattle.page.specs.Lines.{Src, Chs}
use Rattle.page.specs.Fields.{text_of}
use Rattle.page.specs.Dates.{date_of, date_ok, time_of, time_ok}
use Rattle.page.specs.Header.{is_text, form_named, mod_form, src_ok, names_ascii, names_latin, chs_ok, text_ok, holds}
use Rattle.page.specs.Form.{quoted}
use Rattle.page.specs.Clauses.{RealDate, DateText, TimeText, DateForm, day_first, year_first, Mode, free, aligned, ModFields, mod_fields}
use Rattle.page.specs.Clauses.{SrcFields, src_fields, ChsFields, ascii, latin, latin_dashed, TextFields, text_fields}
use Rattle.page.specs.declared.Date.{Date}
use Rattle.page.specs.declared.Time.{Time}
use Rattle.page.proofs.TextLaws.{text_quoted, quoted_text}
use Rattle.laws.proofs.Decides as D
use Rattle.laws.proofs.Decides.{Decides, fails, fact, tested, when, both, one_of, equal}
use Rattle.laws.proofs.Tests.{same_d, is_d}
use Rattle.lexical.proofs.Members.{members, by_members}
use Rattle.lexical.proofs.Dates.{date_exactly, time_exactly}

-- `mod`

mode_back : {m : Bytes} → Mode m → (m ≡ bytes "free") ⊎ (m ≡ bytes "aligned")
mode_back free = inl refl
mode_back aligned = inr refl

mode_d : (m : Bytes) → Decides (Mode m) (same m (bytes "free") || same m (bytes "aligned"))
mode_d m = when into mode_back (one_of (same_d m (bytes "free")) (same_d m (bytes "aligned")))
  where
    into : (m ≡ bytes "free") ⊎ (m ≡ bytes "aligned") → Mode m
    into (inl e) = rw e free
    into (inr e) = rw e aligned

form_back : {form : ℕ} {name : Bytes} → DateForm form name → form_named name ≡ form
unfolding form_named same bytes
form_back day_first = refl
form_back year_first = refl

form_into : (form : ℕ) (name : Bytes) → ¬ (form ≡ 0) → form_named name ≡ form → DateForm form name
unfolding form_named
form_into form name n = first (same name (bytes "DD.MM.YYYY")) (same_d name (bytes "DD.MM.YYYY"))
  where
    second : (b : Bool) → Decides (name ≡ bytes "YYYY/MM/DD") b → pick b 2 0 ≡ form → DateForm form name
    second true (D.holds e) h = rw (← h, e) year_first
    second false k h = absurd (n (sym h))

    first : (b : Bool) → Decides (name ≡ bytes "DD.MM.YYYY") b → pick b 1 (pick (same name (bytes "YYYY/MM/DD")) 2 0) ≡ form → DateForm form name
    first true (D.holds e) h = rw (← h, e) day_first
    first false k h = second (same name (bytes "YYYY/MM/DD")) (same_d name (bytes "YYYY/MM/DD")) h

-- the fields' number, their second and their third
abbrev mod_test : List Bytes → Bool
mod_test fs = eqb (length fs) 3 && same (get_or fs 1 []) (bytes "HH:MM:SS") && (same (get_or fs 2 []) (bytes "free") || same (get_or fs 2 []) (bytes "aligned"))

mod_into : (form : ℕ) (fs : List Bytes) → ¬ (form ≡ 0) → mod_form fs ≡ form → ModFields form fs
unfolding mod_form members
mod_into form fs n = by (mod_test fs) refl
  where
    by : (b : Bool) → mod_test fs ≡ b → pick b (form_named (get_or fs 0 [])) 0 ≡ form → ModFields form fs
    by true t h =
        let x = fact (both (both (equal (length fs) 3) (same_d (get_or fs 1 []) (bytes "HH:MM:SS"))) (mode_d (get_or fs 2 []))) t in
        rw (by_members [] 3 fs x.0.0, x.0.1) (mod_fields (form_into form (get_or fs 0 []) n h) x.1)
    by false t h = absurd (n (sym h))

mod_back : {form : ℕ} {fs : List Bytes} → ModFields form fs → mod_form fs ≡ form
unfolding mod_form same bytes
mod_back (mod_fields {date} {mode} d m) = rw (tested (mode_d mode) m) (form_back d)

-- `mod` is read with a date's form exactly if its fields name that form, the time's and a mode
pub mod_exactly : (form : ℕ) (fs : List Bytes) → ¬ (form ≡ 0) → mod_form fs ≡ form ↔ ModFields form fs
mod_exactly form fs n = (mod_into form fs n, mod_back)

-- and with none exactly if they name none
pub no_mod_exactly : (fs : List Bytes) → mod_form fs ≡ 0 ↔ ((form : ℕ) → ¬ ModFields form fs)
no_mod_exactly fs = (λ e form h. some h (sym (mod_back h) ∙ e), λ n. by (eqb (mod_form fs) 0) (equal (mod_form fs) 0) n)
  where
    some_form : {form : ℕ} {name : Bytes} → DateForm form name → ¬ (form ≡ 0)
    some_form day_first e = omega arith
    some_form year_first e = omega arith

    some : {form : ℕ} {gs : List Bytes} → ModFields form gs → ¬ (form ≡ 0)
    some (mod_fields d m) = some_form d

    by : (b : Bool) → Decides (mod_form fs ≡ 0) b → ((form : ℕ) → ¬ ModFields form fs) → mod_form fs ≡ 0
    by true (D.holds e) n = e
    by false (fails k) n = absurd (n (mod_form fs) (mod_into (mod_form fs) fs k refl))

-- a text

text_d : (f : Bytes) → Decides ((t : Bytes) × (f ≡ quoted t)) (is_text (text_of f))
text_d f = by (text_of f) refl
  where
    by : (o : Option Bytes) → text_of f ≡ o → Decides ((t : Bytes) × (f ≡ quoted t)) (is_text o)
    by None e = fails (λ x. let z : None ≡ Some x.0 = sym e ∙ (ap text_of x.1 ∙ quoted_text x.0) in absurd (false≢true (cc)))
    by (Some t) e = D.holds (t, text_quoted f t e)

-- `src`

src_made : {form : ℕ} {source : Bytes} {date : Date} {time : Time} (fs : List Bytes) → length fs ≡ 3 → get_or fs 0 [] ≡ quoted source →
    DateText form (get_or fs 1 []) date × RealDate date → TimeText (get_or fs 2 []) time → SrcFields form source date time fs
unfolding members
src_made fs n s d t = rw (by_members [] 3 fs n, s) (src_fields d.0 d.1 t)

module _ {form : ℕ} {name : Bytes} (w : DateForm form name) where
  src_into : (fs : List Bytes) → holds Src form fs ≡ true → (source : Bytes) × (date : Date) × (time : Time) × SrcFields form source date time fs
  unfolding holds src_ok
  src_into fs h =
      let x = fact (both (both (both (equal (length fs) 3) (text_d (get_or fs 0 []))) (is_d (date_ok form (get_or fs 1 [])))) (is_d (time_ok (get_or fs 2 [])))) h in
      let s = x.0.0.1 in (
        s.0,
        date_of form (get_or fs 1 []),
        time_of (get_or fs 2 []),
        src_made fs x.0.0.0 s.1 ((date_exactly w (get_or fs 1 []) (date_of form (get_or fs 1 []))).0 (x.0.1, refl))
            ((time_exactly (get_or fs 2 []) (time_of (get_or fs 2 []))).0 (x.1, refl)),
      )

  src_back : {source : Bytes} {date : Date} {time : Time} {fs : List Bytes} → SrcFields form source date time fs → holds Src form fs ≡ true
  unfolding holds src_ok
  src_back {source} {date} {time} (src_fields {d} {t} x r y) =
      rw (quoted_text source, ((date_exactly w d date).1 (x, r)).0, ((time_exactly t time).1 y).0)

  -- `src` passes exactly if its fields are a text, a real date as it is written in the stated form, and a time
  pub src_exactly : (fs : List Bytes) → holds Src form fs ≡ true ↔ ((source : Bytes) × (date : Date) × (time : Time) × SrcFields form source date time fs)
  src_exactly fs = (src_into fs, λ x. src_back x.3)

  -- and these are what is read of them
  pub src_read : {source : Bytes} {date : Date} {time : Time} {fs : List Bytes} → SrcFields form source date time fs →
      (text_of (get_or fs 0 []) ≡ Some source) × (date_of form (get_or fs 1 []) ≡ date) × (time_of (get_or fs 2 []) ≡ time)
  src_read {source} {date} {time} (src_fields {d} {t} x r y) = (quoted_text source, ((date_exactly w d date).1 (x, r)).1, ((time_exactly t time).1 y).1)

-- `chs`

chs_made : (fs : List Bytes) → length fs ≡ 1 →
    (get_or fs 0 [] ≡ bytes "\"ASCII\"") ⊎ ((get_or fs 0 [] ≡ bytes "\"ISO8859-1\"") ⊎ (get_or fs 0 [] ≡ bytes "\"ISO-8859-1\"")) → (wide : Bool) × ChsFields wide fs
unfolding members
chs_made fs n (inl e) = (false, rw (by_members [] 1 fs n, e) ascii)
chs_made fs n (inr (inl e)) = (true, rw (by_members [] 1 fs n, e) latin)
chs_made fs n (inr (inr e)) = (true, rw (by_members [] 1 fs n, e) latin_dashed)

chs_into : (fs : List Bytes) → chs_ok fs ≡ true → (wide : Bool) × ChsFields wide fs
unfolding chs_ok names_ascii names_latin
chs_into fs h =
    let f = get_or fs 0 [] in
    let x = fact (both (equal (length fs) 1) (one_of (same_d f (bytes "\"ASCII\"")) (one_of (same_d f (bytes "\"ISO8859-1\"")) (same_d f (bytes "\"ISO-8859-1\""))))) h in
    chs_made fs x.0 x.1

chs_back : {wide : Bool} {fs : List Bytes} → ChsFields wide fs → chs_ok fs ≡ true
unfolding chs_ok names_ascii names_latin same bytes
chs_back ascii = refl
chs_back latin = refl
chs_back latin_dashed = refl

-- `chs` passes exactly if its field is one of the three names
pub chs_exactly : (form : ℕ) (fs : List Bytes) → holds Chs form fs ≡ true ↔ ((wide : Bool) × ChsFields wide fs)
unfolding holds
chs_exactly form fs = (chs_into fs, λ x. chs_back x.1)

-- and "the last two mean the same"
pub chs_read : {wide : Bool} {fs : List Bytes} → ChsFields wide fs → names_latin (get_or fs 0 []) ≡ wide
unfolding names_latin same bytes
chs_read ascii = refl
chs_read latin = refl
chs_read latin_dashed = refl

-- the others

text_made : {t : Bytes} (fs : List Bytes) → length fs ≡ 1 → get_or fs 0 [] ≡ quoted t → TextFields t fs
unfolding members
text_made fs n e = rw (by_members [] 1 fs n, e) text_fields

text_into : (fs : List Bytes) → text_ok fs ≡ true → (t : Bytes) × TextFields t fs
unfolding text_ok
text_into fs h = let x = fact (both (equal (length fs) 1) (text_d (get_or fs 0 []))) h in (x.1.0, text_made fs x.0 x.1.1)

text_back : {t : Bytes} {fs : List Bytes} → TextFields t fs → text_ok fs ≡ true
unfolding text_ok
text_back {t} text_fields = rw (quoted_text t)

-- a line of another command passes exactly if its field is a text
pub text_line_exactly : (k form : ℕ) (fs : List Bytes) → ¬ (k ≡ Src) → ¬ (k ≡ Chs) → holds k form fs ≡ true ↔ ((t : Bytes) × TextFields t fs)
unfolding holds
text_line_exactly k form fs n m = rw (ne_eqb k Src n, ne_eqb k Chs m) (text_into fs, λ x. text_back x.1)

-- and that is what is read of it
pub text_read : {t : Bytes} {fs : List Bytes} → TextFields t fs → text_of (get_or fs 0 []) ≡ Some t
text_read {t} text_fields = quoted_text t
