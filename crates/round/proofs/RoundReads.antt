-- What an accepted record says may be said: values in range and of their size, of allowed bytes. Assumes nothing.
use Rattle.std.specs.Prelude.{Some}
use mathlib.Core.Path.{◌≡◌, refl, sym}
use mathlib.Core.Bool.{Bool, true, false, ◌&&◌, ◌||◌, false≢true}
use mathlib.Core.List.{List, [], ◌∷◌, map, Memᴰ}
use Prim.Native.Nat.{ℕ, zero, suc, ◌+◌, ◌-◌, ◌<◌, ◌≤◌}
use native.Mathlib.Omega.{arith}
use lib.Dec.{eqb, leb}
use lib.ListN.{length, get_or, drop}
use borrow.Author.Tests.{eqb-true}
use Rattle.page.specs.Bytes.{Bytes, pick, all, until, keep, space, trim_of, trim, unpadded}
use Rattle.page.specs.Lines.{content, semicolon, rest, allowed, clean, Rec}
use Rattle.page.specs.Fields.{parts_here, inside_after, into, split, fields}
use Rattle.page.specs.Tables.{Named, no_column, columns}
use Rattle.page.specs.Order.{Order, upto, standing, place, by_column, column_in}
use Rattle.page.specs.Marks.{may_mark}
use Rattle.page.specs.Section.{record_text}
use Rattle.page.specs.Records.{words, Record}
use Rattle.page.specs.Grammar as Grammar
use Rattle.page.specs.Grammar.{Says, marked, owner_by, Values, no_field, a_field, RecLine, Then, found, skip, Records, pause, a_mark, a_record, the_end, Denotes}
use Rattle.page.specs.Rules.{Every, none_left, one_more}
use Rattle.page.specs.declared.Column.{Column}
use Rattle.page.specs.declared.Owner.TheVariants as O
use Rattle.round.specs.Round.{Fits, a_number, no_number, a_text, a_suggestion, FitAll, no_value, a_value, SoundRecord}
use Rattle.round.proofs.WrittenTexts.{text_exactly, all_quoted}
use Rattle.page.proofs.ScanLaws.{all_take}
use Rattle.page.proofs.TestLaws.{and_left, and_right}
use Rattle.page.proofs.TextLaws.{padded_of, record_trimmed}

-- a test that all bytes of a line pass, each field passes

pub all_drop : (p : ℕ → Bool) (n : ℕ) (w : Bytes) → all p w ≡ true → all p (drop n w) ≡ true
unfolding all
all_drop p zero w h = h
all_drop p (suc n) [] h = refl
all_drop p (suc n) (b ∷ w) h = all_drop p n w (and_right (p b) (all p w) h)

all_trim : (p : ℕ → Bool) (w : Bytes) → all p w ≡ true → all p (trim w) ≡ true
unfolding trim
all_trim p w h = all_take p ((trim_of w).to - (trim_of w).from) (drop (trim_of w).from w) (all_drop p (trim_of w).from w h)

abbrev pub Passing : (ℕ → Bool) → Bytes → Type 0
Passing p w = all p w ≡ true

into_all : (p : ℕ → Bool) (s : Bool) (b : ℕ) {fs : List Bytes} → p b ≡ true → Every (Passing p) fs → Every (Passing p) (into s b fs)
unfolding all
into_all p true b h e = one_more refl e
into_all p false b h none_left = one_more {x = b ∷ []} (rw h) none_left
into_all p false b h (one_more {x} f fs) = one_more {x = b ∷ x} (rw h f) fs

pub split_all : (p : ℕ → Bool) (q : Bool) (w : Bytes) → all p w ≡ true → Every (Passing p) (split q w)
unfolding split all
split_all p q [] h = one_more refl none_left
split_all p q (b ∷ w) h = into_all p (parts_here q b) b (and_left (p b) (all p w) h) (split_all p (inside_after q b) w (and_right (p b) (all p w) h))

pub trim_each : (p : ℕ → Bool) {fs : List Bytes} → Every (Passing p) fs → Every (Passing p) (map trim fs)
trim_each p none_left = none_left
trim_each p (one_more {x} f fs) = one_more (all_trim p x f) (trim_each p fs)

pub fields_all : (p : ℕ → Bool) (c : Bytes) → all p c ≡ true → Every (Passing p) (fields (rest c))
unfolding fields rest
fields_all p c h = trim_each p (split_all p false (drop (until semicolon c + 1) c) (all_drop p (until semicolon c + 1) c h))

-- each field by column is one that stands there, or none

field_every : {P : Bytes → Type 0} {fs : List Bytes} → P [] → Every P fs → (k : ℕ) → P (get_or fs k [])
field_every n none_left k = n
field_every n (one_more f fs) zero = f
field_every n (one_more f fs) (suc k) = field_every n fs k

by_column_all : (p : ℕ → Bool) (o : Order) {fs : List Bytes} → Every (Passing p) fs → Every (Passing p) (by_column o fs)
unfolding by_column all
by_column_all p o {fs} e = each (upto 0 (length o))
  where
    each : (cs : Order) → Every (Passing p) (map (λ (c : ℕ). get_or fs (place c o) []) cs)
    each [] = none_left
    each (c ∷ cs) = one_more (field_every {P = Passing p} refl e (place c o)) (each cs)

-- and so does a record's text
own_all : (p : ℕ → Bool) (w t : Bytes) → all p w ≡ true → record_text w ≡ Some t → all p t ≡ true
unfolding unpadded
own_all p w t h e =
    let x = padded_of w t e in
    rw x.own (all_take p (keep space x.whole) x.whole (all_quoted p x.whole (rw ((text_exactly w x.whole).0 x.is) at h)))

-- a field that may be marked is of a column that may be

may_at : (t : ℕ) (o : Order) (k d : ℕ) → (get_or (standing t o) k no_column).column.fillable ≡ true → (get_or (columns t) (get_or o k d) no_column).column.fillable ≡ true
unfolding standing
may_at t [] k d e = absurd (false≢true e)
may_at t (c ∷ o) zero d e = e
may_at t (c ∷ o) (suc k) d e = may_at t o k d e

may_column : (t : ℕ) (o : Order) (m j : ℕ) → may_mark t o m ≡ true → column_in o m ≡ 1 + j → (get_or (columns t) j no_column).column.fillable ≡ true
unfolding may_mark column_in
may_column t o zero j e h = absurd (false≢true e)
may_column t o (suc k) j e h =
    let z : suc k - 1 ≡ k = omega arith in
    let y : get_or o k k ≡ j = omega arith in
    rw y at (may_at t o k k (rw z at (and_right (leb 1 (suc k)) (get_or (standing t o) (suc k - 1) no_column).column.fillable e)))

-- the values of a record line

marked_may : (t : ℕ) (o : Order) (j : ℕ) {ms : List ℕ} → Every (λ m. may_mark t o m ≡ true) ms → marked (1 + j) (map (column_in o) ms) ≡ true →
    (get_or (columns t) j no_column).column.fillable ≡ true
unfolding marked
marked_may t o j none_left h = absurd (false≢true h)
marked_may t o j (one_more {x} {xs} m ms) h = by (marked_may t o j ms) (eqb (column_in o x) (1 + j)) refl h
  where
    by : (marked (1 + j) (map (column_in o) xs) ≡ true → (get_or (columns t) j no_column).column.fillable ≡ true) → (b : Bool) → eqb (column_in o x) (1 + j) ≡ b →
        (b || marked (1 + j) (map (column_in o) xs)) ≡ true → (get_or (columns t) j no_column).column.fillable ≡ true
    by ih true e h = may_column t o x j m (eqb-true (column_in o x) (1 + j) e)
    by ih false e h = ih h

module _ (latin : Bool) (ms : List ℕ) where
  -- each mark is of a column that may be marked
  abbrev MarksFit : ℕ → List Named → Type 0
  MarksFit i cs = (j : ℕ) → marked (i + j) ms ≡ true → (get_or cs j no_column).column.fillable ≡ true

  next_fit : (i : ℕ) (c : Named) (cs : List Named) → MarksFit i (c ∷ cs) → MarksFit (suc i) cs
  next_fit i c cs f j h = f (suc j) (let z : suc i + j ≡ i + suc j = omega arith in rw z at h)

  text_fits : (i : ℕ) (c : Column) (t : Bytes) → c.text ≡ true → length t ≤ c.hi → all (allowed latin) t ≡ true → unpadded t ≡ t → (marked i ms ≡ true → c.fillable ≡ true) →
      (words (owner_by ms i) t ≡ words O.Suggestion [] → ⊥) → Fits latin c (words (owner_by ms i) t)
  unfolding owner_by
  text_fits i c t k l a u f n = by (marked i ms) refl
    where
      some_bytes : (t : Bytes) → (words O.Suggestion t ≡ words O.Suggestion [] → ⊥) → 0 < length t
      some_bytes [] n = absurd (n refl)
      some_bytes (b ∷ t) n = omega arith

      by : (b : Bool) → marked i ms ≡ b → Fits latin c (words (pick (marked i ms) O.Suggestion O.Operator) t)
      by true e = rw e (a_suggestion k (f e) (some_bytes t (λ (q : words O.Suggestion t ≡ words O.Suggestion []). n (rw e q))) l a u)
      by false e = rw e (a_text k l a u)

  values_fit : {i : ℕ} {cs : List Named} {fs : List Bytes} {vs : Record} → Values ms i cs fs vs → Every (Passing (allowed latin)) fs → MarksFit i cs →
      ¬ Memᴰ (words O.Suggestion []) vs → FitAll latin cs vs
  values_fit no_field p f n = no_value
  values_fit (a_field {i} {c} {cs} {f = w} {vs} (Grammar.a_number k r l h d) g) (one_more q qs) f n =
      a_value (a_number k l h d) (values_fit g qs (next_fit i c cs f) (λ (m : Memᴰ (words O.Suggestion []) vs). n (Memᴰ.tail m)))
  values_fit (a_field {i} {c} {cs} {vs} (Grammar.no_number k o e) g) (one_more q qs) f n =
      a_value (no_number k o) (values_fit g qs (next_fit i c cs f) (λ (m : Memᴰ (words O.Suggestion []) vs). n (Memᴰ.tail m)))
  values_fit (a_field {i} {c} {cs} {f = w} {vs} (Grammar.a_text {t} k r l) g) (one_more q qs) f n =
      a_value
      (text_fits i c.column t k l (own_all (allowed latin) w t q r) (record_trimmed w t r)
      (λ (h : marked i ms ≡ true). f 0 (let z : i + 0 ≡ i = omega arith in rw z h))
      (λ (e : words (owner_by ms i) t ≡ words O.Suggestion []). n (Memᴰ.head (sym e))))
      (values_fit g qs (next_fit i c cs f) (λ (m : Memᴰ (words O.Suggestion []) vs). n (Memᴰ.tail m)))

-- what a line of a section denotes may be said

module _ (latin : Bool) (t : ℕ) (o : Order) where
  abbrev AllMay : List ℕ → Type 0
  AllMay ms = Every (λ (m : ℕ). may_mark t o m ≡ true) ms

  line_allowed : (l : Bytes) → Says latin Rec l → all (allowed latin) (content l) ≡ true
  unfolding clean
  line_allowed l s = by latin (rw s.named at s.clean)
    where
      by : (b : Bool) → all (allowed (b && true)) (content l) ≡ true → all (allowed b) (content l) ≡ true
      by true h = h
      by false h = h

  line_sound : {ms : List ℕ} {vs : Record} (l : Bytes) → AllMay ms → RecLine latin t o ms vs l → SoundRecord latin t vs
  line_sound {ms} {vs} l a r =
      let f : FitAll latin (columns t) vs =
      values_fit latin (map (column_in o) ms) r.fields.values (by_column_all (allowed latin) o (fields_all (allowed latin) (content l) (line_allowed l r.says)))
      (λ j. marked_may t o j a) r.filled in
      record { fit = f; rules = r.rules }

  records_sound : {n : ℕ} {ms : List ℕ} {ls : List Bytes} {rs : List Record} → AllMay ms → Records latin t o n ms ls rs → Every (SoundRecord latin t) rs
  records_sound a (pause q r) = records_sound a r
  records_sound a (a_mark m r) = records_sound (one_more m.may a) r
  records_sound a (a_record {l} h r) = one_more (line_sound l a h) (records_sound none_left r)
  records_sound a (the_end e s) = none_left

module _ (latin : Bool) (t : ℕ) where
  past : {Q : Bytes → Type 0} {R : List Bytes → Type 0} {ls : List Bytes} {X : Type 0} → ((ms : List Bytes) → R ms → X) → Then latin Q R ls → X
  past f (found {ls} h x) = f ls x
  past f (skip h x) = past f x

  pub denoted_sound : {ls : List Bytes} (rs : List Record) → Denotes latin ls t rs → Every (SoundRecord latin t) rs
  denoted_sound rs d = past (λ xs. past (λ ys. past (λ zs. records_sound latin t d.0 none_left))) d.1
