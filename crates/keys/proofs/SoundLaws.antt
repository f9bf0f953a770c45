-- What a sound section's verdict tells: its table, that each column stands once, and that each value fits its column. Assumes nothing.
use Rattle.std.specs.Prelude.{None, Option, Some}
use mathlib.Core.Path.{◌≡◌, refl, ap, ◌∙◌}
use mathlib.Core.Bool.{Bool, true, false, false≢true, ◌&&◌, ◌||◌}
use mathlib.Core.List.{List, [], ◌∷◌, map}
use Prim.Native.Nat.{ℕ, zero, suc, ◌+◌, ◌-◌, ◌<◌, ◌≤◌}
use native.Mathlib.Omega.{arith}
use lib.Dec.{eqb, leb}
use lib.ListN.{length, get_or, drop}
use borrow.Author.Tests.{leb-true, lt-ltb}
use Rattle.page.specs.Bytes.{Bytes, pick, all, until, trim_of, trim, keep, space, unpadded}
use Rattle.page.specs.Lines.{content, command, rest, semicolon, allowed, clean, Rec}
use Rattle.page.specs.Fields.{parts_here, inside_after, into, split, fields, quote, with_byte, body_of, text_of}
use Rattle.page.specs.Tables.{Named, number_at, TABLES, columns, width}
use Rattle.page.specs.Order.{Order, upto, arranged, place, by_column}
use Rattle.page.specs.Section.{outcome, record_text}
use Rattle.page.specs.Records.{Datum, Record, records_of, table_index, order_in}
use Rattle.page.specs.Grammar.{fields_of, Says, Holds, a_number, no_number, a_text, Values, no_field, a_field, Then, found, skip, Records, pause, a_mark, a_record, the_end, Denotes}
use Rattle.page.specs.Rules.{Every, none_left, one_more}
use Rattle.page.specs.declared.Outcome.{Outcome}
use Rattle.page.specs.declared.Owner.{Owner}
use Rattle.page.specs.declared.Column.{Column}
use Rattle.page.proofs.TestLaws.{and_left, and_right}
use Rattle.page.proofs.ScanLaws.{all_take}
use Rattle.page.proofs.TableLaws.{each, each_at}
use Rattle.page.proofs.TextLaws.{padded_of}
use Rattle.laws.specs.Begins.{begins}
use Rattle.grammar.proofs.Accepts.{denotes_accepted}
use Rattle.grammar.proofs.Readings.{handed_denoted, denoted_known, sound_arranged}
use Rattle.keys.proofs.PackLaws.{byte}
use Rattle.keys.proofs.SameLaws.{Fits, fits_number, fits_missing, fits_text, Fitting, no_value, a_value}

-- every byte of a line that is clean is a byte, and so is every byte of its fields and texts

allowed_byte : (wide : Bool) (b : ℕ) → allowed wide b ≡ true → byte b ≡ true
unfolding allowed
allowed_byte wide b e = by (leb 32 b) (leb b 126) refl e
  where
    high : (x y : Bool) → leb b 255 ≡ y → (x && y && wide) ≡ true → byte b ≡ true
    high x y q e = lt-ltb b 256 (let h : b ≤ 255 = leb-true b 255 (q ∙ and_right x y (and_left (x && y) wide e)) in omega arith)

    by : (x y : Bool) → leb b 126 ≡ y → (x && y || leb 161 b && leb b 255 && wide) ≡ true → byte b ≡ true
    by true true q e = lt-ltb b 256 (let h : b ≤ 126 = leb-true b 126 q in omega arith)
    by true false q e = high (leb 161 b) (leb b 255) refl e
    by false y q e = high (leb 161 b) (leb b 255) refl e

module _ (p : ℕ → Bool) where
  all_drop : (n : ℕ) (s : Bytes) → all p s ≡ true → all p (drop n s) ≡ true
  unfolding all
  all_drop zero s e = e
  all_drop (suc n) [] e = refl
  all_drop (suc n) (b ∷ s) e = all_drop n s (and_right (p b) (all p s) e)

  all_split : (inside : Bool) (w : Bytes) → all p w ≡ true → each (all p) (split inside w) ≡ true
  unfolding all each split
  all_split inside [] e = refl
  all_split inside (b ∷ w) e =
      by (parts_here inside b) (split (inside_after inside b) w) (all_split (inside_after inside b) w (and_right (p b) (all p w) e))
    where
      by : (x : Bool) (fs : List Bytes) → each (all p) fs ≡ true → each (all p) (into x b fs) ≡ true
      by true fs h = h
      by false [] h = rw (and_left (p b) (all p w) e)
      by false (f ∷ fs) h = rw (and_left (p b) (all p w) e) h

  all_trim : (w : Bytes) → all p w ≡ true → all p (trim w) ≡ true
  unfolding trim
  all_trim w e = all_take p ((trim_of w).to - (trim_of w).from) (drop (trim_of w).from w) (all_drop (trim_of w).from w e)

  all_fields : (w : Bytes) → all p w ≡ true → each (all p) (fields w) ≡ true
  unfolding fields each
  all_fields w e = go (split false w) (all_split false w e)
    where
      go : (fs : List Bytes) → each (all p) fs ≡ true → each (all p) (map trim fs) ≡ true
      go [] h = refl
      go (f ∷ fs) h = rw (all_trim f (and_left (all p f) (each (all p) fs) h)) (go fs (and_right (all p f) (each (all p) fs) h))

  some_byte : (b : ℕ) (o : Option Bytes) (t : Bytes) → p b ≡ true → ((u : Bytes) → o ≡ Some u → all p u ≡ true) → with_byte b o ≡ Some t → all p t ≡ true
  unfolding all
  some_byte b None t h f e = absurd (false≢true (cc))
  some_byte b (Some u) t h f e = let z : t ≡ b ∷ u = cc in rw (z, h) (f u refl)

  all_body : (met : Bool) (w t : Bytes) → all p w ≡ true → body_of met w ≡ Some t → all p t ≡ true
  unfolding all body_of
  all_body false [] t h e = absurd (false≢true (cc))
  all_body true [] t h e = let z : t ≡ [] = cc in rw z
  all_body false (b ∷ w) t h e = by (quote b) e (all_body true w t (and_right (p b) (all p w) h)) (λ u. all_body false w u (and_right (p b) (all p w) h))
    where
      by : (x : Bool) → pick x (body_of true w) (with_byte b (body_of false w)) ≡ Some t → (body_of true w ≡ Some t → all p t ≡ true)
          → ((u : Bytes) → body_of false w ≡ Some u → all p u ≡ true) → all p t ≡ true
      by true e f g = f e
      by false e f g = some_byte b (body_of false w) t (and_left (p b) (all p w) h) g e
  all_body true (b ∷ w) t h e = by (quote b) e (λ u. all_body false w u (and_right (p b) (all p w) h))
    where
      by : (x : Bool) → pick x (with_byte b (body_of false w)) None ≡ Some t → ((u : Bytes) → body_of false w ≡ Some u → all p u ≡ true) → all p t ≡ true
      by true e g = some_byte b (body_of false w) t (and_left (p b) (all p w) h) g e
      by false e g = absurd (false≢true (cc))

  all_text : (f t : Bytes) → all p f ≡ true → record_text f ≡ Some t → all p t ≡ true
  unfolding text_of unpadded
  all_text f t h e = let x = padded_of f t e in rw x.own (all_take p (keep space x.whole) x.whole (by x.whole (quote (get_or f 0 0)) x.is))
    where
      by : (u : Bytes) (x : Bool) → pick x (body_of false (drop 1 f)) None ≡ Some u → all p u ≡ true
      by u true e = all_body false (drop 1 f) u (all_drop 1 f h) e
      by u false e = absurd (false≢true (cc))

clean_bytes : (latin : Bool) (c : Bytes) → clean latin c ≡ true → all byte c ≡ true
unfolding clean all
clean_bytes latin c e = go (latin && eqb (command c) Rec) c e
  where
    go : (wide : Bool) (s : Bytes) → all (allowed wide) s ≡ true → all byte s ≡ true
    go wide [] h = refl
    go wide (b ∷ s) h =
        rw (allowed_byte wide b (and_left (allowed wide b) (all (allowed wide) s) h)) (go wide s (and_right (allowed wide b) (all (allowed wide) s) h))

line_bytes : {latin : Bool} {k : ℕ} {l : Bytes} → Says latin k l → each (all byte) (fields_of l) ≡ true
unfolding rest
line_bytes {latin} {l = l} s =
    all_fields byte (rest (content l)) (all_drop byte (until semicolon (content l) + 1) (content l) (clean_bytes latin (content l) s.clean))

-- by column too
column_bytes : (o : Order) (fs : List Bytes) → each (all byte) fs ≡ true → each (all byte) (by_column o fs) ≡ true
unfolding by_column each all
column_bytes o fs e = go (upto 0 (length o))
  where
    go : (cs : List ℕ) → each (all byte) (map (λ (c : ℕ). get_or fs (place c o) []) cs) ≡ true
    go [] = refl
    go (c ∷ cs) = rw (each_at (all byte) [] refl fs e (place c o)) (go cs)

-- a record's values fit their columns

holds_fits : {o : Owner} {c : Column} {f : Bytes} {v : Datum} → all byte f ≡ true → Holds o c f v → Fits c v
holds_fits e (a_number t q g h d) = fits_number t
holds_fits e (no_number t q g) = fits_missing t q
holds_fits {f = f} e (a_text {t = u} t q h) = fits_text t h (all_text byte f u e q)

values_fit : {ms : List ℕ} {i : ℕ} {cs : List Named} {fs : List Bytes} {vs : Record} → each (all byte) fs ≡ true → Values ms i cs fs vs → Fitting cs vs
unfolding each
values_fit e no_field = no_value
values_fit e (a_field {f} {fs} h k) =
    a_value (holds_fits (and_left (all byte f) (each (all byte) fs) e) h) (values_fit (and_right (all byte f) (each (all byte) fs) e) k)

module _ {latin : Bool} (t : ℕ) where
  records_fit : {o : Order} {n : ℕ} {ms : List ℕ} {ls : List Bytes} {rs : List Record} → Records latin t o n ms ls rs → Every (Fitting (columns t)) rs
  records_fit (pause h x) = records_fit x
  records_fit (a_mark h x) = records_fit x
  records_fit {o} (a_record {l = l} h x) = one_more (values_fit (column_bytes o (fields_of l) (line_bytes h.says)) h.fields.values) (records_fit x)
  records_fit (the_end h s) = none_left

  then_last : {P : Bytes → Type 0} {Q : List Bytes → Type 0} {R : Type 0} {ls : List Bytes} → ((ms : List Bytes) → Q ms → R) → Then latin P Q ls → R
  then_last f (found {ls = ms} h x) = f ms x
  then_last f (skip h x) = then_last f x

  denotes_fit : {ls : List Bytes} (rs : List Record) → Denotes latin ls t rs → Every (Fitting (columns t)) rs
  denotes_fit rs d = then_last (λ a x. then_last (λ b y. then_last (λ c z. records_fit z) y) x) d.1

-- of a section's lines that begin with a `tbl` line and have verdict 0
pub record Sound (latin : Bool) (ls : List Bytes) : Type 0 where
  pub verdict : (outcome latin ls).verdict ≡ 0
  pub known : table_index ls < TABLES
  pub number : (outcome latin ls).table ≡ number_at (table_index ls)
  pub ordered : arranged (width (table_index ls)) (order_in ls) ≡ true
  pub fit : Every (Fitting (columns (table_index ls))) (records_of latin ls)

pub sound_section : (latin : Bool) (ls : List Bytes) → begins ls ≡ true → (outcome latin ls).verdict ≡ 0 → Sound latin ls
sound_section latin ls b e =
    let d = handed_denoted latin ls b e in
    let t = table_index ls in
    let rs = records_of latin ls in
    record {
      verdict = e;
      known = denoted_known t rs d;
      number = ap (λ (o : Outcome). o.table) (denotes_accepted latin ls t rs d);
      ordered = sound_arranged latin ls b e;
      fit = denotes_fit t rs d;
    }
