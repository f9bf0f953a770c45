-- Each number of a file's answer, for itself: given exactly if its condition holds at the place, and that of no number before it.
use mathlib.Core.Path.{◌≡◌, refl}
use mathlib.Core.Bool.{false}
use mathlib.Core.List.{List, []}
use mathlib.Core.Logic.{◌↔◌}
use Prim.Native.Nat.{ℕ, suc, ◌≤◌, ◌<◌}
use native.Mathlib.Omega.{arith}
use lib.ListN.{length}
use Rattle.page.specs.Bytes.{Bytes}
use Rattle.page.specs.Cut.{Section, sections, header_lines, trailer_lines}
use Rattle.page.specs.Head.{latin_of}
use Rattle.page.specs.Answers.{refusal}
use Rattle.page.specs.File.{limit, any, by_primary, by_second, Filed, filed_of, file_refusal}
use Rattle.page.specs.Model.{Content}
use Rattle.page.specs.Refusals.{Refused, section_numbers, gives, OneOf}
use Rattle.page.specs.Rules.{SoundHeader, SoundTrailer, Tables}
use Rattle.verdicts.specs.First.{First, NoneOf}
use Rattle.verdicts.specs.Headers.{HeaderFault}
use Rattle.verdicts.specs.Trailers.{TrailerFault}
use Rattle.verdicts.specs.Files.{Unsound, TableAgain, KeyAgain, Lost, FileRefused, too_long, header, trailer, section, table_again, primary_again, second_again, reference_lost}
use Rattle.grammar.proofs.Refuses.{refused_ranged}
use Rattle.grammar.proofs.Combined.{Miscombined, refused_25}
use Rattle.grammar.specs.Days.{Undated}
use Rattle.grammar.proofs.Dated.{refused_26}
use Rattle.verdicts.proofs.Files.{refuses_file_exactly}
use Rattle.laws.proofs.Numbers.{other_number}

-- "the first of 1, 2, 3": nothing before the sections is at fault
pub record Opens (s : Bytes) : Type 0 where
  pub size : length s ≤ limit
  pub header : SoundHeader (header_lines s)
  pub trailer : SoundTrailer (length (sections s)) (trailer_lines s)

-- and every section denotes its table
pub record Reads (s : Bytes) (cs : List Content) : Type 0 where
  pub opens : Opens s
  pub tables : Tables (latin_of s) (sections s) cs

module _ (s : Bytes) where
  given : (v i n : ℕ) → ¬ (v ≡ 0) → {A : Type 0} → (FileRefused s v i n → A) → (A → FileRefused s v i n) → file_refusal s ≡ refusal v i n ↔ A
  given v i n z f g = (λ e. f ((refuses_file_exactly s v i n).0 (e, z)), λ a. ((refuses_file_exactly s v i n).1 (g a)).0)

  -- no section is refused by a number that is none of a section's
  no_section : {ls : List Bytes} {k v n : ℕ} → gives section_numbers v ≡ false → Refused (latin_of s) ls k v n → ⊥
  no_section {ls} {k} {v} {n} h r = other_number section_numbers v v (refused_ranged (latin_of s) ls k v n r) h refl

  -- 1: "file over 16,777,216 bytes", with no place
  pub exactly_1 : (i n : ℕ) → file_refusal s ≡ refusal 1 i n ↔ ((limit < length s) × (i ≡ 0) × (n ≡ 0))
  unfolding any
  exactly_1 i n = given 1 i n (λ z. omega arith) into back
    where
      into : FileRefused s 1 i n → (limit < length s) × (i ≡ 0) × (n ≡ 0)
      into (too_long l a b c) = (l, b, c)
      into (header l h a b) = absurd (let z : ⊥ = omega arith in z)
      into (trailer l h t a b) = absurd (let z : ⊥ = omega arith in z)
      into (section l h t x k f r a) = absurd (no_section refl r)
      into (table_again cs l h t d c f a b w) = absurd (let z : ⊥ = omega arith in z)
      into (primary_again cs l h t d m e f a b w) = absurd (let z : ⊥ = omega arith in z)
      into (second_again cs l h t d m p e f a b w) = absurd (let z : ⊥ = omega arith in z)
      into (reference_lost cs l h t d m p q e f a b w) = absurd (let z : ⊥ = omega arith in z)

      back : (limit < length s) × (i ≡ 0) × (n ≡ 0) → FileRefused s 1 i n
      back x = too_long x.0 refl x.1 x.2

  -- 2: "header breaks a rule"
  pub exactly_2 : (i n : ℕ) → file_refusal s ≡ refusal 2 i n ↔ ((length s ≤ limit) × HeaderFault (header_lines s) n × (i ≡ 0))
  unfolding any
  exactly_2 i n = given 2 i n (λ z. omega arith) into back
    where
      into : FileRefused s 2 i n → (length s ≤ limit) × HeaderFault (header_lines s) n × (i ≡ 0)
      into (too_long l a b c) = absurd (let z : ⊥ = omega arith in z)
      into (header l h a b) = (l, h, b)
      into (trailer l h t a b) = absurd (let z : ⊥ = omega arith in z)
      into (section l h t x k f r a) = absurd (no_section refl r)
      into (table_again cs l h t d c f a b w) = absurd (let z : ⊥ = omega arith in z)
      into (primary_again cs l h t d m e f a b w) = absurd (let z : ⊥ = omega arith in z)
      into (second_again cs l h t d m p e f a b w) = absurd (let z : ⊥ = omega arith in z)
      into (reference_lost cs l h t d m p q e f a b w) = absurd (let z : ⊥ = omega arith in z)

      back : (length s ≤ limit) × HeaderFault (header_lines s) n × (i ≡ 0) → FileRefused s 2 i n
      back x = header x.0 x.1 refl x.2

  -- 3: "trailer breaks a rule"
  pub exactly_3 : (i n : ℕ) → file_refusal s ≡ refusal 3 i n ↔ ((length s ≤ limit) × SoundHeader (header_lines s) × TrailerFault (length (sections s)) (trailer_lines s) n × (i ≡ 0))
  unfolding any
  exactly_3 i n = given 3 i n (λ z. omega arith) into back
    where
      into : FileRefused s 3 i n → (length s ≤ limit) × SoundHeader (header_lines s) × TrailerFault (length (sections s)) (trailer_lines s) n × (i ≡ 0)
      into (too_long l a b c) = absurd (let z : ⊥ = omega arith in z)
      into (header l h a b) = absurd (let z : ⊥ = omega arith in z)
      into (trailer l h t a b) = (l, h, t, b)
      into (section l h t x k f r a) = absurd (no_section refl r)
      into (table_again cs l h t d c f a b w) = absurd (let z : ⊥ = omega arith in z)
      into (primary_again cs l h t d m e f a b w) = absurd (let z : ⊥ = omega arith in z)
      into (second_again cs l h t d m p e f a b w) = absurd (let z : ⊥ = omega arith in z)
      into (reference_lost cs l h t d m p q e f a b w) = absurd (let z : ⊥ = omega arith in z)

      back : (length s ≤ limit) × SoundHeader (header_lines s) × TrailerFault (length (sections s)) (trailer_lines s) n × (i ≡ 0) → FileRefused s 3 i n
      back x = trailer x.0 x.1 x.2 refl x.3

  -- a section's numbers: "the first unsound section in file order", by its own verdict and line
  pub exactly_section : (v i n : ℕ) → OneOf section_numbers v → file_refusal s ≡ refusal v i n ↔ (Opens s × ((x : Section) × (k : ℕ) × (f : First (Unsound (latin_of s)) [] (sections s) x) × Refused (latin_of s) x.lines k v n × (i ≡ suc (length f.before))))
  unfolding any
  exactly_section v i n g = given v i n (other 0 refl) into back
    where
      other : (w : ℕ) → gives section_numbers w ≡ false → ¬ (v ≡ w)
      other w = other_number section_numbers v w g

      into : FileRefused s v i n → Opens s × ((x : Section) × (k : ℕ) × (f : First (Unsound (latin_of s)) [] (sections s) x) × Refused (latin_of s) x.lines k v n × (i ≡ suc (length f.before)))
      into (too_long l a b c) = absurd (other 1 refl a)
      into (header l h a b) = absurd (other 2 refl a)
      into (trailer l h t a b) = absurd (other 3 refl a)
      into (section l h t x k f r a) = (record { size = l; header = h; trailer = t }, (x, k, f, r, a))
      into (table_again cs l h t d c f a b w) = absurd (other 17 refl a)
      into (primary_again cs l h t d m e f a b w) = absurd (other 18 refl a)
      into (second_again cs l h t d m p e f a b w) = absurd (other 19 refl a)
      into (reference_lost cs l h t d m p q e f a b w) = absurd (other 20 refl a)

      back : Opens s × ((x : Section) × (k : ℕ) × (f : First (Unsound (latin_of s)) [] (sections s) x) × Refused (latin_of s) x.lines k v n × (i ≡ suc (length f.before))) → FileRefused s v i n
      back x = section x.0.size x.0.header x.0.trailer x.1.0 x.1.1 x.1.2 x.1.3 x.1.4

  -- 25, one of them: "wrong combination", where the section's first failing line is a record that tells its feeder in neither way
  pub exactly_25 : (i n : ℕ) → file_refusal s ≡ refusal 25 i n ↔ (Opens s × ((x : Section) × (f : First (Unsound (latin_of s)) [] (sections s) x) × Miscombined (latin_of s) x.lines n × (i ≡ suc (length f.before))))
  unfolding any
  exactly_25 i n =
      let y = exactly_section 25 i n refl in (
        λ e. let z = y.0 e in (z.0, (z.1.0, z.1.2, ((refused_25 (latin_of s) z.1.0.lines z.1.1 n).0 z.1.3).1, z.1.4)),
        λ z. y.1 (z.0, (z.1.0, 432, z.1.1, (refused_25 (latin_of s) z.1.0.lines 432 n).1 (refl, z.1.2), z.1.3)),
      )

  -- 26, another: "no such day", where the first wrong field of the section's first failing line is within its range and no day
  pub exactly_26 : (i n : ℕ) → file_refusal s ≡ refusal 26 i n ↔ (Opens s × ((x : Section) × (k : ℕ) × (f : First (Unsound (latin_of s)) [] (sections s) x) × Undated (latin_of s) x.lines k n × (i ≡ suc (length f.before))))
  unfolding any
  exactly_26 i n =
      let y = exactly_section 26 i n refl in (
        λ e. let z = y.0 e in (z.0, (z.1.0, z.1.1, z.1.2, (refused_26 (latin_of s) z.1.0.lines z.1.1 n).0 z.1.3, z.1.4)),
        λ z. y.1 (z.0, (z.1.0, z.1.1, z.1.2, (refused_26 (latin_of s) z.1.0.lines z.1.1 n).1 z.1.3, z.1.4)),
      )

  -- 17: "table a second time", at the second table's line 1
  pub exactly_17 : (i n : ℕ) → file_refusal s ≡ refusal 17 i n ↔ ((cs : List Content) × Reads s cs × ((c : Content) × (f : First TableAgain [] cs c) × (i ≡ suc (length f.before))) × (n ≡ 1))
  unfolding any
  exactly_17 i n = given 17 i n (λ z. omega arith) into back
    where
      into : FileRefused s 17 i n → (cs : List Content) × Reads s cs × ((c : Content) × (f : First TableAgain [] cs c) × (i ≡ suc (length f.before))) × (n ≡ 1)
      into (too_long l a b c) = absurd (let z : ⊥ = omega arith in z)
      into (header l h a b) = absurd (let z : ⊥ = omega arith in z)
      into (trailer l h t a b) = absurd (let z : ⊥ = omega arith in z)
      into (section l h t x k f r a) = absurd (no_section refl r)
      into (table_again cs l h t d c f a b w) = (cs, record { opens = record { size = l; header = h; trailer = t }; tables = d }, (c, f, b), w)
      into (primary_again cs l h t d m e f a b w) = absurd (let z : ⊥ = omega arith in z)
      into (second_again cs l h t d m p e f a b w) = absurd (let z : ⊥ = omega arith in z)
      into (reference_lost cs l h t d m p q e f a b w) = absurd (let z : ⊥ = omega arith in z)

      back : (cs : List Content) × Reads s cs × ((c : Content) × (f : First TableAgain [] cs c) × (i ≡ suc (length f.before))) × (n ≡ 1) → FileRefused s 17 i n
      back x = table_again x.0 x.1.opens.size x.1.opens.header x.1.opens.trailer x.1.tables x.2.0 x.2.1 refl x.2.2 x.3

  -- 18: "primary key met before", at the first record whose was
  pub exactly_18 : (i n : ℕ) → file_refusal s ≡ refusal 18 i n ↔ ((cs : List Content) × Reads s cs × NoneOf TableAgain [] cs × ((e : Filed) × First (KeyAgain by_primary) [] (filed_of s) e × (i ≡ e.section) × (n ≡ e.line)))
  unfolding any
  exactly_18 i n = given 18 i n (λ z. omega arith) into back
    where
      into : FileRefused s 18 i n → (cs : List Content) × Reads s cs × NoneOf TableAgain [] cs × ((e : Filed) × First (KeyAgain by_primary) [] (filed_of s) e × (i ≡ e.section) × (n ≡ e.line))
      into (too_long l a b c) = absurd (let z : ⊥ = omega arith in z)
      into (header l h a b) = absurd (let z : ⊥ = omega arith in z)
      into (trailer l h t a b) = absurd (let z : ⊥ = omega arith in z)
      into (section l h t x k f r a) = absurd (no_section refl r)
      into (table_again cs l h t d c f a b w) = absurd (let z : ⊥ = omega arith in z)
      into (primary_again cs l h t d m e f a b w) = (cs, record { opens = record { size = l; header = h; trailer = t }; tables = d }, m, (e, f, b, w))
      into (second_again cs l h t d m p e f a b w) = absurd (let z : ⊥ = omega arith in z)
      into (reference_lost cs l h t d m p q e f a b w) = absurd (let z : ⊥ = omega arith in z)

      back : (cs : List Content) × Reads s cs × NoneOf TableAgain [] cs × ((e : Filed) × First (KeyAgain by_primary) [] (filed_of s) e × (i ≡ e.section) × (n ≡ e.line)) → FileRefused s 18 i n
      back x = primary_again x.0 x.1.opens.size x.1.opens.header x.1.opens.trailer x.1.tables x.2 x.3.0 x.3.1 refl x.3.2 x.3.3

  -- 19: "second key met before", at the first record whose was
  pub exactly_19 : (i n : ℕ) → file_refusal s ≡ refusal 19 i n ↔ ((cs : List Content) × Reads s cs × NoneOf TableAgain [] cs × NoneOf (KeyAgain by_primary) [] (filed_of s) × ((e : Filed) × First (KeyAgain by_second) [] (filed_of s) e × (i ≡ e.section) × (n ≡ e.line)))
  unfolding any
  exactly_19 i n = given 19 i n (λ z. omega arith) into back
    where
      into : FileRefused s 19 i n → (cs : List Content) × Reads s cs × NoneOf TableAgain [] cs × NoneOf (KeyAgain by_primary) [] (filed_of s) × ((e : Filed) × First (KeyAgain by_second) [] (filed_of s) e × (i ≡ e.section) × (n ≡ e.line))
      into (too_long l a b c) = absurd (let z : ⊥ = omega arith in z)
      into (header l h a b) = absurd (let z : ⊥ = omega arith in z)
      into (trailer l h t a b) = absurd (let z : ⊥ = omega arith in z)
      into (section l h t x k f r a) = absurd (no_section refl r)
      into (table_again cs l h t d c f a b w) = absurd (let z : ⊥ = omega arith in z)
      into (primary_again cs l h t d m e f a b w) = absurd (let z : ⊥ = omega arith in z)
      into (second_again cs l h t d m p e f a b w) = (cs, record { opens = record { size = l; header = h; trailer = t }; tables = d }, m, p, (e, f, b, w))
      into (reference_lost cs l h t d m p q e f a b w) = absurd (let z : ⊥ = omega arith in z)

      back : (cs : List Content) × Reads s cs × NoneOf TableAgain [] cs × NoneOf (KeyAgain by_primary) [] (filed_of s) × ((e : Filed) × First (KeyAgain by_second) [] (filed_of s) e × (i ≡ e.section) × (n ≡ e.line)) → FileRefused s 19 i n
      back x = second_again x.0 x.1.opens.size x.1.opens.header x.1.opens.trailer x.1.tables x.2 x.3 x.4.0 x.4.1 refl x.4.2 x.4.3

  -- 20: "a reference finds no record", at the first record of which one does not
  pub exactly_20 : (i n : ℕ) → file_refusal s ≡ refusal 20 i n ↔ ((cs : List Content) × Reads s cs × NoneOf TableAgain [] cs × NoneOf (KeyAgain by_primary) [] (filed_of s) × NoneOf (KeyAgain by_second) [] (filed_of s) × ((e : Filed) × First (Lost (filed_of s)) [] (filed_of s) e × (i ≡ e.section) × (n ≡ e.line)))
  unfolding any
  exactly_20 i n = given 20 i n (λ z. omega arith) into back
    where
      into : FileRefused s 20 i n → (cs : List Content) × Reads s cs × NoneOf TableAgain [] cs × NoneOf (KeyAgain by_primary) [] (filed_of s) × NoneOf (KeyAgain by_second) [] (filed_of s) × ((e : Filed) × First (Lost (filed_of s)) [] (filed_of s) e × (i ≡ e.section) × (n ≡ e.line))
      into (too_long l a b c) = absurd (let z : ⊥ = omega arith in z)
      into (header l h a b) = absurd (let z : ⊥ = omega arith in z)
      into (trailer l h t a b) = absurd (let z : ⊥ = omega arith in z)
      into (section l h t x k f r a) = absurd (no_section refl r)
      into (table_again cs l h t d c f a b w) = absurd (let z : ⊥ = omega arith in z)
      into (primary_again cs l h t d m e f a b w) = absurd (let z : ⊥ = omega arith in z)
      into (second_again cs l h t d m p e f a b w) = absurd (let z : ⊥ = omega arith in z)
      into (reference_lost cs l h t d m p q e f a b w) = (cs, record { opens = record { size = l; header = h; trailer = t }; tables = d }, m, p, q, (e, f, b, w))

      back : (cs : List Content) × Reads s cs × NoneOf TableAgain [] cs × NoneOf (KeyAgain by_primary) [] (filed_of s) × NoneOf (KeyAgain by_second) [] (filed_of s) × ((e : Filed) × First (Lost (filed_of s)) [] (filed_of s) e × (i ≡ e.section) × (n ≡ e.line)) → FileRefused s 20 i n
      back x = reference_lost x.0 x.1.opens.size x.1.opens.header x.1.opens.trailer x.1.tables x.2 x.3 x.4 x.5.0 x.5.1 refl x.5.2 x.5.3
