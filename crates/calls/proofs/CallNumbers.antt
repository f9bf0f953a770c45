-- Each number of the calls other than `check`, exactly: its condition holds, and none that is asked before it. Assumes nothing.
use Rattle.std.specs.Prelude.{Err}
use mathlib.Core.Path.{◌≡◌, refl, ap, sym, ◌∙◌}
use mathlib.Core.Bool.{Bool, true, false, not, ◌||◌}
use mathlib.Core.List.{List}
use mathlib.Core.Logic.{◌⊎◌, inl, inr, ◌↔◌}
use Prim.Native.Nat.{ℕ, suc, ◌-◌, ◌<◌, ◌≤◌}
use native.Mathlib.Omega.{arith}
use lib.Dec.{eqb, ltb}
use lib.ListN.{length}
use borrow.Author.Tests.{eqb-true, ne_eqb, ltb-true, ltb-false}
use Rattle.page.specs.Bytes.{Bytes, pick}
use Rattle.page.specs.Tables.{column_at, width}
use Rattle.page.specs.Cut.{sections, header_lines}
use Rattle.page.specs.Header.{head_of}
use Rattle.page.specs.Head.{latin_of}
use Rattle.page.specs.Section.{outcome, refused}
use Rattle.page.specs.Records.{table_index}
use Rattle.page.specs.Answers.{refusal, sound, earlier, refuse_if}
use Rattle.page.specs.File.{limit, too_long, found, any, row_given, row_of, header_refusal, file_refusal}
use Rattle.page.specs.Reading.{outside, section_at, row_at, find_refusal, section_of, list_refusal, list_of, verdict_of, value_refusal, value_at, value_of}
use Rattle.page.specs.Handing.{text_refusal, own_text, text_owner, copied, text_out, cells_of, table_refusal, cells_refusal, table_of}
use Rattle.page.specs.Writing.{put_refusal}
use Rattle.page.specs.Refusals.{Refused, section_numbers, header_numbers, file_numbers, gives, OneOf, SoundOr}
use Rattle.page.specs.declared.Refusal.{Refusal}
use Rattle.page.specs.declared.Finding.{Finding}
use Rattle.verdicts.specs.Headers.{HeaderFault}
use Rattle.calls.specs.Turns.{Outside, Within}
use Rattle.laws.proofs.Decides.{Decides, holds, fails, one_of, below}
use Rattle.laws.proofs.Tests.{is_d}
use Rattle.verdicts.proofs.Headers.{header_refused_exactly, header_settled}
use Rattle.grammar.proofs.Refuses.{refuses_exactly, refused_ranged, section_settled}
use Rattle.verdicts.proofs.Numbers.{exactly_section}
use Rattle.calls.proofs.PromisesListing.{header_told, file_told}
use Rattle.calls.proofs.CallAnswers.{some_number, answered_exactly}
use Rattle.calls.proofs.Turns.{earlier_exactly, turned, via, second, outside_d, within_not, not_within}
use Rattle.laws.proofs.Earlier.{earlier_none}
use Rattle.laws.proofs.Numbers.{other_number, apart}

-- what the header and the file never answer

-- an answer that is 0 or one of a list is no other number
pub told_other : (ns : List ℕ) {a x : Refusal} → SoundOr ns a.number → ¬ (x.number ≡ 0) → gives ns x.number ≡ false → ¬ (a ≡ x)
told_other ns {a} {x} (inl h) z l e = z (ap (λ (q : Refusal). q.number) (sym e) ∙ h)
told_other ns {a} {x} (inr g) z l e = other_number ns a.number x.number g l (ap (λ (q : Refusal). q.number) e)

-- a section's number, as the file's, has a section's place; and the file gives no number but its own
pub file_other : (s : Bytes) (v : ℕ) → OneOf section_numbers v ⊎ (gives file_numbers v ≡ false) → ¬ (v ≡ 0) → ¬ (file_refusal s ≡ refusal v 0 0)
file_other s v (inl g) z e = placed ((exactly_section s v 0 0 g).0 e).1.4
  where
    placed : {n : ℕ} → 0 ≡ suc n → ⊥
    placed e = omega arith
file_other s v (inr l) z e = told_other file_numbers (file_told s) z l e

-- 1 and 2, of the header

-- 1: "file over 16,777,216 bytes"
pub header_1 : (s : Bytes) → header_refusal s ≡ refusal 1 0 0 ↔ (limit < length s)
unfolding header_refusal too_long earlier refuse_if
header_1 s = (by (below limit (length s)), back (below limit (length s)))
  where
    other : (f : Finding) → (f ≡ record { verdict = 0; line = 0 }) ⊎ ((n : ℕ) × (f ≡ record { verdict = 2; line = n })) → found f ≡ refusal 1 0 0 → ⊥
    other f (inl h) e = let k : f.verdict ≡ 0 = ap (λ (q : Finding). q.verdict) h in let m : f.verdict ≡ 1 = ap (λ (q : Refusal). q.number) e in omega arith
    other f (inr h) e = let k : f.verdict ≡ 2 = ap (λ (q : Finding). q.verdict) h.1 in let m : f.verdict ≡ 1 = ap (λ (q : Refusal). q.number) e in omega arith

    by : {b : Bool} → Decides (limit < length s) b → earlier (refuse_if b 1) (found (head_of (header_lines s))) ≡ refusal 1 0 0 → limit < length s
    by (holds h) e = h
    by (fails h) e = absurd (other (head_of (header_lines s)) (header_settled (header_lines s)) e)

    back : {b : Bool} → Decides (limit < length s) b → limit < length s → earlier (refuse_if b 1) (found (head_of (header_lines s))) ≡ refusal 1 0 0
    back (holds h) l = refl
    back (fails h) l = absurd (h l)

-- 2: "header breaks a rule", at its line
pub header_2 : (s : Bytes) (n : ℕ) → header_refusal s ≡ refusal 2 0 n ↔ ((length s ≤ limit) × HeaderFault (header_lines s) n)
unfolding header_refusal too_long earlier refuse_if
header_2 s n = (by (ltb limit (length s)) refl, λ h. back (ltb limit (length s)) refl h)
  where
    finding : (f : Finding) → found f ≡ refusal 2 0 n → f ≡ record { verdict = 2; line = n }
    finding f e = ap (λ (q : Refusal). record { verdict = q.number; line = q.line }) e

    by : (b : Bool) → ltb limit (length s) ≡ b → earlier (refuse_if b 1) (found (head_of (header_lines s))) ≡ refusal 2 0 n → (length s ≤ limit) × HeaderFault (header_lines s) n
    by true h e = let k : ◌≡◌ {A = ℕ} 1 2 = ap (λ (q : Refusal). q.number) e in absurd (let w : ⊥ = omega arith in w)
    by false h e = (ltb-false limit (length s) h, (header_refused_exactly (header_lines s) n).0 (finding (head_of (header_lines s)) e))

    back : (b : Bool) → ltb limit (length s) ≡ b → (length s ≤ limit) × HeaderFault (header_lines s) n → earlier (refuse_if b 1) (found (head_of (header_lines s))) ≡ refusal 2 0 n
    back true h x = absurd (let w : ⊥ = omega (arith, ltb-true limit (length s) h, x) in w)
    back false h x = ap found ((header_refused_exactly (header_lines s) n).1 x.1)

-- nothing is wrong before the sections
abbrev pub Open : Bytes → Type 0
Open s = (header_refusal s).number ≡ 0

-- what follows the header's answer
pub after_header : (s : Bytes) (b : Refusal) (x : Refusal) → ¬ (x.number ≡ 0) → gives header_numbers x.number ≡ false → earlier (header_refusal s) b ≡ x ↔ (Open s × (b ≡ x))
after_header s b x z l = (λ e. into ((earlier_exactly (header_refusal s) b x z).0 e), λ h. (earlier_exactly (header_refusal s) b x z).1 (inr h))
  where
    into : (header_refusal s ≡ x) ⊎ (Open s × (b ≡ x)) → Open s × (b ≡ x)
    into (inl e) = absurd (told_other header_numbers (header_told s) z l e)
    into (inr h) = h

-- one question alone
if_exactly : {A : Type 0} {b : Bool} (v : ℕ) → ¬ (v ≡ 0) → Decides A b → refuse_if b v ≡ refusal v 0 0 ↔ A
unfolding refuse_if
if_exactly v z (holds a) = (λ e. a, λ x. refl)
if_exactly v z (fails n) = (λ e. absurd (z (sym (ap (λ (q : Refusal). q.number) e))), λ x. absurd (n x))

find_24 : (s : Bytes) (i : ℕ) → find_refusal s i ≡ refusal 24 0 0 ↔ (Open s × Outside i (length (sections s)))
unfolding find_refusal any
find_24 s i =
    via (after_header s (refuse_if (outside i (length (sections s))) 24) (refusal 24 0 0) (some_number 24 (omega arith)) refl)
    (second (if_exactly 24 (some_number 24 (omega arith)) (outside_d i (length (sections s)))))

-- `section`: 24, "no such section"
pub section_24 : (s : Bytes) (i : ℕ) → section_of s i ≡ Err (refusal 24 0 0) ↔ (Open s × Outside i (length (sections s)))
unfolding section_of
section_24 s i = via (answered_exactly (find_refusal s i) (refusal 24 0 0) (some_number 24 (omega arith)) (row_at s i)) (find_24 s i)

-- `list`: 21, "Too few rows"
pub list_21 : (s : Bytes) (room : ℕ) → list_of s room ≡ Err (refusal 21 0 0) ↔ (Open s × (room < length (sections s)))
unfolding list_of list_refusal any
list_21 s room =
    via (answered_exactly (earlier (list_refusal s room) (file_refusal s)) (refusal 21 0 0) (some_number 21 (omega arith)) tt)
    (via (λ e. into ((earlier_exactly (list_refusal s room) (file_refusal s) (refusal 21 0 0) (some_number 21 (omega arith))).0 e), λ e. (earlier_exactly (list_refusal s room) (file_refusal s) (refusal 21 0 0) (some_number 21 (omega arith))).1 (inl e))
    (via (after_header s (refuse_if (ltb room (length (sections s))) 21) (refusal 21 0 0) (some_number 21 (omega arith)) refl) (second (if_exactly 21 (some_number 21 (omega arith)) (below room (length (sections s)))))))
  where
    into : (list_refusal s room ≡ refusal 21 0 0) ⊎ (((list_refusal s room).number ≡ 0) × (file_refusal s ≡ refusal 21 0 0)) → list_refusal s room ≡ refusal 21 0 0
    into (inl e) = e
    into (inr e) = absurd (file_other s 21 (inr refl) (some_number 21 (omega arith)) e.1)

-- a call that nothing refuses

pub none_exactly : (a b : Refusal) → (earlier a b).number ≡ 0 ↔ ((a.number ≡ 0) × (b.number ≡ 0))
unfolding earlier
none_exactly a b = (earlier_none a b, λ h. rw h.0 h.1)

pub if_none : {A : Type 0} {b : Bool} (v : ℕ) → ¬ (v ≡ 0) → Decides A b → (refuse_if b v).number ≡ 0 ↔ (¬ A)
unfolding refuse_if
if_none v z (holds a) = (λ e. absurd (z e), λ n. absurd (n a))
if_none v z (fails n) = (λ e. n, λ m. refl)

pub find_open : (s : Bytes) (i : ℕ) → (find_refusal s i).number ≡ 0 ↔ (Open s × Within i (length (sections s)))
unfolding find_refusal
find_open s i =
    via (none_exactly (header_refusal s) (refuse_if (outside i (length (sections s))) 24))
    (second (via (if_none 24 (some_number 24 (omega arith)) (outside_d i (length (sections s)))) (within_not i (length (sections s)), not_within i (length (sections s)))))

pub verdict_open : (s : Bytes) (i : ℕ) → (verdict_of i (row_at s i)).number ≡ 0 ↔ (row_at s i).verdict ≡ 0
unfolding verdict_of
verdict_open s i = (by (eqb (row_at s i).verdict 0) refl, λ e. rw e)
  where
    by : (b : Bool) → eqb (row_at s i).verdict 0 ≡ b → (pick b sound (refusal (row_at s i).verdict i (row_at s i).line)).number ≡ 0 → (row_at s i).verdict ≡ 0
    by true h e = eqb-true (row_at s i).verdict 0 h
    by false h e = e

-- a section's own verdict, with its place: the section is refused so
pub verdict_exactly : (s : Bytes) (i v j n : ℕ) → ¬ (v ≡ 0) → verdict_of i (row_at s i) ≡ refusal v j n ↔ ((j ≡ i) × ((k : ℕ) × Refused (latin_of s) (section_at s i).lines k v n))
unfolding verdict_of row_at row_of row_given
verdict_exactly s i v j n z = (into (section_settled (latin_of s) (section_at s i).lines), back)
  where
    into : ((outcome (latin_of s) (section_at s i).lines).verdict ≡ 0)
        ⊎ ((k : ℕ) × (v : ℕ) × (n : ℕ) × (outcome (latin_of s) (section_at s i).lines ≡ refused k v n) × Refused (latin_of s) (section_at s i).lines k v n) →
        verdict_of i (row_at s i) ≡ refusal v j n → (j ≡ i) × ((k : ℕ) × Refused (latin_of s) (section_at s i).lines k v n)
    into (inl h) e = absurd (z (sym (ap (λ (q : Refusal). q.number) (rw h at e))))
    into (inr (k, w, m, h, r)) e =
        let y : ¬ (w ≡ 0) = ((refuses_exactly (latin_of s) (section_at s i).lines k w m).1 r).1 in
        let f : refusal w i m ≡ refusal v j n = rw (h, ne_eqb w 0 y) at e in
        let a : w ≡ v = ap (λ (q : Refusal). q.number) f in
        let b : i ≡ j = ap (λ (q : Refusal). q.section) f in
        let c : m ≡ n = ap (λ (q : Refusal). q.line) f in
        (sym b, (k, rw (a, c) at r))

    back : (j ≡ i) × ((k : ℕ) × Refused (latin_of s) (section_at s i).lines k v n) → verdict_of i (row_at s i) ≡ refusal v j n
    back (e, (k, r)) = rw (((refuses_exactly (latin_of s) (section_at s i).lines k v n).1 r).0, ne_eqb v 0 z, e)

-- what the calls that read a section answer before they look at its records: 24, or the section's verdict

-- a section's verdict, handed on
abbrev pub SectionRefused : Bytes → ℕ → ℕ → ℕ → ℕ → Type 0
SectionRefused s i v j n = (Open s × Within i (length (sections s))) × ((j ≡ i) × ((k : ℕ) × Refused (latin_of s) (section_at s i).lines k v n))

find_else : (s : Bytes) (i : ℕ) (x : Refusal) → ¬ (x.number ≡ 0) → gives header_numbers x.number ≡ false → ¬ (x.number ≡ 24) → ¬ (find_refusal s i ≡ x)
unfolding find_refusal refuse_if
find_else s i x z l other e = by (outside i (length (sections s))) ((after_header s (refuse_if (outside i (length (sections s))) 24) x z l).0 e).1
  where
    by : (b : Bool) → refuse_if b 24 ≡ x → ⊥
    by true e = other (sym (ap (λ (q : Refusal). q.number) e))
    by false e = z (sym (ap (λ (q : Refusal). q.number) e))

-- a further answer after the section's verdict, which is not v
after_verdict : (s : Bytes) (i : ℕ) (b : Refusal) (v j n : ℕ) → OneOf section_numbers v → ((x : Refusal) → b ≡ x → ¬ (x.number ≡ v)) →
    earlier (find_refusal s i) (earlier (verdict_of i (row_at s i)) b) ≡ refusal v j n ↔ SectionRefused s i v j n
unfolding any
after_verdict s i b v j n g other = (into, back)
  where
    z : ¬ (v ≡ 0)
    z = other_number section_numbers v 0 g refl

    into : earlier (find_refusal s i) (earlier (verdict_of i (row_at s i)) b) ≡ refusal v j n → SectionRefused s i v j n
    into e = first ((earlier_exactly (find_refusal s i) (earlier (verdict_of i (row_at s i)) b) (refusal v j n) z).0 e)
      where
        then : (verdict_of i (row_at s i) ≡ refusal v j n) ⊎ (((verdict_of i (row_at s i)).number ≡ 0) × (b ≡ refusal v j n)) → (j ≡ i) × ((k : ℕ) × Refused (latin_of s) (section_at s i).lines k v n)
        then (inl h) = (verdict_exactly s i v j n z).0 h
        then (inr h) = absurd (other (refusal v j n) h.1 refl)

        first : (find_refusal s i ≡ refusal v j n) ⊎ (((find_refusal s i).number ≡ 0) × (earlier (verdict_of i (row_at s i)) b ≡ refusal v j n)) → SectionRefused s i v j n
        first (inl h) = absurd (find_else s i (refusal v j n) z (apart section_numbers header_numbers v refl g) (other_number section_numbers v 24 g refl) h)
        first (inr h) = ((find_open s i).0 h.0, then ((earlier_exactly (verdict_of i (row_at s i)) b (refusal v j n) z).0 h.1))

    back : SectionRefused s i v j n → earlier (find_refusal s i) (earlier (verdict_of i (row_at s i)) b) ≡ refusal v j n
    back h =
        (earlier_exactly (find_refusal s i) (earlier (verdict_of i (row_at s i)) b) (refusal v j n) z).1
        (inr ((find_open s i).1 h.0, (earlier_exactly (verdict_of i (row_at s i)) b (refusal v j n) z).1 (inl ((verdict_exactly s i v j n z).1 h.1))))

-- `value`

-- "24 for the record or field"
abbrev pub NoValue : Bytes → ℕ → ℕ → ℕ → Type 0
NoValue s i r f = Outside r (row_at s i).records ⊎ Outside f (width (table_index (section_at s i).lines))

no_value_d : (s : Bytes) (i r f : ℕ) → Decides (NoValue s i r f) (outside r (row_at s i).records || outside f (width (table_index (section_at s i).lines)))
no_value_d s i r f = one_of (outside_d r (row_at s i).records) (outside_d f (width (table_index (section_at s i).lines)))

-- what a value is read from: the header is sound, and the section is there, is sound and has that record and field
pub record Given (s : Bytes) (i r f : ℕ) : Type 0 where
  pub opens : Open s
  pub section : Within i (length (sections s))
  pub sound : (row_at s i).verdict ≡ 0
  pub record_there : Within r (row_at s i).records
  pub field_there : Within f (width (table_index (section_at s i).lines))

pub value_given : (s : Bytes) (i r f : ℕ) → (value_refusal s i r f).number ≡ 0 ↔ Given s i r f
unfolding value_refusal
value_given s i r f = (into, back)
  where
    into : (value_refusal s i r f).number ≡ 0 → Given s i r f
    into e =
        let a = (none_exactly (find_refusal s i) _).0 e in
        let b = (none_exactly (verdict_of i (row_at s i)) _).0 a.1 in
        let c = (find_open s i).0 a.0 in
        let n = (if_none 24 (some_number 24 (omega arith)) (no_value_d s i r f)).0 b.1 in
        record {
          opens = c.0;
          section = c.1;
          sound = (verdict_open s i).0 b.0;
          record_there = within_not r (row_at s i).records (λ o. n (inl o));
          field_there = within_not f (width (table_index (section_at s i).lines)) (λ o. n (inr o));
        }

    neither : Given s i r f → ¬ NoValue s i r f
    neither g (inl o) = not_within r (row_at s i).records g.record_there o
    neither g (inr o) = not_within f (width (table_index (section_at s i).lines)) g.field_there o

    back : Given s i r f → (value_refusal s i r f).number ≡ 0
    back g =
        (none_exactly (find_refusal s i) _).1 (
          (find_open s i).1 (g.opens, g.section),
          (none_exactly (verdict_of i (row_at s i)) _).1
              ((verdict_open s i).1 g.sound, (if_none 24 (some_number 24 (omega arith)) (no_value_d s i r f)).1 (neither g)),
        )

-- "24 for the section, the section's verdict, 24 for the record or field"
abbrev pub Nowhere : Bytes → ℕ → ℕ → ℕ → Type 0
Nowhere s i r f = (Open s × Outside i (length (sections s))) ⊎ ((Open s × Within i (length (sections s))) × (((row_at s i).verdict ≡ 0) × NoValue s i r f))

pub value_refused_24 : (s : Bytes) (i r f : ℕ) → value_refusal s i r f ≡ refusal 24 0 0 ↔ Nowhere s i r f
unfolding value_refusal any
value_refused_24 s i r f = (λ e. first ((earlier_exactly (find_refusal s i) _ (refusal 24 0 0) z).0 e), back)
  where
    z : ¬ ((refusal 24 0 0).number ≡ 0)
    z e = omega arith

    verdict_other : ¬ (verdict_of i (row_at s i) ≡ refusal 24 0 0)
    verdict_other e =
        let h = (verdict_exactly s i 24 0 0 z).0 e in
        other_number section_numbers 24 24 (refused_ranged (latin_of s) (section_at s i).lines h.1.0 24 0 h.1.1) refl refl

    then : (verdict_of i (row_at s i) ≡ refusal 24 0 0)
        ⊎ (((verdict_of i (row_at s i)).number ≡ 0) × (refuse_if (outside r (row_at s i).records || outside f (width (table_index (section_at s i).lines))) 24 ≡ refusal 24 0 0)) →
        ((row_at s i).verdict ≡ 0) × NoValue s i r f
    then (inl e) = absurd (verdict_other e)
    then (inr e) = ((verdict_open s i).0 e.0, (if_exactly 24 z (no_value_d s i r f)).0 e.1)

    first : (find_refusal s i ≡ refusal 24 0 0)
        ⊎ (((find_refusal s i).number ≡ 0)
        × (earlier (verdict_of i (row_at s i)) (refuse_if (outside r (row_at s i).records || outside f (width (table_index (section_at s i).lines))) 24) ≡ refusal 24 0 0)) →
        Nowhere s i r f
    first (inl e) = inl ((find_24 s i).0 e)
    first (inr e) = inr ((find_open s i).0 e.0, then ((earlier_exactly (verdict_of i (row_at s i)) _ (refusal 24 0 0) z).0 e.1))

    back : Nowhere s i r f → value_refusal s i r f ≡ refusal 24 0 0
    back (inl h) = (earlier_exactly (find_refusal s i) _ (refusal 24 0 0) z).1 (inl ((find_24 s i).1 h))
    back (inr h) =
        (earlier_exactly (find_refusal s i) _ (refusal 24 0 0) z).1
        (inr (
          (find_open s i).1 h.0,
          (earlier_exactly (verdict_of i (row_at s i)) _ (refusal 24 0 0) z).1
              (inr ((verdict_open s i).1 h.1.0, (if_exactly 24 z (no_value_d s i r f)).1 h.1.1)),
        ))

-- 24
pub value_24 : (s : Bytes) (i r f : ℕ) → value_of s i r f ≡ Err (refusal 24 0 0) ↔ Nowhere s i r f
unfolding value_of
value_24 s i r f = via (answered_exactly (value_refusal s i r f) (refusal 24 0 0) (some_number 24 (omega arith)) (value_at (section_at s i) r f)) (value_refused_24 s i r f)

pub if_number : (b : Bool) (u v : ℕ) → ¬ (v ≡ 0) → ¬ (u ≡ v) → (x : Refusal) → refuse_if b u ≡ x → ¬ (x.number ≡ v)
unfolding refuse_if
if_number true u v z w x e h = w (ap (λ (q : Refusal). q.number) e ∙ h)
if_number false u v z w x e h = z (sym (ap (λ (q : Refusal). q.number) e ∙ h))

-- a section's numbers: its own verdict, with its place
pub value_verdict : (s : Bytes) (i r f v j n : ℕ) → OneOf section_numbers v → value_of s i r f ≡ Err (refusal v j n) ↔ SectionRefused s i v j n
unfolding value_of value_refusal any
value_verdict s i r f v j n g =
    let z : ¬ (v ≡ 0) = other_number section_numbers v 0 g refl in
    via (answered_exactly (value_refusal s i r f) (refusal v j n) z (value_at (section_at s i) r f))
    (after_verdict s i (refuse_if (outside r (row_at s i).records || outside f (width (table_index (section_at s i).lines))) 24) v j n g
    (if_number (outside r (row_at s i).records || outside f (width (table_index (section_at s i).lines))) 24 v z (λ e. other_number section_numbers v 24 g refl (sym e))))

-- `text`: 11, "not a text", after all that refuses a value; any other refusal but 21 is the value's

-- a column of texts
abbrev pub IsText : Bytes → ℕ → ℕ → Type 0
IsText s i f = (column_at (table_index (section_at s i).lines) (f - 1)).text ≡ true

value_other : (s : Bytes) (i r f : ℕ) → ¬ (value_refusal s i r f ≡ refusal 11 0 0)
unfolding value_refusal any
value_other s i r f e =
    let h = (after_verdict s i (refuse_if (outside r (row_at s i).records || outside f (width (table_index (section_at s i).lines))) 24) 11 0 0 refl
    (if_number (outside r (row_at s i).records || outside f (width (table_index (section_at s i).lines))) 24 11 (some_number 11 (omega arith)) (λ (e : 24 ≡ 11). omega arith))).0 e in
    omega (arith, h.0.1, h.1.0)

pub text_11 : (s : Bytes) (i r f room : ℕ) → text_out s i r f room ≡ Err (refusal 11 0 0) ↔ (Given s i r f × (¬ IsText s i f))
unfolding text_out put_refusal text_refusal
text_11 s i r f room =
    via (answered_exactly (put_refusal (text_refusal s i r f) (own_text s i r f) room) (refusal 11 0 0) (some_number 11 (omega arith)) (copied (own_text s i r f) (text_owner s i r f)))
    (via (outer, inner)
    (value_first, value_back))
  where
    z : ¬ ((refusal 11 0 0).number ≡ 0)
    z e = omega arith

    outer : earlier (text_refusal s i r f) (refuse_if (ltb room (length (own_text s i r f)) || ltb limit (length (own_text s i r f))) 21) ≡ refusal 11 0 0 → text_refusal s i r f ≡ refusal 11 0 0
    outer e = by ((earlier_exactly (text_refusal s i r f) _ (refusal 11 0 0) z).0 e)
      where
        by : (text_refusal s i r f ≡ refusal 11 0 0)
            ⊎ (((text_refusal s i r f).number ≡ 0) × (refuse_if (ltb room (length (own_text s i r f)) || ltb limit (length (own_text s i r f))) 21 ≡ refusal 11 0 0)) →
            text_refusal s i r f ≡ refusal 11 0 0
        by (inl h) = h
        by (inr h) = absurd (if_number (ltb room (length (own_text s i r f)) || ltb limit (length (own_text s i r f))) 21 11 z (λ (e : 21 ≡ 11). omega arith) (refusal 11 0 0) h.1 refl)

    inner : text_refusal s i r f ≡ refusal 11 0 0 → earlier (text_refusal s i r f) (refuse_if (ltb room (length (own_text s i r f)) || ltb limit (length (own_text s i r f))) 21) ≡ refusal 11 0 0
    inner e = (earlier_exactly (text_refusal s i r f) _ (refusal 11 0 0) z).1 (inl e)

    value_first : text_refusal s i r f ≡ refusal 11 0 0 → Given s i r f × (¬ IsText s i f)
    value_first e = by ((earlier_exactly (value_refusal s i r f) _ (refusal 11 0 0) z).0 e)
      where
        by : (value_refusal s i r f ≡ refusal 11 0 0)
            ⊎ (((value_refusal s i r f).number ≡ 0) × (refuse_if (not (column_at (table_index (section_at s i).lines) (f - 1)).text) 11 ≡ refusal 11 0 0)) → Given s i r f × (¬ IsText s i f)
        by (inl h) = absurd (value_other s i r f h)
        by (inr h) = ((value_given s i r f).0 h.0, (if_exactly 11 z (turned (is_d (column_at (table_index (section_at s i).lines) (f - 1)).text))).0 h.1)

    value_back : Given s i r f × (¬ IsText s i f) → text_refusal s i r f ≡ refusal 11 0 0
    value_back h =
        (earlier_exactly (value_refusal s i r f) _ (refusal 11 0 0) z).1
        (inr ((value_given s i r f).1 h.0, (if_exactly 11 z (turned (is_d (column_at (table_index (section_at s i).lines) (f - 1)).text))).1 h.1))

-- what is asked first decides, unless the answer is the later question's
pub first_alone : (a : Refusal) (b : Bool) (u : ℕ) (x : Refusal) → ¬ (x.number ≡ 0) → ¬ (x ≡ refusal u 0 0) → earlier a (refuse_if b u) ≡ x ↔ a ≡ x
unfolding refuse_if
first_alone a b u x z other = (λ e. into b ((earlier_exactly a (refuse_if b u) x z).0 e), λ e. (earlier_exactly a (refuse_if b u) x z).1 (inl e))
  where
    into : (b : Bool) → (a ≡ x) ⊎ ((a.number ≡ 0) × (refuse_if b u ≡ x)) → a ≡ x
    into b (inl e) = e
    into true (inr e) = absurd (other (sym e.1))
    into false (inr e) = absurd (z (sym (ap (λ (q : Refusal). q.number) e.1)))

pub text_else : (s : Bytes) (i r f room : ℕ) (x : Refusal) → ¬ (x.number ≡ 0) → ¬ (x ≡ refusal 11 0 0) → ¬ (x ≡ refusal 21 0 0) →
    text_out s i r f room ≡ Err x ↔ value_of s i r f ≡ Err x
unfolding text_out put_refusal text_refusal value_of
text_else s i r f room x z other full =
    via (answered_exactly (put_refusal (text_refusal s i r f) (own_text s i r f) room) x z (copied (own_text s i r f) (text_owner s i r f)))
    (via (first_alone (text_refusal s i r f) (ltb room (length (own_text s i r f)) || ltb limit (length (own_text s i r f))) 21 x z full)
    (via (first_alone (value_refusal s i r f) (not (column_at (table_index (section_at s i).lines) (f - 1)).text) 11 x z other)
    ((answered_exactly (value_refusal s i r f) x z (value_at (section_at s i) r f)).1, (answered_exactly (value_refusal s i r f) x z (value_at (section_at s i) r f)).0)))

-- `table`

pub table_first : (s : Bytes) (i room : ℕ) (x : Refusal) → ¬ (x.number ≡ 0) → ¬ (x ≡ refusal 21 0 0) → table_of s i room ≡ Err x ↔ table_refusal s i ≡ x
unfolding table_of cells_refusal
table_first s i room x z full =
    via (answered_exactly (cells_refusal s i room) x z (length (cells_of (section_at s i))))
    (first_alone (table_refusal s i) (ltb room (length (cells_of (section_at s i)))) 21 x z full)

-- 24: no such section
pub table_24 : (s : Bytes) (i room : ℕ) → table_of s i room ≡ Err (refusal 24 0 0) ↔ (Open s × Outside i (length (sections s)))
unfolding table_refusal any
table_24 s i room =
    via (table_first s i room (refusal 24 0 0) (some_number 24 (omega arith)) (λ e. let k : ◌≡◌ {A = ℕ} 24 21 = ap (λ (q : Refusal). q.number) e in omega arith))
    (via (
      λ e. into ((earlier_exactly (find_refusal s i) (verdict_of i (row_at s i)) (refusal 24 0 0) (some_number 24 (omega arith))).0 e),
      λ e. (earlier_exactly (find_refusal s i) (verdict_of i (row_at s i)) (refusal 24 0 0) (some_number 24 (omega arith))).1 (inl e),
    ) (find_24 s i))
  where
    into : (find_refusal s i ≡ refusal 24 0 0) ⊎ (((find_refusal s i).number ≡ 0) × (verdict_of i (row_at s i) ≡ refusal 24 0 0)) → find_refusal s i ≡ refusal 24 0 0
    into (inl e) = e
    into (inr e) =
        let h = (verdict_exactly s i 24 0 0 (some_number 24 (omega arith))).0 e.1 in
        absurd (other_number section_numbers 24 24 (refused_ranged (latin_of s) (section_at s i).lines h.1.0 24 0 h.1.1) refl refl)

-- a section's numbers: its own verdict, with its place
pub table_verdict : (s : Bytes) (i room v j n : ℕ) → OneOf section_numbers v → table_of s i room ≡ Err (refusal v j n) ↔ SectionRefused s i v j n
unfolding table_refusal refuse_if any
table_verdict s i room v j n g =
    via (table_first s i room (refusal v j n) z full)
    (via (λ e. into e, λ e. out e) (after_verdict s i sound v j n g (λ x e h. z (sym (ap (λ (q : Refusal). q.number) e ∙ h)))))
  where
    z : ¬ (v ≡ 0)
    z = other_number section_numbers v 0 g refl

    full : ¬ (refusal v j n ≡ refusal 21 0 0)
    full e = other_number section_numbers v 21 g refl (ap (λ (q : Refusal). q.number) e)

    same : earlier (verdict_of i (row_at s i)) sound ≡ refusal v j n ↔ verdict_of i (row_at s i) ≡ refusal v j n
    same = first_alone (verdict_of i (row_at s i)) false 21 (refusal v j n) z full

    into : earlier (find_refusal s i) (verdict_of i (row_at s i)) ≡ refusal v j n → earlier (find_refusal s i) (earlier (verdict_of i (row_at s i)) sound) ≡ refusal v j n
    into e = (earlier_exactly (find_refusal s i) _ (refusal v j n) z).1 (by ((earlier_exactly (find_refusal s i) (verdict_of i (row_at s i)) (refusal v j n) z).0 e))
      where
        by : (find_refusal s i ≡ refusal v j n) ⊎ (((find_refusal s i).number ≡ 0) × (verdict_of i (row_at s i) ≡ refusal v j n)) →
            (find_refusal s i ≡ refusal v j n) ⊎ (((find_refusal s i).number ≡ 0) × (earlier (verdict_of i (row_at s i)) sound ≡ refusal v j n))
        by (inl h) = inl h
        by (inr h) = inr (h.0, same.1 h.1)

    out : earlier (find_refusal s i) (earlier (verdict_of i (row_at s i)) sound) ≡ refusal v j n → earlier (find_refusal s i) (verdict_of i (row_at s i)) ≡ refusal v j n
    out e = (earlier_exactly (find_refusal s i) (verdict_of i (row_at s i)) (refusal v j n) z).1 (by ((earlier_exactly (find_refusal s i) _ (refusal v j n) z).0 e))
      where
        by : (find_refusal s i ≡ refusal v j n) ⊎ (((find_refusal s i).number ≡ 0) × (earlier (verdict_of i (row_at s i)) sound ≡ refusal v j n)) →
            (find_refusal s i ≡ refusal v j n) ⊎ (((find_refusal s i).number ≡ 0) × (verdict_of i (row_at s i) ≡ refusal v j n))
        by (inl h) = inl h
        by (inr h) = inr (h.0, same.0 h.1)
