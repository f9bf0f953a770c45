-- Two answers of a C function that meet its promise are equal, and so is what is lent later. Assumes nothing.
use mathlib.Core.Path.{◌≡◌, sym, ◌∙◌}
use mathlib.Core.List.{List}
use Prim.Native.Nat.{ℕ}
use Rattle.page.specs.Bytes.{Bytes}
use Rattle.told.specs.Promises.{TellsHeader, TellsSection, TellsValue, TellsText, TellsTable, TellsWrite, TellsStrip, TellsFill}
use Rattle.told.specs.declared.answers.HeaderAnswer.{HeaderAnswer}
use Rattle.told.specs.declared.answers.RowAnswer.{RowAnswer}
use Rattle.told.specs.declared.answers.ValueAnswer.{ValueAnswer}
use Rattle.told.specs.declared.answers.LengthAnswer.{LengthAnswer}
use Rattle.told.specs.declared.answers.TextAnswer.{TextAnswer}

one_answer : {A : Type 0} {x r q : A} → r ≡ x → q ≡ x → r ≡ q
one_answer p q = p ∙ sym q

one_outcome : {A B : Type 0} {x r q : A} {y after later : B} → (r ≡ x) × (after ≡ y) → (q ≡ x) × (later ≡ y) → (r ≡ q) × (after ≡ later)
one_outcome p q = (one_answer p.0 q.0, one_answer p.1 q.1)

pub told_header_settled : (s : Bytes) {r q : HeaderAnswer} → TellsHeader s r → TellsHeader s q → r ≡ q
told_header_settled s p q = one_answer p q

pub told_section_settled : (s : Bytes) (i : ℕ) {r q : RowAnswer} → TellsSection s i r → TellsSection s i q → r ≡ q
told_section_settled s i p q = one_answer p q

pub told_value_settled : (s : Bytes) (i j f : ℕ) {r q : ValueAnswer} → TellsValue s i j f r → TellsValue s i j f q → r ≡ q
told_value_settled s i j f p q = one_answer p q

pub told_text_settled : (s : Bytes) (i j f : ℕ) (out : Bytes) {after later : Bytes} {r q : TextAnswer} → TellsText s i j f out r after → TellsText s i j f out q later →
    (r ≡ q) × (after ≡ later)
told_text_settled s i j f out p q = one_outcome p q

pub told_table_settled : (s : Bytes) (i : ℕ) (cells : List ℕ) {after later : List ℕ} {r q : LengthAnswer} → TellsTable s i cells r after → TellsTable s i cells q later →
    (r ≡ q) × (after ≡ later)
told_table_settled s i cells p q = one_outcome p q

pub told_write_settled : (s out : Bytes) {after later : Bytes} {r q : LengthAnswer} → TellsWrite s out r after → TellsWrite s out q later → (r ≡ q) × (after ≡ later)
told_write_settled s out p q = one_outcome p q

pub told_strip_settled : (s out : Bytes) {after later : Bytes} {r q : LengthAnswer} → TellsStrip s out r after → TellsStrip s out q later → (r ≡ q) × (after ≡ later)
told_strip_settled s out p q = one_outcome p q

pub told_fill_settled : (s : Bytes) (i j f : ℕ) (t out : Bytes) {after later : Bytes} {r q : LengthAnswer} → TellsFill s i j f t out r after →
    TellsFill s i j f t out q later → (r ≡ q) × (after ≡ later)
told_fill_settled s i j f t out p q = one_outcome p q
