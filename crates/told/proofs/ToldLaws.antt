-- What C is handed determines the answer: from each struct the answer is read again. The definitions refuse only with a number that is
-- not 0 (`answered`), so an answer of number 0 is an accepted one, and two answers told alike are equal.
use Rattle.std.specs.Prelude.{Err, None, Ok, Option, Result, Some}
use Rattle.page.specs.declared.Span.{Span}
use mathlib.Core.Path.{◌≡◌, refl, sym, ap, ◌∙◌}
use mathlib.Core.Bool.{Bool, true, false}
use Prim.Native.Nat.{ℕ}
use lib.Dec.{eqb}
use Rattle.page.specs.Bytes.{pick}
use Rattle.page.specs.Answers.{refusal, answered}
use Rattle.page.specs.Handing.{owner_cell}
use Rattle.page.specs.declared.Refusal.{Refusal}
use Rattle.page.specs.declared.Header.{Header}
use Rattle.page.specs.declared.Row.{Row}
use Rattle.page.specs.declared.Owner.{Owner}
use Rattle.page.specs.declared.Owner.TheVariants as O
use Rattle.page.specs.declared.Value.{Value}
use Rattle.page.specs.declared.Value.TheVariants as Va
use Rattle.page.specs.declared.Copied.{Copied}
use Rattle.told.specs.Told.{told_header, told_headed, told_listed, told_value, told_got, told_written, told_handed, stated_flag, stated_from, stated_to}
use Rattle.told.specs.declared.answers.HeaderAnswer.{HeaderAnswer}
use Rattle.told.specs.declared.answers.RowAnswer.{RowAnswer}
use Rattle.told.specs.declared.answers.ValueAnswer.{ValueAnswer}
use Rattle.told.specs.declared.answers.LengthAnswer.{LengthAnswer}
use Rattle.told.specs.declared.answers.TextAnswer.{TextAnswer}

-- a section's row, read again
abbrev pub row_again : RowAnswer → Result Row Refusal
row_again x = pick (eqb x.number 0) (Ok x.row) (Err (refusal x.number x.section x.line))

row_by : (b : Bool) (r : Refusal) (x : Row) → eqb r.number 0 ≡ b → row_again (told_listed (pick b (Ok x) (Err r))) ≡ pick b (Ok x) (Err r)
row_by true r x e = refl
row_by false r x e = rw e refl

pub row_read : (r : Refusal) (x : Row) → row_again (told_listed (answered r x)) ≡ answered r x
unfolding answered
row_read r x = row_by (eqb r.number 0) r x refl

pub row_same : (r r' : Refusal) (x x' : Row) → told_listed (answered r x) ≡ told_listed (answered r' x') → answered r x ≡ answered r' x'
row_same r r' x x' e = sym (row_read r x) ∙ (ap row_again e ∙ row_read r' x')

-- how much was written
abbrev pub length_again : LengthAnswer → Result ℕ Refusal
length_again x = pick (eqb x.number 0) (Ok x.length) (Err (refusal x.number x.section x.line))

length_by : (b : Bool) (r : Refusal) (n : ℕ) → eqb r.number 0 ≡ b → length_again (told_written (pick b (Ok n) (Err r))) ≡ pick b (Ok n) (Err r)
length_by true r n e = refl
length_by false r n e = rw e refl

pub length_read : (r : Refusal) (n : ℕ) → length_again (told_written (answered r n)) ≡ answered r n
unfolding answered
length_read r n = length_by (eqb r.number 0) r n refl

pub length_same : (r r' : Refusal) (x x' : ℕ) → told_written (answered r x) ≡ told_written (answered r' x') → answered r x ≡ answered r' x'
length_same r r' x x' e = sym (length_read r x) ∙ (ap length_again e ∙ length_read r' x')

-- how much was written of a text, and whose it is
abbrev owner_by : ℕ → Owner
owner_by k = pick (eqb k 1) O.Operator O.Suggestion

owner_back : (o : Owner) → owner_by (owner_cell o) ≡ o
owner_back O.Operator = refl
owner_back O.Suggestion = refl

abbrev pub text_again : TextAnswer → Result Copied Refusal
text_again x =
    pick (eqb x.number 0) (Ok (record { length = x.length; owner = owner_by x.owner }))
    (Err (refusal x.number x.section x.line))

handed_by : (b : Bool) (r : Refusal) (x : Copied) → eqb r.number 0 ≡ b → text_again (told_handed (pick b (Ok x) (Err r))) ≡ pick b (Ok x) (Err r)
handed_by true r x e = ap (λ (o : Owner). Ok (record { length = x.length; owner = o })) (owner_back x.owner)
handed_by false r x e = rw e refl

pub text_read : (r : Refusal) (x : Copied) → text_again (told_handed (answered r x)) ≡ answered r x
unfolding answered
text_read r x = handed_by (eqb r.number 0) r x refl

pub text_same : (r r' : Refusal) (x x' : Copied) → told_handed (answered r x) ≡ told_handed (answered r' x') → answered r x ≡ answered r' x'
text_same r r' x x' e = sym (text_read r x) ∙ (ap text_again e ∙ text_read r' x')

-- a value: its kind tells a number, a missing number and a text, and whose the text is
abbrev text_by : ℕ → ℕ → Owner → Value
text_by from to owner = Va.Words (record { from = from; to = to; owner = owner })

abbrev pub value_by : ValueAnswer → Value
value_by x =
    pick (eqb x.kind 0) (Va.Number x.amount)
    (pick (eqb x.kind 3) Va.Missing
    (text_by x.from x.to (owner_by x.kind)))

words_back : (from to : ℕ) (o : Owner) → value_by (told_value (text_by from to o)) ≡ text_by from to o
words_back from to O.Operator = refl
words_back from to O.Suggestion = refl

value_back : (v : Value) → value_by (told_value v) ≡ v
value_back (Va.Number n) = refl
value_back Va.Missing = refl
value_back (Va.Words x) = words_back x.from x.to x.owner

abbrev pub value_again : ValueAnswer → Result Value Refusal
value_again x = pick (eqb x.number 0) (Ok (value_by x)) (Err (refusal x.number x.section x.line))

accepted_value : (v : Value) → value_again (told_value v) ≡ Ok (value_by (told_value v))
accepted_value (Va.Number n) = refl
accepted_value Va.Missing = refl
accepted_value (Va.Words x) = refl

got_by : (b : Bool) (r : Refusal) (v : Value) → eqb r.number 0 ≡ b → value_again (told_got (pick b (Ok v) (Err r))) ≡ pick b (Ok v) (Err r)
got_by true r v e = accepted_value v ∙ ap (λ (z : Value). Ok z) (value_back v)
got_by false r v e = rw e refl

pub value_read : (r : Refusal) (v : Value) → value_again (told_got (answered r v)) ≡ answered r v
unfolding answered
value_read r v = got_by (eqb r.number 0) r v refl

pub value_same : (r r' : Refusal) (x x' : Value) → told_got (answered r x) ≡ told_got (answered r' x') → answered r x ≡ answered r' x'
value_same r r' x x' e = sym (value_read r x) ∙ (ap value_again e ∙ value_read r' x')

-- a header's values
abbrev pub stated_by : Bool → ℕ → ℕ → Option Span
stated_by true from to = Some (record { from = from; to = to })
stated_by false from to = None

stated_back : (x : Option Span) → stated_by (stated_flag x) (stated_from x) (stated_to x) ≡ x
stated_back None = refl
stated_back (Some x) = refl

abbrev pub header_by : HeaderAnswer → Header
header_by x =
    record {
      source = record { from = x.source_from; to = x.source_to };
      date = record { year = x.year; month = x.month; day = x.day };
      time = record { hour = x.hour; minute = x.minute; second = x.second };
      latin = x.latin;
      ver = record { from = x.ver_from; to = x.ver_to };
      ifv = record { from = x.ifv_from; to = x.ifv_to };
      dve = stated_by x.dve x.dve_from x.dve_to;
      fft = stated_by x.fft x.fft_from x.fft_to;
    }

header_back : (h : Header) → header_by (told_header h) ≡ h
header_back h = rw (stated_back h.dve, stated_back h.fft) refl

abbrev pub header_again : HeaderAnswer → Result Header Refusal
header_again x = pick (eqb x.number 0) (Ok (header_by x)) (Err (refusal x.number x.section x.line))

headed_by : (b : Bool) (r : Refusal) (h : Header) → eqb r.number 0 ≡ b → header_again (told_headed (pick b (Ok h) (Err r))) ≡ pick b (Ok h) (Err r)
headed_by true r h e = ap (λ (z : Header). Ok z) (header_back h)
headed_by false r h e = rw e refl

pub header_read : (r : Refusal) (h : Header) → header_again (told_headed (answered r h)) ≡ answered r h
unfolding answered
header_read r h = headed_by (eqb r.number 0) r h refl

pub header_same : (r r' : Refusal) (x x' : Header) → told_headed (answered r x) ≡ told_headed (answered r' x') → answered r x ≡ answered r' x'
header_same r r' x x' e = sym (header_read r x) ∙ (ap header_again e ∙ header_read r' x')
