-- The order of a call's refusals: the first question that refuses gives its number, with no place.
use Rattle.std.specs.Prelude.{Bool, true, false, not, ◌||◌, List, [], ◌∷◌, ◌⊎◌, ◌≡◌, ℕ, ◌-◌, ◌<◌, ◌≤◌, eqb, ltb, length}
use Rattle.page.specs.Bytes.{Bytes, all}
use Rattle.page.specs.Lines.{allowed}
use Rattle.page.specs.Tables.{column_at}
use Rattle.page.specs.Head.{latin_of}
use Rattle.page.specs.Records.{table_index}
use Rattle.page.specs.Model.{model_of, datum_at}
use Rattle.page.specs.File.{limit}
use Rattle.page.specs.Reading.{section_at}
use Rattle.page.specs.Writing.{empty_datum, fill_place, fill_form}
use Rattle.page.specs.Answers.{sound, earlier, refuse_if}
use Rattle.page.specs.declared.Refusal.{Refusal}

-- a question: whether it refuses, and with which number
pub record Question : Type 0 where
  pub refuses : Bool
  pub number : ℕ

abbrev pub ask : Bool → ℕ → Question
ask b v = record { refuses = b; number = v }

-- asked one after another
unfoldable pub first_refusal : List Question → Refusal
first_refusal [] = sound
first_refusal (q ∷ qs) = earlier (refuse_if q.refuses q.number) (first_refusal qs)

-- number v's turn: a question of that number refuses, and none before it does
pub data Turn (v : ℕ) : List Question → Type 0 where
  now : {qs : List Question} → Turn v (ask true v ∷ qs)
  next : {n : ℕ} {qs : List Question} → Turn v qs → Turn v (ask false n ∷ qs)

-- i is none of n counted from 1, or one of them
abbrev pub Outside : ℕ → ℕ → Type 0
Outside i n = (i ≡ 0) ⊎ (n < i)

abbrev pub Within : ℕ → ℕ → Type 0
Within i n = (0 < i) × (i ≤ n)

-- "Order: verdict, 24, 23, 22, text empty 11, text byte not allowed in a `rec` 4, over 40 bytes 13, 21": all after the verdict
unfoldable pub fill_questions : Bytes → ℕ → ℕ → ℕ → Bytes → ℕ → List Question
fill_questions s i r f t room =
    ask (fill_place s i r f) 24 ∷ ask (not (column_at (table_index (section_at s i).lines) (f - 1)).fillable) 23
    ∷ ask (not (empty_datum (datum_at i r f (model_of s)))) 22 ∷ ask (eqb (length t) 0) 11 ∷ ask (not (all (allowed (latin_of s)) t)) 4
    ∷ ask (ltb 40 (length t)) 13 ∷ ask (ltb room (length (fill_form s i r f t)) || ltb limit (length (fill_form s i r f t))) 21 ∷ []
