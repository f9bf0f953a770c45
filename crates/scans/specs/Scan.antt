-- A section's lines from the left: records by their keys as numbers, and the first line at fault.
use Rattle.std.specs.Prelude.{◌≡◌, Bool, true, false, ◌||◌, List, [], ◌∷◌, ◌++◌, ℕ, zero, suc, ◌≤◌, eqb, length, take, drop}
use Rattle.page.specs.Bytes.{Bytes, pick, same}
use Rattle.page.specs.Lines.{lines, content, command, rest, Rec}
use Rattle.page.specs.Fields.{fields}
use Rattle.page.specs.Answers.{refusal, sound}
use Rattle.page.specs.File.{any}
use Rattle.page.specs.declared.Refusal.{Refusal}
use Rattle.choices.specs.declared.Choice.{Choice}
use Rattle.keys.specs.Numbers.{gathered}
use Rattle.keys.specs.Orders.{less}

abbrev pub is_record : Bytes → Bool
is_record l = eqb (command (content l)) Rec

-- what a line has in the fields of a choice
unfoldable pub line_key : Choice → Bytes → List ℕ
line_key q l = gathered q (fields (rest (content l)))

-- a line is a record that has the key k
unfoldable pub bears : Choice → List ℕ → Bytes → Bool
bears q k l = pick (is_record l) (same (line_key q l) k) false

-- a line is a record whose key stands in the lines before it
unfoldable pub again : Choice → List Bytes → Bytes → Bool
again q before l = pick (is_record l) (any (bears q (line_key q l)) before) false

-- a line is a record whose key lies above the key k
unfoldable pub above : Choice → List ℕ → Bytes → Bool
above q k l = pick (is_record l) (less k (line_key q l)) false

-- a line is no record, or its key lies above the key k
unfoldable pub rises : Choice → List ℕ → Bytes → Bool
rises q k l = pick (is_record l) (less k (line_key q l)) true

-- the largest key up to a line that rises
unfoldable pub raised : Choice → List ℕ → Bytes → List ℕ
raised q k l = pick (is_record l) (line_key q l) k

-- no record's key lies above the key k
pub record Topped (q : Choice) (k : List ℕ) (ls : List Bytes) : Type 0 where
  pub none : any (above q k) ls ≡ false

-- a place where a line begins, or the end
pub record Starts (w : Bytes) (at : ℕ) : Type 0 where
  pub within : at ≤ length w
  pub split : lines w ≡ lines (take at w) ++ lines (drop at w)

-- the first line that is at fault, where n lines have been read; 0: none is
unfoldable pub first_line : (List Bytes → Bytes → Bool) → List Bytes → ℕ → List Bytes → ℕ
first_line fault before n [] = 0
first_line fault before n (l ∷ ls) = pick (fault before l) (suc n) (first_line fault (before ++ l ∷ []) (suc n) ls)

-- refused with number v at line n of section i; not at all, if n is 0
unfoldable pub refused_at : ℕ → ℕ → ℕ → Refusal
refused_at v i n = pick (eqb n 0) sound (refusal v i n)

-- one of n numbers, from i on, passes a test
unfoldable pub some : (ℕ → Bool) → ℕ → ℕ → Bool
some p i zero = false
some p i (suc n) = p i || some p (suc i) n
