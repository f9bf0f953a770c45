-- Which fields make a key, and which of its numbers each is: a digit a place, from the left the lowest first.
use Rattle.std.specs.Prelude.{Bool, false, List, [], ◌∷◌, map, ℕ, zero, suc, ◌+◌, ◌*◌, get_or}
use Rattle.page.specs.Bytes.{pick}
use Rattle.page.specs.Tables.{column_at}
use Rattle.page.specs.Order.{Order}
use Rattle.page.specs.declared.Column.{Column}
use Rattle.tables.specs.Keys.{key_columns, refer_columns}
use Rattle.choices.specs.declared.Choice.{Choice}

unfoldable pub coded : ℕ → List ℕ → ℕ
coded b [] = 0
coded b (d ∷ ds) = coded b ds * b + d

-- 0: not this one; 1: its number; 2: its text
unfoldable pub kind_of : Bool → Column → ℕ
kind_of b c = pick b (pick c.text 2 1) 0

-- of the columns that bs takes: how many there are, and how many stand before column c
unfoldable pub total : List Bool → ℕ
total [] = 0
total (b ∷ bs) = pick b 1 0 + total bs

unfoldable pub rank : List Bool → ℕ → ℕ
rank [] c = 0
rank (b ∷ bs) zero = 0
rank (b ∷ bs) (suc c) = pick b 1 0 + rank bs c

-- the columns that bs takes of table t, where its columns stand in the order o
unfoldable pub choice_of : List Bool → ℕ → Order → Choice
choice_of bs t o =
    record {
      kinds = coded 4 (map (λ (c : ℕ). kind_of (get_or bs c false) (column_at t c)) o);
      slots = coded 8 (map (rank bs) o);
    }

unfoldable pub key_choice : (Column → Bool) → ℕ → Order → Choice
key_choice p t o = choice_of (key_columns p t) t o

unfoldable pub refer_choice : ℕ → ℕ → Order → Choice
refer_choice t r o = choice_of (refer_columns t r) t o
