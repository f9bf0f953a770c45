-- Where a record stands: its section, its line there, and that this line reads as it.
use Rattle.std.specs.Prelude.{◌≡◌, Bool, List, ◌∷◌, ◌++◌, ℕ, suc, ◌+◌, length}
use Rattle.page.specs.Bytes.{Bytes}
use Rattle.page.specs.Order.{Order}
use Rattle.page.specs.Cut.{Section, sections}
use Rattle.page.specs.Head.{latin_of}
use Rattle.page.specs.Records.{Entry, order_in}
use Rattle.page.specs.File.{Filed}
use Rattle.page.specs.Grammar.{RecLine}

-- a record of lines of table t in the order o, the first line counted as n + 1: a `rec` line of these values, after some marks
pub record EntryStands (latin : Bool) (t : ℕ) (o : Order) (n : ℕ) (ls : List Bytes) (e : Entry) : Type 0 where
  pub before : List Bytes
  pub after : List Bytes
  pub line : Bytes
  pub split : ls ≡ before ++ (line ∷ after)
  pub place : e.line ≡ n + suc (length before)
  pub marks : List ℕ
  pub reads : RecLine latin t o marks e.values line

-- a record of a file: "A place is section (from 1) and line"
pub record FiledStands (s : Bytes) (e : Filed) : Type 0 where
  pub before : List Section
  pub after : List Section
  pub section : Section
  pub sections_split : sections s ≡ before ++ (section ∷ after)
  pub number : e.section ≡ suc (length before)
  pub lines_before : List Bytes
  pub lines_after : List Bytes
  pub line : Bytes
  pub lines_split : section.lines ≡ lines_before ++ (line ∷ lines_after)
  pub place : e.line ≡ suc (length lines_before)
  pub marks : List ℕ
  pub reads : RecLine (latin_of s) e.table (order_in section.lines) marks e.values line
