-- What an accepted file is, rule by rule, with no order of checks.
use Rattle.std.specs.Prelude.{◌≡◌, Bool, true, false, ◌||◌, ℕ, ◌+◌, ◌≤◌, ◌<◌, eqb, length, get_or}
use mathlib.Core.List.{List, [], ◌∷◌, map, Memᴰ}
use Rattle.page.specs.Bytes.{Bytes, pick}
use Rattle.page.specs.Lines.{content, blank, command, clean, Mod, Src, Chs, Ver, Ifv, Dve, Fft, Com}
use Rattle.page.specs.Fields.{number_of}
use Rattle.page.specs.Tables.{Reference, columns, table_at}
use Rattle.page.specs.Cut.{Section, sections, header_lines, trailer_lines}
use Rattle.page.specs.Header.{mod_form, holds}
use Rattle.page.specs.Head.{latin_of}
use Rattle.page.specs.Records.{Datum, number, missing, words, Record}
use Rattle.page.specs.File.{limit, by_primary, by_second, key_in, has_key, referred}
use Rattle.page.specs.Model.{Content}
use Rattle.page.specs.Grammar.{fields_of, Denotes}
use Rattle.page.specs.declared.Number.TheVariants as N
use Rattle.page.specs.declared.Owner.TheVariants as O
use Rattle.page.specs.declared.Column.{Column}

pub data Every {A : Type 0} (P : A → Type 0) : List A → Type 0 where
  none_left : Every P []
  one_more : {x : A} {xs : List A} → P x → Every P xs → Every P (x ∷ xs)

-- the lines of a header other than blank and `com` lines
unfoldable pub spoken : List Bytes → List Bytes
spoken [] = []
spoken (l ∷ ls) = pick (blank (content l) || eqb (command (content l)) Com) (spoken ls) (l ∷ spoken ls)

-- how many of these lines have command k
unfoldable pub times : ℕ → List Bytes → ℕ
times k [] = 0
times k (l ∷ ls) = pick (eqb (command (content l)) k) 1 0 + times k ls

-- a line after `mod`, under the date's form: one of the six commands, with what it must hold
pub record HeadLine (form : ℕ) (l : Bytes) : Type 0 where
  pub named : Memᴰ (command (content l)) (Src ∷ Chs ∷ Ver ∷ Ifv ∷ Dve ∷ Fft ∷ [])
  pub holds : holds (command (content l)) form (fields_of l) ≡ true

-- "The first other line is `mod`. Then `src`, `chs`, `ver`, `ifv` once each and `dve`, `fft` at most once, in any order."
pub record SoundHeader (ls : List Bytes) : Type 0 where
  pub clean : Every (λ l. clean false (content l) ≡ true) ls
  pub first : Bytes
  pub others : List Bytes
  pub order : spoken ls ≡ first ∷ others
  pub mode : command (content first) ≡ Mod
  pub form : ¬ (mod_form (fields_of first) ≡ 0)
  pub each : Every (HeadLine (mod_form (fields_of first))) others
  pub once : Every (λ k. times k others ≡ 1) (Src ∷ Chs ∷ Ver ∷ Ifv ∷ [])
  pub at_most_once : Every (λ k. times k others ≤ 1) (Dve ∷ Fft ∷ [])

-- "`eof; n`, n the number of `tbl` lines, only blank lines after it"
pub record SoundTrailer (n : ℕ) (ls : List Bytes) : Type 0 where
  pub first : Bytes
  pub others : List Bytes
  pub split : ls ≡ first ∷ others
  pub clean : clean false (content first) ≡ true
  pub count : Bytes
  pub alone : fields_of first ≡ count ∷ []
  pub reads : number_of count ≡ N.Plus n
  pub silent : Every (λ l. blank (content l) ≡ true) others

-- each section denotes its table
pub data Tables (latin : Bool) : List Section → List Content → Type 0 where
  no_table : Tables latin [] []
  a_table : {x : Section} {xs : List Section} {c : Content} {cs : List Content} →
      Denotes latin x.lines c.table c.records → Tables latin xs cs → Tables latin (x ∷ xs) (c ∷ cs)

-- keys compare by value, whoever's a text is
abbrev pub bare : Datum → Datum
bare (number n) = number n
bare missing = missing
bare (words o t) = words O.Operator t

unfoldable pub key : (Column → Bool) → ℕ → Record → Record
key p t vs = map bare (key_in p (columns t) vs)

-- no two of a list agree in f
abbrev pub Apart : {A B : Type 0} → A → (A → B) → List A → Type 0
Apart d f xs = (i j : ℕ) → i < j → j < length xs → ¬ (f (get_or xs i d) ≡ f (get_or xs j d))

abbrev pub OneKey : (Column → Bool) → Content → Type 0
OneKey p c = has_key p c.table ≡ true → Apart [] (key p c.table) c.records

-- "References go to the named table's primary key."
pub record Meets (cs : List Content) (vs : Record) (r : Reference) : Type 0 where
  pub table : Content
  pub here : Memᴰ table cs
  pub named : (table_at table.table).name ≡ r.target
  pub parent : Record
  pub there : Memᴰ parent table.records
  pub same : key by_primary table.table parent ≡ map bare (referred r.columns vs)

abbrev pub Refers : List Content → Content → Type 0
Refers cs c = Every (λ vs. Every (Meets cs vs) (table_at c.table).references) c.records

-- an accepted file, which says these tables
pub record SoundFile (s : Bytes) (cs : List Content) : Type 0 where
  pub size : length s ≤ limit
  pub header : SoundHeader (header_lines s)
  pub trailer : SoundTrailer (length (sections s)) (trailer_lines s)
  pub tables : Tables (latin_of s) (sections s) cs
  pub once : Apart (record { table = 0; records = [] }) (λ (c : Content). c.table) cs
  pub primary : Every (OneKey by_primary) cs
  pub second : Every (OneKey by_second) cs
  pub references : Every (Refers cs) cs
