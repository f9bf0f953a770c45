-- What a refused file is, number by number: "the first of 1, 2, 3, the first unsound section in file order, 17, 18, 19, 20, each at
-- the first record in file order that breaks it (for 17 the second table's line 1)".
use Rattle.std.specs.Prelude.{◌≡◌, Bool, true, ℕ, suc, ◌≤◌, ◌<◌, length}
use mathlib.Core.List.{List, [], map, Memᴰ}
use Rattle.page.specs.Bytes.{Bytes}
use Rattle.page.specs.Tables.{Reference, table_at}
use Rattle.page.specs.Cut.{Section, sections, header_lines, trailer_lines}
use Rattle.page.specs.Head.{latin_of}
use Rattle.page.specs.Records.{Record}
use Rattle.page.specs.File.{limit, by_primary, by_second, has_key, referred, Filed, filed_of}
use Rattle.page.specs.Model.{Content}
use Rattle.page.specs.Grammar.{Denotes}
use Rattle.page.specs.Refusals.{Refused}
use Rattle.page.specs.Rules.{SoundHeader, SoundTrailer, Tables, bare, key}
use Rattle.page.specs.declared.Column.{Column}
use Rattle.verdicts.specs.First.{First, NoneOf}
use Rattle.verdicts.specs.Headers.{HeaderFault}
use Rattle.verdicts.specs.Trailers.{TrailerFault}

-- a section that denotes nothing
abbrev pub Unsound : Bool → List Section → Section → Type 0
Unsound latin before x = ¬ ((t : ℕ) × (rs : List Record) × Denotes latin x.lines t rs)

-- 17: "table a second time"
abbrev pub TableAgain : List Content → Content → Type 0
TableAgain before c = (b : Content) × Memᴰ b before × (b.table ≡ c.table)

-- 18, 19: "primary key, second key met before"
abbrev pub KeyAgain : (Column → Bool) → List Filed → Filed → Type 0
KeyAgain p before e =
    (has_key p e.table ≡ true) ×
    ((d : Filed) × Memᴰ d before × (d.table ≡ e.table) × (key p d.table d.values ≡ key p e.table e.values))

-- 20: "a reference finds no record"
abbrev pub Found : List Filed → Filed → Reference → Type 0
Found every e r =
    (d : Filed) × Memᴰ d every × ((table_at d.table).name ≡ r.target) × (key by_primary d.table d.values ≡ map bare (referred r.columns e.values))

abbrev pub Lost : List Filed → List Filed → Filed → Type 0
Lost every before e = (r : Reference) × Memᴰ r (table_at e.table).references × ¬ Found every e r

-- a file is refused with number v at section i and line n
pub data FileRefused (s : Bytes) (v i n : ℕ) : Type 0 where
  too_long : limit < length s → v ≡ 1 → i ≡ 0 → n ≡ 0 → FileRefused s v i n
  header : length s ≤ limit → HeaderFault (header_lines s) n → v ≡ 2 → i ≡ 0 → FileRefused s v i n
  trailer : length s ≤ limit → SoundHeader (header_lines s) → TrailerFault (length (sections s)) (trailer_lines s) n → v ≡ 3 → i ≡ 0 → FileRefused s v i n
  section : length s ≤ limit → SoundHeader (header_lines s) → SoundTrailer (length (sections s)) (trailer_lines s) →
      (x : Section) (k : ℕ) (f : First (Unsound (latin_of s)) [] (sections s) x) → Refused (latin_of s) x.lines k v n → i ≡ suc (length f.before) → FileRefused s v i n
  table_again : (cs : List Content) → length s ≤ limit → SoundHeader (header_lines s) → SoundTrailer (length (sections s)) (trailer_lines s) → Tables (latin_of s) (sections s) cs →
      (c : Content) (f : First TableAgain [] cs c) → v ≡ 17 → i ≡ suc (length f.before) → n ≡ 1 → FileRefused s v i n
  primary_again : (cs : List Content) → length s ≤ limit → SoundHeader (header_lines s) → SoundTrailer (length (sections s)) (trailer_lines s) → Tables (latin_of s) (sections s) cs →
      NoneOf TableAgain [] cs → (e : Filed) → First (KeyAgain by_primary) [] (filed_of s) e → v ≡ 18 → i ≡ e.section → n ≡ e.line → FileRefused s v i n
  second_again : (cs : List Content) → length s ≤ limit → SoundHeader (header_lines s) → SoundTrailer (length (sections s)) (trailer_lines s) → Tables (latin_of s) (sections s) cs →
      NoneOf TableAgain [] cs → NoneOf (KeyAgain by_primary) [] (filed_of s) → (e : Filed) → First (KeyAgain by_second) [] (filed_of s) e → v ≡ 19 → i ≡ e.section → n ≡ e.line →
      FileRefused s v i n
  reference_lost : (cs : List Content) → length s ≤ limit → SoundHeader (header_lines s) → SoundTrailer (length (sections s)) (trailer_lines s) → Tables (latin_of s) (sections s) cs →
      NoneOf TableAgain [] cs → NoneOf (KeyAgain by_primary) [] (filed_of s) → NoneOf (KeyAgain by_second) [] (filed_of s) → (e : Filed) → First (Lost (filed_of s)) [] (filed_of s) e →
      v ≡ 20 → i ≡ e.section → n ≡ e.line → FileRefused s v i n
