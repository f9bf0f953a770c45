-- Files that are accepted, and files that are refused by each number: no theorem of this crate holds for want of a file.
use mathlib.Core.Path.{◌≡◌, refl, ap}
use mathlib.Core.List.{List, [], ◌∷◌, ◌++◌, map}
use Prim.Native.Nat.{ℕ, ◌<◌}
use Prim.Native.String.{String}
use native.Mathlib.Omega.{arith}
use lib.ListN.{get_or, replicate, length-replicate}
use Rattle.page.specs.Bytes.{Bytes, bytes}
use Rattle.page.specs.Lines.{joined}
use Rattle.page.specs.Records.{Datum, number, missing, words}
use Rattle.page.specs.Answers.{refusal}
use Rattle.page.specs.File.{limit, file_refusal}
use Rattle.page.specs.Model.{Content, model_of}
use Rattle.page.specs.Open.{open_all}
use Rattle.page.specs.Cases.{versions, day_types, valid_days, point_types, links, connections, head}
use Rattle.page.specs.Rules.{SoundFile}
use Rattle.page.specs.Refusals.{file_numbers}
use Rattle.page.specs.declared.Owner.TheVariants as O
use Rattle.page.specs.declared.Refusal.{Refusal}
use Rattle.verdicts.proofs.Files.{accepted_says}
use Rattle.laws.proofs.Stages.{long_gives}

-- a header, and parts after it
unfoldable pub file : List Bytes → Bytes
file parts = head ++ joined parts

-- the version that the records of other tables name
unfoldable pub version : Bytes
version = versions "rec; 7; \"Winter\"\nend; 1\n"

-- two tables, a suggestion in the second
unfoldable pub two_tables : Bytes
two_tables = file (version ∷ day_types "rec; 7; 1; \"Monday\"\ncom; \"SUGGESTED 3\"\nrec; 7; 2; \"School day\"\nend; 2\n" ∷ bytes "eof; 2\n" ∷ [])

-- a file for each number but 1, in the order in which they are listed
unfoldable pub faulty : List Bytes
faulty =
    [] ∷
    file (version ∷ bytes "eof; 2\n" ∷ []) ∷
    file (versions "rec; 7; \"\u{a0}\"\nend; 1\n" ∷ bytes "eof; 1\n" ∷ []) ∷
    file (versions "row; 7\nend; 0\n" ∷ bytes "eof; 1\n" ∷ []) ∷
    file (versions "rec; 7; \"Winter\"\n" ∷ bytes "eof; 1\n" ∷ []) ∷
    file (bytes "tbl; LINES\neof; 1\n" ∷ []) ∷
    file (bytes "tbl; MENGE_BASIS_VERSIONEN\natr; BASIS_VERSION\neof; 1\n" ∷ []) ∷
    file (bytes "tbl; MENGE_BASIS_VERSIONEN\natr; BASIS_VERSION; BASIS_VERSION_TEXT\nfrm; num[9]; char[40]\neof; 1\n" ∷ []) ∷
    file (versions "rec; 7\nend; 1\n" ∷ bytes "eof; 1\n" ∷ []) ∷
    file (versions "rec; 7; Winter\nend; 1\n" ∷ bytes "eof; 1\n" ∷ []) ∷
    file (versions "rec; x; \"Winter\"\nend; 1\n" ∷ bytes "eof; 1\n" ∷ []) ∷
    file (versions "rec; 0; \"Winter\"\nend; 1\n" ∷ bytes "eof; 1\n" ∷ []) ∷
    file (valid_days "rec; 20230231; 7\nend; 1\n" ∷ bytes "eof; 1\n" ∷ []) ∷
    file (links "rec; 7; 0; 1; 5; 1; 5; 8\nend; 1\n" ∷ bytes "eof; 1\n" ∷ []) ∷
    file (connections "rec; 7; 1; \"\"; \"\"; 0; 0; 1; 12; ; ; ; \"\"; \"\"; \"\"; 5; 1; 9; ; ; \nend; 1\n" ∷ bytes "eof; 1\n" ∷ []) ∷
    file (versions "com; \"SUGGESTED 1\"\nrec; 7; \"Winter\"\nend; 1\n" ∷ bytes "eof; 1\n" ∷ []) ∷
    file (versions "rec; 7; \"Winter\"\nend; 2\n" ∷ bytes "eof; 1\n" ∷ []) ∷
    file (version ∷ version ∷ bytes "eof; 2\n" ∷ []) ∷
    file (versions "rec; 7; \"Winter\"\nrec; 7; \"Summer\"\nend; 2\n" ∷ bytes "eof; 1\n" ∷ []) ∷
    file (version ∷ point_types "rec; 7; 1; \"HP\"; \"\"\nrec; 7; 2; \"HP\"; \"\"\nend; 2\n" ∷ bytes "eof; 2\n" ∷ []) ∷
    file (day_types "rec; 7; 1; \"Monday\"\nend; 1\n" ∷ bytes "eof; 1\n" ∷ []) ∷
    []

-- and their answers
unfoldable pub answers : List Refusal
answers =
    refusal 2 0 0 ∷ refusal 3 0 1 ∷ refusal 4 1 4 ∷ refusal 5 1 4 ∷ refusal 6 1 4 ∷ refusal 7 1 1 ∷ refusal 8 1 2 ∷ refusal 9 1 3 ∷ refusal 10 1 4 ∷ refusal 11 1 4 ∷ refusal 12 1 4 ∷
    refusal 13 1 4 ∷ refusal 26 1 4 ∷ refusal 14 1 4 ∷ refusal 25 1 4 ∷ refusal 15 1 4 ∷ refusal 16 1 5 ∷ refusal 17 2 1 ∷ refusal 18 1 5 ∷ refusal 19 2 5 ∷ refusal 20 1 4 ∷ []

-- they are the answers to these files
pub each_number : map file_refusal faulty ≡ answers
unfolding open_all file version faulty answers versions day_types valid_days point_types links connections head
each_number = refl

-- with 1 they are all numbers that the file gives: no number is listed that no file gets
pub each_listed : 1 ∷ map (λ (r : Refusal). r.number) answers ≡ file_numbers
unfolding answers
each_listed = refl

-- not every file is refused
pub two_tables_accepted : (file_refusal two_tables).number ≡ 0
unfolding open_all file version two_tables versions day_types head
two_tables_accepted = refl

-- a file that keeps every rule
pub some_file_sound : (s : Bytes) × (cs : List Content) × SoundFile s cs
some_file_sound = (two_tables, (model_of two_tables).tables, accepted_says two_tables two_tables_accepted)

-- nor do all files have one answer
pub two_answers : (s : Bytes) × (t : Bytes) × ¬ ((file_refusal s).number ≡ (file_refusal t).number)
unfolding faulty answers
two_answers = (two_tables, [], λ e. let a = two_tables_accepted in let b = ap (λ (r : Refusal). r.number) nothing in let z : ⊥ = omega arith in z)
  where
    nothing : file_refusal [] ≡ refusal 2 0 0
    nothing = ap (λ (rs : List Refusal). get_or rs 0 (refusal 0 0 0)) each_number

-- the second table's records are its own
pub two_tables_say :
    (model_of two_tables).tables ≡
    record { table = 0; records = (number 7 ∷ words O.Operator (bytes "Winter") ∷ []) ∷ [] } ∷
    record {
      table = 3;
      records = (number 7 ∷ number 1 ∷ words O.Operator (bytes "Monday") ∷ []) ∷ (number 7 ∷ number 2 ∷ words O.Suggestion (bytes "School day") ∷ []) ∷ [];
    } ∷
    []
unfolding open_all file version two_tables versions day_types head
two_tables_say = refl

-- two connections, each told in one of the two ways, with numbers that are missing
unfoldable pub connected : Bytes
connected =
    file (
    version ∷
    connections
    "rec; 7; 1; \"\"; \"\"; 0; 3; 0; 12; ; ; 4; \"\"; \"\"; \"\"; 5; 1; 9; 99; ; \nrec; 7; 2; \"\"; \"\"; 255; 0; 0; 0; ; ; ; \"a\"; \"b\"; \"c\"; 5; 1; 9; ; ; \nend; 2\n" ∷
    bytes "eof; 2\n" ∷ [])

-- they are accepted
pub connected_accepted : (file_refusal connected).number ≡ 0
unfolding open_all file version connected versions connections head
connected_accepted = refl

abbrev own : String → Datum
own t = words O.Operator (bytes t)

-- and what is missing is told so
pub connected_say :
    (model_of connected).tables ≡
    record { table = 0; records = (number 7 ∷ own "Winter" ∷ []) ∷ [] } ∷
    record {
      table = 8;
      records =
          (number 7 ∷ number 1 ∷ own "" ∷ own "" ∷ number 0 ∷ number 3 ∷ number 0 ∷ number 12 ∷ missing ∷ missing ∷ number 4 ∷ own "" ∷ own "" ∷ own "" ∷
          number 5 ∷ number 1 ∷ number 9 ∷ number 99 ∷ missing ∷ missing ∷ []) ∷
          (number 7 ∷ number 2 ∷ own "" ∷ own "" ∷ number 255 ∷ number 0 ∷ number 0 ∷ number 0 ∷ missing ∷ missing ∷ missing ∷ own "a" ∷ own "b" ∷ own "c" ∷
          number 5 ∷ number 1 ∷ number 9 ∷ missing ∷ missing ∷ missing ∷ []) ∷ [];
    } ∷
    []
unfolding open_all file version connected versions connections head
connected_say = refl

-- and 1 is every too long file's
pub long_file : (n : ℕ) → limit < n → file_refusal (replicate n 32) ≡ refusal 1 0 0
long_file n h = long_gives (replicate n 32) (rw (length-replicate {A = ℕ} n 32) h)
