-- Demand 3 speaks of something: a run within the second of three tables, in two files, by computing. Assumes nothing.
use mathlib.Core.Path.{◌≡◌, refl}
use mathlib.Core.List.{[], ◌∷◌, ◌++◌}
use Prim.Native.Nat.{ℕ}
use native.Mathlib.Omega.{arith}
use lib.ListN.{length}
use Rattle.page.specs.Bytes.{Bytes, bytes}
use Rattle.page.specs.Cut.{sections}
use Rattle.page.specs.File.{rows_of}
use Rattle.page.specs.Open.{open_all}
use Rattle.page.specs.declared.Row.{Row}
use Rattle.page.proofs.LineLaws.{ends}
use Rattle.page.proofs.CutLaws.{flat, extend}
use Rattle.demands.specs.Damage.{Replaced, Before, Between, Moved}
use Rattle.round.specs.Local.{whole, settled, final, closed, reached_pieces, reached}

-- the header, a whole table, and the first lines of a second
opening : Bytes
opening = bytes "mod; DD.MM.YYYY; HH:MM:SS; free\nsrc; \"D\"; \"01.02.2024\"; \"06:00:00\"\nchs; \"ASCII\"\nver; \"1\"\nifv; \"1\"\ntbl; MENGE_BASIS_VERSIONEN\natr; BASIS_VERSION; BASIS_VERSION_TEXT\nfrm; num[9.0]; char[40]\nrec; 7; \"\"\nend; 1\ntbl; MENGE_TAGESART\natr; BASIS_VERSION; TAGESART_NR; TAGESART_TEXT"

before : Bytes
before = opening ++ 10 ∷ []

sound : Bytes
sound = bytes "frm; num[9.0]; num[3.0]; char[40]\nend; 0"

sound_run : Bytes
sound_run = sound ++ 10 ∷ []

-- a lost format, and a table more: three bytes longer
broken : Bytes
broken = bytes "frm; num[9.0]\ntbl; MENGE_FAHRTART\nrec; 1; 2"

broken_run : Bytes
broken_run = broken ++ 10 ∷ []

after : Bytes
after = bytes "com; x\ntbl; MENGE_FAHRTART\natr; BASIS_VERSION; FAHRTART_NR; STR_FAHRTART\nfrm; num[9.0]; num[2.0]; char[6]\nend; 0\neof; 3\n"

abbrev row : ℕ → ℕ → ℕ → ℕ → ℕ → ℕ → Row
row t p n k v l = record { table = t; place = p; length = n; records = k; verdict = v; line = l }

-- one section is closed before the run, one begins after it
parts : (length (closed before) ≡ 1) × (length (sections after) ≡ 1) × (length (reached before sound_run after) ≡ 1) × (length (reached before broken_run after) ≡ 2)
unfolding open_all opening before after sound sound_run broken broken_run settled final closed reached_pieces reached extend flat
parts = (refl, refl, refl, refl)

one : rows_of (before ++ (sound_run ++ after)) ≡ row 485 98 108 1 0 0 ∷ row 290 206 115 0 0 0 ∷ row 332 321 106 0 0 0 ∷ []
unfolding open_all opening before after sound sound_run
one = refl

other : rows_of (before ++ (broken_run ++ after)) ≡ row 485 98 108 1 0 0 ∷ row 290 206 81 0 9 3 ∷ row 332 287 37 0 6 2 ∷ row 332 324 106 0 0 0 ∷ []
unfolding open_all opening before after broken broken_run
other = refl

-- the two files are as demand 3 has them
replaced : Replaced before sound_run broken_run after
unfolding open_all opening before after sound sound_run broken broken_run
replaced = record { whole = ends opening; begun = omega arith; old = whole after (ends sound); new = whole after (ends broken); limit = refl }

-- the first section stands before the run, the second between, and the last after it
first : Before before (before ++ (broken_run ++ after)) 1
unfolding open_all opening before after broken broken_run
first = record { there = omega arith; ends = omega arith }

second : Between before broken_run (before ++ (broken_run ++ after)) 2
unfolding open_all opening before after broken broken_run
second = record { there = omega arith; ends = omega arith; begins = omega arith }

last : Moved before sound_run broken_run after 3 4
unfolding open_all opening before after sound sound_run broken broken_run
last = record { one = record { there = omega arith; begins = omega arith }; other = record { there = omega arith; begins = omega arith }; place = refl }
