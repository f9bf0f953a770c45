-- Demand 3 speaks of something: a run within the second of three tables, in two files, by computing. Assumes nothing.
use mathlib.Core.Path.{◌≡◌, refl}
use mathlib.Core.List.{[], ◌∷◌, ◌++◌}
use Prim.Native.Nat.{ℕ}
use lib.ListN.{length}
use Rattle.page.specs.Bytes.{Bytes, bytes}
use Rattle.page.specs.Cut.{sections}
use Rattle.page.specs.File.{rows_of}
use Rattle.page.specs.Open.{open_all}
use Rattle.page.specs.declared.Row.{Row}
use Rattle.page.proofs.CutLaws.{extend, flat}
use Rattle.round.specs.Local.{settled, final, closed, reached_pieces, reached}

-- the header, a whole table, and the first lines of a second
before : Bytes
before = bytes "mod; DD.MM.YYYY; HH:MM:SS; free\nsrc; \"D\"; \"01.02.2024\"; \"06:00:00\"\nchs; \"ASCII\"\nver; \"1\"\nifv; \"1\"\ntbl; MENGE_BASIS_VERSIONEN\natr; BASIS_VERSION; BASIS_VERSION_TEXT\nfrm; num[9.0]; char[40]\nrec; 7; \"\"\nend; 1\ntbl; MENGE_TAGESART\natr; BASIS_VERSION; TAGESART_NR; TAGESART_TEXT\n"

sound_run : Bytes
sound_run = bytes "frm; num[9.0]; num[3.0]; char[40]\nend; 0\n"

-- a lost format, and a table more: three bytes longer
broken_run : Bytes
broken_run = bytes "frm; num[9.0]\ntbl; MENGE_FAHRTART\nrec; 1; 2\n"

after : Bytes
after = bytes "com; x\ntbl; MENGE_FAHRTART\natr; BASIS_VERSION; FAHRTART_NR; STR_FAHRTART\nfrm; num[9.0]; num[2.0]; char[6]\nend; 0\neof; 3\n"

abbrev row : ℕ → ℕ → ℕ → ℕ → ℕ → ℕ → Row
row t p n k v l = record { table = t; place = p; length = n; records = k; verdict = v; line = l }

-- one section is closed before the run, one begins after it
ends : (length (closed before) ≡ 1) × (length (sections after) ≡ 1) × (length (reached before sound_run after) ≡ 1) × (length (reached before broken_run after) ≡ 2)
unfolding open_all before after sound_run broken_run settled final closed reached_pieces reached extend flat
ends = (refl, refl, refl, refl)

one : rows_of (before ++ (sound_run ++ after)) ≡ row 485 98 108 1 0 0 ∷ row 290 206 115 0 0 0 ∷ row 332 321 106 0 0 0 ∷ []
unfolding open_all before after sound_run
one = refl

other : rows_of (before ++ (broken_run ++ after)) ≡ row 485 98 108 1 0 0 ∷ row 290 206 81 0 9 3 ∷ row 332 287 37 0 6 2 ∷ row 332 324 106 0 0 0 ∷ []
unfolding open_all before after broken_run
other = refl
