-- The theorems on what is written speak of something: a file of the trade's habits, written, stripped and filled, by computing. Assumes nothing.
use mathlib.Core.Path.{◌≡◌, refl}
use mathlib.Core.List.{◌++◌}
use Prim.Native.String.{String}
use Rattle.page.specs.Bytes.{Bytes, bytes}
use Rattle.page.specs.Answers.{sound}
use Rattle.page.specs.Records.{missing}
use Rattle.page.specs.Model.{model_of, datum_at}
use Rattle.page.specs.File.{file_refusal}
use Rattle.page.specs.Writing.{write_form, strip_form, fill_refusal, fill_form}
use Rattle.page.specs.Cases.{head, versions, connections}
use Rattle.page.specs.Open.{open_all}

-- another mode and date, comments, blank lines, spaces, leading zeros, small formats, a mark, padded texts
pub habits : Bytes
habits =
    bytes
    "mod; YYYY/MM/DD; HH:MM:SS; aligned\r\ncom; \"SUGGESTED 9\"\nsrc; \"Desk \"\"A\"\"\"; \"2024/02/29\"; \"06:00:00\"\nchs; \"ISO-8859-1\"\nifv;\"1.0\"\n\nver ; \"1\"\ntbl; MENGE_BASIS_VERSIONEN\natr; BASIS_VERSION; BASIS_VERSION_TEXT\nfrm; num[1.0]; char[9]\ncom; \"SUGGESTED 2\"\n\nrec ;007; \"Wint;er  \"\nend; 1\ntbl; MENGE_TAGESART\natr; BASIS_VERSION; TAGESART_NR; TAGESART_TEXT\nfrm; num[9.0]; num[3.0]; char[40]\ncom; a comment\nrec; 7; 1; \"   \"\nrec;7;02;\"Séance\"\nend; 0002\neof; 2\n  \n"

accepted : file_refusal habits ≡ sound
unfolding open_all habits
accepted = refl

written : write_form habits ≡ bytes
    "mod; DD.MM.YYYY; HH:MM:SS; free\nsrc; \"Desk \"\"A\"\"\"; \"29.02.2024\"; \"06:00:00\"\nchs; \"ISO8859-1\"\nver; \"1\"\nifv; \"1.0\"\ntbl; MENGE_BASIS_VERSIONEN\natr; BASIS_VERSION; BASIS_VERSION_TEXT\nfrm; num[9.0]; char[40]\ncom; \"SUGGESTED 2\"\nrec; 7; \"Wint;er\"\nend; 1\ntbl; MENGE_TAGESART\natr; BASIS_VERSION; TAGESART_NR; TAGESART_TEXT\nfrm; num[9.0]; num[3.0]; char[40]\nrec; 7; 1; \"\"\nrec; 7; 2; \"Séance\"\nend; 2\neof; 2\n"
unfolding open_all habits
written = refl

stripped : strip_form habits ≡ bytes
    "mod; DD.MM.YYYY; HH:MM:SS; free\nsrc; \"Desk \"\"A\"\"\"; \"29.02.2024\"; \"06:00:00\"\nchs; \"ISO8859-1\"\nver; \"1\"\nifv; \"1.0\"\ntbl; MENGE_BASIS_VERSIONEN\natr; BASIS_VERSION; BASIS_VERSION_TEXT\nfrm; num[9.0]; char[40]\nrec; 7; \"\"\nend; 1\ntbl; MENGE_TAGESART\natr; BASIS_VERSION; TAGESART_NR; TAGESART_TEXT\nfrm; num[9.0]; num[3.0]; char[40]\nrec; 7; 1; \"\"\nrec; 7; 2; \"Séance\"\nend; 2\neof; 2\n"
unfolding open_all habits
stripped = refl

-- the empty text of the first day type filled
may_fill : fill_refusal habits 2 1 3 (bytes "School") ≡ sound
unfolding open_all habits
may_fill = refl

filled : fill_form habits 2 1 3 (bytes "School") ≡ bytes
    "mod; DD.MM.YYYY; HH:MM:SS; free\nsrc; \"Desk \"\"A\"\"\"; \"29.02.2024\"; \"06:00:00\"\nchs; \"ISO8859-1\"\nver; \"1\"\nifv; \"1.0\"\ntbl; MENGE_BASIS_VERSIONEN\natr; BASIS_VERSION; BASIS_VERSION_TEXT\nfrm; num[9.0]; char[40]\ncom; \"SUGGESTED 2\"\nrec; 7; \"Wint;er\"\nend; 1\ntbl; MENGE_TAGESART\natr; BASIS_VERSION; TAGESART_NR; TAGESART_TEXT\nfrm; num[9.0]; num[3.0]; char[40]\ncom; \"SUGGESTED 3\"\nrec; 7; 1; \"School\"\nrec; 7; 2; \"Séance\"\nend; 2\neof; 2\n"
unfolding open_all habits
filled = refl

-- numbers that are missing, with and without spaces, in the middle of a line and at its end
abbrev connected : String → Bytes
connected rec = head ++ (versions "rec; 7; \"\"\nend; 1\n" ++ (connections rec ++ bytes "end; 1\neof; 2\n"))

gaps : Bytes
gaps = connected "rec;7;1;\"\";\"\";0;3;0;12;;  ;4;\"\";\"\";\"\";5;1;9;99;;\n"

gaps_accepted : file_refusal gaps ≡ sound
unfolding open_all head versions connections gaps
gaps_accepted = refl

gaps_written : write_form gaps ≡ connected "rec; 7; 1; \"\"; \"\"; 0; 3; 0; 12; ; ; 4; \"\"; \"\"; \"\"; 5; 1; 9; 99; ; \n"
unfolding open_all head versions connections gaps
gaps_written = refl

gaps_missing : datum_at 2 1 20 (model_of (write_form gaps)) ≡ missing
unfolding open_all head versions connections gaps
gaps_missing = refl
