-- The listing example of document 01, printed exactly.
use Rattle.std.specs.Prelude.{◌≡◌, refl, List, [], ◌∷◌, ◌++◌}
use Prim.Native.String.{String}
use Rattle.page.specs.Bytes.{Bytes, bytes}
use Rattle.page.specs.Listing.{listing}
use Rattle.page.specs.Open.{open_all}

-- lines, each with its LF
unfoldable pub page : List String → Bytes
page [] = []
page (l ∷ ls) = bytes l ++ (10 ∷ page ls)

-- a closing quote is missing in the ninth line
unfoldable pub sample : List String
sample =
    "mod; DD.MM.YYYY; HH:MM:SS; free" ∷
    "src; \"Desk\"; \"01.02.2024\"; \"06:00:00\"" ∷
    "chs; \"ISO8859-1\"" ∷
    "ver; \"1\"" ∷
    "ifv; \"1.0\"" ∷
    "tbl; MENGE_TAGESART" ∷
    "atr; BASIS_VERSION; TAGESART_NR; TAGESART_TEXT" ∷
    "frm; num[9.0]; num[3.0]; char[40]" ∷
    "rec; 7; 1; \"School day" ∷
    "end; 1" ∷
    "tbl; MENGE_BASIS_VERSIONEN" ∷
    "atr; BASIS_VERSION; BASIS_VERSION_TEXT" ∷
    "frm; num[9.0]; char[40]" ∷
    "rec; 7; \"Winter\"" ∷
    "end; 1" ∷
    "eof; 2" ∷
    []

unfoldable pub expected : List String
expected = "header;0;0" ∷ "table;1;290;11;0;4" ∷ "table;2;485;0;1;0" ∷ "trailer;0" ∷ "file;11;1;4" ∷ []

listed : listing (page sample) ≡ page expected
unfolding open_all page sample expected
listed = refl
