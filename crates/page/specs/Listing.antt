-- What the program `lister` prints.
use Rattle.std.specs.Prelude.{List, [], ◌∷◌, ◌++◌, ℕ, suc, eqb, ltb, length}
use Prim.Native.String.{String}
use Rattle.page.specs.Bytes.{Bytes, bytes, pick}
use Rattle.page.specs.Cut.{header_lines}
use Rattle.page.specs.Header.{head_of}
use Rattle.page.specs.Trailer.{trailer_of}
use Rattle.page.specs.File.{rows_of, file_refusal}
use Rattle.page.specs.Form.{decimal}
use Rattle.page.specs.declared.Row.{Row}
use Rattle.page.specs.declared.Finding.{Finding}
use Rattle.page.specs.declared.Refusal.{Refusal}

unfoldable pub numbers : List ℕ → Bytes
numbers [] = bytes "\n"
numbers (n ∷ ns) = bytes ";" ++ (decimal n ++ numbers ns)

unfoldable pub printed : String → List ℕ → Bytes
printed name ns = bytes name ++ numbers ns

-- "section, table number, verdict, records, line"
unfoldable pub print_row : ℕ → Row → Bytes
print_row i r = printed "table" (i ∷ r.table ∷ r.verdict ∷ r.records ∷ r.line ∷ [])

unfoldable pub print_rows : ℕ → List Row → Bytes
print_rows i [] = []
print_rows i (r ∷ rs) = print_row i r ++ print_rows (suc i) rs

unfoldable pub print_refusal : Refusal → Bytes
print_refusal r = printed "file" (r.number ∷ r.section ∷ r.line ∷ [])

-- "With a refused header only the header and file lines are printed"
unfoldable pub print_tables : Finding → Bytes → Bytes
print_tables h s =
    pick (eqb h.verdict 0) (print_rows 1 (rows_of s) ++ printed "trailer" ((trailer_of s).verdict ∷ [])) []

unfoldable pub print_file : Finding → Bytes → Bytes
print_file h s = printed "header" (h.verdict ∷ h.line ∷ []) ++ (print_tables h s ++ print_refusal (file_refusal s))

-- "reads standard input, up to 64 KiB"; "longer input prints the one line `too long`"
unfoldable pub listing : Bytes → Bytes
listing s = pick (ltb 65536 (length s)) (bytes "too long\n") (print_file (head_of (header_lines s)) s)
