-- Laws of the lines that begin a section: their fields one by one. Assumes nothing.
use mathlib.Core.Path.{◌≡◌, refl, sym}
use mathlib.Core.Bool.{Bool, true, false}
use mathlib.Core.List.{List, [], ◌++◌, append_assoc, append-nil}
use Prim.Native.Nat.{ℕ, ◌+◌, ◌<◌, ◌≤◌}
use native.Mathlib.Numerals.{add-one}
use lib.ListN.{length, get_or, drop, length-map, get_or-map, drop_of_length-le}
use lib.Seq.{drop-cons}
use Rattle.page.specs.Bytes.{Bytes, bytes}
use Rattle.page.specs.Tables.{no_column, table_at, columns, width, column_at, name_at}
use Rattle.page.specs.Form.{line_end, separated, line, format_text, table_head}
use Rattle.page.specs.declared.LineEnd.{LineEnd}
use Rattle.page.specs.declared.Column.{Column}
use Rattle.frames.specs.Lines.{line_with}
use Rattle.frames.specs.Titles.{tbl_line, title_of, title_at, titles}

-- fields from one on

pub separated_more : (fs : List Bytes) (k : ℕ) (f d : Bytes) → k < length fs → f ≡ get_or fs k d
    → separated (drop k fs) ≡ (bytes "; " ++ f) ++ separated (drop (k + 1) fs)
unfolding separated
separated_more fs k f d h e = rw (add-one, drop-cons fs k d h, e, append_assoc)

pub separated_end : (fs : List Bytes) (k : ℕ) → length fs ≤ k → separated (drop k fs) ≡ []
unfolding separated
separated_end fs k h = rw (drop_of_length-le fs h)

pub titles_line : (ends : LineEnd) (word : Bytes) (fs : List Bytes) → word ++ (separated fs ++ line_end ends) ≡ line_with ends word fs
unfolding line_with
titles_line ends word fs = refl

-- the names or the formats of a table's columns

pub titles_count : (formats : Bool) (t : ℕ) → length (titles formats t) ≡ width t
unfolding titles width
titles_count formats t = length-map (columns t) (title_of formats)

pub title_is : (formats : Bool) (t k : ℕ) → title_at formats t k ≡ get_or (titles formats t) k (title_of formats no_column)
unfolding titles title_at
title_is formats t k = sym (get_or-map (title_of formats) (columns t) k no_column)

pub title_format : (formats : Bool) (t k : ℕ) (c : Column) → formats ≡ true → c ≡ column_at t k → format_text c ≡ title_at formats t k
unfolding title_at column_at
title_format formats t k c e f = rw (e, f)

pub title_name : (formats : Bool) (t k : ℕ) (w : Bytes) → formats ≡ false → w ≡ bytes (name_at t k) → w ≡ title_at formats t k
unfolding title_at name_at
title_name formats t k w e f = rw (e, f)

pub tbl_is : (ends : LineEnd) (t : ℕ) (w : Bytes) → w ≡ bytes (table_at t).name → bytes "tbl; " ++ (w ++ line_end ends) ≡ tbl_line ends t
unfolding bytes tbl_line line separated
tbl_is ends t w e = rw e (simp append-nil)

pub table_head_is : (ends : LineEnd) (t : ℕ)
    → tbl_line ends t ++ (line_with ends (bytes "atr") (titles false t) ++ line_with ends (bytes "frm") (titles true t)) ≡ table_head ends (table_at t)
unfolding table_head tbl_line line line_with titles columns
table_head_is ends t = refl
