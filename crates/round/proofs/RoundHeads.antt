-- The three lines of each table's head, by computing. Assumes nothing.
use Rattle.std.specs.Prelude.{Ok}
use mathlib.Core.Path.{◌≡◌, refl, sym}
use mathlib.Core.Bool.{Bool, true, false}
use mathlib.Core.List.{List, [], ◌∷◌, ◌++◌, map, append_assoc}
use Prim.Native.Nat.{ℕ, ◌<◌}
use Prim.Native.String.{String}
use lib.Dec.{leb, ltb}
use lib.ListN.{length, get_or}
use borrow.Author.Tests.{ltb-true}
use Rattle.page.specs.Bytes.{Bytes, bytes, all}
use Rattle.page.specs.Lines.{content, command, rest, Tbl, Atr, Frm}
use Rattle.page.specs.Fields.{fields}
use Rattle.page.specs.Tables.{Named, Table, table_at, table_named, TABLES}
use Rattle.page.specs.Order.{Order, listed_order, order_of}
use Rattle.page.specs.Section.{content_step, step}
use Rattle.page.specs.Form.{line_end, separated, line, format_text}
use Rattle.page.specs.Open.{open_all}
use Rattle.page.specs.declared.LineEnd.{LineEnd}
use Rattle.page.specs.declared.Phase.TheVariants as P
use Rattle.page.proofs.TableLaws.{listed, each_table}
use Rattle.page.proofs.LineLaws.{Ended}
use Rattle.page.proofs.LineEndLaws.{content_without_end, ended_of}

abbrev names : Table → List Bytes
names t = map (λ (c : Named). bytes c.name) t.columns

abbrev formats : Table → List Bytes
formats t = map (λ (c : Named). format_text c.column) t.columns

abbrev pub tbl_line : LineEnd → Table → Bytes
tbl_line ends t = line ends "tbl" (bytes t.name ∷ [])

abbrev pub atr_line : LineEnd → Table → Bytes
atr_line ends t = line ends "atr" (names t)

abbrev pub frm_line : LineEnd → Table → Bytes
frm_line ends t = line ends "frm" (formats t)

-- a written line that holds neither CR nor LF: its content, and that it is one line
module _ (ends : LineEnd) (c : String) (fs : List Bytes) (h : all (leb 32) (bytes c ++ separated fs) ≡ true) where
  whole : line ends c fs ≡ (bytes c ++ separated fs) ++ line_end ends
  unfolding line
  whole = sym (append_assoc (bytes c) (separated fs) (line_end ends))

  content_line : content (line ends c fs) ≡ bytes c ++ separated fs
  content_line = rw whole (content_without_end ends (bytes c ++ separated fs) h)

  ended_line : Ended (line ends c fs)
  ended_line = rw whole (ended_of ends (bytes c ++ separated fs) h)

-- under either character set
pub each_latin : {A : Type 0} (f g : Bool → ℕ → A) → listed (f true) TABLES ≡ listed (g true) TABLES → listed (f false) TABLES ≡ listed (g false) TABLES →
    (latin : Bool) (i : ℕ) → i < TABLES → f latin i ≡ g latin i
each_latin f g a b true = each_table (f true) (g true) a
each_latin f g a b false = each_table (f false) (g false) b

-- what the definitions compute at the contents of the three lines
abbrev tbl_bytes : Table → Bytes
tbl_bytes t = bytes "tbl" ++ separated (bytes t.name ∷ [])

abbrev atr_bytes : Table → Bytes
atr_bytes t = bytes "atr" ++ separated (names t)

abbrev frm_bytes : Table → Bytes
frm_bytes t = bytes "frm" ++ separated (formats t)

record Computed (latin : Bool) (i : ℕ) (t : Table) : Type 0 where
  tbl : (o : Order) → content_step latin P.Tbl o (tbl_bytes t) ≡ Ok (P.Atr i)
  atr : (o : Order) → content_step latin (P.Atr i) o (atr_bytes t) ≡ Ok (P.Frm i)
  order : order_of i (fields (rest (atr_bytes t))) ≡ listed_order i
  frm : content_step latin (P.Frm i) (listed_order i) (frm_bytes t) ≡ Ok (P.Rows i 0 0)
  tbl_named : command (tbl_bytes t) ≡ Tbl
  atr_named : command (atr_bytes t) ≡ Atr
  frm_named : command (frm_bytes t) ≡ Frm
  table : table_named (get_or (fields (rest (tbl_bytes t))) 0 []) ≡ i
  tbl_printed : all (leb 32) (tbl_bytes t) ≡ true
  atr_printed : all (leb 32) (atr_bytes t) ≡ true
  frm_printed : all (leb 32) (frm_bytes t) ≡ true
  some : 0 < length t.columns

computed : (latin : Bool) (i : ℕ) → i < TABLES → Computed latin i (table_at i)
unfolding listed open_all
computed latin i h =
    record {
      tbl = λ o. each_latin (λ l t. content_step l P.Tbl o (tbl_bytes (table_at t))) (λ l t. Ok (P.Atr t)) refl refl latin i h;
      atr = λ o. each_latin (λ l t. content_step l (P.Atr t) o (atr_bytes (table_at t))) (λ l t. Ok (P.Frm t)) refl refl latin i h;
      order = each_table (λ t. order_of t (fields (rest (atr_bytes (table_at t))))) listed_order refl i h;
      frm = each_latin (λ l t. content_step l (P.Frm t) (listed_order t) (frm_bytes (table_at t))) (λ l t. Ok (P.Rows t 0 0)) refl refl latin i h;
      tbl_named = each_table (λ t. command (tbl_bytes (table_at t))) (λ t. Tbl) refl i h;
      atr_named = each_table (λ t. command (atr_bytes (table_at t))) (λ t. Atr) refl i h;
      frm_named = each_table (λ t. command (frm_bytes (table_at t))) (λ t. Frm) refl i h;
      table = each_table (λ t. table_named (get_or (fields (rest (tbl_bytes (table_at t)))) 0 [])) (λ t. t) refl i h;
      tbl_printed = each_table (λ t. all (leb 32) (tbl_bytes (table_at t))) (λ t. true) refl i h;
      atr_printed = each_table (λ t. all (leb 32) (atr_bytes (table_at t))) (λ t. true) refl i h;
      frm_printed = each_table (λ t. all (leb 32) (frm_bytes (table_at t))) (λ t. true) refl i h;
      some = ltb-true 0 (length (table_at i).columns) (each_table (λ t. ltb 0 (length (table_at t).columns)) (λ t. true) refl i h);
    }

-- the lines, however they end
pub record Heads (ends : LineEnd) (latin : Bool) (i : ℕ) (t : Table) : Type 0 where
  pub tbl : (o : Order) → step latin P.Tbl o (tbl_line ends t) ≡ Ok (P.Atr i)
  pub atr : (o : Order) → step latin (P.Atr i) o (atr_line ends t) ≡ Ok (P.Frm i)
  pub order : order_of i (fields (rest (content (atr_line ends t)))) ≡ listed_order i
  pub frm : step latin (P.Frm i) (listed_order i) (frm_line ends t) ≡ Ok (P.Rows i 0 0)
  pub tbl_named : command (content (tbl_line ends t)) ≡ Tbl
  pub atr_named : command (content (atr_line ends t)) ≡ Atr
  pub frm_named : command (content (frm_line ends t)) ≡ Frm
  pub table : table_named (get_or (fields (rest (content (tbl_line ends t)))) 0 []) ≡ i
  pub tbl_ended : Ended (tbl_line ends t)
  pub atr_ended : Ended (atr_line ends t)
  pub frm_ended : Ended (frm_line ends t)
  pub some : 0 < length t.columns

heads_of : (ends : LineEnd) (latin : Bool) (i : ℕ) (t : Table) → Computed latin i t → Heads ends latin i t
unfolding step
heads_of ends latin i t c =
    let x : content (tbl_line ends t) ≡ tbl_bytes t = content_line ends "tbl" (bytes t.name ∷ []) c.tbl_printed in
    let y : content (atr_line ends t) ≡ atr_bytes t = content_line ends "atr" (names t) c.atr_printed in
    let z : content (frm_line ends t) ≡ frm_bytes t = content_line ends "frm" (formats t) c.frm_printed in
    record {
      tbl = λ o. rw x (c.tbl o);
      atr = λ o. rw y (c.atr o);
      order = rw y c.order;
      frm = rw z c.frm;
      tbl_named = rw x c.tbl_named;
      atr_named = rw y c.atr_named;
      frm_named = rw z c.frm_named;
      table = rw x c.table;
      tbl_ended = ended_line ends "tbl" (bytes t.name ∷ []) c.tbl_printed;
      atr_ended = ended_line ends "atr" (names t) c.atr_printed;
      frm_ended = ended_line ends "frm" (formats t) c.frm_printed;
      some = c.some;
    }

pub heads : (ends : LineEnd) (latin : Bool) (i : ℕ) → i < TABLES → Heads ends latin i (table_at i)
heads ends latin i h = heads_of ends latin i (table_at i) (computed latin i h)
