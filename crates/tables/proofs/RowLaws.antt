-- What two lists say alike, they say alike at each place. Assumes nothing.
use mathlib.Core.Path.{◌≡◌, ap, sym, ◌∙◌}
use mathlib.Core.List.{List, map}
use Prim.Native.Nat.{ℕ, ◌<◌}
use native.Mathlib.Omega.{arith}
use lib.ListN.{length, get_or, length-map, get_or-map}
use Rattle.page.specs.Bytes.{bytes}
use Rattle.page.specs.Tables as Page
use Rattle.page.specs.Tables.{all_tables, TABLES, no_table, table_at}
use Rattle.tables.proofs.ArrayLaws.{map_at}
use Rattle.tables.specs.declared.rows.Table.{Table}
use Rattle.tables.specs.Rows.{told_name, given_name, told_column, given_column, told_columns, given_columns, told_target, given_target, rules_of, Says, AllSay}

pub read_alike : {A B C : Type 0} (f : A → C) (g : B → C) (xs : List A) (ys : List B) (d : A) (e : B) (n : ℕ) → map f xs ≡ map g ys → f d ≡ g e
    → f (get_or xs n d) ≡ g (get_or ys n e)
read_alike {C = C} f g xs ys d e n m z =
    sym (get_or-map f xs n d) ∙ ap (λ (l : List C). get_or l n (f d)) m ∙ ap (get_or (map g ys) n) z ∙ get_or-map g ys n e

pub says_at : (rows : List Table) (d : Table) (t : ℕ) → AllSay rows → Says d no_table → Says (get_or rows t d) (table_at t)
unfolding table_at
says_at rows d t x z =
    record {
      number = read_alike (λ (r : Table). r.number) (λ (x : Page.Table). x.number) rows all_tables d no_table t x.number z.number;
      name = read_alike (λ (r : Table). r.name.now) (λ (x : Page.Table). bytes x.name) rows all_tables d no_table t x.name z.name;
      names = read_alike (λ (r : Table). map told_name r.columns.now) (λ (x : Page.Table). map given_name x.columns) rows all_tables d no_table t x.names z.names;
      columns = read_alike (λ (r : Table). map told_column r.columns.now) (λ (x : Page.Table). map given_column x.columns) rows all_tables d no_table t x.columns z.columns;
      references = read_alike (λ (r : Table). map told_columns r.references.now) (λ (x : Page.Table). map given_columns x.references) rows all_tables d no_table t x.references z.references;
      targets = read_alike (λ (r : Table). map told_target r.references.now) (λ (x : Page.Table). map given_target x.references) rows all_tables d no_table t x.targets z.targets;
      rules = read_alike (λ (r : Table). rules_of r.rule) (λ (x : Page.Table). x.rules) rows all_tables d no_table t x.rules z.rules;
    }

-- the rows are as many as the tables
pub rows_counted : (rows : List Table) → AllSay rows → length rows ≡ TABLES
unfolding all_tables
rows_counted rows x = sym (length-map rows (λ (r : Table). r.number)) ∙ ap length x.number

pub row_width : {r : Table} {x : Page.Table} → Says r x → length r.columns.now ≡ length x.columns
row_width {r} {x} s = sym (length-map r.columns.now told_column) ∙ ap length s.columns ∙ length-map x.columns given_column

pub row_references : {r : Table} {x : Page.Table} → Says r x → length r.references.now ≡ length x.references
row_references {r} {x} s = sym (length-map r.references.now told_target) ∙ ap length s.targets ∙ length-map x.references given_target

-- the same at a place that is there
pub read_told : {A B C : Type 0} (f : A → C) (g : B → C) (xs : List A) (ys : List B) (d : A) (e : B) (n : ℕ) → map f xs ≡ map g ys → n < length xs
    → f (get_or xs n d) ≡ g (get_or ys n e)
read_told {C = C} f g xs ys d e n m h =
    let k : length xs ≡ length ys = sym (length-map xs f) ∙ ap length m ∙ length-map ys g in
    sym (map_at f xs n d (f d) h) ∙ ap (λ (l : List C). get_or l n (f d)) m ∙ map_at g ys n e (f d) (omega arith)
