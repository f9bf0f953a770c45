-- Keys and references do not depend on texts that may be marked: stripping and filling keep 17 to 20. Assumes nothing.
use mathlib.Core.Path.{◌≡◌, refl, sym, ◌∙◌}
use mathlib.Core.Bool.{Bool, true, false, not, ◌&&◌, ◌||◌, false≢true}
use mathlib.Core.List.{List, [], ◌∷◌, ◌++◌, map, Memᴰ}
use Prim.Native.Nat.{ℕ, zero, suc, ◌+◌}
use lib.Dec.{eqb, leb}
use lib.ListN.{get_or}
use borrow.Author.Tests.{not-true}
use Rattle.page.specs.Tables.{Named, Reference, Rule, points_differ, feeder_combined, Table, no_column, all_tables, table_at, columns, column_at, rules, number_at}
use Rattle.page.specs.Records.{number, Record}
use Rattle.page.specs.Model.{Content}
use Rattle.page.specs.File.{any, Filed, same_record, key_in, key_of, by_primary, by_second, repeats, referred, meets, lost}
use Rattle.page.specs.Grammar.{OwnFeeder, ForeignFeeder, Breaks, same_points, neither_way}
use Rattle.page.specs.declared.Column.{Column}
use Rattle.round.specs.Round.{FitAll, no_value, a_value, SoundRecord}
use Rattle.round.specs.RoundKeys.{breaks, placeless, filed_content, KeysHold}
use Rattle.demands.specs.RoundAlike.{Pairs, no_pair, a_pair, Alike, alike_none, alike_same, alike_text, AlikeContent}
use Rattle.page.proofs.TestLaws.{and_left, and_right}
use Rattle.page.proofs.TableLaws.{each, table_test, column_test, Four, points_there, Fed, feeder_there}

-- of the columns that may be marked: none is of a key or a reference, and each is a text of at least 40 bytes

unfoldable pub free_of : (Column → Bool) → List Named → Bool
free_of p [] = true
free_of p (c ∷ cs) = not (c.column.fillable && p c.column) && free_of p cs

unfoldable pub no_text_at : List Named → List ℕ → Bool
no_text_at cs [] = true
no_text_at cs (k ∷ ks) = not (get_or cs k no_column).column.fillable && no_text_at cs ks

unfoldable pub refers_past : List Named → List Reference → Bool
refers_past cs [] = true
refers_past cs (r ∷ rs) = no_text_at cs r.columns && refers_past cs rs

unfoldable pub only_texts : List Named → Bool
only_texts [] = true
only_texts (c ∷ cs) = (not c.column.fillable || (c.column.text && leb 40 c.column.hi)) && only_texts cs

pub record Settled (t : ℕ) : Type 0 where
  pub primary : free_of by_primary (columns t) ≡ true
  pub second : free_of by_second (columns t) ≡ true
  pub references : refers_past (columns t) (table_at t).references ≡ true
  pub texts : only_texts (columns t) ≡ true

pub settled : (t : ℕ) → Settled t
unfolding each free_of no_text_at refers_past only_texts columns all_tables
settled t =
    record {
      primary = table_test (λ (x : Table). free_of by_primary x.columns) refl refl t;
      second = table_test (λ (x : Table). free_of by_second x.columns) refl refl t;
      references = table_test (λ (x : Table). refers_past x.columns x.references) refl refl t;
      texts = table_test (λ (x : Table). only_texts x.columns) refl refl t;
    }

-- keys and references of records that are alike

unless : (a b : Bool) → a ≡ true → (a && b) ≡ false → b ≡ false
unless true b e h = h
unless false b e h = absurd (false≢true e)

key_alike : (p : Column → Bool) {cs : List Named} {vs us : Record} → free_of p cs ≡ true → Alike cs vs us → key_in p cs vs ≡ key_in p cs us
unfolding key_in free_of
key_alike p h alike_none = refl
key_alike p h (alike_same {c} {cs} {v} {vs} {us} a) = rw (key_alike p (and_right (not (c.column.fillable && p c.column)) (free_of p cs) h) a)
key_alike p h (alike_text {c} {cs} {v} {u} {vs} {us} f a) =
    let q : p c.column ≡ false =
    unless c.column.fillable (p c.column) f (not-true (c.column.fillable && p c.column) (and_left (not (c.column.fillable && p c.column)) (free_of p cs) h)) in
    rw q (key_alike p (and_right (not (c.column.fillable && p c.column)) (free_of p cs) h) a)

value_alike : {cs : List Named} {vs us : Record} (k : ℕ) → (get_or cs k no_column).column.fillable ≡ false → Alike cs vs us → get_or vs k (number 0) ≡ get_or us k (number 0)
value_alike k h alike_none = refl
value_alike zero h (alike_same a) = refl
value_alike zero h (alike_text f a) = absurd (false≢true (sym h ∙ f))
value_alike (suc k) h (alike_same a) = value_alike k h a
value_alike (suc k) h (alike_text f a) = value_alike k h a

referred_alike : {cs : List Named} {vs us : Record} (ks : List ℕ) → no_text_at cs ks ≡ true → Alike cs vs us → referred ks vs ≡ referred ks us
unfolding referred no_text_at
referred_alike [] h a = refl
referred_alike {cs} (k ∷ ks) h a =
    rw (
      value_alike k (not-true (get_or cs k no_column).column.fillable (and_left (not (get_or cs k no_column).column.fillable) (no_text_at cs ks) h)) a,
      referred_alike ks (and_right (not (get_or cs k no_column).column.fillable) (no_text_at cs ks) h) a,
    )

-- records with their tables
record AlikeFiled (d e : Filed) : Type 0 where
  table : d.table ≡ e.table
  values : Alike (columns d.table) d.values e.values

any_pairs : {A : Type 0} {R : A → A → Type 0} (p q : A → Bool) → ((x y : A) → R x y → p x ≡ q y) → {xs ys : List A} → Pairs R xs ys → any p xs ≡ any q ys
unfolding any
any_pairs p q f no_pair = refl
any_pairs p q f (a_pair {x} {y} r rs) = rw (f x y r, any_pairs p q f rs)

filed_key : (p : Column → Bool) (d e : Filed) → free_of p (columns d.table) ≡ true → AlikeFiled d e → key_of p d ≡ key_of p e
unfolding key_of
filed_key p d e h a = key_alike p h a.values ∙ rw a.table

repeats_alike : (p : Column → Bool) → ((t : ℕ) → free_of p (columns t) ≡ true) → {ds es : List Filed} → Pairs AlikeFiled ds es → (d e : Filed) → AlikeFiled d e →
    repeats p ds d ≡ repeats p es e
unfolding repeats
repeats_alike p h {ds} {es} ps d e a =
    rw (
      any_pairs (λ (x : Filed). eqb x.table d.table && same_record (key_of p x) (key_of p d)) (λ (y : Filed). eqb y.table e.table && same_record (key_of p y) (key_of p e))
          (λ x y b. rw (filed_key p x y (h x.table) b, filed_key p d e (h d.table) a, b.table, a.table)) ps,
      a.table,
    )

module _ {ds es : List Filed} (ps : Pairs AlikeFiled ds es) (d e : Filed) (a : AlikeFiled d e) where
  meets_alike : (r : Reference) → no_text_at (columns d.table) r.columns ≡ true → any (meets d r) ds ≡ any (meets e r) es
  unfolding meets
  meets_alike r h =
      any_pairs (meets d r) (meets e r)
      (λ x y b. rw (filed_key by_primary x y (settled x.table).primary b, referred_alike r.columns h a.values, b.table)) ps

  references_alike : (rs : List Reference) → refers_past (columns d.table) rs ≡ true →
      any (λ (r : Reference). not (any (meets d r) ds)) rs ≡ any (λ (r : Reference). not (any (meets e r) es)) rs
  unfolding any refers_past
  references_alike [] h = refl
  references_alike (r ∷ rs) h =
      rw (
        meets_alike r (and_left (no_text_at (columns d.table) r.columns) (refers_past (columns d.table) rs) h),
        references_alike rs (and_right (no_text_at (columns d.table) r.columns) (refers_past (columns d.table) rs) h),
      )

lost_alike : {ds es : List Filed} → Pairs AlikeFiled ds es → (d e : Filed) → AlikeFiled d e → lost ds d ≡ lost es e
unfolding lost
lost_alike ps d e a = references_alike ps d e a (table_at d.table).references (settled d.table).references ∙ rw a.table

breaks_alike : (bad worse : List Filed → Filed → Bool) → ((xs ys : List Filed) → Pairs AlikeFiled xs ys → (d e : Filed) → AlikeFiled d e → bad xs d ≡ worse ys e) →
    {xs ys ds es : List Filed} → Pairs AlikeFiled xs ys → Pairs AlikeFiled ds es → breaks bad xs ds ≡ breaks worse ys es
unfolding breaks
breaks_alike bad worse f ps no_pair = refl
breaks_alike bad worse f {xs} {ys} ps (a_pair {x} {y} a more) = rw (f xs ys ps x y a, breaks_alike bad worse f (a_pair a ps) more)

-- all records of contents that are alike

pairs_append : {A : Type 0} {R : A → A → Type 0} {a b c d : List A} → Pairs R a b → Pairs R c d → Pairs R (a ++ c) (b ++ d)
pairs_append no_pair q = q
pairs_append (a_pair r rs) q = a_pair r (pairs_append rs q)

records_alike : (t u : ℕ) → t ≡ u → {vs us : List Record} → Pairs (Alike (columns t)) vs us → Pairs AlikeFiled (map (placeless t) vs) (map (placeless u) us)
records_alike t u e no_pair = no_pair
records_alike t u e (a_pair r rs) = a_pair (record { table = e; values = r }) (records_alike t u e rs)

filed_alike : {cs ds : List Content} → Pairs AlikeContent cs ds → Pairs AlikeFiled (filed_content cs) (filed_content ds)
unfolding filed_content
filed_alike no_pair = no_pair
filed_alike (a_pair {x} {y} c cs) = pairs_append (records_alike x.table y.table c.table c.records) (filed_alike cs)

tables_alike : {cs ds : List Content} → Pairs AlikeContent cs ds → map (λ (c : Content). number_at c.table) cs ≡ map (λ (c : Content). number_at c.table) ds
tables_alike no_pair = refl
tables_alike (a_pair c cs) = rw (c.table, tables_alike cs)

-- what 17 to 20 say of a file they say of one that differs in texts that may be marked
pub keys_alike : {cs ds : List Content} → Pairs AlikeContent cs ds → KeysHold cs → KeysHold ds
keys_alike {cs} {ds} ps k =
    let fs = filed_alike ps in
    record {
      once = rw (← tables_alike ps) k.once;
      primary = rw (← breaks_alike (repeats by_primary) (repeats by_primary) (λ xs ys. repeats_alike by_primary (λ t. (settled t).primary)) no_pair fs) k.primary;
      second = rw (← breaks_alike (repeats by_second) (repeats by_second) (λ xs ys. repeats_alike by_second (λ t. (settled t).second)) no_pair fs) k.second;
      references = rw (← breaks_alike (λ before. lost (filed_content cs)) (λ before. lost (filed_content ds)) (λ xs ys q d e a. lost_alike fs d e a) no_pair fs) k.references;
    }

-- no column that a rule speaks of may be marked, so records that are alike break the same rules

unmarked : (t k : ℕ) → (get_or (columns t) k no_column).column.text ≡ false → (get_or (columns t) k no_column).column.fillable ≡ false
unfolding column_at each all_tables
unmarked t k e =
    by (column_at t k).fillable (column_at t k).text (column_test (λ (c : Column). not c.fillable || c.text) refl refl t k) e
  where
    by : (f x : Bool) → (not f || x) ≡ true → x ≡ false → f ≡ false
    by true x h g = sym h ∙ g
    by false x h g = refl

abbrev Agree : Record → Record → ℕ → Type 0
Agree vs us k = get_or vs k (number 0) ≡ get_or us k (number 0)

-- the values by which a feeder is told
record SameFeeder (vs us : Record) (c x : ℕ) : Type 0 where
  centre : Agree vs us c
  line : Agree vs us (c + 1)
  direction : Agree vs us (c + 2)
  stop : Agree vs us (c + 3)
  line_id : Agree vs us x
  direction_id : Agree vs us (x + 1)
  area_id : Agree vs us (x + 2)

own_alike : {vs us : Record} {c x : ℕ} → SameFeeder vs us c x → OwnFeeder vs c x → OwnFeeder us c x
own_alike s o =
    record {
      centre = sym s.centre ∙ o.centre;
      line = (o.line.0, sym s.line ∙ o.line.1);
      stop = (o.stop.0, sym s.stop ∙ o.stop.1);
      line_id = (o.line_id.0, sym s.line_id ∙ o.line_id.1);
      direction_id = (o.direction_id.0, sym s.direction_id ∙ o.direction_id.1);
      area_id = (o.area_id.0, sym s.area_id ∙ o.area_id.1);
    }

foreign_alike : {vs us : Record} {c x : ℕ} → SameFeeder vs us c x → ForeignFeeder vs c x → ForeignFeeder us c x
foreign_alike s o =
    record {
      centre = (o.centre.0, sym s.centre ∙ o.centre.1);
      line = sym s.line ∙ o.line;
      direction = sym s.direction ∙ o.direction;
      stop = sym s.stop ∙ o.stop;
      line_id = (o.line_id.0, o.line_id.1, o.line_id.2, sym s.line_id ∙ o.line_id.3);
      direction_id = (o.direction_id.0, o.direction_id.1, o.direction_id.2, sym s.direction_id ∙ o.direction_id.3);
      area_id = (o.area_id.0, o.area_id.1, o.area_id.2, sym s.area_id ∙ o.area_id.3);
    }

feeder_same : (t : ℕ) {vs us : Record} (c x : ℕ) → Alike (columns t) vs us → Fed (columns t) c x → SameFeeder vs us c x
feeder_same t c x a f =
    record {
      centre = value_alike c (unmarked t c f.numbers.first.number) a;
      line = value_alike (c + 1) (unmarked t (c + 1) f.numbers.second.number) a;
      direction = value_alike (c + 2) (unmarked t (c + 2) f.numbers.third.number) a;
      stop = value_alike (c + 3) (unmarked t (c + 3) f.numbers.fourth.number) a;
      line_id = value_alike x f.line_id.own a;
      direction_id = value_alike (x + 1) f.direction_id.own a;
      area_id = value_alike (x + 2) f.area_id.own a;
    }

rule_alike : (t : ℕ) {vs us : Record} → Alike (columns t) vs us → (r : Rule) → Memᴰ r (rules t) → Breaks us r → Breaks vs r
rule_alike t {vs} {us} a (points_differ p) m b = by (points_there t p m) b
  where
    by : Four (columns t) p → Breaks us (points_differ p) → Breaks vs (points_differ p)
    by q (same_points x y) =
        let e = value_alike p (unmarked t p q.first.number) a in
        let f = value_alike (p + 1) (unmarked t (p + 1) q.second.number) a in
        let g = value_alike (p + 2) (unmarked t (p + 2) q.third.number) a in
        let h = value_alike (p + 3) (unmarked t (p + 3) q.fourth.number) a in
        same_points {p = p} (cc) (cc)
rule_alike t {vs} {us} a (feeder_combined c x) m b = by (feeder_same t c x a (feeder_there t c x m)) b
  where
    by : SameFeeder vs us c x → Breaks us (feeder_combined c x) → Breaks vs (feeder_combined c x)
    by s (neither_way n w) = neither_way (λ o. n (own_alike s o)) (λ o. w (foreign_alike s o))

-- a record that fits and is like one that may be said may be said
pub sound_alike : (latin : Bool) (t : ℕ) {vs us : Record} → SoundRecord latin t vs → FitAll latin (columns t) us → Alike (columns t) vs us → SoundRecord latin t us
sound_alike latin t s g a = record { fit = g; rules = λ r m b. s.rules r m (rule_alike t a r m b) }

pub alike_self : (latin : Bool) {cs : List Named} {vs : Record} → FitAll latin cs vs → Alike cs vs vs
alike_self latin no_value = alike_none
alike_self latin (a_value f fs) = alike_same (alike_self latin fs)
