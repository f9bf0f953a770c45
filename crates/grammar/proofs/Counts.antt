-- A section's record count: as many as `rec` lines, as many as are handed out, 0 if it is refused; and one `end`.
use mathlib.Core.Path.{◌≡◌, refl, ap, sym, ◌∙◌}
use mathlib.Core.Bool.{Bool, true, false}
use mathlib.Core.List.{List, [], ◌∷◌, map}
use mathlib.Core.Logic.{◌⊎◌, inl, inr}
use Prim.Native.Nat.{ℕ, suc, ◌+◌}
use native.Mathlib.Omega.{arith}
use lib.Dec.{eqb}
use lib.ListN.{length}
use borrow.Author.Tests.{ne_eqb}
use Rattle.page.specs.Bytes.{Bytes, pick}
use Rattle.page.specs.Lines.{content, command, Tbl, Atr, Frm, Rec, End, Com, Missing}
use Rattle.page.specs.Order.{Order}
use Rattle.page.specs.Section.{outcome, refused}
use Rattle.page.specs.Records.{Record, Entry, waits, record_in, entries, table_index, order_in, entries_of, records_of}
use Rattle.page.specs.Grammar.{Quiet, empty, remark, Then, found, skip, Silence, over, still, Records, pause, a_mark, a_record, the_end, Denotes}
use Rattle.page.specs.Refusals.{Refused}
use Rattle.page.specs.Rules.{times}
use Rattle.page.specs.declared.Outcome.{Outcome}
use Rattle.laws.proofs.Tests.{blank_missing}
use Rattle.grammar.proofs.Accepts.{denotes_accepted, accepted_denotes}
use Rattle.grammar.proofs.Readings.{entries_denoted}
use Rattle.grammar.proofs.Refuses.{section_settled, refuses_exactly}

map_length : (es : List Entry) → length (map (λ (e : Entry). e.values) es) ≡ length es
map_length [] = refl
map_length (e ∷ es) = ap suc (map_length es)

-- one entry a `rec` line, whatever the table and its order
entries_length : (t : ℕ) (o : Order) (m n : ℕ) (ls : List Bytes) → length (entries t o m n ls) ≡ times Rec ls
unfolding entries times
entries_length t o m n [] = refl
entries_length t o m n (l ∷ ls) = by (eqb (command (content l)) Rec) (entries_length t o 0 (suc n) ls) (entries_length t o (waits m (content l)) (suc n) ls)
  where
    by : (b : Bool) → length (entries t o 0 (suc n) ls) ≡ times Rec ls → length (entries t o (waits m (content l)) (suc n) ls) ≡ times Rec ls →
        length (pick b (record { line = suc n; values = record_in t o m (content l) } ∷ entries t o 0 (suc n) ls) (entries t o (waits m (content l)) (suc n) ls)) ≡ pick b 1 0 + times Rec ls
    by true p q = omega arith
    by false p q = omega arith

-- a section denotes as many records as it has `rec` lines
pub records_counted : (latin : Bool) (ls : List Bytes) (t : ℕ) (rs : List Record) → Denotes latin ls t rs → length rs ≡ times Rec ls
records_counted latin ls t rs d =
    ap (λ (x : List Record). length x) (sym (entries_denoted ls t rs d)) ∙ map_length (entries t d.0 0 0 ls) ∙ entries_length t d.0 0 0 ls

-- "a sound table's record count" is the number of its `rec` lines
pub sound_count : (latin : Bool) (ls : List Bytes) → (outcome latin ls).verdict ≡ 0 → (outcome latin ls).records ≡ times Rec ls
sound_count latin ls e =
    let x = accepted_denotes latin ls e in
    ap (λ (o : Outcome). o.records) (denotes_accepted latin ls x.0 x.1 x.2) ∙ records_counted latin ls x.0 x.1 x.2

-- a section's record count is the number of records handed out of it, sound or not
pub count_handed : (latin : Bool) (ls : List Bytes) → (outcome latin ls).records ≡ length (records_of latin ls)
unfolding records_of entries_of
count_handed latin ls = by (section_settled latin ls)
  where
    by : ((outcome latin ls).verdict ≡ 0) ⊎ ((k : ℕ) × (v : ℕ) × (n : ℕ) × (outcome latin ls ≡ refused k v n) × Refused latin ls k v n) →
        (outcome latin ls).records ≡ length (map (λ (e : Entry). e.values) (pick (eqb (outcome latin ls).verdict 0) (entries (table_index ls) (order_in ls) 0 0 ls) []))
    by (inl e) = sound_count latin ls e ∙ rw (e, map_length (entries (table_index ls) (order_in ls) 0 0 ls), entries_length (table_index ls) (order_in ls) 0 0 ls)
    by (inr x) = let y = (refuses_exactly latin ls x.0 x.1 x.2).1 x.4 in rw (x.3, ne_eqb x.1 0 y.1)

-- a command is met at a line or not
met : (k : ℕ) (l : Bytes) (ls : List Bytes) (c : ℕ) → command (content l) ≡ c → times k (l ∷ ls) ≡ pick (eqb c k) 1 0 + times k ls
unfolding times
met k l ls c e = rw e

quiet_no_end : {latin : Bool} (l : Bytes) (ls : List Bytes) → Quiet latin l → times End (l ∷ ls) ≡ times End ls
quiet_no_end l ls (empty ok b) = met End l ls Missing (blank_missing (content l) b) ∙ (omega arith)
quiet_no_end l ls (remark s e) = met End l ls Com s.named ∙ (omega arith)

silence_no_end : {latin : Bool} {ls : List Bytes} → Silence latin ls → times End ls ≡ 0
unfolding times
silence_no_end over = refl
silence_no_end (still {l} {ls} h s) = quiet_no_end l ls h ∙ silence_no_end s

records_end : {latin : Bool} {t : ℕ} {o : Order} {n : ℕ} {ms : List ℕ} {ls : List Bytes} {rs : List Record} → Records latin t o n ms ls rs → times End ls ≡ 1
records_end (pause {l} {ls} h x) = quiet_no_end l ls h ∙ records_end x
records_end (a_mark {l} {ls} h x) = met End l ls Com h.says.named ∙ (let z = records_end x in omega arith)
records_end (a_record {l} {ls} h x) = met End l ls Rec h.says.named ∙ (let z = records_end x in omega arith)
records_end (the_end {l} {ls} h s) = met End l ls End h.says.named ∙ (let z = silence_no_end s in omega arith)

then_end : {latin : Bool} {P : Bytes → Type 0} {Q : List Bytes → Type 0} {ls : List Bytes} → ((l : Bytes) (ms : List Bytes) → P l → Q ms → times End (l ∷ ms) ≡ 1) → Then latin P Q ls → times End ls ≡ 1
then_end f (found {l} {ls} h x) = f l ls h x
then_end f (skip {l} {ls} h x) = quiet_no_end l ls h ∙ then_end f x

-- what denotes a table has one `end` line
pub one_end : (latin : Bool) (ls : List Bytes) (t : ℕ) (rs : List Record) → Denotes latin ls t rs → times End ls ≡ 1
one_end latin ls t rs d =
    then_end (λ l ms h x. met End l ms Tbl h.says.named ∙ (let z = then_end (λ l ms h x. met End l ms Atr h.says.named ∙
    (let z = then_end (λ l ms h x. met End l ms Frm h.says.named ∙ (let z = records_end x in omega arith)) x in omega arith)) x in omega arith)) d.1

-- "The last table is believed complete though `end` is missing": a section without `end` denotes nothing and is refused
pub no_end_denotes_nothing : (latin : Bool) (ls : List Bytes) (t : ℕ) (rs : List Record) → times End ls ≡ 0 → ¬ Denotes latin ls t rs
no_end_denotes_nothing latin ls t rs e d = let z = one_end latin ls t rs d in let y : ⊥ = omega arith in y

-- its verdict is not 0
pub no_end_refused : (latin : Bool) (ls : List Bytes) → times End ls ≡ 0 → ¬ ((outcome latin ls).verdict ≡ 0)
no_end_refused latin ls e h = let x = accepted_denotes latin ls h in no_end_denotes_nothing latin ls x.0 x.1 e x.2
