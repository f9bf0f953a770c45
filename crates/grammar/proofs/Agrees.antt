-- One walk over the machine's tests: it refuses a line exactly by the first law that the line breaks, and goes on only where the grammar leads.
use Rattle.std.specs.Prelude.{Err, Ok, Result, None, Option, Some}
use mathlib.Core.Path.{◌≡◌, refl, ap, sym, ◌∙◌}
use mathlib.Core.Bool.{Bool, true, false, not, ◌&&◌, false≢true}
use mathlib.Core.List.Memᴰ
use mathlib.Core.List.{List, [], ◌∷◌, ◌++◌, Memᴰ}
use mathlib.Core.Logic.{◌⊎◌, inl, inr, ◌↔◌}
use Prim.Native.Nat.{ℕ, zero, suc, ◌≤◌, ◌<◌}
use native.Mathlib.Omega.{arith}
use native.Mathlib.Numerals.{add-one}
use borrow.Author.Tests.{ne_eqb}
use lib.Dec.{eqb, leb}
use lib.ListN.{length}
use Rattle.page.specs.Bytes.{Bytes, bytes, pick}
use Rattle.page.specs.Lines.{content, blank, command, rest, clean, Tbl, Atr, Frm, Rec, End, Com}
use Rattle.page.specs.Fields.{number_of}
use Rattle.page.specs.Dates.{real_day}
use Rattle.page.specs.Tables.{Named, Rule, rule_number, table_at, rules, width}
use Rattle.page.specs.Order.{Order, order_of, arranged, standing, by_column}
use Rattle.page.specs.Marks.{remark_of}
use Rattle.page.specs.Section
use Rattle.page.specs.Records.{words, Record}
use Rattle.page.specs.Grammar.{fields_of, Says, AtrLine, Quiet, empty, remark, Day, a_number, no_number, a_text, Breaks, Reads, RecLine}
use Rattle.page.specs.Refusals.{Law, law, FirstBroken, either_laws, marks_of, InOrder, Outside, negative, out_of_range, over_size, NoSuchDay, kind_law, fields_laws, rules_laws, rec_laws, end_laws, command_laws, GoodMark, laws, Leads, quiet, tbl, atr, frm, mark, record_line, end}
use Rattle.page.specs.declared.Number.{Number}
use Rattle.page.specs.declared.Number.TheVariants as N
use Rattle.page.specs.declared.Column.{Column}
use Rattle.page.specs.declared.Owner.TheVariants as O
use Rattle.page.specs.declared.Remark.{Remark}
use Rattle.page.specs.declared.Remark.TheVariants as R
use Rattle.page.specs.declared.Phase.{Phase}
use Rattle.page.specs.declared.Phase.TheVariants as P
use Rattle.page.specs.declared.Field.{Field}
use Rattle.page.specs.declared.Field.TheVariants as F
use Rattle.page.proofs.TableLaws.{name_tells, rule_some}
use Rattle.page.proofs.OrderLaws.{arranged_long, standing_length}
use Rattle.page.proofs.ArrangeLaws.{order_named}
use Rattle.page.proofs.TextLaws.{worded_none, worded_some}
use Rattle.laws.proofs.Decides.{Decides, holds, fails, fact, when, both, equal, at_most}
use Rattle.laws.proofs.Tests.{is_d, names_d, formats_d, rises_d, unknown_d, blank_missing, one_d, named_d}
use Rattle.grammar.proofs.Days.{day_d}
use Rattle.grammar.proofs.Values.{LeftOut, left_out_d, empty_no_number, number_some, field_right}
use Rattle.grammar.proofs.Arranged.{Ordered, reads_once, reads_rule, right_reads, reads_empty}

-- the step stops with v exactly if v is the first broken law's number, and goes on only to what G says
pub record Agrees (G : Phase → Type 0) (s : Result Phase ℕ) (ls : List Law) : Type 0 where
  pub iff : (v : ℕ) → s ≡ Err v ↔ FirstBroken ls v
  pub led : (q : Phase) → s ≡ Ok q → G q

goes : {G : Phase → Type 0} {q : Phase} → G q → Agrees G (Ok q) []
goes {q} g = record { iff = λ v. (λ e. absurd (false≢true (cc)), λ x. absurd x); led = λ r e. let z : q ≡ r = cc in rw z at g }

-- this law is broken
hit : {G : Phase → Type 0} {v : ℕ} {L : Type 0} {ls : List Law} → L → Agrees G (Err v) (law v L ∷ ls)
hit a = record { iff = λ w. (λ e. inl (a, (cc)), λ s. elim s [ inl p ↦ ap Err p.1 | inr p ↦ absurd (p.0 a) ]); led = λ q e. absurd (false≢true (cc)) }

-- this one is not
miss : {G : Phase → Type 0} {v : ℕ} {L : Type 0} {s : Result Phase ℕ} {ls : List Law} → ¬ L → Agrees G s ls → Agrees G s (law v L ∷ ls)
miss n k = record { iff = λ w. (λ e. inr (n, (k.iff w).0 e), λ s. elim s [ inl p ↦ absurd (n p.0) | inr p ↦ (k.iff w).1 p.1 ]); led = k.led }

must_not : {G : Phase → Type 0} {v : ℕ} {b : Bool} {L : Type 0} {x : Result Phase ℕ} {ls : List Law} → Decides L b → (¬ L → Agrees G x ls) → Agrees G (Section.choose b (Err v) x) (law v L ∷ ls)
unfolding Section.choose
must_not (holds a) k = hit a
must_not (fails n) k = miss n (k n)

must : {G : Phase → Type 0} {v : ℕ} {b : Bool} {A : Type 0} {x : Result Phase ℕ} {ls : List Law} → Decides A b → (A → Agrees G x ls) → Agrees G (Section.choose b x (Err v)) (law v (¬ A) ∷ ls)
unfolding Section.choose
must (holds a) k = miss (λ n. n a) (k a)
must (fails n) k = hit n

branch : {G : Phase → Type 0} (b : Bool) {x y : Result Phase ℕ} {u w : List Law} → (b ≡ true → Agrees G x u) → (b ≡ false → Agrees G y w) → Agrees G (Section.choose b x y) (either_laws b u w)
unfolding Section.choose
branch true s t = s refl
branch false s t = t refl

-- one of two commands, else 6
two : {G : Phase → Type 0} {A B : Type 0} (a b : Bool) {x y : Result Phase ℕ} {u w : List Law} → Decides A a → Decides B b → (A → Agrees G x u) → (B → Agrees G y w) →
    Agrees G (Section.choose a x (Section.choose b y (Err 6))) (law 6 (¬ (A ⊎ B)) ∷ either_laws a u w)
unfolding Section.choose
two true b (holds h) d s t = miss (λ n. n (inl h)) (s h)
two false true (fails m) (holds h) s t = miss (λ n. n (inr h)) (t h)
two false false (fails m) (fails n) s t = hit (λ x. elim x [ inl a ↦ m a | inr b ↦ n b ])

-- a record's verdict is a number, 0 for none: the step that follows it
unfoldable pub judged : Phase → ℕ → Result Phase ℕ
judged q v = Section.choose (eqb v 0) (Ok q) (Err v)

judged_must : {G : Phase → Type 0} (q : Phase) {v : ℕ} {b : Bool} {A : Type 0} (x : ℕ) {ls : List Law} → eqb v 0 ≡ false → Decides A b → (A → Agrees G (judged q x) ls) →
    Agrees G (judged q (pick b x v)) (law v (¬ A) ∷ ls)
unfolding judged Section.choose
judged_must q x e (holds a) k = miss (λ n. n a) (k a)
judged_must q x e (fails n) k = rw e (hit n)

judged_must_not : {G : Phase → Type 0} (q : Phase) {v : ℕ} {b : Bool} {L : Type 0} (x : ℕ) {ls : List Law} → eqb v 0 ≡ false → Decides L b → (¬ L → Agrees G (judged q x) ls) →
    Agrees G (judged q (pick b v x)) (law v L ∷ ls)
unfolding judged Section.choose
judged_must_not q x e (holds a) k = rw e (hit a)
judged_must_not q x e (fails n) k = miss n (k n)

first_first : (a b c : ℕ) → Section.first_of (Section.first_of a b) c ≡ Section.first_of a (Section.first_of b c)
first_first a b c = by (eqb a 0) refl
  where
    by : (d : Bool) → eqb a 0 ≡ d → pick (eqb (pick d b a) 0) c (pick d b a) ≡ pick d (pick (eqb b 0) c b) a
    by true e = refl
    by false e = rw e

-- a field: 11 or 12, then 13, then 26; what follows may use that it is read
module _ {G : Phase → Type 0} (q : Phase) (c : Column) (f : Bytes) (y : ℕ) (more : List Law) (next : Section.field_number (Section.field_of c f) ≡ 0 → Agrees G (judged q y) more) where
  abbrev rest_laws : List Law
  rest_laws = law 13 (Outside c f) ∷ law 26 (NoSuchDay c f) ∷ more

  abbrev field_step : Field → Result Phase ℕ
  field_step x = judged q (Section.first_of (Section.field_number x) y)

  missing_agrees : c.text ≡ false → LeftOut c.optional f → Agrees G (field_step F.Missing) (kind_law false c.optional f ∷ rest_laws)
  unfolding Section.field_number
  missing_agrees t p = miss (λ k. k.1 p) (miss inside (miss (λ x. number_some x.reads p.1) (next (field_right {o = O.Operator} (no_number t p.0 p.1)))))
    where
      inside : ¬ Outside c f
      inside (negative u h) = let z = ap number_of p.1 ∙ empty_no_number in absurd (false≢true (cc))
      inside (out_of_range u h a) = number_some h p.1
      inside (over_size u h a) = false≢true (sym t ∙ u)

  number_agrees : (n : Number) → c.text ≡ false → ¬ LeftOut c.optional f → number_of f ≡ n →
      Agrees G (field_step (Section.number_field c.day c.lo c.hi n)) (kind_law false c.optional f ∷ rest_laws)
  unfolding Section.number_field Section.day_field Section.field_number judged Section.choose
  number_agrees N.Nothing t k e = hit (e, k)
  number_agrees (N.Minus n) t k e = miss (λ h. let z = h.0 in absurd (false≢true (cc))) (hit (negative t e))
  number_agrees (N.Plus n) t k e = miss (λ h. let z = h.0 in absurd (false≢true (cc))) (by (leb c.lo n && leb n c.hi) (both (at_most c.lo n) (at_most n c.hi)))
    where
      inside : (c.lo ≤ n) × (n ≤ c.hi) → ¬ Outside c f
      inside p (negative u h) = absurd (false≢true (cc))
      inside p (out_of_range {n = m} u h a) = let z : m ≡ n = cc in a (rw z p)
      inside p (over_size u h a) = false≢true (sym t ∙ u)

      real : (c.lo ≤ n) × (n ≤ c.hi) → (d b : Bool) → c.day ≡ d → Decides (Day n) b → Agrees G (field_step (pick (d && not b) (F.Refused 26) (F.Number n))) (law 26 (NoSuchDay c f) ∷ more)
      real p false b q x = miss (λ z. false≢true (sym q ∙ z.day)) (next (field_right {o = O.Operator} (a_number t e p.0 p.1 (λ z. absurd (false≢true (sym q ∙ z))))))
      real p true true q (holds d) = miss (λ z. let a = z.reads in let m : z.value ≡ n = cc in z.unreal (rw m d)) (next (field_right {o = O.Operator} (a_number t e p.0 p.1 (λ z. d))))
      real p true false q (fails x) = hit (record { number = t; day = q; value = n; reads = e; unreal = x })

      by : (b : Bool) → Decides ((c.lo ≤ n) × (n ≤ c.hi)) b → Agrees G (field_step (pick b (pick (c.day && not (real_day n)) (F.Refused 26) (F.Number n)) (F.Refused 13))) rest_laws
      by true (holds p) = miss (inside p) (real p c.day (real_day n) refl (day_d n))
      by false (fails x) = hit (out_of_range t e x)

  text_agrees : (x : Option Bytes) → c.text ≡ true → Section.record_text f ≡ x → Agrees G (field_step (Section.text_field c.hi (Section.words_of f))) (kind_law true c.optional f ∷ rest_laws)
  unfolding Section.text_field Section.field_number judged Section.choose
  text_agrees None t e = rw (worded_none f e) (hit e)
  text_agrees (Some w) t e = rw (worded_some f w e) (miss (λ h. absurd (false≢true (cc))) (by (leb (length w) c.hi) (at_most (length w) c.hi)))
    where
      inside : length w ≤ c.hi → ¬ Outside c f
      inside p (negative u h) = false≢true (sym u ∙ t)
      inside p (out_of_range u h a) = false≢true (sym u ∙ t)
      inside p (over_size {t = x} u h a) = let z : x ≡ w = cc in let b : c.hi < length w = rw z at a in omega arith

      by : (b : Bool) → Decides (length w ≤ c.hi) b → Agrees G (field_step (pick b (F.Text (Section.own_span f)) (F.Refused 13))) rest_laws
      by true (holds p) = miss (inside p) (miss (λ z. false≢true (sym z.number ∙ t)) (next (field_right {o = O.Operator} (a_text t e p))))
      by false (fails x) = hit (over_size t e (omega arith))

  pub field_agrees : Agrees G (field_step (Section.field_of c f)) (kind_law c.text c.optional f ∷ rest_laws)
  unfolding Section.field_of
  field_agrees = by c.text (Section.left_out c.optional f) refl (left_out_d c.optional f)
    where
      by : (b d : Bool) → c.text ≡ b → Decides (LeftOut c.optional f) d →
          Agrees G (field_step (pick b (Section.text_field c.hi (Section.words_of f)) (pick d F.Missing (Section.number_field c.day c.lo c.hi (number_of f)))))
          (kind_law b c.optional f ∷ rest_laws)
      by true d e x = text_agrees (Section.record_text f) e refl
      by false true e (holds p) = missing_agrees e p
      by false false e (fails n) = number_agrees (number_of f) e n refl

-- "each field from the left"
fields_agree : {G : Phase → Type 0} (q : Phase) (cs : List Named) (fs : List Bytes) (y : ℕ) (others : List Law) → length fs ≡ length cs →
    (Section.first_wrong cs fs ≡ 0 → Agrees G (judged q y) others) → Agrees G (judged q (Section.first_of (Section.first_wrong cs fs) y)) (fields_laws cs fs ++ others)
unfolding Section.first_wrong
fields_agree q [] [] y others e g = g refl
fields_agree q [] (f ∷ fs) y others e g = absurd (let z : ⊥ = omega arith in z)
fields_agree q (c ∷ cs) [] y others e g = absurd (let z : ⊥ = omega arith in z)
fields_agree q (c ∷ cs) (f ∷ fs) y others e g =
    rw (first_first (Section.field_number (Section.field_of c.column f)) (Section.first_wrong cs fs) y)
    (field_agrees q c.column f (Section.first_of (Section.first_wrong cs fs) y) (fields_laws cs fs ++ others)
    (λ h. fields_agree q cs fs y others (omega arith) (λ x. g (rw h x))))

-- a law on the record that the fields hold
of_record : {t : ℕ} {o : Order} {ms : List ℕ} {fs : List Bytes} {vs : Record} {P : Record → Type 0} {b : Bool} → Reads t o ms fs vs → Decides (P vs) b →
    Decides ((us : Record) × Reads t o ms fs us × P us) b
of_record {vs} h (holds p) = holds (vs, h, p)
of_record {vs} h (fails n) = fails (λ x. let z : x.0 ≡ vs = reads_once x.1 h in n (rw z at x.2))

pub judged_goes : {G : Phase → Type 0} (q : Phase) → G q → Agrees G (judged q 0) []
unfolding judged Section.choose
judged_goes q g = goes g

record_judged : (t : ℕ) (o : Order) (m n : ℕ) (fs : List Bytes) → Section.rec_step t o m n fs ≡ judged (P.Rows t 0 (suc n)) (Section.rec_verdict t o m fs)
unfolding Section.rec_step judged
record_judged t o m n fs = rw (add-one n)

none_d : (m : ℕ) → Decides (marks_of m ≡ []) (eqb m 0)
none_d zero = holds refl
none_d (suc m) = rw (ne_eqb (suc m) 0 (λ e. omega arith)) (fails (λ e. absurd (false≢true (cc))))

-- the rules of a table, in their order; what follows may use that none is broken
rules_agree : {G : Phase → Type 0} (q : Phase) (fs : List Bytes) (B : Rule → Type 0) (rs : List Rule) (y : ℕ) (others : List Law) →
    ((r : Rule) → Memᴰ r rs → Decides (B r) (Section.broken r fs)) →
    (((r : Rule) → Memᴰ r rs → ¬ B r) → Agrees G (judged q y) others) → Agrees G (judged q (Section.first_of (Section.first_broken rs fs) y)) (rules_laws B rs ++ others)
unfolding Section.first_broken
rules_agree q fs B [] y others d g = g (λ r m. absurd (Memᴰ.not-nil m))
rules_agree q fs B (r ∷ rs) y others d g =
    rw (first_picked (Section.broken r fs) (rule_number r) (Section.first_broken rs fs) y (rule_some r))
    (judged_must_not q (Section.first_of (Section.first_broken rs fs) y) (rule_some r) (d r (Memᴰ.head refl)) (λ n.
    rules_agree q fs B rs y others (λ x m. d x (Memᴰ.tail m)) (λ k. g (λ x m. unbroken n k x (Memᴰ.cases_cons m)))))
  where
    first_picked : (b : Bool) (v x y : ℕ) → eqb v 0 ≡ false → Section.first_of (pick b v x) y ≡ pick b v (Section.first_of x y)
    first_picked true v x y e = rw e
    first_picked false v x y e = refl

    unbroken : ¬ B r → ((x : Rule) → Memᴰ x rs → ¬ B x) → (x : Rule) → (x ≡ r) ⊎ Memᴰ x rs → ¬ B x
    unbroken n k x (inl e) = rw e n
    unbroken n k x (inr m) = k x m

-- only an `atr` line states an order
order_kept : (p : Phase) (o : Order) (c : Bytes) → ¬ (command c ≡ Atr) → Section.order_after p o c ≡ o
unfolding Section.order_after
order_kept P.Tbl o c n = refl
order_kept (P.Atr t) o c n = rw (ne_eqb (command c) Atr n)
order_kept (P.Frm t) o c n = refl
order_kept (P.Rows t m k) o c n = refl
order_kept (P.Ended t k) o c n = refl

pub quiet_order : {latin : Bool} {l : Bytes} (p : Phase) (o : Order) → Quiet latin l → Section.order_after p o (content l) ≡ o
quiet_order {l = l} p o (empty ok b) = order_kept p o (content l) (λ e. let z = blank_missing (content l) b in omega arith)
quiet_order {l = l} p o (remark s r) = order_kept p o (content l) (λ e. let z = s.named in omega arith)

-- and it states the one of the names on it
pub atr_order : {latin : Bool} {l : Bytes} (t : ℕ) (o q : Order) → AtrLine latin t q l → Section.order_after (P.Atr t) o (content l) ≡ q
unfolding Section.order_after
atr_order t o q h = rw h.says.named (ap (order_of t) h.names ∙ order_named t q h.arrangement.only)

module _ (latin : Bool) (l : Bytes) where
  -- where the line leads, with the order that it leaves
  abbrev Onward : Phase → Order → Phase → Type 0
  Onward p o q = Leads latin l p o q (Section.order_after p o (content l))

  -- a record of any order of the columns; led: where it leads
  module _ (t : ℕ) (o : Order) (m n : ℕ) where
    abbrev Having : (Record → Type 0) → Type 0
    Having P = (vs : Record) × Reads t o (marks_of m) (fields_of l) vs × P vs

    abbrev Broken : Rule → Type 0
    Broken r = Having (λ vs. Breaks vs r)

    abbrev empty_laws : List Law
    empty_laws = law 15 (Having (λ vs. Memᴰ (words O.Suggestion []) vs)) ∷ []

    abbrev empty_verdict : ℕ
    empty_verdict = pick (Section.empty_marked m (fields_of l)) 15 0

    abbrev last_laws : List Law
    last_laws = rules_laws Broken (rules t) ++ empty_laws

    abbrev last_verdict : ℕ
    last_verdict = Section.first_of (Section.first_broken (rules t) (by_column o (fields_of l))) empty_verdict

    last_agree : {G : Phase → Type 0} → arranged (width t) o ≡ true → Says latin Rec l → ((vs : Record) → RecLine latin t o (marks_of m) vs l → G (P.Rows t 0 (suc n))) →
        (vs : Record) → Reads t o (marks_of m) (fields_of l) vs → Agrees G (judged (P.Rows t 0 (suc n)) last_verdict) last_laws
    last_agree a s led vs h =
        rules_agree (P.Rows t 0 (suc n)) (by_column o (fields_of l)) Broken (rules t) empty_verdict empty_laws
        (λ r k. of_record h (reads_rule t o m h r k)) (λ b.
        judged_must_not (P.Rows t 0 (suc n)) 0 refl (of_record h (reads_empty t o a m h)) (λ c.
        judged_goes (P.Rows t 0 (suc n)) (led vs (record { says = s; fields = h; rules = λ r k x. b r k (vs, h, x); filled = λ x. c (vs, h, x) }))))

    many_d : arranged (width t) o ≡ true → Decides (length (fields_of l) ≡ length o) (eqb (length (fields_of l)) (width t))
    many_d a =
        let n = arranged_long (width t) o a in
        when (λ e. e ∙ sym n) (λ e. e ∙ n) (equal (length (fields_of l)) (width t))

    record_agrees : {G : Phase → Type 0} → arranged (width t) o ≡ true → Says latin Rec l → ((vs : Record) → RecLine latin t o (marks_of m) vs l → G (P.Rows t 0 (suc n))) →
        Agrees G (Section.rec_step t o m n (fields_of l)) (rec_laws t o (marks_of m) (fields_of l))
    unfolding Section.rec_verdict
    record_agrees a s led =
        rw (record_judged t o m n (fields_of l))
        (judged_must (P.Rows t 0 (suc n)) (Section.first_of (Section.first_wrong (standing t o) (fields_of l)) last_verdict) refl (many_d a) (λ e.
        fields_agree (P.Rows t 0 (suc n)) (standing t o) (fields_of l) last_verdict last_laws (e ∙ sym (standing_length t o)) (λ w.
        let x = right_reads t o a (marks_of m) (fields_of l) e w in
        last_agree a s led x.0 x.1)))

  count_agrees : (t : ℕ) (o : Order) (n : ℕ) (f : Bytes) (c : Number) → Says latin End l → fields_of l ≡ f ∷ [] → number_of f ≡ c →
      Agrees (Onward (P.Rows t 0 n) o) (Section.count_step t n c)
      (law 12 ((g : Bytes) × (f ∷ [] ≡ g ∷ []) × (number_of g ≡ N.Nothing)) ∷ law 16 (¬ ((g : Bytes) × (f ∷ [] ≡ g ∷ []) × (number_of g ≡ N.Plus n))) ∷ [])
  unfolding Section.count_step Section.order_after
  count_agrees t o n f N.Nothing s a e = hit (f, refl, e)
  count_agrees t o n f (N.Minus c) s a e = miss (λ x. let a = x.1 in let b = x.2 in absurd (false≢true (cc))) (hit (λ x. let a = x.1 in let b = x.2 in absurd (false≢true (cc))))
  count_agrees t o n f (N.Plus c) s a e =
      miss (λ x. let a = x.1 in let b = x.2 in absurd (false≢true (cc)))
      (must (by (eqb c n) (equal c n)) (λ x. goes (end (record { says = s; count = x.0; alone = a ∙ x.1; reads = x.2 }))))
    where
      by : (b : Bool) → Decides (c ≡ n) b → Decides ((g : Bytes) × (f ∷ [] ≡ g ∷ []) × (number_of g ≡ N.Plus n)) b
      by true (holds h) = holds (f, refl, e ∙ ap N.Plus h)
      by false (fails k) = fails (λ x. let a = x.1 in let b = x.2 in k (cc))

  end_agrees : (t : ℕ) (o : Order) (m n : ℕ) (fs : List Bytes) → Says latin End l → fields_of l ≡ fs →
      Agrees (Onward (P.Rows t m n) o) (Section.end_step t m n fs) (end_laws (marks_of m) n fs)
  unfolding Section.end_step
  end_agrees t o m n fs s a = must (none_d m) (λ e. must (one_d fs) (λ x. rw (x.1, unmarked m e) (count_agrees t o n x.0 (number_of x.0) s (a ∙ x.1) refl)))
    where
      unmarked : (m : ℕ) → marks_of m ≡ [] → m ≡ 0
      unmarked zero e = refl
      unmarked (suc m) e = absurd (false≢true (cc))

  tbl_agrees : (o : Order) (k : ℕ) (fs : List Bytes) → Says latin Tbl l → fields_of l ≡ fs → Agrees (Onward P.Tbl o) (Section.tbl_step fs) (command_laws P.Tbl o k fs)
  unfolding Section.tbl_step Section.order_after
  tbl_agrees o k fs s a = must (one_d fs) (λ y. rw y.1 (must (named_d y.0) (λ x.
      let h = x.1 in
      let q = x.2 in
      let e : y.0 ≡ bytes (table_at x.0).name = cc in
      rw (e, name_tells x.0 h) (goes (tbl (record { says = s; known = h; name = a ∙ y.1 ∙ q }))))))

  atr_agrees : (t : ℕ) (o : Order) (k : ℕ) → Says latin Atr l → Agrees (Onward (P.Atr t) o) (Section.atr_step t (fields_of l)) (command_laws (P.Atr t) o k (fields_of l))
  unfolding Section.atr_step
  atr_agrees t o k s = must (names_d t (fields_of l)) (λ x.
      let h : AtrLine latin t x.0 l = record { says = s; arrangement = x.1; names = x.2 } in
      goes (rw (atr_order t o x.0 h) (atr h)))

  mark_agrees : (p : Phase) (o : Order) (r : Remark) → Says latin Com l → remark_of (rest (content l)) ≡ r →
      Agrees (Onward p o) (Section.com_step p o r) (law 15 (¬ GoodMark p o r) ∷ [])
  unfolding Section.com_step Section.mark_step Section.order_after
  mark_agrees p o R.Comment s e = miss (λ n. n tt) (goes (rw (quiet_order p o (remark s e)) (quiet (remark s e))))
  mark_agrees p o R.Unreadable s e = hit (λ x. x)
  mark_agrees P.Tbl o (R.Mark i) s e = hit (λ x. x)
  mark_agrees (P.Atr t) o (R.Mark i) s e = hit (λ x. x)
  mark_agrees (P.Frm t) o (R.Mark i) s e = hit (λ x. x)
  mark_agrees (P.Rows t m n) o (R.Mark i) s e = must (rises_d t o i m) (λ k. goes (mark (record { says = s; reads = e; may = k.0; rises = k.1 })))
  mark_agrees (P.Ended t n) o (R.Mark i) s e = hit (λ x. x)

  module _ (ok : clean latin (content l) ≡ true) where
    says : (k : ℕ) → command (content l) ≡ k → Says latin k l
    says k e = record { clean = ok; named = e }

    line_agrees : (p : Phase) (o : Order) → Ordered p o →
        Agrees (Onward p o) (Section.line_step p o (command (content l)) (rest (content l)))
        (law 6 (¬ InOrder p (command (content l))) ∷ command_laws p o (command (content l)) (fields_of l))
    unfolding Section.line_step Section.frm_step Section.order_after
    line_agrees P.Tbl o a = must (equal (command (content l)) Tbl) (λ e. tbl_agrees o (command (content l)) (fields_of l) (says Tbl e) refl)
    line_agrees (P.Atr t) o a = must (equal (command (content l)) Atr) (λ e. atr_agrees t o (command (content l)) (says Atr e))
    line_agrees (P.Frm t) o a =
        must (equal (command (content l)) Frm) (λ e. must (formats_d (standing t o) (fields_of l)) (λ h. goes (frm (record { says = says Frm e; formats = h }))))
    line_agrees (P.Rows t m n) o a =
        two (eqb (command (content l)) Rec) (eqb (command (content l)) End) (equal (command (content l)) Rec) (equal (command (content l)) End)
        (λ e. record_agrees t o m n a (says Rec e) (λ vs. record_line)) (λ e. end_agrees t o m n (fields_of l) (says End e) refl)
    line_agrees (P.Ended t n) o a = hit (λ x. x)

  -- every line, in every phase
  pub step_agrees : (p : Phase) (o : Order) → Ordered p o → Agrees (Onward p o) (Section.step latin p o l) (laws latin p o l)
  unfolding Section.step Section.content_step laws
  step_agrees p o a =
      must (is_d (clean latin (content l))) (λ ok.
      branch (blank (content l)) (λ b. goes (rw (quiet_order p o (empty ok b)) (quiet (empty ok b)))) (λ b.
      must_not (unknown_d (content l)) (λ m.
      branch (eqb (command (content l)) Com) (λ e. mark_agrees p o (remark_of (rest (content l))) (says ok Com (fact (equal (command (content l)) Com) e)) refl) (λ e.
      line_agrees ok p o a))))
