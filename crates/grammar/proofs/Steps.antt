-- The machine's step goes on exactly where the grammar leads on, and stops exactly by the first broken law.
use Rattle.std.specs.Prelude.{Err, Ok}
use mathlib.Core.Path.{◌≡◌, refl, ◌∙◌}
use mathlib.Core.Bool.{Bool, true, false}
use mathlib.Core.Logic.{◌↔◌}
use Prim.Native.Nat.{ℕ, ◌<◌}
use native.Mathlib.Omega.{arith}
use native.Mathlib.Numerals.{add-one}
use lib.Dec.{eqb}
use lib.ListN.{length}
use borrow.Author.Tests.{eq-eqb, lt-ltb, lt-leb}
use Rattle.page.specs.Bytes.{Bytes}
use Rattle.page.specs.Lines.{content, blank, command, rest, Tbl, Atr, Frm, Rec, End, Com, Unknown, Missing}
use Rattle.page.specs.Tables.{TABLES, rules, width}
use Rattle.page.specs.Order.{Order, arranged, standing, by_column}
use Rattle.page.specs.Marks.{remark_of}
use Rattle.page.specs.Section
use Rattle.page.specs.Records.{Record}
use Rattle.page.specs.Grammar.{fields_of, Says, empty, remark, RecLine}
use Rattle.page.specs.Refusals.{marks_of, FirstBroken, laws, Leads, quiet, tbl, atr, frm, mark, record_line, end}
use Rattle.page.specs.declared.Phase.{Phase}
use Rattle.page.specs.declared.Phase.TheVariants as P
use Rattle.page.proofs.TableLaws.{name_tells}
use Rattle.page.proofs.OrderLaws.{arranged_long}
use Rattle.page.proofs.ArrangeLaws.{arrangement_arranged}
use Rattle.laws.proofs.Decides.{tested, untested, equal}
use Rattle.laws.proofs.Tests.{names_d, formats_d, rises_d, blank_missing}
use Rattle.grammar.proofs.Rules.{rules_kept}
use Rattle.grammar.proofs.Arranged.{Ordered, reads_rule, reads_right, reads_empty}
use Rattle.grammar.proofs.Agrees.{quiet_order, atr_order, step_agrees}

-- a line with a command is not blank
pub not_blank : (c : Bytes) (k : ℕ) → command c ≡ k → k < Missing → blank c ≡ false
not_blank c k e h = by (blank c) refl
  where
    by : (b : Bool) → blank c ≡ b → b ≡ false
    by false q = refl
    by true q = absurd (let z = blank_missing c q in let y : ⊥ = omega arith in y)

-- what a clean line of a known command does
pub known_step : {latin : Bool} {l : Bytes} (k : ℕ) → Says latin k l → k < Unknown → (p : Phase) (o : Order) →
    Section.step latin p o l ≡ Section.choose (eqb k Com) (Section.com_step p o (remark_of (rest (content l)))) (Section.line_step p o k (rest (content l)))
unfolding Section.step Section.content_step Section.choose
known_step {latin} {l} k s h p o = rw (s.clean, not_blank (content l) k s.named (omega arith), s.named, lt-leb Unknown k h)

-- a record of any order of the columns that the grammar has breaks nothing
pub record_right : {latin : Bool} {l : Bytes} (t : ℕ) (o : Order) → arranged (width t) o ≡ true → (m : ℕ) {vs : Record} → RecLine latin t o (marks_of m) vs l →
    Section.rec_verdict t o m (fields_of l) ≡ 0
unfolding Section.rec_verdict
record_right {l = l} t o a m {vs} h =
    rw (
      eq-eqb (length (fields_of l)) (width t) (h.fields.many ∙ arranged_long (width t) o a),
      reads_right t o a h.fields,
      rules_kept (by_column o (fields_of l)) vs (rules t) (reads_rule t o m h.fields) h.rules,
      untested (reads_empty t o a m h.fields) h.filled,
    )

-- where the grammar leads, the step goes
pub leads_go : {latin : Bool} {l : Bytes} {p q : Phase} {o x : Order} → Ordered p o → Leads latin l p o q x → Section.step latin p o l ≡ Ok q
unfolding Section.step Section.content_step Section.choose Section.com_step Section.mark_step Section.line_step Section.tbl_step Section.atr_step Section.frm_step Section.rec_step Section.end_step Section.count_step
leads_go a (quiet (empty ok b)) = rw (ok, b)
leads_go a (quiet {p} {o} (remark s e)) = rw (known_step Com s (omega arith) p o, e)
leads_go a (tbl {t} {o} h) = rw (known_step Tbl h.says (omega arith) P.Tbl o, h.name, name_tells t h.known, lt-ltb t TABLES h.known)
leads_go {l = l} a (atr {t} {o} {q} h) = rw (known_step Atr h.says (omega arith) (P.Atr t) o, tested (names_d t (fields_of l)) (q, h.arrangement, h.names))
leads_go {l = l} a (frm {t} {o} h) = rw (known_step Frm h.says (omega arith) (P.Frm t) o, tested (formats_d (standing t o) (fields_of l)) h.formats)
leads_go a (mark {t} {m} {n} {i} {o} h) = rw (known_step Com h.says (omega arith) (P.Rows t m n) o, h.reads, tested (rises_d t o i m) (h.may, h.rises))
leads_go a (record_line {t} {m} {n} {o} h) = rw (known_step Rec h.says (omega arith) (P.Rows t m n) o, record_right t o a m h, add-one)
leads_go a (end {t} {n} {o} h) = rw (known_step End h.says (omega arith) (P.Rows t 0 n) o, h.alone, h.reads, tested (equal n n) refl)

-- with the order that the grammar says
pub leads_order : {latin : Bool} {l : Bytes} {p q : Phase} {o x : Order} → Leads latin l p o q x → Section.order_after p o (content l) ≡ x
unfolding Section.order_after
leads_order (quiet {p} {o} h) = quiet_order p o h
leads_order (tbl h) = refl
leads_order (atr {t} {o} {q} h) = atr_order t o q h
leads_order (frm h) = refl
leads_order (mark h) = refl
leads_order (record_line h) = refl
leads_order (end h) = refl

-- which is again one that the phase asks for
pub ordered_on : {latin : Bool} {l : Bytes} {p q : Phase} {o x : Order} → Leads latin l p o q x → Ordered p o → Ordered q x
ordered_on (quiet h) a = a
ordered_on (tbl h) a = tt
ordered_on (atr {t} {q} h) a = arrangement_arranged t q h.arrangement
ordered_on (frm h) a = a
ordered_on (mark h) a = a
ordered_on (record_line h) a = a
ordered_on (end h) a = a

-- a line leads from one phase to another exactly if the grammar says so
pub go_exactly : (latin : Bool) (l : Bytes) (p : Phase) (o : Order) → Ordered p o → (q : Phase) →
    Section.step latin p o l ≡ Ok q ↔ Leads latin l p o q (Section.order_after p o (content l))
go_exactly latin l p o a q = ((step_agrees latin l p o a).led q, leads_go a)

-- a line is refused with v exactly if v is the number of the first law that it breaks
pub stop_exactly : (latin : Bool) (l : Bytes) (p : Phase) (o : Order) → Ordered p o → (v : ℕ) → Section.step latin p o l ≡ Err v ↔ FirstBroken (laws latin p o l) v
stop_exactly latin l p o a v = (step_agrees latin l p o a).iff v
