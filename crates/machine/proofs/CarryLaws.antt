-- The order that a section's reading carries: what a line leaves of it, and what the `atr` line states. Assumes nothing.
use Rattle.std.specs.Prelude.{Err, Ok, Result}
use Rattle.std.specs.Result.{result_unwrap_or, is_ok}
use mathlib.Core.Path.{◌≡◌, refl, sym, ◌∙◌}
use mathlib.Core.Bool.{Bool, true, false, false≢true}
use mathlib.Core.List.{List, []}
use Prim.Native.Nat.{ℕ}
use native.Mathlib.Omega.{arith}
use lib.Dec.{eqb}
use borrow.Author.Tests.{eqb-true}
use Rattle.page.specs.Bytes.{Bytes}
use Rattle.page.specs.Lines.{content, command, rest, Atr, Com}
use Rattle.page.specs.Fields.{fields}
use Rattle.page.specs.Tables.{width}
use Rattle.page.specs.Order.{Order, order_of, arranged}
use Rattle.page.specs.Marks.{remark_of}
use Rattle.page.specs.Section.{choose, tbl_step, atr_step, frm_step, rec_step, count_step, end_step, mark_step, com_step, line_step, content_step, step, order_after}
use Rattle.page.specs.declared.Number.{Number}
use Rattle.page.specs.declared.Number.TheVariants as N
use Rattle.page.specs.declared.Remark.{Remark}
use Rattle.page.specs.declared.Remark.TheVariants as R
use Rattle.page.specs.declared.Phase.{Phase}
use Rattle.page.specs.declared.Phase.TheVariants as P
use Rattle.laws.proofs.Tests.{blank_missing}
use Rattle.names.specs.Told.{Arranges, Told}
use Rattle.machine.specs.Carries.{order_at, Carries, Found, Carried}
use Rattle.machine.specs.Moves.{phase_of}
use Rattle.machine.specs.declared.machine.Moved.{Moved}

-- a phase at which no `atr` line is due: what the code's test on the phase tells
abbrev pub Other : Phase → Type 0
Other p = (t : ℕ) → p ≡ P.Atr t → ⊥

due : {X : Type 0} (t : ℕ) → Other (P.Atr t) → X
due t n = absurd (n t refl)

pub none_due : (p : Phase) (w : Bytes) (b : Bool) → Other p → Found p w b
unfolding Found
none_due P.Tbl w b n = tt
none_due (P.Atr t) w b n = due t n
none_due (P.Frm t) w b n = tt
none_due (P.Rows t m i) w b n = tt
none_due (P.Ended t i) w b n = tt

-- at such a phase a line that is taken leaves the order
data Keeps (p : Phase) (o : Order) (c : Bytes) (a : List ℕ) : Result Phase ℕ → Type 0 where
  goes : {q : Phase} → Carried p q o c a → Keeps p o c a (Ok q)
  stops : {v : ℕ} → Keeps p o c a (Err v)

if : {p : Phase} {o : Order} {c : Bytes} {a : List ℕ} (b : Bool) {x y : Result Phase ℕ} → Keeps p o c a x → Keeps p o c a y → Keeps p o c a (choose b x y)
unfolding choose
if true f g = f
if false f g = g

kept : {p : Phase} {o : Order} {c : Bytes} {a : List ℕ} {x : Result Phase ℕ} → Keeps p o c a x → (r : Phase) → x ≡ Ok r → Carried p r o c a
kept (goes {q} h) r e = let z : q ≡ r = cc in rw z at h
kept stops r e = absurd (let z : ◌≡◌ {A = ℕ} 0 1 = cc in omega arith)

module _ (c : Bytes) (a : List ℕ) where
  keeps_blank : (p : Phase) → Other p → Carries p a → Keeps p (order_at p a) c a (Ok p)
  unfolding order_after
  keeps_blank P.Tbl n k = goes {q = P.Tbl} (record { is = refl; carries = k })
  keeps_blank (P.Atr t) n k = due t n
  keeps_blank (P.Frm t) n k = goes {q = P.Frm t} (record { is = refl; carries = k })
  keeps_blank (P.Rows t m i) n k = goes {q = P.Rows t m i} (record { is = refl; carries = k })
  keeps_blank (P.Ended t i) n k = goes {q = P.Ended t i} (record { is = refl; carries = k })

  keeps_com : (p : Phase) → Other p → Carries p a → (x : Remark) → Keeps p (order_at p a) c a (com_step p (order_at p a) x)
  unfolding com_step mark_step order_after order_at Carries
  keeps_com p n k R.Comment = keeps_blank p n k
  keeps_com p n k R.Unreadable = stops
  keeps_com P.Tbl n k (R.Mark i) = stops
  keeps_com (P.Atr t) n k (R.Mark i) = stops
  keeps_com (P.Frm t) n k (R.Mark i) = stops
  keeps_com (P.Rows t m j) n k (R.Mark i) = if _ (goes (record { is = refl; carries = k })) stops
  keeps_com (P.Ended t j) n k (R.Mark i) = stops

  keeps_count : (t m n : ℕ) → Carries (P.Rows t m n) a → (x : Number) → Keeps (P.Rows t m n) (order_at (P.Rows t m n) a) c a (count_step t n x)
  unfolding count_step order_after order_at Carries
  keeps_count t m n k (N.Plus i) = if _ (goes (record { is = refl; carries = k })) stops
  keeps_count t m n k (N.Minus i) = stops
  keeps_count t m n k N.Nothing = stops

  keeps_line : (p : Phase) → Other p → Carries p a → (i : ℕ) (w : Bytes) → Keeps p (order_at p a) c a (line_step p (order_at p a) i w)
  unfolding line_step tbl_step frm_step rec_step end_step order_after order_at Carries
  keeps_line P.Tbl n k i w = if _ (if _ (if _ (goes (record { is = refl; carries = tt })) stops) stops) stops
  keeps_line (P.Atr t) n k i w = due t n
  keeps_line (P.Frm t) n k i w = if _ (if _ (goes (record { is = refl; carries = k })) stops) stops
  keeps_line (P.Rows t m j) n k i w =
      if _ (if _ (goes (record { is = refl; carries = k })) stops) (if _ (if _ (if _ (keeps_count t m j k _) stops) stops) stops)
  keeps_line (P.Ended t j) n k i w = stops

pub carry_on : (latin : Bool) (p q : Phase) (a : List ℕ) (l : Bytes) → Other p → Carries p a → step latin p (order_at p a) l ≡ Ok q
    → Carried p q (order_at p a) (content l) a
unfolding step content_step
carry_on latin p q a l n k e =
    kept (if _ (if _ (keeps_blank (content l) a p n k)
    (if _ stops (if _ (keeps_com (content l) a p n k (remark_of (rest (content l)))) (keeps_line (content l) a p n k (command (content l)) (rest (content l)))))) stops) q e

-- where the `atr` line is due: the line that is it states an arrangement, and any other leaves it due
data Turns (t : ℕ) (c : Bytes) : Result Phase ℕ → Type 0 where
  waits : eqb (command c) Atr ≡ false → Turns t c (Ok (P.Atr t))
  states : eqb (command c) Atr ≡ true → arranged (width t) (order_of t (fields (rest c))) ≡ true → Turns t c (Ok (P.Frm t))
  halts : {v : ℕ} → Turns t c (Err v)

when : {t : ℕ} {c : Bytes} (b : Bool) {x y : Result Phase ℕ} → (b ≡ true → Turns t c x) → (b ≡ false → Turns t c y) → Turns t c (choose b x y)
unfolding choose
when true f g = f refl
when false f g = g refl

turns_com : (t : ℕ) (c : Bytes) (o : Order) → command c ≡ Com → (x : Remark) → Turns t c (com_step (P.Atr t) o x)
unfolding com_step mark_step
turns_com t c o e R.Comment = waits (rw e)
turns_com t c o e R.Unreadable = halts
turns_com t c o e (R.Mark i) = halts

turns : (latin : Bool) (t : ℕ) (o : Order) (l : Bytes) → Turns t (content l) (step latin (P.Atr t) o l)
unfolding step content_step line_step atr_step
turns latin t o l =
    when _ (λ a. when _ (λ b. waits (let e = blank_missing (content l) b in rw e)) (λ b. when _ (λ x. halts) (λ x.
    when _ (λ y. turns_com t (content l) o (eqb-true (command (content l)) Com y) (remark_of (rest (content l)))) (λ y.
    when _ (λ z. when _ (λ u. states z u) (λ u. halts)) (λ z. halts))))) (λ a. halts)

-- the line states an arrangement only where its names are one
Stated : ℕ → Bytes → List ℕ → Type 0
Stated t w b = arranged (width t) (order_of t (fields w)) ≡ true → Told t (fields w) b

turned : (t : ℕ) (c : Bytes) (b : List ℕ) → Stated t (rest c) b → {x : Result Phase ℕ} → Turns t c x → (q : Phase) → x ≡ Ok q → Carried (P.Atr t) q [] c b
unfolding order_after order_at Carries Stated
turned t c b k (waits n) q e = let z : q ≡ P.Atr t = cc in rw z (record { is = rw n; carries = tt })
turned t c b k (states n r) q e = let z : q ≡ P.Frm t = cc in rw z (record { is = rw n (sym ((k r).is r)); carries = (k r).stands })
turned t c b k halts q e = absurd (let z : ◌≡◌ {A = ℕ} 0 1 = cc in omega arith)

carry_stated : (latin : Bool) (t : ℕ) (p q : Phase) (a b : List ℕ) (l : Bytes) → p ≡ P.Atr t → Stated t (rest (content l)) b
    → step latin p (order_at p a) l ≡ Ok q → Carried p q (order_at p a) (content l) b
unfolding order_at
carry_stated latin t p q a b l e k x =
    let y = rw e at x in
    rw e (turned t (content l) b k (turns latin t [] l) q y)

pub carry_atr : (latin : Bool) (t : ℕ) (p q : Phase) (a : List ℕ) (r : Result (List ℕ) (List ℕ)) (l : Bytes) → p ≡ P.Atr t → Arranges t (fields (rest (content l))) r
    → step latin p (order_at p a) l ≡ Ok q → Carried p q (order_at p a) (content l) (result_unwrap_or r a)
unfolding Stated
carry_atr latin t p q a (Ok b) l e k x = carry_stated latin t p q a b l e (λ z. k.1) x
carry_atr latin t p q a (Err b) l e k x = carry_stated latin t p q a a l e (λ z. absurd (false≢true (sym k.0 ∙ z))) x

pub found_ok : (t : ℕ) (fs : List Bytes) (r : Result (List ℕ) (List ℕ)) → Arranges t fs r → is_ok r ≡ arranged (width t) (order_of t fs)
found_ok t fs (Ok a) k = sym k.0
found_ok t fs (Err a) k = sym k.0

-- what a line leads to, with the order and without
module _ {p : Phase} {o : Order} {c : Bytes} {x : Result Phase ℕ} where
  pub err_moves : {r : Result Moved ℕ} {v : ℕ} → r ≡ Err v → x ≡ Err v → (phase_of r ≡ x) × ((m : Moved) → r ≡ Ok m → Carried p m.phase o c m.order)
  err_moves e f = (rw (e, f), λ m q. absurd (let z : ◌≡◌ {A = ℕ} 0 1 = cc in omega arith))

  pub ok_moves : {q : Phase} {a : List ℕ} → x ≡ Ok q → Carried p q o c a
      → (Ok q ≡ x) × ((m : Moved) → ◌≡◌ {A = Result Moved ℕ} (Ok (record { phase = q; order = a })) (Ok m) → Carried p m.phase o c m.order)
  ok_moves {q} {a} e k = (sym e, λ m f. let z : record { phase = q; order = a } ≡ m = cc in rw (← z) k)
