-- The numbers of a line's laws are a section's.
use mathlib.Core.Path.{◌≡◌, refl}
use mathlib.Core.Bool.{Bool, true, false}
use mathlib.Core.List.{List, [], ◌∷◌, ◌++◌}
use mathlib.Core.Logic.{inl, inr}
use Prim.Native.Nat.{ℕ}
use lib.Dec.{eqb}
use Rattle.page.specs.Bytes.{Bytes}
use Rattle.page.specs.Lines.{content, blank, command, Rec, Com}
use Rattle.page.specs.Tables.{Named, Rule, points_differ, feeder_combined, rules}
use Rattle.page.specs.Order.{Order, standing}
use Rattle.page.specs.Grammar.{fields_of}
use Rattle.page.specs.Refusals.{Law, law, FirstBroken, either_laws, kind_law, fields_laws, rules_laws, command_laws, laws, section_numbers, OneOf}
use Rattle.page.specs.File.{any}
use Rattle.page.specs.declared.Phase.{Phase}
use Rattle.page.specs.declared.Phase.TheVariants as P
use Rattle.laws.proofs.Numbers.{other_number}

-- whichever of these laws is broken first, its number is a section's
record Listed (ls : List Law) : Type 0 where
  sure : (v : ℕ) → FirstBroken ls v → OneOf section_numbers v

none : Listed []
none = record { sure = λ v b. absurd b }

more : {w : ℕ} {L : Type 0} {ls : List Law} → OneOf section_numbers w → Listed ls → Listed (law w L ∷ ls)
more g k = record { sure = λ v s. elim s [ inl p ↦ rw p.1 at g | inr p ↦ k.sure v p.1 ] }

either_listed : (b : Bool) {x y : List Law} → Listed x → Listed y → Listed (either_laws b x y)
either_listed true r s = r
either_listed false r s = s

fields_listed : (cs : List Named) (fs : List Bytes) (ls : List Law) → Listed ls → Listed (fields_laws cs fs ++ ls)
unfolding any
fields_listed [] fs ls r = r
fields_listed (c ∷ cs) [] ls r = r
fields_listed (c ∷ cs) (f ∷ fs) ls r = by c.column.text c.column.optional (more refl (more refl (fields_listed cs fs ls r)))
  where
    by : (k optional : Bool) {xs : List Law} → Listed xs → Listed (kind_law k optional f ∷ xs)
    by true optional r = more refl r
    by false optional r = more refl r

rules_listed : (B : Rule → Type 0) (rs : List Rule) (ls : List Law) → Listed ls → Listed (rules_laws B rs ++ ls)
unfolding any
rules_listed B [] ls k = k
rules_listed B (points_differ p ∷ rs) ls k = more refl (rules_listed B rs ls k)
rules_listed B (feeder_combined c x ∷ rs) ls k = more refl (rules_listed B rs ls k)

command_listed : (p : Phase) (o : Order) (k : ℕ) (fs : List Bytes) → Listed (command_laws p o k fs)
unfolding any
command_listed P.Tbl o k fs = more refl (more refl none)
command_listed (P.Atr t) o k fs = more refl none
command_listed (P.Frm t) o k fs = more refl none
command_listed (P.Rows t m n) o k fs =
    either_listed (eqb k Rec) (more refl (fields_listed (standing t o) fs _ (rules_listed _ (rules t) _ (more refl none))))
    (more refl (more refl (more refl (more refl none))))
command_listed (P.Ended t n) o k fs = none

laws_all : (latin : Bool) (p : Phase) (o : Order) (l : Bytes) → Listed (laws latin p o l)
unfolding laws any
laws_all latin p o l =
    more refl (either_listed (blank (content l)) none (more refl
    (either_listed (eqb (command (content l)) Com) (more refl none) (more refl (command_listed p o (command (content l)) (fields_of l))))))

-- whatever law a line breaks first, its number is a section's
pub laws_ranged : (latin : Bool) (p : Phase) (o : Order) (l : Bytes) (v : ℕ) → FirstBroken (laws latin p o l) v → OneOf section_numbers v
laws_ranged latin p o l v b = (laws_all latin p o l).sure v b

-- so it is not 0
pub laws_some : (latin : Bool) (p : Phase) (o : Order) (l : Bytes) (v : ℕ) → FirstBroken (laws latin p o l) v → ¬ (v ≡ 0)
unfolding any
laws_some latin p o l v b = other_number section_numbers v 0 (laws_ranged latin p o l v b) refl
