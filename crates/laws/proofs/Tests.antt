-- Each test of a section's machine decides the rule of the grammar.
use mathlib.Core.Path.{◌≡◌, refl, ap, sym, ◌∙◌}
use mathlib.Core.Bool.{Bool, true, false, not, ◌&&◌, false≢true}
use mathlib.Core.List.{List, [], ◌∷◌, map}
use mathlib.Core.Logic.{◌⊎◌, inl, inr}
use Prim.Native.Nat.{ℕ, zero, suc, ◌≤◌, ◌<◌}
use native.Mathlib.Omega.{arith}
use lib.Dec.{eqb, leb, ltb}
use lib.ListN.{length, take}
use borrow.Author.Tests.{eqb-true, leb-true, le-ltb, ne_eqb}
use Rattle.page.specs.Bytes.{Bytes, bytes, pick, same, until, no_space, trim}
use Rattle.page.specs.Lines.{blank, command, semicolon, find, known, Mod, Unknown, Missing}
use Rattle.page.specs.Tables.{Named, table_at, width, name_at, table_named, TABLES}
use Rattle.page.specs.Order.{Order, order_of, arranged}
use Rattle.page.specs.Section.{format_ok, formats_ok}
use Rattle.page.specs.Grammar.{Arrangement, Formats, no_format, a_format, Rises, lone, above}
use Rattle.page.specs.Refusals.{marks_of, One}
use Rattle.page.specs.Marks.{may_mark}
use Rattle.page.proofs.ArrangeLaws.{arranged_exactly}
use Rattle.page.proofs.NameLaws.{find_within}
use Rattle.page.proofs.TableLaws.{name_tells, named_is}
use Rattle.laws.proofs.Decides.{Decides, holds, fails, when, both, equal, at_most, below}

-- equal bytes
pub same_d : (x y : Bytes) → Decides (x ≡ y) (same x y)
unfolding same
same_d [] [] = holds refl
same_d [] (b ∷ y) = fails (λ e. absurd (false≢true (cc)))
same_d (a ∷ x) [] = fails (λ e. absurd (false≢true (cc)))
same_d (a ∷ x) (b ∷ y) = when (λ p. cc) (λ e. ((cc), (cc))) (both (equal a b) (same_d x y))

-- a Bool is true
pub is_d : (b : Bool) → Decides (b ≡ true) b
is_d true = holds refl
is_d false = fails false≢true

-- the names of `atr`
pub names_d : (t : ℕ) (fs : List Bytes) → Decides ((q : Order) × Arrangement t q × (fs ≡ map (λ (c : ℕ). bytes (name_at t c)) q)) (arranged (width t) (order_of t fs))
names_d t fs = let x = arranged_exactly t fs in when x.0 x.1 (is_d (arranged (width t) (order_of t fs)))

-- the formats of `frm`
pub formats_d : (cs : List Named) (fs : List Bytes) → Decides (Formats cs fs) (formats_ok cs fs)
unfolding formats_ok
formats_d [] [] = holds no_format
formats_d [] (f ∷ fs) = fails (λ h. elim h [ ])
formats_d (c ∷ cs) [] = fails (λ h. elim h [ ])
formats_d (c ∷ cs) (f ∷ fs) = when (λ p. a_format p.0 p.1) parts (both (is_d (format_ok c.column.text f)) (formats_d cs fs))
  where
    parts : Formats (c ∷ cs) (f ∷ fs) → (format_ok c.column.text f ≡ true) × Formats cs fs
    parts (a_format h t) = (h, t)

-- a mark that rises: none is of field 0
pub rises_d : (t : ℕ) (o : Order) (i m : ℕ) → Decides ((may_mark t o i ≡ true) × Rises i (marks_of m)) (may_mark t o i && ltb m i)
unfolding may_mark
rises_d t o i zero = from (may_mark t o i) (ltb 0 i) refl (below 0 i) (λ e. leb-true 1 i (first (leb 1 i) _ e))
  where
    first : (a b : Bool) → (a && b) ≡ true → a ≡ true
    first true b e = refl
    first false b e = e

    from : (a b : Bool) → may_mark t o i ≡ a → Decides (0 < i) b → (a ≡ true → 1 ≤ i) → Decides ((may_mark t o i ≡ true) × Rises i []) (a && b)
    from true true e d h = holds (e, lone)
    from true false e (fails n) h = absurd (n (h refl))
    from false b e d h = fails (λ x. false≢true (sym e ∙ x.0))
rises_d t o i (suc m) = both (is_d (may_mark t o i)) (when above part (below (suc m) i))
  where
    part : Rises i (suc m ∷ []) → suc m < i
    part (above h) = h

-- "no `;`, or unknown command"
pub command_le : (c : Bytes) → command c ≤ Missing
unfolding command known
command_le c = by (ltb (until semicolon c) (length c)) (find_within Mod known (trim (take (until semicolon c) c))).1
  where
    by : (b : Bool) → find Mod known (trim (take (until semicolon c) c)) ≤ 15 → pick b (find Mod known (trim (take (until semicolon c) c))) 16 ≤ 16
    by true h = omega arith
    by false h = omega arith

-- 5: the test on the command's number decides it
pub unknown_d : (c : Bytes) → Decides ((command c ≡ Missing) ⊎ (command c ≡ Unknown)) (leb Unknown (command c))
unknown_d c = when into back (at_most Unknown (command c))
  where
    into : Unknown ≤ command c → (command c ≡ Missing) ⊎ (command c ≡ Unknown)
    into h = by (eqb (command c) Missing) (equal (command c) Missing)
      where
        by : (b : Bool) → Decides (command c ≡ Missing) b → (command c ≡ Missing) ⊎ (command c ≡ Unknown)
        by true (holds e) = inl e
        by false (fails n) = inr (let z = command_le c in omega arith)

    back : (command c ≡ Missing) ⊎ (command c ≡ Unknown) → Unknown ≤ command c
    back (inl e) = omega arith
    back (inr e) = omega arith

no_semicolon : (c : Bytes) → until no_space c ≡ length c → length c ≤ until semicolon c
unfolding until
no_semicolon [] e = omega arith
no_semicolon (b ∷ c) e = by (eqb b 32) (equal b 32) e (no_semicolon c)
  where
    by : (d : Bool) → Decides (b ≡ 32) d → pick (not d) 0 (suc (until no_space c)) ≡ length (b ∷ c) → (until no_space c ≡ length c → length c ≤ until semicolon c) →
        length (b ∷ c) ≤ pick (eqb b 59) 0 (suc (until semicolon c))
    by true (holds q) e ih = rw q (let z = ih (omega arith) in omega arith)
    by false (fails n) e ih = absurd (let z : ⊥ = omega arith in z)

-- a blank line has no command
pub blank_missing : (c : Bytes) → blank c ≡ true → command c ≡ Missing
unfolding blank command
blank_missing c h = rw (le-ltb _ _ (no_semicolon c (eqb-true _ _ h)))

-- exactly one field
pub one_d : (fs : List Bytes) → Decides (One fs) (eqb (length fs) 1)
one_d [] = fails (λ o. let e = o.1 in absurd (false≢true (cc)))
one_d (f ∷ []) = holds (f, refl)
one_d (f ∷ g ∷ fs) = rw (ne_eqb (length (f ∷ g ∷ fs)) 1 (λ e. omega arith)) (fails (λ o. let e = o.1 in absurd (false≢true (cc))))

-- the name of one of the tables
pub named_d : (f : Bytes) → Decides ((t : ℕ) × (t < TABLES) × (f ∷ [] ≡ bytes (table_at t).name ∷ [])) (ltb (table_named f) TABLES)
named_d f = when (λ h. (table_named f, h, ap (λ (x : Bytes). x ∷ []) (sym (named_is f h)))) back (below (table_named f) TABLES)
  where
    back : (t : ℕ) × (t < TABLES) × (f ∷ [] ≡ bytes (table_at t).name ∷ []) → table_named f < TABLES
    back x =
        let t = x.0 in
        let h = x.1 in
        let q = x.2 in
        let e : f ≡ bytes (table_at t).name = cc in
        rw (e, name_tells t h) h
