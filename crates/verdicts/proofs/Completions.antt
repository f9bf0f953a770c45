-- Lines keep the header's rules exactly if some lines after them make a sound header: the header is refused neither too early nor too late.
use Rattle.std.specs.Prelude.{Some}
use mathlib.Core.Path.{◌≡◌, refl, ◌∙◌}
use mathlib.Core.Bool.{Bool, true, false}
use mathlib.Core.List.{List, [], ◌∷◌, ◌++◌, Memᴰ}
use mathlib.Core.Logic.{inl, inr, ◌↔◌}
use Prim.Native.Nat.{ℕ, ◌≤◌}
use lib.Dec.{eqb}
use borrow.Author.Tests.{eq-eqb}
use native.Mathlib.Omega.{arith}
use Rattle.page.specs.Bytes.{Bytes, bytes, pick}
use Rattle.page.specs.Lines.{content, command, clean, Src, Chs, Ver, Ifv}
use Rattle.page.specs.Grammar.{fields_of}
use Rattle.page.specs.Header.{met_before, meet, met_none, head_step, holds, complete, head_end}
use Rattle.page.specs.Open.{open_all}
use Rattle.page.specs.Rules.{Every, none_left, one_more}
use Rattle.page.specs.declared.Met.{Met}
use Rattle.verdicts.specs.Headers.{followers, Keeps, Completable}
use Rattle.laws.proofs.Decides.{tested}
use Rattle.laws.proofs.Lists.{every_at, every_from, every_map}
use Rattle.verdicts.proofs.HeaderLines.{Fit, tally, tallies, silent, other_line, other_go}
use Rattle.verdicts.proofs.Headers.{complete_d, Steps, stay, move, steps_split, steps_join, passed, keeps_steps, steps_keeps, steps_fit, header_exactly, sound_keeps}

-- a line for each command that must stand; `src` with its date in the stated form
unfoldable src_line : Bool → Bytes
src_line true = bytes "src; \"\"; \"01.02.2024\"; \"06:00:00\""
src_line false = bytes "src; \"\"; \"2024/02/01\"; \"06:00:00\""

unfoldable chs_line : Bytes
chs_line = bytes "chs; \"ASCII\""

unfoldable ver_line : Bytes
ver_line = bytes "ver; \"\""

unfoldable ifv_line : Bytes
ifv_line = bytes "ifv; \"\""

-- a line that may follow, whatever has been met
record Fits (k form : ℕ) (l : Bytes) : Type 0 where
  clean : clean false (content l) ≡ true
  spoken : silent l ≡ false
  named : command (content l) ≡ k
  holds : holds k form (fields_of l) ≡ true

src_fits : (f : ℕ) (b : Bool) → eqb f 1 ≡ b → Fits Src f (src_line b)
unfolding open_all src_line
src_fits f true e = record { clean = refl; spoken = refl; named = refl; holds = rw e }
src_fits f false e = record { clean = refl; spoken = refl; named = refl; holds = rw e }

chs_fits : (f : ℕ) → Fits Chs f chs_line
unfolding open_all chs_line
chs_fits f = record { clean = refl; spoken = refl; named = refl; holds = refl }

ver_fits : (f : ℕ) → Fits Ver f ver_line
unfolding open_all ver_line
ver_fits f = record { clean = refl; spoken = refl; named = refl; holds = refl }

ifv_fits : (f : ℕ) → Fits Ifv f ifv_line
unfolding open_all ifv_line
ifv_fits f = record { clean = refl; spoken = refl; named = refl; holds = refl }

-- the command k is met, by that line if need be; what has been met stays met
record Adds (k : ℕ) (m : Met) : Type 0 where
  more : List Bytes
  to : Met
  steps : Steps m more to
  begun : ¬ (to.form ≡ 0)
  met : 1 ≤ tally k to
  kept : Every (λ j. tally j m ≤ tally j to) followers

adds : (k : ℕ) (m : Met) (l : Bytes) → Memᴰ k followers → ¬ (m.form ≡ 0) → Fits k m.form l → Adds k m
unfolding meet
adds k m l i n f = by (met_before k m) refl
  where
    by : (b : Bool) → met_before k m ≡ b → Adds k m
    by true e = record { more = []; to = m; steps = stay; begun = n; met = rw e (omega arith); kept = every_from followers (λ j h. omega arith) }
    by false e =
        record {
          more = l ∷ [];
          to = meet k m;
          steps = move {q = meet k m} (other_line m l n f.clean f.spoken ∙ rw f.named (other_go m k (fields_of l) e f.holds)) stay;
          begun = n;
          met = let z = every_at followers (tallies k m e) i in let y = eq-eqb k k refl in omega (arith, (rw y at z));
          kept = every_map (λ j z. omega arith) (tallies k m e);
        }

few : (b : Bool) → pick b 1 0 ≤ 1
few true = omega arith
few false = omega arith

in_src : Memᴰ Src followers
in_src = Memᴰ.head refl

in_chs : Memᴰ Chs followers
in_chs = Memᴰ.tail (Memᴰ.head refl)

in_ver : Memᴰ Ver followers
in_ver = Memᴰ.tail (Memᴰ.tail (Memᴰ.head refl))

in_ifv : Memᴰ Ifv followers
in_ifv = Memᴰ.tail (Memᴰ.tail (Memᴰ.tail (Memᴰ.head refl)))

-- after `mod`, what is missing can be added
one : (q : Met) (j : ℕ) → 1 ≤ tally j q → tally j q ≡ 1
one q j h = let z = few (met_before j q) in omega arith

module _ (m : Met) where
  all_met : (a : Adds Src m) (b : Adds Chs a.to) (c : Adds Ver b.to) (d : Adds Ifv c.to) → complete d.to ≡ true
  all_met a b c d =
      let p = a.met in
      let q = b.met in
      let r = c.met in
      let s = every_at followers b.kept in_src in
      let t = every_at followers c.kept in_src in
      let u = every_at followers d.kept in_src in
      let v = every_at followers c.kept in_chs in
      let w = every_at followers d.kept in_chs in
      let x = every_at followers d.kept in_ver in
      tested (complete_d d.to d.begun)
      (one_more (one d.to Src (omega arith)) (one_more (one d.to Chs (omega arith)) (one_more (one d.to Ver (omega arith)) (one_more (one d.to Ifv d.met) none_left))))

  abbrev Finished : Type 0
  Finished = (more : List Bytes) × (q : Met) × Steps m more q × (complete q ≡ true)

  together : (a : Adds Src m) (b : Adds Chs a.to) (c : Adds Ver b.to) (d : Adds Ifv c.to) → Finished
  together a b c d =
      (a.more ++ (b.more ++ (c.more ++ d.more)), d.to, steps_join a.steps (steps_join b.steps (steps_join c.steps d.steps)), all_met a b c d)

  with_ifv : (a : Adds Src m) (b : Adds Chs a.to) (c : Adds Ver b.to) → Finished
  with_ifv a b c = together a b c (adds Ifv c.to ifv_line in_ifv c.begun (ifv_fits c.to.form))

  with_ver : (a : Adds Src m) (b : Adds Chs a.to) → Finished
  with_ver a b = with_ifv a b (adds Ver b.to ver_line in_ver b.begun (ver_fits b.to.form))

  with_chs : Adds Src m → Finished
  with_chs a = with_ver a (adds Chs a.to chs_line in_chs a.begun (chs_fits a.to.form))

  finished : ¬ (m.form ≡ 0) → Finished
  finished n = with_chs (adds Src m (src_line (eqb m.form 1)) in_src n (src_fits m.form (eqb m.form 1) refl))

unfoldable mod_line : Bytes
mod_line = bytes "mod; DD.MM.YYYY; HH:MM:SS; free"

-- and `mod` itself
modded : head_step (met_none 0) (content mod_line) ≡ Some (met_none 1)
unfolding open_all mod_line
modded = refl

finish : (m : Met) → Fit m → Finished m
finish m (inr n) = finished m n
finish m (inl z) = let x = finished (met_none 1) (λ e. omega arith) in (mod_line ∷ x.0, x.1, rw z (move modded x.2), x.3)

-- lines keep the rules exactly if they can be completed to a sound header
pub keeps_exactly : (ls : List Bytes) → Keeps ls ↔ Completable ls
unfolding head_end
keeps_exactly ls = (into, back)
  where
    into : Keeps ls → Completable ls
    into k =
        let x = keeps_steps ls k in
        let y = finish x.0 (steps_fit (inl refl) x.1) in
        (y.0, (header_exactly (ls ++ y.0)).0 (passed (ls ++ y.0) y.1 (steps_join x.1 y.2) ∙ rw y.3))

    back : Completable ls → Keeps ls
    back x =
        let y = keeps_steps (ls ++ x.0) (sound_keeps (ls ++ x.0) x.1) in
        let z = steps_split ls x.0 y.1 in
        steps_keeps ls z.0 z.1
