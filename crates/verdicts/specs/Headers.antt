-- What a refused header is, with no machine: the first line that breaks a rule, or that something is missing.
use Rattle.std.specs.Prelude.{◌≡◌, true, false, List, [], ◌∷◌, ◌++◌, ◌⊎◌, ℕ, suc, ◌≤◌, length}
use Rattle.page.specs.Bytes.{Bytes}
use Rattle.page.specs.Lines.{content, command, clean, Mod, Src, Chs, Ver, Ifv, Dve, Fft}
use Rattle.page.specs.Header.{mod_form}
use Rattle.page.specs.Grammar.{fields_of}
use Rattle.page.specs.Rules.{Every, spoken, times, HeadLine, SoundHeader}

-- the commands that follow `mod`, each at most once
abbrev pub followers : List ℕ
followers = Src ∷ Chs ∷ Ver ∷ Ifv ∷ Dve ∷ Fft ∷ []

-- "The first other line is `mod`", and what follows keeps its rules, though something may still be missing
pub record Begun (ls : List Bytes) : Type 0 where
  pub first : Bytes
  pub others : List Bytes
  pub order : spoken ls ≡ first ∷ others
  pub mode : command (content first) ≡ Mod
  pub form : ¬ (mod_form (fields_of first) ≡ 0)
  pub each : Every (HeadLine (mod_form (fields_of first))) others
  pub at_most_once : Every (λ k. times k others ≤ 1) followers

-- no line of these breaks a rule of the header
pub record Keeps (ls : List Bytes) : Type 0 where
  pub clean : Every (λ l. clean false (content l) ≡ true) ls
  pub rules : (spoken ls ≡ []) ⊎ Begun ls

-- "first such line given, else the header's line count if something is missing"
pub data HeaderFault (ls : List Bytes) (n : ℕ) : Type 0 where
  at_line : (before after : List Bytes) (l : Bytes) → ls ≡ before ++ (l ∷ after) → Keeps before → ¬ Keeps (before ++ (l ∷ [])) → n ≡ suc (length before) → HeaderFault ls n
  missing : Keeps ls → ¬ SoundHeader ls → n ≡ length ls → HeaderFault ls n

-- some lines after these make a sound header
abbrev pub Completable : List Bytes → Type 0
Completable ls = (more : List Bytes) × SoundHeader (ls ++ more)
