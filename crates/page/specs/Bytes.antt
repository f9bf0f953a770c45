-- Bytes, and how far a scan over them goes.
use Rattle.std.specs.Prelude.{Bool, true, false, not, ◌&&◌, List, [], ◌∷◌, ℕ, zero, suc, ◌+◌, ◌-◌, eqb, take, drop}
use Prim.Native.Char.{code}
use Prim.Native.String.{String, [] as ε, ◌∷◌ as ◌◃◌}
use Rattle.page.specs.declared.Span.{Span}

abbrev pub Bytes : Type 0
Bytes = List ℕ

-- a character is the byte of its number (ISO 8859-1)
unfoldable pub bytes : String → Bytes
bytes ε = []
bytes (c ◃ s) = code c ∷ bytes s

-- which of two
abbrev pub pick {ℓ} : {A : Type ℓ} → Bool → A → A → A
pick true a b = a
pick false a b = b

unfoldable pub same : Bytes → Bytes → Bool
same [] [] = true
same [] (b ∷ bs) = false
same (a ∷ x) [] = false
same (a ∷ x) (b ∷ y) = eqb a b && same x y

unfoldable pub all : (ℕ → Bool) → Bytes → Bool
all p [] = true
all p (b ∷ bs) = p b && all p bs

-- how many bytes stand before the first that passes p: all of them, if none does
unfoldable pub until : (ℕ → Bool) → Bytes → ℕ
until p [] = 0
until p (b ∷ bs) = pick (p b) 0 (suc (until p bs))

abbrev pub kept_after : Bool → ℕ → ℕ
kept_after true zero = 0
kept_after true (suc n) = suc (suc n)
kept_after false n = suc n

-- how many bytes are left without the longest end of which each byte passes p
unfoldable pub keep : (ℕ → Bool) → Bytes → ℕ
keep p [] = 0
keep p (b ∷ bs) = kept_after (p b) (keep p bs)

abbrev pub part : Span → Bytes → Bytes
part sp s = take (sp.to - sp.from) (drop sp.from s)

abbrev pub moved : ℕ → Span → Span
moved k sp = record { from = k + sp.from; to = k + sp.to }

-- a space is byte 32
abbrev pub space : ℕ → Bool
space b = eqb b 32

abbrev pub no_space : ℕ → Bool
no_space b = not (space b)

-- "spaces trimmed": what stands between the first and the last byte that is no space
abbrev pub trim_of : Bytes → Span
trim_of w = record { from = until no_space (take (keep space w) w); to = keep space w }

unfoldable pub trim : Bytes → Bytes
trim w = part (trim_of w) w

-- "Spaces at the end of a text in a record no longer belong to it."
unfoldable pub unpadded : Bytes → Bytes
unpadded t = take (keep space t) t
