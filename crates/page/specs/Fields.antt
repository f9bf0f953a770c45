-- Fields, texts, numbers.
use Rattle.std.specs.Prelude.{Bool, true, false, not, ◌&&◌, List, [], ◌∷◌, map, ℕ, suc, ◌+◌, ◌-◌, ◌*◌, eqb, leb, length, get_or, drop, None, Option, Some}
use Rattle.page.specs.Bytes.{Bytes, pick, all, trim}
use Rattle.page.specs.declared.Number.{Number}
use Rattle.page.specs.declared.Number.TheVariants as N

-- "Fields after the command are separated by `;`. A quote switches between outside and inside; inside, `;` is plain."
abbrev pub quote : ℕ → Bool
quote b = eqb b 34

abbrev pub parts_here : Bool → ℕ → Bool
parts_here true b = false
parts_here false b = eqb b 59

abbrev pub inside_after : Bool → ℕ → Bool
inside_after inside b = pick (quote b) (not inside) inside

-- how long the field at the front is
unfoldable pub field_size : Bool → Bytes → ℕ
field_size inside [] = 0
field_size inside (b ∷ bs) = pick (parts_here inside b) 0 (suc (field_size (inside_after inside b) bs))

abbrev pub into : Bool → ℕ → List Bytes → List Bytes
into true b fs = [] ∷ fs
into false b [] = (b ∷ []) ∷ []
into false b (f ∷ fs) = (b ∷ f) ∷ fs

unfoldable pub split : Bool → Bytes → List Bytes
split inside [] = [] ∷ []
split inside (b ∷ bs) = into (parts_here inside b) b (split (inside_after inside b) bs)

-- "Spaces around a field are trimmed." w is what stands after the first `;`
unfoldable pub fields : Bytes → List Bytes
fields w = map trim (split false w)

-- "A text field is one closed quoted string with nothing beside it; a doubled quote inside stands for one."
abbrev pub with_byte : ℕ → Option Bytes → Option Bytes
with_byte b None = None
with_byte b (Some t) = Some (b ∷ t)

-- what follows the opening quote; `met`: a quote was just met, which closes the text unless another follows
unfoldable pub body_of : Bool → Bytes → Option Bytes
body_of false [] = None
body_of true [] = Some []
body_of false (b ∷ bs) = pick (quote b) (body_of true bs) (with_byte b (body_of false bs))
body_of true (b ∷ bs) = pick (quote b) (with_byte b (body_of false bs)) None

unfoldable pub text_of : Bytes → Option Bytes
text_of f = pick (quote (get_or f 0 0)) (body_of false (drop 1 f)) None

-- "A number is an optional `-` and 1 to 18 digits, leading zeros allowed, `-0` being 0."
unfoldable pub digit : ℕ → Bool
digit b = leb 48 b && leb b 57

-- the value of digits that follow what is worth n
unfoldable pub value : ℕ → Bytes → ℕ
value n [] = n
value n (b ∷ bs) = value (n * 10 + (b - 48)) bs

unfoldable pub digits : Bytes → Bool
digits ds = leb 1 (length ds) && leb (length ds) 18 && all digit ds

abbrev pub minus : ℕ → Number
minus v = pick (eqb v 0) (N.Plus 0) (N.Minus v)

unfoldable pub number_of : Bytes → Number
number_of f =
    pick (eqb (get_or f 0 0) 45) (pick (digits (drop 1 f)) (minus (value 0 (drop 1 f))) N.Nothing)
    (pick (digits f) (N.Plus (value 0 f)) N.Nothing)
