-- Lines and commands.
use Rattle.std.specs.Prelude.{Bool, true, false, ◌&&◌, ◌||◌, List, [], ◌∷◌, ◌++◌, ℕ, suc, ◌+◌, ◌-◌, eqb, ltb, leb, length, get_or, take, drop}
use Prim.Native.String.{String}
use Rattle.page.specs.Bytes.{Bytes, bytes, pick, same, all, until, no_space, trim}

-- "A line ends at LF. Bytes after the last LF, if any, are a last line. A whole line includes its end."
-- b in front of lines: as a line of its own if it is an LF, and else in the first of them
abbrev pub in_front : Bool → ℕ → List Bytes → List Bytes
in_front true b ls = (b ∷ []) ∷ ls
in_front false b [] = (b ∷ []) ∷ []
in_front false b (l ∷ ls) = (b ∷ l) ∷ ls

unfoldable pub lines : Bytes → List Bytes
lines [] = []
lines (b ∷ bs) = in_front (eqb b 10) b (lines bs)

-- lines put together again
unfoldable pub joined : List Bytes → Bytes
joined [] = []
joined (l ∷ ls) = l ++ joined ls

-- "one CR directly before that LF belongs to the end": how long a line is without its end
unfoldable pub content_size : Bytes → ℕ
content_size l =
    pick (eqb (get_or l (length l - 1) 0) 10) (pick (eqb (get_or l (length l - 2) 0) 13) (length l - 2) (length l - 1)) (length l)

unfoldable pub content : Bytes → Bytes
content l = take (content_size l) l

-- "A line of spaces only, or of nothing, is blank": c is a line's content, here and below
unfoldable pub blank : Bytes → Bool
blank c = eqb (until no_space c) (length c)

-- "Known commands": a command is its place in this list, from 1
unfoldable pub known : List String
known =
    "mod" ∷ "src" ∷ "chs" ∷ "ver" ∷ "ifv" ∷ "dve" ∷ "fft" ∷ "tbl" ∷ "atr" ∷ "frm" ∷ "rec" ∷ "end" ∷ "com" ∷ "eof" ∷ []

abbrev pub Mod : ℕ
Mod = 1

abbrev pub Src : ℕ
Src = 2

abbrev pub Chs : ℕ
Chs = 3

abbrev pub Ver : ℕ
Ver = 4

abbrev pub Ifv : ℕ
Ifv = 5

abbrev pub Dve : ℕ
Dve = 6

abbrev pub Fft : ℕ
Fft = 7

abbrev pub Tbl : ℕ
Tbl = 8

abbrev pub Atr : ℕ
Atr = 9

abbrev pub Frm : ℕ
Frm = 10

abbrev pub Rec : ℕ
Rec = 11

abbrev pub End : ℕ
End = 12

abbrev pub Com : ℕ
Com = 13

abbrev pub Eof : ℕ
Eof = 14

abbrev pub Unknown : ℕ
Unknown = 15

abbrev pub Missing : ℕ
Missing = 16

-- the place of w in a list of names, the first counted as i; one past the last, if it is none of them
unfoldable pub find : ℕ → List String → Bytes → ℕ
find i [] w = i
find i (k ∷ ks) w = pick (same w (bytes k)) i (find (suc i) ks w)

abbrev pub semicolon : ℕ → Bool
semicolon b = eqb b 59

-- "The command is what stands before the first `;`, spaces trimmed; a line without `;` has none"
unfoldable pub command : Bytes → ℕ
command c = pick (ltb (until semicolon c) (length c)) (find Mod known (trim (take (until semicolon c) c))) Missing

-- what stands after the first `;`
unfoldable pub rest : Bytes → Bytes
rest c = drop (until semicolon c + 1) c

-- "Characters: 32..126 everywhere, and in `rec` lines under ISO8859-1 also every byte 161..255"
unfoldable pub allowed : Bool → ℕ → Bool
allowed wide b = leb 32 b && leb b 126 || leb 161 b && leb b 255 && wide

unfoldable pub clean : Bool → Bytes → Bool
clean latin c = all (allowed (latin && eqb (command c) Rec)) c
