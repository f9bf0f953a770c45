-- The header's lines stand in the file at their places, and their texts between their quotes. Assumes nothing.
use Rattle.std.specs.Prelude.{Some}
use mathlib.Core.Path.{◌≡◌, refl, ap, sym, ◌∙◌}
use mathlib.Core.Bool.{Bool, true, false}
use mathlib.Core.List.{List, [], ◌∷◌, ◌++◌, append_assoc}
use Prim.Native.Nat.{ℕ, ◌+◌, ◌-◌, ◌<◌, ◌≤◌}
use native.Mathlib.Omega.{arith}
use lib.Dec.{eqb}
use lib.ListN.{length, get_or, take, drop, length-append}
use Rattle.page.specs.Bytes.{Bytes, pick, moved, part}
use Rattle.page.specs.Lines.{lines, joined, content, command}
use Rattle.page.specs.Fields.{fields, text_of}
use Rattle.page.specs.Cut.{cut, header_lines}
use Rattle.page.specs.Places.{Standing, field_span, unquoted, stands, line_of}
use Rattle.page.specs.Form.{doubled}
use Rattle.page.specs.declared.Span.{Span}
use Rattle.page.proofs.LineLaws.{joined_lines, joined_append}
use Rattle.page.proofs.CutLaws.{flat, cut_whole}
use Rattle.page.proofs.ScanLaws.{part_length, part_moved}
use Rattle.page.proofs.FieldLaws.{field_span_in, field_span_part}
use Rattle.page.proofs.TextLaws.{text_long, text_between}
use Rattle.calls.proofs.Handed.{Lies, stands_lies}

next_line : (a l w z : Bytes) → (a ++ l) ++ (w ++ z) ≡ a ++ ((l ++ w) ++ z)
next_line a l w z = simp append_assoc

-- the first line of command k of the header
line_lies : (k : ℕ) (a : Bytes) (ls : List Bytes) (z : Bytes) → Lies (a ++ (joined ls ++ z)) (line_of k (length a) ls)
unfolding line_of joined
line_lies k a [] z = refl
line_lies k a (l ∷ ls) z = by (eqb (command (content l)) k) (line_lies k (a ++ l) ls z)
  where
    by : (b : Bool) → Lies ((a ++ l) ++ (joined ls ++ z)) (line_of k (length (a ++ l)) ls) →
        Lies (a ++ ((l ++ joined ls) ++ z)) (pick b (stands (length a) l 0) (line_of k (length a + length l) ls))
    by true ih = rw (append_assoc l (joined ls) z) (stands_lies a l (joined ls ++ z) 0)
    by false ih = rw (next_line a l (joined ls) z, length-append a l) at ih

pub header_lies : (s : Bytes) (k : ℕ) → Lies s (line_of k 0 (header_lines s))
unfolding header_lines
header_lies s k =
    let e : joined (cut (lines s)).front ++ joined (flat (cut (lines s)).pieces) ≡ s =
    sym (joined_append (cut (lines s)).front (flat (cut (lines s)).pieces)) ∙ (ap joined (cut_whole (lines s)) ∙ joined_lines s) in
    rw e at (line_lies k [] (cut (lines s)).front (joined (flat (cut (lines s)).pieces)))

-- a part of one of its fields
field_part : (s : Bytes) (x : Standing) → Lies s x → (k : ℕ) → k < length (fields x.rest) → (sp : Span) → sp.from ≤ sp.to → sp.to ≤ length (get_or (fields x.rest) k []) →
    part (moved x.at (moved (field_span x.rest k).from sp)) s ≡ part sp (get_or (fields x.rest) k [])
field_part s x lies k h sp o w =
    let i = field_span_in x.rest k h in
    let p = field_span_part x.rest k h in
    let n : length (part (field_span x.rest k) x.rest) ≡ (field_span x.rest k).to - (field_span x.rest k).from =
    part_length (field_span x.rest k).from (field_span x.rest k).to x.rest i.1 in
    let m : length (get_or (fields x.rest) k []) ≡ (field_span x.rest k).to - (field_span x.rest k).from = sym (ap length p) ∙ n in
    let q : Span = moved (field_span x.rest k).from sp in
    let a : part q (take (length x.rest) (drop x.at s)) ≡ part (moved x.at q) s = part_moved q x.at (length x.rest) s (omega arith) (omega arith) in
    let b : part sp (take ((field_span x.rest k).to - (field_span x.rest k).from) (drop (field_span x.rest k).from x.rest)) ≡ part q x.rest =
    part_moved sp (field_span x.rest k).from ((field_span x.rest k).to - (field_span x.rest k).from) x.rest o (omega arith) in
    sym a ∙ (ap (part q) lies ∙ (sym b ∙ ap (part sp) p))

-- a text as it is written, between its quotes
pub between_quotes : (s : Bytes) (x : Standing) → Lies s x → (k : ℕ) → k < length (fields x.rest) → (u : Bytes) → text_of (get_or (fields x.rest) k []) ≡ Some u →
    part (moved x.at (unquoted (field_span x.rest k))) s ≡ doubled u
between_quotes s x lies k h u e =
    let f : Bytes = get_or (fields x.rest) k [] in
    let n : length f ≡ (field_span x.rest k).to - (field_span x.rest k).from =
    sym (ap length (field_span_part x.rest k h))
    ∙ part_length (field_span x.rest k).from (field_span x.rest k).to x.rest (field_span_in x.rest k h).1 in
    let l = text_long f u e in
    let z : (field_span x.rest k).from + (length f - 1) ≡ (field_span x.rest k).to - 1 = omega arith in
    let y : length f - 1 - 1 ≡ length f - 2 = omega arith in
    rw (z, y) at (field_part s x lies k h (record { from = 1; to = length f - 1 }) (omega arith) (omega arith)) ∙ text_between f u e
