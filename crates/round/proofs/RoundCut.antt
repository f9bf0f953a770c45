-- The cut of the written form into header, sections and trailer is its parts. Assumes nothing.
use Rattle.std.specs.Prelude.{None, Option, Some}
use mathlib.Core.Path.{◌≡◌, refl, ap, sym, ◌∙◌}
use mathlib.Core.Bool.{Bool, true, false}
use mathlib.Core.List.{List, [], ◌∷◌, ◌++◌, map, append-nil, append_assoc}
use Prim.Native.Nat.{ℕ, suc, ◌+◌, ◌<◌}
use Prim.Native.String.{String}
use native.Mathlib.Omega.{arith}
use lib.Dec.{eqb}
use lib.ListN.{length}
use Rattle.page.specs.Bytes.{Bytes, all}
use Rattle.page.specs.Lines.{lines, joined, allowed, Tbl, Eof}
use Rattle.page.specs.Fields.{digit}
use Rattle.page.specs.Tables.{table_at, TABLES}
use Rattle.page.specs.Cut.{begins_table, begins_end, Piece, a_table, a_trailer, Cut, put, cut, Section, placed, header_lines, sections, from_end, trailer_lines}
use Rattle.page.specs.Records.{number, missing, words, Record}
use Rattle.page.specs.Model.{Content, Model}
use Rattle.page.specs.Head.{Head}
use Rattle.page.specs.Form.{separated, line, decimal, tables_form, form_of}
use Rattle.page.specs.Rules.{Every, none_left, one_more}
use Rattle.page.specs.declared.LineEnd.{LineEnd}
use Rattle.page.specs.declared.Owner.TheVariants as O
use Rattle.page.proofs.LineLaws.{Ended, Laid, none as no_line, next, joined_append, lines_joined}
use Rattle.round.specs.Round.{PrintedIf, SoundRecord, SoundContent, SoundHead, SoundModel}
use Rattle.laws.proofs.WrittenScans.{all_mono}
use Rattle.round.proofs.WrittenNumbers.{decimal_all}
use Rattle.round.proofs.WrittenFields.{no_field, a_field, decimal_field}
use Rattle.round.proofs.WrittenLines.{commands, Seen, seen, separated_more, separated_none}
use Rattle.round.proofs.RoundRecords.{digit_allowed, width_back}
use Rattle.round.proofs.RoundSteps.{mark_lines_of, mark_lines, mark_seen, end_seen, rec_seen}
use Rattle.round.proofs.RoundHeads.{Heads, heads, tbl_line}
use Rattle.round.proofs.RoundSections.{record_lines, body_lines, after_tbl, content_lines, joined_content, some_columns}
use Rattle.round.proofs.RoundHeader.{text_line, lines_if, head_lines, joined_head, mod_seen, src_seen, chs_seen, text_seen}
use Rattle.laws.proofs.Lists.{every_append, every_map}

-- one line, and not the trailer's
pub record Line (l : Bytes) : Type 0 where
  pub ended : Ended l
  pub no_end : begins_end l ≡ false

-- one that begins nothing
pub record Inner (l : Bytes) : Type 0 where
  pub whole : Line l
  pub no_table : begins_table l ≡ false

inner_of : {latin : Bool} {l : Bytes} {k : ℕ} {f : Bytes} {fs : List Bytes} → Seen latin l k f fs → eqb k Tbl ≡ false → eqb k Eof ≡ false → Inner l
unfolding begins_table begins_end
inner_of s a b = record { whole = record { ended = s.ended; no_end = rw s.named b }; no_table = rw s.named a }

-- the lines of a header, of a record, of a section after its first

inner_if : (ends : LineEnd) (s : String) (d : Option Bytes) → ((t : Bytes) → PrintedIf (Some t) → Inner (text_line ends s t)) → PrintedIf d → Every Inner (lines_if ends s d)
unfolding lines_if
inner_if ends s None f p = none_left
inner_if ends s (Some t) f p = one_more (f t p) none_left

pub inner_head : (ends : LineEnd) (h : Head) → SoundHead h → Every Inner (head_lines ends h)
unfolding head_lines
inner_head ends h s =
    one_more (inner_of (mod_seen ends) refl refl) (one_more (inner_of (src_seen ends h s) refl refl) (one_more (inner_of (chs_seen ends h) refl refl)
    (one_more (inner_of (text_seen ends commands.3 h.ver s.ver) refl refl) (one_more (inner_of (text_seen ends commands.4 h.ifv s.ifv) refl refl)
    (every_append (inner_if ends "dve" h.dve (λ t p. inner_of (text_seen ends commands.5 t p) refl refl) s.dve)
    (inner_if ends "fft" h.fft (λ t p. inner_of (text_seen ends commands.6 t p) refl refl) s.fft))))))

module _ (ends : LineEnd) (latin : Bool) (t : ℕ) (known : t < TABLES) where
  inner_marks : (i : ℕ) (vs : Record) → Every Inner (mark_lines ends i vs)
  unfolding mark_lines mark_lines_of
  inner_marks i [] = none_left
  inner_marks i (number n ∷ vs) = inner_marks (suc i) vs
  inner_marks i (missing ∷ vs) = inner_marks (suc i) vs
  inner_marks i (words O.Operator u ∷ vs) = inner_marks (suc i) vs
  inner_marks i (words O.Suggestion u ∷ vs) = one_more (inner_of (mark_seen ends latin t i) refl refl) (inner_marks (suc i) vs)

  inner_record : (vs : Record) → SoundRecord latin t vs → Every Inner (record_lines ends vs)
  unfolding record_lines
  inner_record [] r = absurd (let z : ⊥ = omega (arith, width_back latin r.fit, some_columns ends latin t known) in z)
  inner_record (v ∷ vs) r = every_append (inner_marks 1 (v ∷ vs)) (one_more (inner_of (rec_seen ends latin t v vs r) refl refl) none_left)

  inner_body : {rs : List Record} (c : ℕ) → Every (SoundRecord latin t) rs → Every Inner (body_lines ends c rs)
  unfolding body_lines
  inner_body c none_left = one_more (inner_of (end_seen ends latin t c) refl refl) none_left
  inner_body c (one_more {x} r rs) = every_append (inner_record x r) (inner_body c rs)

module _ (ends : LineEnd) (latin : Bool) (c : Content) (s : SoundContent latin c) where
  the_heads : Heads ends latin c.table (table_at c.table)
  the_heads = heads ends latin c.table s.known

  inner_after : Every Inner (after_tbl ends c)
  unfolding after_tbl begins_table begins_end
  inner_after =
      let h = the_heads in
      one_more (record { whole = record { ended = h.atr_ended; no_end = rw h.atr_named }; no_table = rw h.atr_named })
      (one_more (record { whole = record { ended = h.frm_ended; no_end = rw h.frm_named }; no_table = rw h.frm_named })
      (inner_body ends latin c.table s.known (length c.records) s.records))

  pub line_content : Every Line (content_lines ends c)
  unfolding content_lines begins_end
  line_content =
      one_more (record { ended = the_heads.tbl_ended; no_end = rw the_heads.tbl_named }) (every_map (λ l i. i.whole) inner_after)

  tbl_begins : begins_table (tbl_line ends (table_at c.table)) ≡ true
  unfolding begins_table
  tbl_begins = rw the_heads.tbl_named

-- the cut

pub cut_inner : {ls : List Bytes} → Every Inner ls → (more : List Bytes) → cut (ls ++ more) ≡ record { front = ls ++ (cut more).front; pieces = (cut more).pieces }
unfolding cut put
cut_inner none_left more = refl
cut_inner (one_more {x} {xs} i is) more = rw (i.no_table, i.whole.no_end, cut_inner is more)

pub cut_content : (ends : LineEnd) (latin : Bool) (c : Content) → SoundContent latin c → (more : List Bytes) → (cut more).front ≡ [] →
    cut (content_lines ends c ++ more) ≡ record { front = []; pieces = a_table (content_lines ends c) ∷ (cut more).pieces }
unfolding cut put content_lines
cut_content ends latin c s more e = rw (tbl_begins ends latin c s, cut_inner (inner_after ends latin c s) more, e, append-nil (after_tbl ends c))

unfoldable pub tables_lines : LineEnd → List Content → List Bytes
tables_lines ends [] = []
tables_lines ends (c ∷ cs) = content_lines ends c ++ tables_lines ends cs

unfoldable pub eof_line : LineEnd → ℕ → Bytes
eof_line ends n = line ends "eof" (decimal n ∷ [])

unfoldable pub form_lines : LineEnd → Model → List Bytes
form_lines ends m = head_lines ends m.head ++ (tables_lines ends m.tables ++ (eof_line ends (length m.tables) ∷ []))

unfoldable pub table_pieces : LineEnd → List Content → Bytes → List Piece
table_pieces ends [] e = a_trailer (e ∷ []) ∷ []
table_pieces ends (c ∷ cs) e = a_table (content_lines ends c) ∷ table_pieces ends cs e

decimal_printed : (n : ℕ) → all (allowed false) (separated (decimal n ∷ [])) ≡ true
decimal_printed n = separated_more false (decimal n) [] (all_mono digit (allowed false) (digit_allowed false) (decimal n) (decimal_all n)) (separated_none false)

pub eof_seen : (ends : LineEnd) (n : ℕ) → Seen false (eof_line ends n) Eof (decimal n) []
unfolding eof_line
eof_seen ends n = seen ends commands.13 (decimal n) [] false (a_field (decimal_field n) no_field) (decimal_printed n)

eof_begins : (ends : LineEnd) (n : ℕ) → begins_end (eof_line ends n) ≡ true
unfolding begins_end
eof_begins ends n = rw (eof_seen ends n).named

eof_no_table : (ends : LineEnd) (n : ℕ) → begins_table (eof_line ends n) ≡ false
unfolding begins_table
eof_no_table ends n = rw (eof_seen ends n).named

pub cut_tables : (ends : LineEnd) (latin : Bool) {cs : List Content} → Every (SoundContent latin) cs → (n : ℕ) →
    cut (tables_lines ends cs ++ (eof_line ends n ∷ [])) ≡ record { front = []; pieces = table_pieces ends cs (eof_line ends n) }
unfolding cut put tables_lines table_pieces
cut_tables ends latin none_left n = rw (eof_no_table ends n, eof_begins ends n)
cut_tables ends latin (one_more {x} {xs} s ss) n =
    let ih = cut_tables ends latin ss n in
    rw (
      append_assoc (content_lines ends x) (tables_lines ends xs) (eof_line ends n ∷ []),
      cut_content ends latin x s (tables_lines ends xs ++ (eof_line ends n ∷ [])) (rw ih),
      ih,
    )

joined_tables : (ends : LineEnd) (cs : List Content) → joined (tables_lines ends cs) ≡ tables_form ends cs
unfolding tables_lines tables_form joined
joined_tables ends [] = refl
joined_tables ends (c ∷ cs) = joined_append (content_lines ends c) (tables_lines ends cs) ∙ rw (joined_content ends c, joined_tables ends cs)

pub joined_form : (ends : LineEnd) (m : Model) → joined (form_lines ends m) ≡ form_of ends m
unfolding form_lines form_of joined eof_line
joined_form ends m =
    joined_append (head_lines ends m.head) (tables_lines ends m.tables ++ (eof_line ends (length m.tables) ∷ []))
    ∙ rw (joined_head ends m.head, joined_append (tables_lines ends m.tables) (eof_line ends (length m.tables) ∷ []), joined_tables ends m.tables, append-nil (eof_line ends (length m.tables)))

laid_lines : {ls : List Bytes} → Every Ended ls → Laid ls
laid_lines none_left = no_line
laid_lines (one_more e es) = next e (laid_lines es)

lines_tables : (ends : LineEnd) (latin : Bool) {cs : List Content} → Every (SoundContent latin) cs → Every Line (tables_lines ends cs)
unfolding tables_lines
lines_tables ends latin none_left = none_left
lines_tables ends latin (one_more {x} s ss) = every_append (line_content ends latin x s) (lines_tables ends latin ss)

-- the trailer begins at the first `eof` line
end_after : {ls : List Bytes} → Every Line ls → (more : List Bytes) → from_end (ls ++ more) ≡ from_end more
unfolding from_end
end_after none_left more = refl
end_after (one_more l ls) more = rw (l.no_end, end_after ls more)

map_lines : (ends : LineEnd) (at : ℕ) (cs : List Content) (e : Bytes) → map (λ (x : Section). x.lines) (placed at (table_pieces ends cs e)) ≡ map (content_lines ends) cs
unfolding placed table_pieces
map_lines ends at [] e = refl
map_lines ends at (c ∷ cs) e = rw (map_lines ends (at + length (joined (content_lines ends c))) cs e)

module _ (ends : LineEnd) (m : Model) (s : SoundModel m) where
  before_end : Every Line (head_lines ends m.head ++ tables_lines ends m.tables)
  before_end = every_append (every_map (λ l i. i.whole) (inner_head ends m.head s.head)) (lines_tables ends m.head.latin s.tables)

  form_split : form_lines ends m ≡ (head_lines ends m.head ++ tables_lines ends m.tables) ++ (eof_line ends (length m.tables) ∷ [])
  unfolding form_lines
  form_split = sym (append_assoc (head_lines ends m.head) (tables_lines ends m.tables) (eof_line ends (length m.tables) ∷ []))

  -- the lines of the form are the written ones
  pub lines_form : lines (form_of ends m) ≡ form_lines ends m
  lines_form =
      rw (← joined_form ends m)
      (lines_joined (laid_lines (rw form_split (every_append (every_map (λ l i. i.ended) before_end) (one_more (eof_seen ends (length m.tables)).ended none_left)))))

  pub cut_form : cut (lines (form_of ends m)) ≡ record { front = head_lines ends m.head; pieces = table_pieces ends m.tables (eof_line ends (length m.tables)) }
  unfolding form_lines
  cut_form =
      rw (
        lines_form,
        cut_inner (inner_head ends m.head s.head) (tables_lines ends m.tables ++ (eof_line ends (length m.tables) ∷ [])),
        cut_tables ends m.head.latin s.tables (length m.tables),
        append-nil (head_lines ends m.head),
      )

  pub header_form : header_lines (form_of ends m) ≡ head_lines ends m.head
  unfolding header_lines
  header_form = ap (λ (c : Cut). c.front) cut_form

  pub section_lines : map (λ (x : Section). x.lines) (sections (form_of ends m)) ≡ map (content_lines ends) m.tables
  unfolding sections
  section_lines =
      rw (ap (λ (c : Cut). c.pieces) cut_form) (map_lines ends (length (joined (header_lines (form_of ends m)))) m.tables (eof_line ends (length m.tables)))

  pub trailer_form : trailer_lines (form_of ends m) ≡ eof_line ends (length m.tables) ∷ []
  unfolding trailer_lines from_end
  trailer_form = rw (lines_form, form_split, end_after before_end (eof_line ends (length m.tables) ∷ []), eof_begins ends (length m.tables))
