-- "marks stand directly before their record": in a written file each suggestion's mark does, and there is no other `com` line. Assumes nothing.
use Rattle.std.specs.Prelude.{None, Option, Some}
use mathlib.Core.Path.{◌≡◌, refl, ap, sym, ◌∙◌}
use mathlib.Core.Bool.{Bool, true, false, false≢true}
use mathlib.Core.List.{List, [], ◌∷◌, ◌++◌, map, append_assoc, Memᴰ}
use Prim.Native.Nat.{ℕ, zero, suc, ◌+◌, ◌-◌, ◌<◌}
use Prim.Native.String.{String}
use native.Mathlib.Omega.{arith}
use lib.Dec.{eqb}
use lib.ListN.{length, get_or}
use borrow.Author.Tests.{eqb-true, eqb-false}
use Rattle.page.specs.Bytes.{Bytes, all, unpadded}
use Rattle.page.specs.Lines.{lines, content, command, Com}
use Rattle.page.specs.Fields.{digit, text_of}
use Rattle.page.specs.Tables.{columns, table_at, TABLES}
use Rattle.page.specs.Head.{Head}
use Rattle.page.specs.Marks.{owner_of}
use Rattle.page.specs.Records.{Datum, number, words, Record}
use Rattle.page.specs.Model.{Content, Model, model_of, datum_at, fill_model, strip_datum, strip_content, strip_model, changed, kept}
use Rattle.page.specs.File.{file_refusal}
use Rattle.page.specs.Form.{decimal, quoted, datum_text, mark_line, form_of}
use Rattle.page.specs.Writing.{form_by, write_form, strip_form, fill_refusal, fill_form}
use Rattle.page.specs.Rules.{Every, none_left, one_more}
use Rattle.page.specs.declared.LineEnd.{LineEnd}
use Rattle.page.specs.declared.LineEnd.TheVariants as E
use Rattle.page.specs.declared.Owner.TheVariants as O
use Rattle.round.specs.Round.{PrintedIf, SoundHead, SoundRecord, SoundContent, SoundModel}
use Rattle.demands.specs.WrittenMarks.{rec_line, record_at, Directly, Suggests, MarkAndRecord, Behind}
use Rattle.round.proofs.WrittenNumbers.{decimal_all}
use Rattle.round.proofs.WrittenLines.{commands, Seen}
use Rattle.round.proofs.RoundRecords.{tame, Owned, no_owner, of_number, of_missing, of_words, width_back}
use Rattle.round.proofs.RoundSteps.{mark_lines, Marked, unmarked, marked, marks_back, end_seen, rec_seen}
use Rattle.round.proofs.RoundHeads.{heads, tbl_line, atr_line, frm_line}
use Rattle.round.proofs.RoundSections.{record_lines, body_lines, after_tbl, content_lines, some_columns}
use Rattle.round.proofs.RoundHeader.{text_line, lines_if, head_lines, mod_seen, src_seen, chs_seen, text_seen}
use Rattle.round.proofs.RoundCut.{tables_lines, eof_line, form_lines, eof_seen, lines_form}
use Rattle.round.proofs.Round.{accepted_model}
use Rattle.verdicts.proofs.Splits.{map_mem}
use Rattle.demands.proofs.Strip.{strip_none, strip_number}
use Rattle.demands.proofs.StripBack.{strip_sound}
use Rattle.demands.proofs.FillBack.{filled_sound, fill_field, fill_put}
use Rattle.page.proofs.TextLaws.{quoted_text}

-- whose a text is, by the mark that waits

owner_here : (m i : ℕ) → O.Suggestion ≡ owner_of m i → m ≡ i
unfolding owner_of
owner_here m i e = by (eqb m i) refl
  where
    by : (b : Bool) → eqb m i ≡ b → m ≡ i
    by true h = eqb-true m i h
    by false h = let z : O.Suggestion ≡ O.Operator = rw h at e in cc

-- a suggestion among values whose owner is told by a mark of field m: it is the field m
owned_suggests : {m i : ℕ} {vs : Record} → Owned m i vs → (j : ℕ) (u : Bytes) → get_or vs j (number 0) ≡ words O.Suggestion u → m ≡ i + j
owned_suggests no_owner j u e = absurd (false≢true (cc))
owned_suggests (of_number o) zero u e = absurd (false≢true (cc))
owned_suggests (of_missing o) zero u e = absurd (false≢true (cc))
owned_suggests {m} {i} (of_words {o = p} q o) zero u e =
    let s : p ≡ O.Suggestion = cc in
    let z : m ≡ i = owner_here m i (sym s ∙ q) in
    omega arith
owned_suggests {m} {i} (of_number o) (suc j) u e = let z : m ≡ suc i + j = owned_suggests o j u e in omega arith
owned_suggests {m} {i} (of_missing o) (suc j) u e = let z : m ≡ suc i + j = owned_suggests o j u e in omega arith
owned_suggests {m} {i} (of_words q o) (suc j) u e = let z : m ≡ suc i + j = owned_suggests o j u e in omega arith

quoted_no_number : (n : ℕ) (t : Bytes) → ¬ (decimal n ≡ quoted t)
unfolding quoted all digit
quoted_no_number n t e = false≢true (ap (all digit) (sym e) ∙ decimal_all n)

quoted_once : (t u : Bytes) → quoted t ≡ quoted u → t ≡ u
quoted_once t u e = let z : Some t ≡ Some u = sym (quoted_text t) ∙ (ap text_of e ∙ quoted_text u) in cc

-- the value that the mark speaks of
owned_at : {m i : ℕ} {vs : Record} → Owned m i vs → (j : ℕ) (t : Bytes) → get_or (map datum_text vs) j [] ≡ quoted t → m ≡ i + j → get_or vs j (number 0) ≡ words O.Suggestion t
unfolding datum_text quoted owner_of
owned_at no_owner j t e h = absurd (false≢true (cc))
owned_at (of_number {n} o) zero t e h = absurd (quoted_no_number n t e)
owned_at (of_missing o) zero t e h = absurd (false≢true (cc))
owned_at {m} {i} (of_words {o = p} {t = w} q o) zero t e h =
    let z : m ≡ i = omega arith in
    let s : owner_of m i ≡ O.Suggestion = rw (z, ne_self i) in
    let k : w ≡ t = quoted_once w t e in
    rw (q, s, k)
  where
    ne_self : (i : ℕ) → eqb i i ≡ true
    ne_self i = by (eqb i i) refl
      where
        by : (b : Bool) → eqb i i ≡ b → b ≡ true
        by true h = refl
        by false h = absurd (eqb-false i i h refl)
owned_at {m} {i} (of_number o) (suc j) t e h = owned_at o j t e (omega arith)
owned_at {m} {i} (of_missing o) (suc j) t e h = owned_at o j t e (omega arith)
owned_at {m} {i} (of_words q o) (suc j) t e h = owned_at o j t e (omega arith)

-- lines of which each `com` line has P with the line behind it

data Only (P : Bytes → Bytes → Type 0) : List Bytes → Type 0 where
  over : Only P []
  plain : {l : Bytes} {ls : List Bytes} → eqb (command (content l)) Com ≡ false → Only P ls → Only P (l ∷ ls)
  two : {x y : Bytes} {ls : List Bytes} → eqb (command (content y)) Com ≡ false → P x y → Only P ls → Only P (x ∷ y ∷ ls)

only_append : {P : Bytes → Bytes → Type 0} {xs ys : List Bytes} → Only P xs → Only P ys → Only P (xs ++ ys)
only_append over q = q
only_append (plain c p) q = plain c (only_append p q)
only_append (two c d p) q = two c d (only_append p q)

only_behind : {P : Bytes → Bytes → Type 0} {ls : List Bytes} → Only P ls → (before after : List Bytes) (x : Bytes) → ls ≡ before ++ (x ∷ after) → command (content x) ≡ Com → Behind P x after
only_behind over [] after x e k = absurd (false≢true (cc))
only_behind over (b ∷ bs) after x e k = absurd (false≢true (cc))
only_behind (plain {l} c p) [] after x e k =
    let z : l ≡ x = cc in
    absurd (false≢true (sym c ∙ rw (z, k)))
only_behind (plain {l} {ls} c p) (b ∷ bs) after x e k = only_behind p bs after x (let z : ls ≡ bs ++ (x ∷ after) = cc in z) k
only_behind {P} (two {x = l} {y} {ls} c d p) [] after x e k =
    let z : l ≡ x = cc in
    record { next = y; rest = ls; split = cc; holds = rw z at d }
only_behind (two {y} c d p) (b ∷ []) after x e k =
    let z : y ≡ x = cc in
    absurd (false≢true (sym c ∙ rw (z, k)))
only_behind (two {ls} c d p) (b ∷ q ∷ bs) after x e k = only_behind p bs after x (let z : ls ≡ bs ++ (x ∷ after) = cc in z) k

-- no `com` line at all

abbrev NoComment : Bytes → Type 0
NoComment l = eqb (command (content l)) Com ≡ false

no_comment : {latin : Bool} {l : Bytes} {k : ℕ} {f : Bytes} {fs : List Bytes} → Seen latin l k f fs → eqb k Com ≡ false → NoComment l
no_comment s e = rw s.named e

named_other : (l : Bytes) {k : ℕ} → command (content l) ≡ k → eqb k Com ≡ false → NoComment l
named_other l h e = rw h e

comment_if : (ends : LineEnd) {P : Bytes → Bytes → Type 0} (s : String) (d : Option Bytes) → ((t : Bytes) → PrintedIf (Some t) → NoComment (text_line ends s t)) → PrintedIf d → Only P (lines_if ends s d)
unfolding lines_if
comment_if ends s None f p = over
comment_if ends s (Some t) f p = plain (f t p) over

head_only : (ends : LineEnd) {P : Bytes → Bytes → Type 0} (h : Head) → SoundHead h → Only P (head_lines ends h)
unfolding head_lines
head_only ends h s =
    plain (no_comment (mod_seen ends) refl) (plain (no_comment (src_seen ends h s) refl) (plain (no_comment (chs_seen ends h) refl)
    (plain (no_comment (text_seen ends commands.3 h.ver s.ver) refl) (plain (no_comment (text_seen ends commands.4 h.ifv s.ifv) refl)
    (only_append (comment_if ends "dve" h.dve (λ t p. no_comment (text_seen ends commands.5 t p) refl) s.dve)
    (comment_if ends "fft" h.fft (λ t p. no_comment (text_seen ends commands.6 t p) refl) s.fft))))))

-- the lines of a record, of a section, of all of them

module _ (ends : LineEnd) (latin : Bool) (t : ℕ) (known : t < TABLES) where
  no_record : SoundRecord latin t [] → ⊥
  no_record r = omega (arith, width_back latin r.fit, some_columns ends latin t known)

  -- a record with a suggestion: its mark, and its line
  marked_lines : (vs : Record) → SoundRecord latin t vs → (f : ℕ) (u : Bytes) → 0 < f → get_or vs (f - 1) (number 0) ≡ words O.Suggestion u → record_lines ends vs ≡ mark_line ends f ∷ rec_line ends vs ∷ []
  unfolding record_lines
  marked_lines vs r f u p e = by (marks_back ends latin 1 (omega arith) r.fit (tame t).lone)
    where
      by : (m : ℕ) × Marked ends 1 (columns t) vs m → mark_lines ends 1 vs ++ (rec_line ends vs ∷ []) ≡ mark_line ends f ∷ rec_line ends vs ∷ []
      by (m, unmarked h o) = let z : 0 ≡ 1 + (f - 1) = owned_suggests o (f - 1) u e in absurd (let w : ⊥ = omega arith in w)
      by (m, marked j b w l y q d h o) =
          let z : 1 + j ≡ 1 + (f - 1) = owned_suggests o (f - 1) u e in
          let k : 1 + j ≡ f = omega arith in
          rw (h, k)

  module _ (m : Model) (c : Content) (here : Memᴰ c m.tables) where
    record_only : (vs : Record) → SoundRecord latin t vs → Memᴰ vs c.records → Only (MarkAndRecord ends m) (record_lines ends vs)
    unfolding record_lines
    record_only [] r there = absurd (no_record r)
    record_only (v ∷ vs) r there = by (marks_back ends latin 1 (omega arith) r.fit (tame t).lone)
      where
        by : (k : ℕ) × Marked ends 1 (columns t) (v ∷ vs) k → Only (MarkAndRecord ends m) (mark_lines ends 1 (v ∷ vs) ++ (rec_line ends (v ∷ vs) ∷ []))
        by (k, unmarked h o) = rw h (plain (no_comment (rec_seen ends latin t v vs r) refl) over)
        by (k, marked j b u l y q d h o) =
            let less : 1 + j - 1 ≡ j = omega arith in
            rw h
            (two (no_comment (rec_seen ends latin t v vs r) refl)
            (record {
              field = 1 + j;
              values = v ∷ vs;
              mark = refl;
              behind = refl;
              suggests = record { table = c; here = here; there = there; counted = omega arith; text = b ∷ u; suggested = rw less (owned_at o j (b ∷ u) q refl) };
            }) over)

    body_only : (n : ℕ) {rs : List Record} → Every (SoundRecord latin t) rs → ((vs : Record) → Memᴰ vs rs → Memᴰ vs c.records) → Only (MarkAndRecord ends m) (body_lines ends n rs)
    unfolding body_lines
    body_only n none_left f = plain (no_comment (end_seen ends latin t n) refl) over
    body_only n (one_more {x} r rs) f = only_append (record_only x r (f x (mathlib.Core.List.Memᴰ.head refl))) (body_only n rs (λ vs h. f vs (mathlib.Core.List.Memᴰ.tail h)))

  body_directly : (n : ℕ) {rs : List Record} → Every (SoundRecord latin t) rs → (k f : ℕ) (u : Bytes) → 0 < f → get_or (get_or rs k []) (f - 1) (number 0) ≡ words O.Suggestion u →
      Directly (body_lines ends n rs) (mark_line ends f) (rec_line ends (get_or rs k []))
  unfolding body_lines
  body_directly n none_left k f u p e = absurd (false≢true (cc))
  body_directly n (one_more {x} {xs} r rs) zero f u p e = record { before = []; after = body_lines ends n xs; split = rw (marked_lines x r f u p e) }
  body_directly n (one_more {x} {xs} r rs) (suc k) f u p e =
      let d = body_directly n rs k f u p e in
      record { before = record_lines ends x ++ d.before; after = d.after; split = rw d.split (sym (append_assoc (record_lines ends x) d.before _)) }

module _ (ends : LineEnd) (latin : Bool) where
  content_only : (m : Model) (c : Content) → Memᴰ c m.tables → SoundContent latin c → Only (MarkAndRecord ends m) (content_lines ends c)
  unfolding content_lines after_tbl
  content_only m c here s =
      let h = heads ends latin c.table s.known in
      plain (named_other (tbl_line ends (table_at c.table)) h.tbl_named refl) (plain (named_other (atr_line ends (table_at c.table)) h.atr_named refl) (plain (named_other (frm_line ends (table_at c.table)) h.frm_named refl)
      (body_only ends latin c.table s.known m c here (length c.records) s.records (λ vs x. x))))

  tables_only : (m : Model) {cs : List Content} → Every (SoundContent latin) cs → ((c : Content) → Memᴰ c cs → Memᴰ c m.tables) → Only (MarkAndRecord ends m) (tables_lines ends cs)
  unfolding tables_lines
  tables_only m none_left f = over
  tables_only m (one_more {x} s ss) f = only_append (content_only m x (f x (mathlib.Core.List.Memᴰ.head refl)) s) (tables_only m ss (λ c h. f c (mathlib.Core.List.Memᴰ.tail h)))

  content_directly : (c : Content) → SoundContent latin c → (k f : ℕ) (u : Bytes) → 0 < f → get_or (get_or c.records k []) (f - 1) (number 0) ≡ words O.Suggestion u →
      Directly (content_lines ends c) (mark_line ends f) (rec_line ends (get_or c.records k []))
  unfolding content_lines after_tbl
  content_directly c s k f u p e =
      let d = body_directly ends latin c.table s.known (length c.records) s.records k f u p e in
      record { before = tbl_line ends (table_at c.table) ∷ atr_line ends (table_at c.table) ∷ frm_line ends (table_at c.table) ∷ d.before; after = d.after; split = rw d.split }

  tables_directly : {cs : List Content} → Every (SoundContent latin) cs → (n k f : ℕ) (u : Bytes) → 0 < f →
      get_or (get_or (get_or cs n (record { table = 0; records = [] })).records k []) (f - 1) (number 0) ≡ words O.Suggestion u →
      Directly (tables_lines ends cs) (mark_line ends f) (rec_line ends (get_or (get_or cs n (record { table = 0; records = [] })).records k []))
  unfolding tables_lines
  tables_directly none_left n k f u p e = absurd (false≢true (cc))
  tables_directly (one_more {x} {xs} s ss) zero k f u p e =
      let d = content_directly x s k f u p e in
      record { before = d.before; after = d.after ++ tables_lines ends xs; split = rw d.split (append_assoc d.before _ (tables_lines ends xs)) }
  tables_directly (one_more {x} {xs} s ss) (suc n) k f u p e =
      let d = tables_directly ss n k f u p e in
      record { before = content_lines ends x ++ d.before; after = d.after; split = rw d.split (sym (append_assoc (content_lines ends x) d.before _)) }

module _ (ends : LineEnd) (m : Model) (s : SoundModel m) where
  form_only : Only (MarkAndRecord ends m) (lines (form_of ends m))
  unfolding form_lines
  form_only =
      rw (lines_form ends m s)
      (only_append (head_only ends m.head s.head)
      (only_append (tables_only ends m.head.latin m s.tables (λ c h. h)) (plain (no_comment (eof_seen ends (length m.tables)) refl) over)))

  -- field f of record r of table i is a suggestion: its mark stands directly before the record's line
  pub mark_stands : (i r f : ℕ) (u : Bytes) → 0 < f → datum_at i r f m ≡ words O.Suggestion u → Directly (lines (form_of ends m)) (mark_line ends f) (rec_line ends (record_at i r m))
  unfolding datum_at form_lines
  mark_stands i r f u p e =
      let d = tables_directly ends m.head.latin s.tables (i - 1) (r - 1) f u p e in
      record {
        before = head_lines ends m.head ++ d.before;
        after = d.after ++ (eof_line ends (length m.tables) ∷ []);
        split = rw (lines_form ends m s, d.split) (simp append_assoc);
      }

  -- every `com` line of the form is a mark of a suggestion, directly before its record's line
  pub only_marks : (before after : List Bytes) (x : Bytes) → lines (form_of ends m) ≡ before ++ (x ∷ after) → command (content x) ≡ Com → Behind (MarkAndRecord ends m) x after
  only_marks before after x e k = only_behind form_only before after x e k

-- the same of what is written for an accepted file

module _ (s : Bytes) (ok : (file_refusal s).number ≡ 0) where
  pub write_marks : (i r f : ℕ) (u : Bytes) → 0 < f → datum_at i r f (model_of s) ≡ words O.Suggestion u →
      Directly (lines (write_form s)) (mark_line E.Lf f) (rec_line E.Lf (record_at i r (model_of s)))
  unfolding write_form form_by changed kept
  write_marks i r f u p e = mark_stands E.Lf (model_of s) (accepted_model s ok) i r f u p e

  pub write_only_marks : (before after : List Bytes) (x : Bytes) → lines (write_form s) ≡ before ++ (x ∷ after) → command (content x) ≡ Com → Behind (MarkAndRecord E.Lf (model_of s)) x after
  unfolding write_form form_by changed kept
  write_only_marks before after x e k = only_marks E.Lf (model_of s) (accepted_model s ok) before after x e k

-- and of a fill that succeeded: the new mark, and all others

module _ (s : Bytes) (i r f : ℕ) (sent : Bytes) (ok : (fill_refusal s i r f (unpadded sent)).number ≡ 0) where
  abbrev t : Bytes
  t = unpadded sent

  pub fill_mark : Directly (lines (fill_form s i r f t)) (mark_line E.Lf f) (rec_line E.Lf (record_at i r (fill_model i r f t (model_of s))))
  unfolding fill_form form_by changed kept
  fill_mark = mark_stands E.Lf (fill_model i r f t (model_of s)) (filled_sound s i r f sent ok) i r f t (fill_field s i r f sent ok) (fill_put s i r f sent ok)

  pub fill_marks : (j q g : ℕ) (u : Bytes) → 0 < g → datum_at j q g (fill_model i r f t (model_of s)) ≡ words O.Suggestion u →
      Directly (lines (fill_form s i r f t)) (mark_line E.Lf g) (rec_line E.Lf (record_at j q (fill_model i r f t (model_of s))))
  unfolding fill_form form_by changed kept
  fill_marks j q g u p e = mark_stands E.Lf (fill_model i r f t (model_of s)) (filled_sound s i r f sent ok) j q g u p e

  pub fill_only_marks : (before after : List Bytes) (x : Bytes) → lines (fill_form s i r f t) ≡ before ++ (x ∷ after) → command (content x) ≡ Com →
      Behind (MarkAndRecord E.Lf (fill_model i r f t (model_of s))) x after
  unfolding fill_form form_by changed kept
  fill_only_marks before after x e k = only_marks E.Lf (fill_model i r f t (model_of s)) (filled_sound s i r f sent ok) before after x e k

-- a stripped file has no `com` line at all

get_d_map : (f : Datum → Datum) (vs : Record) (k : ℕ) → f (number 0) ≡ number 0 → get_or (map f vs) k (number 0) ≡ f (get_or vs k (number 0))
get_d_map f [] k e = sym e
get_d_map f (v ∷ vs) zero e = refl
get_d_map f (v ∷ vs) (suc k) e = get_d_map f vs k e

stripped_none : (m : Model) (f : ℕ) (vs : Record) → Suggests (strip_model m) f vs → ⊥
unfolding strip_model strip_content
stripped_none m f vs g =
    let c = map_mem strip_content m.tables g.here in
    let r : Memᴰ vs (map (map strip_datum) c.0.records) = rw (← c.2) at g.there in
    let v = map_mem (map strip_datum) c.0.records r in
    strip_none (get_or v.0 (f - 1) (number 0)) g.text (sym (get_d_map strip_datum v.0 (f - 1) (strip_number 0)) ∙ (ap (λ (w : Record). get_or w (f - 1) (number 0)) v.2 ∙ g.suggested))

pub strip_no_marks : (s : Bytes) → (file_refusal s).number ≡ 0 → (before after : List Bytes) (x : Bytes) → lines (strip_form s) ≡ before ++ (x ∷ after) → ¬ (command (content x) ≡ Com)
unfolding strip_form form_by changed kept
strip_no_marks s ok before after x e k =
    let b = only_marks E.Lf (strip_model (model_of s)) (strip_sound (model_of s) (accepted_model s ok)) before after x e k in
    stripped_none (model_of s) b.holds.field b.holds.values b.holds.suggests
