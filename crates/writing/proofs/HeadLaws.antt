-- A sound header's texts stand in the file as they are written. Assumes nothing.
use Rattle.std.specs.Prelude.{None, Some, Option}
use mathlib.Core.Path.{◌≡◌, refl, ap, sym, ◌∙◌}
use mathlib.Core.Bool.{Bool, true, false, false≢true}
use mathlib.Core.List.{List, []}
use Prim.Native.Nat.{ℕ, zero, suc, ◌+◌, ◌-◌, ◌<◌, ◌≤◌}
use native.Mathlib.Omega.{arith}
use borrow.Author.Tests.{eqb-true, eqb-false, ne_eqb, ltb-true, ltb-false}
use lib.Dec.{eqb, ltb}
use lib.ListN.{length, get_or, take, drop, length-take}
use Rattle.page.specs.Bytes.{Bytes, pick, until, part, moved}
use Rattle.page.specs.Lines.{lines, joined, content_size, content, command, semicolon, Src, Ver, Ifv, Dve, Fft}
use Rattle.page.specs.Fields.{fields, text_of}
use Rattle.page.specs.Cut.{header_lines}
use Rattle.page.specs.Header.{is_text}
use Rattle.page.specs.Places.{line_of, field_span, unquoted}
use Rattle.page.specs.Head.{field_in, text_in, text_if, stands_in, text_span, span_if, head_values, header_values}
use Rattle.page.specs.Records.{own_bytes}
use Rattle.page.specs.Form.{doubled}
use Rattle.page.specs.declared.Span.{Span}
use Rattle.page.proofs.ScanLaws.{part_length, part_moved}
use Rattle.page.proofs.LineLaws.{line_size, line_in, cut_at, lines_end}
use Rattle.page.proofs.CutLaws.{header_run}
use Rattle.page.proofs.FieldLaws.{field_span_in, field_span_part}
use Rattle.page.proofs.TextLaws.{text_long, text_between}
use Rattle.headers.specs.Found.{Found}
use Rattle.headers.proofs.FoundLaws.{content_here, line_more, found_here}
use Rattle.clauses.proofs.TextLaws.{fields_some}
use Rattle.frames.proofs.LineLaws.{Same_stated, absent, at as stated, Same_head}

-- a line that stands in the header's bytes is found there

module _ (k : ℕ) (b : k < 16) (h : Bytes) where
  data Finds : Type 0 where
    finds : (r : Span) → Found k h r → Finds

  stands_on : (at : ℕ) → at < length h → (command (content (take (at + line_size (drop at h) - at) (drop at h))) ≡ k → ⊥)
      → stands_in k (lines (drop at h)) ≡ true → stands_in k (lines (drop (at + line_size (drop at h)) h)) ≡ true
  unfolding stands_in
  stands_on at l n st =
      let e = at + line_size (drop at h) in
      rw (cut_at h at e l refl, ne_eqb (command (content (take (e - at) (drop at h)))) k n) at st

  nowhere : (at : ℕ) → length h ≤ at → stands_in k (lines (drop at h)) ≡ true → Finds
  unfolding stands_in
  nowhere at l st = absurd (false≢true (rw (lines_end h at l) at st))

  found_from : (n at : ℕ) → length h - at < n → line_of k at (lines (drop at h)) ≡ line_of k 0 (lines h) → stands_in k (lines (drop at h)) ≡ true → Finds
  found_from zero at f v st = absurd (omega arith)
  found_from (suc n) at f v st = by (ltb at (length h)) refl (found_from n)
    where
      here : at < length h → ((j : ℕ) → length h - j < n → line_of k j (lines (drop j h)) ≡ line_of k 0 (lines h) → stands_in k (lines (drop j h)) ≡ true → Finds)
          → (x : Bool) → eqb (command (take (at + content_size (take (at + line_size (drop at h) - at) (drop at h)) - at) (drop at h))) k ≡ x → Finds
      here l ih true x =
          let e = at + line_size (drop at h) in
          let to = at + content_size (take (e - at) (drop at h)) in
          let i = until semicolon (take (to - at) (drop at h)) in
          finds (record { from = at + i + 1; to = to })
          (found_here h at e to l refl refl k i b (eqb-true (command (take (to - at) (drop at h))) k x) refl v)
      here l ih false x =
          let e = at + line_size (drop at h) in
          let to = at + content_size (take (e - at) (drop at h)) in
          let ne = eqb-false (command (take (to - at) (drop at h))) k x in
          let w = line_in h at e l refl in
          ih e (omega arith) (sym (line_more h at e to l refl refl k ne) ∙ v)
          (stands_on at l (λ z. ne (ap command (content_here h at e to l refl refl) ∙ z)) st)

      by : (x : Bool) → ltb at (length h) ≡ x
          → ((j : ℕ) → length h - j < n → line_of k j (lines (drop j h)) ≡ line_of k 0 (lines h) → stands_in k (lines (drop j h)) ≡ true → Finds) → Finds
      by true x ih =
          here (ltb-true at (length h) x) ih (eqb (command (take (at + content_size (take (at + line_size (drop at h) - at) (drop at h)) - at) (drop at h))) k) refl
      by false x ih = nowhere at (ltb-false at (length h) x) st

within_front : (r : Span) (n : ℕ) (s : Bytes) → r.from ≤ r.to → r.to ≤ length (take n s) → part r (take n s) ≡ take (r.to - r.from) (drop r.from s)
within_front r n s o i =
    let z : 0 + r.to - (0 + r.from) ≡ r.to - r.from = omega arith in
    let y : 0 + r.from ≡ r.from = omega arith in
    let x = part_moved r 0 n s o (let k : length (take n s) ≤ n = simp length-take (omega arith) in omega arith) in
    x ∙ rw (z, y)

-- what stands between a text's quotes, by its place in the whole

between : (w s : Bytes) (a n : ℕ) (sp : Span) (f u : Bytes) → sp.from ≤ sp.to → sp.to ≤ length w → part sp w ≡ f → text_of f ≡ Some u
    → w ≡ take n (drop a s) → length w ≤ n → part (moved a (unquoted sp)) s ≡ doubled u
between w s a n sp f u o i e t q l =
    let m = sp.to - sp.from in
    let lf : length f ≡ m = ap length (sym e) ∙ part_length sp.from sp.to w i in
    let two : 2 ≤ m = omega (arith, text_long f u t) in
    let x : doubled u ≡ take (m - 1 - 1) (drop 1 f) =
    sym (text_between f u t) ∙ ap (λ (j : ℕ). take j (drop 1 f)) (let z : length f - 2 ≡ m - 1 - 1 = omega arith in z) in
    let y : part (record { from = 1; to = m - 1 }) (take m (drop sp.from w)) ≡ part (moved sp.from (record { from = 1; to = m - 1 })) w =
    part_moved (record { from = 1; to = m - 1 }) sp.from m w (omega arith) (omega arith) in
    let g : sp.from + (m - 1) ≡ sp.to - 1 = omega arith in
    let z : part (unquoted sp) (take n (drop a s)) ≡ part (moved a (unquoted sp)) s = part_moved (unquoted sp) a n s (omega arith) (omega arith) in
    sym (x ∙ ap (λ (v : Bytes). take (m - 1 - 1) (drop 1 v)) (sym e) ∙ y ∙ rw g (ap (λ (v : Bytes). part (unquoted sp) v) q) ∙ z)

-- the lines that hold texts stand, and hold them
pub record Texts (ls : List Bytes) : Type 0 where
  pub source : (stands_in Src ls ≡ true) × (is_text (text_of (get_or (fields (line_of Src 0 ls).rest) 0 [])) ≡ true)
  pub ver : (stands_in Ver ls ≡ true) × (is_text (text_of (get_or (fields (line_of Ver 0 ls).rest) 0 [])) ≡ true)
  pub ifv : (stands_in Ifv ls ≡ true) × (is_text (text_of (get_or (fields (line_of Ifv 0 ls).rest) 0 [])) ≡ true)
  pub dve : stands_in Dve ls ≡ true → is_text (text_of (get_or (fields (line_of Dve 0 ls).rest) 0 [])) ≡ true
  pub fft : stands_in Fft ls ≡ true → is_text (text_of (get_or (fields (line_of Fft 0 ls).rest) 0 [])) ≡ true

-- a text of the header: its bytes in the file are the text with its quotes doubled

some_of : (o : Option Bytes) → is_text o ≡ true → o ≡ Some (own_bytes o)
some_of None e = absurd (false≢true e)
some_of (Some u) e = refl

module _ (s : Bytes) where
  abbrev ls : List Bytes
  ls = header_lines s

  abbrev bound : ℕ
  bound = length (joined (header_lines s))

  text_placed : (k : ℕ) → k < 16 → stands_in k ls ≡ true → is_text (text_of (get_or (fields (line_of k 0 ls).rest) 0 [])) ≡ true
      → part (text_span k ls) s ≡ doubled (text_in k ls)
  unfolding text_span text_in field_in
  text_placed k b st t = by (found_from k b (take bound s) (suc (length (take bound s))) 0 (omega arith) refl (rw (header_run s) st))
    where
      w : Bytes
      w = (line_of k 0 ls).rest

      f : Bytes
      f = get_or (fields w) 0 []

      by : Finds k b (take bound s) → part (moved (line_of k 0 ls).at (unquoted (field_span w 0))) s ≡ doubled (own_bytes (text_of f))
      by (finds r x) =
          let i = field_span_in w 0 (fields_some w) in
          let n = r.to - r.from in
          let p : part r (take bound s) ≡ w = x.rest ∙ ap (λ (l : List Bytes). (line_of k 0 l).rest) (header_run s) in
          let a : r.from ≡ (line_of k 0 ls).at = x.at ∙ ap (λ (l : List Bytes). (line_of k 0 l).at) (header_run s) in
          let long : length (part r (take bound s)) ≡ n = part_length r.from r.to (take bound s) x.within in
          let q : w ≡ take n (drop (line_of k 0 ls).at s) = sym p ∙ within_front r bound s x.order x.within ∙ ap (λ (j : ℕ). take n (drop j s)) a in
          let l : length w ≤ n = omega (arith, ap length p) in
          between w s (line_of k 0 ls).at n (field_span w 0) f (own_bytes (text_of f)) i.0 i.1 (field_span_part w 0 (fields_some w)) (some_of (text_of f) t) q l

  stated_placed : (k : ℕ) → k < 16 → (stands_in k ls ≡ true → is_text (text_of (get_or (fields (line_of k 0 ls).rest) 0 [])) ≡ true)
      → Same_stated s (span_if k ls) (text_if k ls)
  unfolding span_if text_if
  stated_placed k b t = by (stands_in k ls) refl
    where
      by : (x : Bool) → stands_in k ls ≡ x → Same_stated s (pick x (Some (text_span k ls)) None) (pick x (Some (text_in k ls)) None)
      by true e = stated (text_span k ls) (text_in k ls) (text_placed k b e (t e))
      by false e = absent

  pub head_placed : Texts ls → Same_head s (header_values ls) (head_values ls)
  unfolding header_values head_values
  head_placed x =
      record {
        source = text_placed Src (omega arith) x.source.0 x.source.1;
        date = refl;
        time = refl;
        latin = refl;
        ver = text_placed Ver (omega arith) x.ver.0 x.ver.1;
        ifv = text_placed Ifv (omega arith) x.ifv.0 x.ifv.1;
        dve = stated_placed Dve (omega arith) x.dve;
        fft = stated_placed Fft (omega arith) x.fft;
      }
