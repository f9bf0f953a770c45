-- The file: accepted exactly if it keeps the rules, with the tables that are handed out; and else refused exactly by the first number whose
-- condition holds, at its place.
use Rattle.std.specs.Prelude.{Err, Ok}
use mathlib.Core.Path.{◌≡◌, refl, ap, sym, ◌∙◌}
use mathlib.Core.Bool.{Bool, true, false, false≢true}
use mathlib.Core.List.Memᴰ
use mathlib.Core.List.{List, []}
use mathlib.Core.Logic.{◌⊎◌, inl, inr, ◌↔◌}
use Prim.Native.Nat.{ℕ, suc, ◌+◌, ◌≤◌, ◌<◌}
use native.Mathlib.Omega.{arith}
use lib.Dec.{eqb, leb}
use lib.ListN.{length}
use borrow.Author.Tests.{ne_eqb}
use Rattle.page.specs.Bytes.{Bytes, pick}
use Rattle.page.specs.Tables.{TABLES}
use Rattle.page.specs.Cut.{Section, sections, header_lines, trailer_lines}
use Rattle.page.specs.Header.{head_of}
use Rattle.page.specs.Head.{latin_of}
use Rattle.page.specs.Section.{refused}
use Rattle.page.specs.Trailer.{trailer_finding, trailer_of}
use Rattle.page.specs.Answers.{refusal, sound, answered, paper_of}
use Rattle.page.specs.File.{limit, rows_of, first_unsound, first_again, any, by_primary, by_second, Filed, repeats, lost, first_record, filed_of, file_refusal, check_of}
use Rattle.page.specs.Model.{Content, model_of}
use Rattle.page.specs.Refusals.{Refused}
use Rattle.page.specs.Rules.{Every, Tables, SoundHeader, SoundTrailer, SoundFile}
use Rattle.page.specs.declared.Column.{Column}
use Rattle.page.specs.declared.Outcome.{Outcome}
use Rattle.page.specs.declared.Refusal.{Refusal}
use Rattle.verdicts.specs.First.{First, NoneOf}
use Rattle.verdicts.specs.Trailers.{TrailerFault}
use Rattle.verdicts.specs.Files.{Unsound, TableAgain, KeyAgain, Lost, FileRefused, too_long, header, trailer, section, table_again, primary_again, second_again, reference_lost}
use Rattle.laws.proofs.Decides.{Decides, holds, fails, at_most, equal}
use Rattle.grammar.proofs.Refuses.{refuses_exactly}
use Rattle.verdicts.proofs.Headers.{header_exactly, header_refused_exactly, header_settled}
use Rattle.verdicts.proofs.Trailers.{trailer_exactly, trailer_refused_exactly, trailer_settled}
use Rattle.verdicts.proofs.Firsts.{none_first, first_once}
use Rattle.laws.proofs.Sections.{sections_begin}
use Rattle.verdicts.proofs.Contents.{unsound_settled, tables_pass, tables_are, tables_known, tables_denoted, again_settled}
use Rattle.verdicts.proofs.Offenders.{KeyTold, keys_settled, lost_settled}
use Rattle.verdicts.proofs.Splits.{split_mem, apart_none}
use Rattle.verdicts.proofs.Keys.{FiledAs, filed_tables, filed_known, keys_exactly, references_exactly}
use Rattle.laws.proofs.Stages

-- the tables that a file hands out
abbrev tables_of : Bytes → List Content
tables_of s = (model_of s).tables

abbrev no_content : Content
no_content = record { table = 0; records = [] }

module _ (s : Bytes) where
  -- what is known where the stages before are clear
  trailer_clear : SoundTrailer (length (sections s)) (trailer_lines s) → trailer_of s ≡ Stages.finding 0 0
  unfolding trailer_of
  trailer_clear t = (trailer_exactly (length (sections s)) (trailer_lines s)).1 t

  sections_clear : {cs : List Content} → Tables (latin_of s) (sections s) cs → first_unsound 1 (rows_of s) ≡ sound
  unfolding rows_of
  sections_clear t = tables_pass (latin_of s) 1 t

  tables_told : {cs : List Content} → Tables (latin_of s) (sections s) cs →
      (NoneOf TableAgain [] cs × (first_again [] 1 (rows_of s) ≡ sound)) ⊎ ((c : Content) × (f : First TableAgain [] cs c) × (first_again [] 1 (rows_of s) ≡ refusal 17 (1 + length f.before) 1))
  unfolding rows_of any
  tables_told t = again_settled (latin_of s) [] 1 [] t (λ c h. fails (λ x. Memᴰ.not-nil x.1))

  as_filed : {cs : List Content} → Tables (latin_of s) (sections s) cs → FiledAs cs (filed_of s)
  unfolding filed_of
  as_filed t = filed_tables (latin_of s) 1 (sections_begin s) t

  tables_clear : {cs : List Content} → Tables (latin_of s) (sections s) cs → NoneOf TableAgain [] cs → first_again [] 1 (rows_of s) ≡ sound
  tables_clear {cs} t n = by (tables_told t)
    where
      by : (NoneOf TableAgain [] cs × (first_again [] 1 (rows_of s) ≡ sound)) ⊎ ((c : Content) × (f : First TableAgain [] cs c) × (first_again [] 1 (rows_of s) ≡ refusal 17 (1 + length f.before) 1)) →
          first_again [] 1 (rows_of s) ≡ sound
      by (inl x) = x.1
      by (inr x) = absurd (none_first TableAgain [] cs x.0 n x.1)

  keys_clear : (v : ℕ) (p : Column → Bool) → NoneOf (KeyAgain p) [] (filed_of s) → first_record v (repeats p) [] (filed_of s) ≡ sound
  keys_clear v p n = by (keys_settled v p (filed_of s))
    where
      by : (NoneOf (KeyAgain p) [] (filed_of s) × (first_record v (repeats p) [] (filed_of s) ≡ sound)) ⊎
          ((e : Filed) × First (KeyAgain p) [] (filed_of s) e × (first_record v (repeats p) [] (filed_of s) ≡ refusal v e.section e.line)) →
          first_record v (repeats p) [] (filed_of s) ≡ sound
      by (inl x) = x.1
      by (inr x) = absurd (none_first (KeyAgain p) [] (filed_of s) x.0 n x.1)

  keys_found : (v : ℕ) (p : Column → Bool) (e : Filed) → First (KeyAgain p) [] (filed_of s) e → first_record v (repeats p) [] (filed_of s) ≡ refusal v e.section e.line
  keys_found v p e f = by (keys_settled v p (filed_of s))
    where
      by : (NoneOf (KeyAgain p) [] (filed_of s) × (first_record v (repeats p) [] (filed_of s) ≡ sound)) ⊎
          ((d : Filed) × First (KeyAgain p) [] (filed_of s) d × (first_record v (repeats p) [] (filed_of s) ≡ refusal v d.section d.line)) →
          first_record v (repeats p) [] (filed_of s) ≡ refusal v e.section e.line
      by (inl x) = absurd (none_first (KeyAgain p) [] (filed_of s) e x.0 f)
      by (inr x) = x.2 ∙ ap (λ (d : Filed). refusal v d.section d.line) (first_once (KeyAgain p) [] (filed_of s) x.0 e x.1 f).1

  known_filed : {cs : List Content} → Tables (latin_of s) (sections s) cs → Every (λ d. d.table < TABLES) (filed_of s)
  known_filed {cs} t = filed_known cs (filed_of s) (as_filed t) (tables_known (latin_of s) t)

  trailer_found : (n : ℕ) → TrailerFault (length (sections s)) (trailer_lines s) n → trailer_of s ≡ Stages.finding 3 n
  unfolding trailer_of
  trailer_found n t = (trailer_refused_exactly (length (sections s)) (trailer_lines s) n).1 t

  abbrev SectionsTold : Type 0
  SectionsTold =
      (Tables (latin_of s) (sections s) (tables_of s) × (first_unsound 1 (rows_of s) ≡ sound)) ⊎
      ((x : Section) × (k : ℕ) × (v : ℕ) × (n : ℕ) × (f : First (Unsound (latin_of s)) [] (sections s) x) × Refused (latin_of s) x.lines k v n ×
      (first_unsound 1 (rows_of s) ≡ refusal v (1 + length f.before) n))

  sections_told : SectionsTold
  unfolding rows_of model_of
  sections_told = unsound_settled (latin_of s) 1 [] (sections s) (sections_begin s)

  section_found : (x : Section) (k v n : ℕ) (f : First (Unsound (latin_of s)) [] (sections s) x) → Refused (latin_of s) x.lines k v n →
      first_unsound 1 (rows_of s) ≡ refusal v (suc (length f.before)) n
  section_found x k v n f r = by sections_told
    where
      both_refused : (k j v w n m : ℕ) → Refused (latin_of s) x.lines k v n → Refused (latin_of s) x.lines j w m → (v ≡ w) × (n ≡ m)
      both_refused k j v w n m a b =
          let p = ((refuses_exactly (latin_of s) x.lines k v n).1 a).0 in
          let q = ((refuses_exactly (latin_of s) x.lines j w m).1 b).0 in
          let e : refused k v n ≡ refused j w m = sym p ∙ q in
          (ap (λ (o : Outcome). o.verdict) e, ap (λ (o : Outcome). o.line) e)

      by : SectionsTold → first_unsound 1 (rows_of s) ≡ refusal v (suc (length f.before)) n
      by (inl y) = absurd (f.breaks (tables_denoted (latin_of s) y.0 (split_mem f.before f.after x f.split)))
      by (inr y) =
          let o = first_once (Unsound (latin_of s)) [] (sections s) y.0 x y.4 f in
          let w = both_refused y.1 k y.2 v y.3 n (rw o.1 at y.5) r in
          y.6 ∙ rw (o.0, w.0, w.1) (ap (λ (z : ℕ). refusal v z n) (omega arith))

  table_found : {cs : List Content} (c : Content) → Tables (latin_of s) (sections s) cs → (f : First TableAgain [] cs c) → first_again [] 1 (rows_of s) ≡ refusal 17 (suc (length f.before)) 1
  table_found {cs} c t f = by (tables_told t)
    where
      by : (NoneOf TableAgain [] cs × (first_again [] 1 (rows_of s) ≡ sound)) ⊎ ((b : Content) × (g : First TableAgain [] cs b) × (first_again [] 1 (rows_of s) ≡ refusal 17 (1 + length g.before) 1)) →
          first_again [] 1 (rows_of s) ≡ refusal 17 (suc (length f.before)) 1
      by (inl x) = absurd (none_first TableAgain [] cs c x.0 f)
      by (inr x) = x.2 ∙ rw (first_once TableAgain [] cs x.0 c x.1 f).0 (ap (λ (z : ℕ). refusal 17 z 1) (omega arith))

  lost_found : {cs : List Content} (e : Filed) → Tables (latin_of s) (sections s) cs → First (Lost (filed_of s)) [] (filed_of s) e →
      first_record 20 (λ before. lost (filed_of s)) [] (filed_of s) ≡ refusal 20 e.section e.line
  lost_found e t f = by (lost_settled (filed_of s) (known_filed t))
    where
      by : (NoneOf (Lost (filed_of s)) [] (filed_of s) × (first_record 20 (λ before. lost (filed_of s)) [] (filed_of s) ≡ sound)) ⊎
          ((d : Filed) × First (Lost (filed_of s)) [] (filed_of s) d × (first_record 20 (λ before. lost (filed_of s)) [] (filed_of s) ≡ refusal 20 d.section d.line)) →
          first_record 20 (λ before. lost (filed_of s)) [] (filed_of s) ≡ refusal 20 e.section e.line
      by (inl x) = absurd (none_first (Lost (filed_of s)) [] (filed_of s) e x.0 f)
      by (inr x) = x.2 ∙ ap (λ (d : Filed). refusal 20 d.section d.line) (first_once (Lost (filed_of s)) [] (filed_of s) x.0 e x.1 f).1

  lost_clear : {cs : List Content} → Tables (latin_of s) (sections s) cs → NoneOf (Lost (filed_of s)) [] (filed_of s) → first_record 20 (λ before. lost (filed_of s)) [] (filed_of s) ≡ sound
  lost_clear t n = by (lost_settled (filed_of s) (known_filed t))
    where
      by : (NoneOf (Lost (filed_of s)) [] (filed_of s) × (first_record 20 (λ before. lost (filed_of s)) [] (filed_of s) ≡ sound)) ⊎
          ((d : Filed) × First (Lost (filed_of s)) [] (filed_of s) d × (first_record 20 (λ before. lost (filed_of s)) [] (filed_of s) ≡ refusal 20 d.section d.line)) →
          first_record 20 (λ before. lost (filed_of s)) [] (filed_of s) ≡ sound
      by (inl x) = x.1
      by (inr x) = absurd (none_first (Lost (filed_of s)) [] (filed_of s) x.0 n x.1)

  -- a refused file's answer is as the refusal says
  refused_gives : (v i n : ℕ) → FileRefused s v i n → (file_refusal s ≡ refusal v i n) × ¬ (v ≡ 0)
  refused_gives v i n (too_long l a b c) = (rw (a, b, c) (Stages.long_gives s l), λ z. omega arith)
  refused_gives v i n (header l h a b) = (rw (a, b) (Stages.header_gives s l n ((header_refused_exactly (header_lines s) n).1 h)), λ z. omega arith)
  refused_gives v i n (trailer l h t a b) = (rw (a, b) (Stages.trailer_gives s l ((header_exactly (header_lines s)).1 h) n (trailer_found n t)), λ z. omega arith)
  refused_gives v i n (section l h t x k f r a) =
      let z = ((refuses_exactly (latin_of s) x.lines k v n).1 r).1 in
      (rw a (Stages.unsound_gives s l ((header_exactly (header_lines s)).1 h) (trailer_clear t) v (suc (length f.before)) n z (section_found x k v n f r)), z)
  refused_gives v i n (table_again cs l h t d c f a b e) =
      (rw (a, b, e) (Stages.again_gives s l ((header_exactly (header_lines s)).1 h) (trailer_clear t) (sections_clear d) (suc (length f.before)) 1 (table_found c d f)), λ z. omega arith)
  refused_gives v i n (primary_again cs l h t d m e f a b w) = (
    rw (a, b, w) (Stages.primary_gives s l ((header_exactly (header_lines s)).1 h) (trailer_clear t) (sections_clear d) (tables_clear d m) e.section e.line (keys_found 18 by_primary e f)),
    λ z. omega arith,
  )
  refused_gives v i n (second_again cs l h t d m p e f a b w) = (
    rw (a, b, w) (Stages.second_gives s l ((header_exactly (header_lines s)).1 h) (trailer_clear t) (sections_clear d) (tables_clear d m) (keys_clear 18 by_primary p) e.section e.line
        (keys_found 19 by_second e f)),
    λ z. omega arith,
  )
  refused_gives v i n (reference_lost cs l h t d m p q e f a b w) = (
    rw (a, b, w) (Stages.last_gives s l ((header_exactly (header_lines s)).1 h) (trailer_clear t) (sections_clear d) (tables_clear d m) (keys_clear 18 by_primary p) (keys_clear 19 by_second q)
        (refusal 20 e.section e.line) (lost_found e d f)),
    λ z. omega arith,
  )

  -- an accepted file's answer is 0
  sound_gives : (cs : List Content) → SoundFile s cs → file_refusal s ≡ sound
  sound_gives cs f =
      let n = (apart_none no_content (λ (c : Content). c.table) cs).0 f.once in
      let k = as_filed f.tables in
      Stages.last_gives s f.size ((header_exactly (header_lines s)).1 f.header) (trailer_clear f.trailer) (sections_clear f.tables) (tables_clear f.tables n)
      (keys_clear 18 by_primary ((keys_exactly by_primary cs (filed_of s) k n).1 f.primary)) (keys_clear 19 by_second ((keys_exactly by_second cs (filed_of s) k n).1 f.second)) sound
      (lost_clear f.tables ((references_exactly cs (filed_of s) k (known_filed f.tables)).1 f.references))

  -- a file is accepted, or refused in one of the ways
  abbrev Settled : Type 0
  Settled = ((cs : List Content) × SoundFile s cs) ⊎ ((v : ℕ) × (i : ℕ) × (n : ℕ) × FileRefused s v i n)

  module _ (l : length s ≤ limit) (h : SoundHeader (header_lines s)) (t : SoundTrailer (length (sections s)) (trailer_lines s)) (cs : List Content) (d : Tables (latin_of s) (sections s) cs) where
    abbrev LostTold : Type 0
    LostTold =
        (NoneOf (Lost (filed_of s)) [] (filed_of s) × (first_record 20 (λ before. lost (filed_of s)) [] (filed_of s) ≡ sound)) ⊎
        ((e : Filed) × First (Lost (filed_of s)) [] (filed_of s) e × (first_record 20 (λ before. lost (filed_of s)) [] (filed_of s) ≡ refusal 20 e.section e.line))

    last_settled : NoneOf TableAgain [] cs → NoneOf (KeyAgain by_primary) [] (filed_of s) → NoneOf (KeyAgain by_second) [] (filed_of s) → LostTold → Settled
    last_settled m p q (inr x) = inr (20, x.0.section, x.0.line, reference_lost cs l h t d m p q x.0 x.1 refl refl refl)
    last_settled m p q (inl x) =
        let k = as_filed d in
        inl (
          cs,
          record {
            size = l;
            header = h;
            trailer = t;
            tables = d;
            once = (apart_none no_content (λ (c : Content). c.table) cs).1 m;
            primary = (keys_exactly by_primary cs (filed_of s) k m).0 p;
            second = (keys_exactly by_second cs (filed_of s) k m).0 q;
            references = (references_exactly cs (filed_of s) k (known_filed d)).0 x.0;
          },
        )

    second_settled : NoneOf TableAgain [] cs → NoneOf (KeyAgain by_primary) [] (filed_of s) → KeyTold 19 by_second (filed_of s) → Settled
    second_settled m p (inr x) = inr (19, x.0.section, x.0.line, second_again cs l h t d m p x.0 x.1 refl refl refl)
    second_settled m p (inl x) = last_settled m p x.0 (lost_settled (filed_of s) (known_filed d))

    primary_settled : NoneOf TableAgain [] cs → KeyTold 18 by_primary (filed_of s) → Settled
    primary_settled m (inr x) = inr (18, x.0.section, x.0.line, primary_again cs l h t d m x.0 x.1 refl refl refl)
    primary_settled m (inl x) = second_settled m x.0 (keys_settled 19 by_second (filed_of s))

    tables_settled : (NoneOf TableAgain [] cs × (first_again [] 1 (rows_of s) ≡ sound)) ⊎ ((c : Content) × (f : First TableAgain [] cs c) × (first_again [] 1 (rows_of s) ≡ refusal 17 (1 + length f.before) 1)) → Settled
    tables_settled (inr x) = inr (17, suc (length x.1.before), 1, table_again cs l h t d x.0 x.1 refl refl refl)
    tables_settled (inl x) = primary_settled x.0 (keys_settled 18 by_primary (filed_of s))

  sections_settled : length s ≤ limit → SoundHeader (header_lines s) → SoundTrailer (length (sections s)) (trailer_lines s) → SectionsTold → Settled
  sections_settled l h t (inl x) = tables_settled l h t (tables_of s) x.0 (tables_told x.0)
  sections_settled l h t (inr x) = inr (x.2, suc (length x.4.before), x.3, section l h t x.0 x.1 x.4 x.5 refl)

  file_settled : Settled
  file_settled = by_size (leb (length s) limit) (at_most (length s) limit)
    where
      by_trailer : length s ≤ limit → SoundHeader (header_lines s) →
          (SoundTrailer (length (sections s)) (trailer_lines s) × (trailer_finding (length (sections s)) (trailer_lines s) ≡ Stages.finding 0 0)) ⊎
          ((j : ℕ) × TrailerFault (length (sections s)) (trailer_lines s) j × (trailer_finding (length (sections s)) (trailer_lines s) ≡ Stages.finding 3 j)) → Settled
      by_trailer l h (inl x) = sections_settled l h x.0 sections_told
      by_trailer l h (inr x) = inr (3, 0, x.0, trailer l h x.1 refl refl)

      by_header : length s ≤ limit → (head_of (header_lines s) ≡ Stages.finding 0 0) ⊎ ((n : ℕ) × (head_of (header_lines s) ≡ Stages.finding 2 n)) → Settled
      by_header l (inl e) = by_trailer l ((header_exactly (header_lines s)).0 e) (trailer_settled (length (sections s)) (trailer_lines s))
      by_header l (inr x) = inr (2, 0, x.0, header l ((header_refused_exactly (header_lines s) x.0).0 x.1) refl refl)

      by_size : (b : Bool) → Decides (length s ≤ limit) b → Settled
      by_size true (holds l) = by_header l (header_settled (header_lines s))
      by_size false (fails n) = inr (1, 0, 0, too_long (omega arith) refl refl refl)

-- a file's answer is 0 exactly if it keeps every rule, with some tables
pub accepts_exactly : (s : Bytes) → (file_refusal s).number ≡ 0 ↔ ((cs : List Content) × SoundFile s cs)
accepts_exactly s = (λ e. into e (file_settled s), λ x. ap (λ (r : Refusal). r.number) (sound_gives s x.0 x.1))
  where
    into : (file_refusal s).number ≡ 0 → Settled s → (cs : List Content) × SoundFile s cs
    into e (inl x) = x
    into e (inr x) =
        let z = refused_gives s x.0 x.1 x.2 x.3 in
        absurd (z.1 (sym (ap (λ (r : Refusal). r.number) z.0) ∙ e))

-- the tables that an accepted file says are those handed out, and no others
pub accepted_tables : (s : Bytes) (cs : List Content) → SoundFile s cs → cs ≡ (model_of s).tables
unfolding model_of
accepted_tables s cs f = tables_are (latin_of s) (sections_begin s) f.tables

-- a file whose answer is 0 keeps every rule with the tables handed out
pub accepted_says : (s : Bytes) → (file_refusal s).number ≡ 0 → SoundFile s (model_of s).tables
accepted_says s e = let x = (accepts_exactly s).0 e in rw (accepted_tables s x.0 x.1) at x.1

-- a file's answer is number v (not 0) at section i and line n exactly if it is refused so: the condition of v holds there, and that of no number before it
pub refuses_file_exactly : (s : Bytes) (v i n : ℕ) → ((file_refusal s ≡ refusal v i n) × ¬ (v ≡ 0)) ↔ FileRefused s v i n
refuses_file_exactly s v i n = (λ e. into e.0 e.1 (file_settled s), refused_gives s v i n)
  where
    into : file_refusal s ≡ refusal v i n → ¬ (v ≡ 0) → Settled s → FileRefused s v i n
    into e z (inl x) = absurd (z (ap (λ (r : Refusal). r.number) (sym e ∙ sound_gives s x.0 x.1)))
    into e z (inr x) =
        let y = sym e ∙ (refused_gives s x.0 x.1 x.2 x.3).0 in
        rw (ap (λ (r : Refusal). r.number) y, ap (λ (r : Refusal). r.section) y, ap (λ (r : Refusal). r.line) y) x.3

-- the answer of the call: sound exactly for an accepted file, and else the refusal with its place
pub check_sound : (s : Bytes) → check_of s ≡ (Ok tt) ↔ ((cs : List Content) × SoundFile s cs)
unfolding check_of answered
check_sound s = (λ e. (accepts_exactly s).0 (into (eqb (file_refusal s).number 0) (equal (file_refusal s).number 0) e), λ x. rw ((accepts_exactly s).1 x))
  where
    into : (b : Bool) → Decides ((file_refusal s).number ≡ 0) b → pick b (Ok (tt {0})) (Err (file_refusal s)) ≡ (Ok tt) → (file_refusal s).number ≡ 0
    into true (holds h) e = h
    into false d e = absurd (false≢true (cc))

-- the refusal that it carries is the one that the file has
pub check_refused : (s : Bytes) (v i n : ℕ) → check_of s ≡ Err (refusal v i n) ↔ FileRefused s v i n
unfolding check_of answered
check_refused s v i n = (λ e. (refuses_file_exactly s v i n).0 (into (eqb (file_refusal s).number 0) (equal (file_refusal s).number 0) e), back)
  where
    into : (b : Bool) → Decides ((file_refusal s).number ≡ 0) b → pick b (Ok (tt {0})) (Err (file_refusal s)) ≡ Err (refusal v i n) → (file_refusal s ≡ refusal v i n) × ¬ (v ≡ 0)
    into true d e = absurd (false≢true (cc))
    into false (fails k) e = let q : file_refusal s ≡ refusal v i n = cc in (q, λ z. k (ap (λ (r : Refusal). r.number) q ∙ z))

    back : FileRefused s v i n → pick (eqb (file_refusal s).number 0) (Ok (tt {0})) (Err (file_refusal s)) ≡ Err (refusal v i n)
    back f = let x = refused_gives s v i n f in rw (x.0, ne_eqb v 0 x.1)

-- the enum and the paper's numbers say the same
pub check_paper : (s : Bytes) → paper_of (check_of s) ≡ file_refusal s
unfolding check_of answered paper_of
check_paper s = by (file_settled s)
  where
    by : Settled s → paper_of (answered (file_refusal s) (tt {0})) ≡ file_refusal s
    by (inl x) = rw (sound_gives s x.0 x.1)
    by (inr x) = let y = refused_gives s x.0 x.1 x.2 x.3 in rw (y.0, ne_eqb x.0 0 y.1)
