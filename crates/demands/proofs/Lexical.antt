-- The smallest pieces of a file are read exactly as what they are: numbers, formats, mark texts. Assumes nothing.
use Rattle.std.specs.Prelude.{None, Option, Some}
use mathlib.Core.Path.{◌≡◌, refl, ap, sym, ◌∙◌}
use mathlib.Core.Bool.{Bool, true, false, not, ◌&&◌, false≢true}
use mathlib.Core.List.{[], ◌∷◌, ◌++◌, append_assoc, append-nil}
use mathlib.Core.Logic.{◌⊎◌, inl, inr, ◌↔◌}
use Prim.Native.Nat.{ℕ, zero, suc, ◌+◌, ◌-◌, ◌*◌, ◌≤◌, ◌<◌}
use native.Mathlib.Omega.{arith}
use lib.Dec.{eqb, leb}
use lib.ListN.{length, get_or, take, drop, take-append-drop}
use lib.Seq.{take-append_seam, drop-append_seam, drop-append-add, drop-drop}
use borrow.Author.Tests.{eqb-true, eqb-false, ne_eqb, le-leb, leb-true, not-true}
use Rattle.page.specs.Bytes.{Bytes, bytes, pick, same, all, until, trim}
use Rattle.page.specs.Fields.{digit, value, digits, minus, number_of, text_of}
use Rattle.page.specs.Marks.{mark_number, mark_text, mark_in, remark_of}
use Rattle.page.specs.Form.{quoted}
use Rattle.page.specs.Section.{no_digit, size_ok, formed, format_ok}
use Rattle.page.specs.declared.Number.{Number}
use Rattle.page.specs.declared.Number.TheVariants as N
use Rattle.page.specs.declared.Remark.TheVariants as R
use Rattle.page.proofs.NumberLaws.{digit_range, digits_some, digits_few, digits_all, digits_short}
use Rattle.demands.specs.Lexical as Lexical
use Rattle.demands.specs.Lexical.{Digits, one_digit, Decimal, Numeral, plain, minus_zero, below_zero, Shortest, Format, MarkText}
use Rattle.laws.proofs.Decides.{fact, tested}
use Rattle.laws.proofs.Tests.{same_d}
use Rattle.laws.proofs.WrittenScans.{all_append}
use Rattle.round.proofs.WrittenNumbers.{digit_of, value_last}
use Rattle.round.proofs.WrittenTexts.{text_exactly}
use Rattle.page.proofs.ScanLaws.{all_at}
use Rattle.page.proofs.TestLaws.{and_left, and_right}

-- digits and what they are worth

digits_more : {a : Bytes} {n : ℕ} → Digits a n → (b : Bytes) → all digit b ≡ true → Digits (a ++ b) (value n b)
unfolding all value
digits_more {a = a} d [] h = rw (append-nil a) d
digits_more {a = a} {n = n} d (b ∷ bs) h =
    let r = digit_range b (and_left (digit b) (all digit bs) h) in
    let z : 48 + (b - 48) ≡ b = omega (arith, r) in
    let w : 10 * n + (b - 48) ≡ n * 10 + (b - 48) = omega arith in
    let e : Digits (a ++ (b ∷ [])) (n * 10 + (b - 48)) = rw (z, w) at (one_digit (b - 48) d (omega (arith, r))) in
    rw (append_assoc a (b ∷ []) bs) at (digits_more {a = a ++ (b ∷ [])} e bs (and_right (digit b) (all digit bs) h))

digits_back : {ds : Bytes} {n : ℕ} → Digits ds n → (all digit ds ≡ true) × (value 0 ds ≡ n)
unfolding all value
digits_back Lexical.no_digit = (refl, refl)
digits_back (one_digit {ds} {n} d x h) =
    let i = digits_back x in
    (all_append digit ds ((48 + d) ∷ []) i.0 (rw (digit_of d h)), value_last 0 d ds ∙ rw i.1 (omega arith))

-- bytes are digits worth n exactly if each is one and their value is n
pub digits_exactly : (ds : Bytes) (n : ℕ) → ((all digit ds ≡ true) × (value 0 ds ≡ n)) ↔ Digits ds n
digits_exactly ds n = (λ h. rw h.1 at (digits_more Lexical.no_digit ds h.0), digits_back)

decimal_of : (ds : Bytes) → digits ds ≡ true → Decimal ds (value 0 ds)
decimal_of ds h = record { worth = digits_more Lexical.no_digit ds (digits_all ds h); some = digits_some ds h; few = digits_few ds h }

decimal_back : {ds : Bytes} {n : ℕ} → Decimal ds n → (digits ds ≡ true) × (value 0 ds ≡ n)
decimal_back {ds} d = let b = digits_back d.worth in (digits_short ds d.some d.few ∙ b.0, b.1)

pub decimal_exactly : (ds : Bytes) (n : ℕ) → ((digits ds ≡ true) × (value 0 ds ≡ n)) ↔ Decimal ds n
decimal_exactly ds n = (λ h. rw h.1 at (decimal_of ds h.0), decimal_back)

-- numbers

first_digit : {ds : Bytes} {n : ℕ} → Decimal ds n → 48 ≤ get_or ds 0 0
first_digit {ds} d = (digit_range (get_or ds 0 0) (all_at digit ds 0 (digits_back d.worth).0 (omega (arith, d.some)))).0

numeral_back : {f : Bytes} {x : Number} → Numeral f x → number_of f ≡ x
unfolding number_of
numeral_back {f} (plain d) =
    let b = decimal_back d in
    rw (ne_eqb (get_or f 0 0) 45 (λ (e : get_or f 0 0 ≡ 45). omega (arith, first_digit d)), b.0, b.1)
numeral_back (minus_zero e d) =
    let b = decimal_back d in
    rw (e, b.0, b.1)
numeral_back (below_zero {n} e d h) =
    let b = decimal_back d in
    rw (e, b.0, b.1, ne_eqb n 0 (λ (z : n ≡ 0). omega arith))

numeral_of : (f : Bytes) → (number_of f ≡ N.Nothing) ⊎ Numeral f (number_of f)
unfolding number_of digits
numeral_of [] = inl refl
numeral_of (b ∷ bs) = by (eqb b 45) refl
  where
    signed : (v : Bool) → digits bs ≡ v → b ≡ 45 → (pick v (minus (value 0 bs)) N.Nothing ≡ N.Nothing) ⊎ Numeral (b ∷ bs) (pick v (minus (value 0 bs)) N.Nothing)
    signed false h e = inl refl
    signed true h e = inr (worth (eqb (value 0 bs) 0) refl)
      where
        worth : (z : Bool) → eqb (value 0 bs) 0 ≡ z → Numeral (b ∷ bs) (pick z (N.Plus 0) (N.Minus (value 0 bs)))
        worth true k = minus_zero (ap (λ (c : ℕ). c ∷ bs) e) (rw (eqb-true (value 0 bs) 0 k) at (decimal_of bs h))
        worth false k = below_zero (ap (λ (c : ℕ). c ∷ bs) e) (decimal_of bs h) (above (value 0 bs) (eqb-false (value 0 bs) 0 k))
          where
            above : (n : ℕ) → ¬ (n ≡ 0) → 0 < n
            above zero z = absurd (z refl)
            above (suc n) z = omega arith

    bare : (v : Bool) → digits (b ∷ bs) ≡ v → (pick v (N.Plus (value 0 (b ∷ bs))) N.Nothing ≡ N.Nothing) ⊎ Numeral (b ∷ bs) (pick v (N.Plus (value 0 (b ∷ bs))) N.Nothing)
    bare false h = inl refl
    bare true h = inr (plain (decimal_of (b ∷ bs) h))

    by : (v : Bool) → eqb b 45 ≡ v →
        (pick v (pick (digits bs) (minus (value 0 bs)) N.Nothing) (pick (digits (b ∷ bs)) (N.Plus (value 0 (b ∷ bs))) N.Nothing) ≡ N.Nothing)
        ⊎ Numeral (b ∷ bs) (pick v (pick (digits bs) (minus (value 0 bs)) N.Nothing) (pick (digits (b ∷ bs)) (N.Plus (value 0 (b ∷ bs))) N.Nothing))
    by true h = signed (digits bs) refl (eqb-true b 45 h)
    by false h = bare (digits (b ∷ bs)) refl

-- a field is read as a number exactly if it is one
pub number_exactly : (f : Bytes) (x : Number) → ¬ (x ≡ N.Nothing) → number_of f ≡ x ↔ Numeral f x
number_exactly f x n = (λ e. by (numeral_of f) e, numeral_back)
  where
    by : (number_of f ≡ N.Nothing) ⊎ Numeral f (number_of f) → number_of f ≡ x → Numeral f x
    by (inl z) e = absurd (n (sym e ∙ z))
    by (inr z) e = rw e at z

-- and as none exactly if it is none
pub no_number_exactly : (f : Bytes) → number_of f ≡ N.Nothing ↔ ((x : Number) → ¬ Numeral f x)
no_number_exactly f = (λ e x h. numeral_some h (sym (numeral_back h) ∙ e), λ n. by (numeral_of f) n)
  where
    numeral_some : {x : Number} → Numeral f x → ¬ (x ≡ N.Nothing)
    numeral_some (plain d) e = false≢true (cc)
    numeral_some (minus_zero h d) e = false≢true (cc)
    numeral_some (below_zero h d l) e = false≢true (cc)

    by : (number_of f ≡ N.Nothing) ⊎ Numeral f (number_of f) → ((x : Number) → ¬ Numeral f x) → number_of f ≡ N.Nothing
    by (inl z) n = z
    by (inr z) n = absurd (n (number_of f) z)

-- formats

-- what digits are worth is no less than what stands before them
value_up : (n : ℕ) (ds : Bytes) → n ≤ value n ds
unfolding value
value_up n [] = omega arith
value_up n (b ∷ ds) = omega (arith, value_up (n * 10 + (b - 48)) ds)

above_zero : (b : ℕ) → 48 ≤ b → ¬ (b ≡ 48) → 0 < b - 48
above_zero b l n = some (b - 48) (λ (e : b - 48 ≡ 0). n (omega arith))
  where
    some : (k : ℕ) → ¬ (k ≡ 0) → 0 < k
    some zero n = absurd (n refl)
    some (suc k) n = omega arith

-- digits "without leading zeros" are worth something
shortest_some : (ds : Bytes) (n : ℕ) → Shortest ds n → 1 ≤ n
unfolding value
shortest_some [] n s = absurd (let z : ⊥ = omega (arith, s.decimal.some) in z)
shortest_some (b ∷ ds) n s =
    let v : value (0 * 10 + (b - 48)) ds ≡ n = (digits_back s.decimal.worth).1 in
    omega (arith, value_up (0 * 10 + (b - 48)) ds, above_zero b (first_digit s.decimal) s.leads)

shortest_exactly : (ds : Bytes) (n : ℕ) → (((digits ds && not (eqb (get_or ds 0 0) 48)) ≡ true) × (value 0 ds ≡ n)) ↔ Shortest ds n
shortest_exactly ds n = (into, back)
  where
    into : ((digits ds && not (eqb (get_or ds 0 0) 48)) ≡ true) × (value 0 ds ≡ n) → Shortest ds n
    into h =
        record {
          decimal = (decimal_exactly ds n).0 (and_left (digits ds) (not (eqb (get_or ds 0 0) 48)) h.0, h.1);
          leads = eqb-false (get_or ds 0 0) 48 (not-true (eqb (get_or ds 0 0) 48) (and_right (digits ds) (not (eqb (get_or ds 0 0) 48)) h.0));
        }

    back : Shortest ds n → ((digits ds && not (eqb (get_or ds 0 0) 48)) ≡ true) × (value 0 ds ≡ n)
    back s = let d = decimal_back s.decimal in (rw (d.0, ne_eqb (get_or ds 0 0) 48 s.leads), d.1)

-- where digits end
until_past : (ds tail : Bytes) → all digit ds ≡ true → digit (get_or tail 0 0) ≡ false → 0 < length tail → until no_digit (ds ++ tail) ≡ length ds
unfolding until all
until_past [] [] a t s = absurd (omega arith)
until_past [] (c ∷ tail) a t s = rw t
until_past (b ∷ ds) tail a t s = rw (and_left (digit b) (all digit ds) a, until_past ds tail (and_right (digit b) (all digit ds) a) t s)

module _ (name tail : Bytes) (stops : digit (get_or tail 0 0) ≡ false) (some : 0 < length tail) where
  formed_into : (w : Bytes) → formed name tail w ≡ true → Format name tail w
  unfolding formed size_ok
  formed_into w h =
      let v = drop (length name) w in
      let k = until no_digit v in
      let ds = take k v in
      let a : (same (take (length name) w) name && size_ok ds) ≡ true = and_left (same (take (length name) w) name && size_ok ds) (same (drop (length name + k) w) tail) h in
      let e : take (length name) w ≡ name = fact (same_d (take (length name) w) name) (and_left (same (take (length name) w) name) (size_ok ds) a) in
      let t : drop (length name + k) w ≡ tail = fact (same_d (drop (length name + k) w) tail) (and_right (same (take (length name) w) name && size_ok ds) (same (drop (length name + k) w) tail) h) in
      let o : size_ok ds ≡ true = and_right (same (take (length name) w) name) (size_ok ds) a in
      let s : Shortest ds (value 0 ds) = (shortest_exactly ds (value 0 ds)).0 (and_left (digits ds && not (eqb (get_or ds 0 0) 48)) (leb (value 0 ds) 255) o, refl) in
      let d : drop k v ≡ tail = drop-drop k (length name) w ∙ t in
      record {
        digits = ds;
        size = value 0 ds;
        whole = sym (take-append-drop (length name) w) ∙ (ap (λ (z : Bytes). z ++ v) e ∙ ap (λ (z : Bytes). name ++ z) (sym (take-append-drop k v) ∙ ap (λ (z : Bytes). ds ++ z) d));
        reads = s;
        from_one = shortest_some ds (value 0 ds) s;
        small = leb-true (value 0 ds) 255 (and_right (digits ds && not (eqb (get_or ds 0 0) 48)) (leb (value 0 ds) 255) o);
      }

  formed_back : (w : Bytes) → Format name tail w → formed name tail w ≡ true
  unfolding formed size_ok
  formed_back w f =
      let b = decimal_back f.reads.decimal in
      let q = (shortest_exactly f.digits f.size).1 f.reads in
      let u : until no_digit (f.digits ++ tail) ≡ length f.digits = until_past f.digits tail (digits_back f.reads.decimal.worth).0 stops some in
      rw (
        f.whole,
        take-append_seam name (f.digits ++ tail),
        drop-append_seam name (f.digits ++ tail),
        u,
        take-append_seam f.digits tail,
        drop-append-add name (f.digits ++ tail) (length f.digits),
        drop-append_seam f.digits tail,
        tested (same_d name name) refl,
        tested (same_d tail tail) refl,
        q.0,
        q.1,
        le-leb f.size 255 f.small,
      )

-- "`char[n]`", of a column of texts
pub text_format : (w : Bytes) → format_ok true w ≡ true ↔ Format (bytes "char[") (bytes "]") w
unfolding format_ok bytes digit
text_format w = (formed_into (bytes "char[") (bytes "]") refl (omega arith) w, formed_back (bytes "char[") (bytes "]") refl (omega arith) w)

-- "`num[n.0]`", of a column of numbers
pub number_format : (w : Bytes) → format_ok false w ≡ true ↔ Format (bytes "num[") (bytes ".0]") w
unfolding format_ok bytes digit
number_format w = (formed_into (bytes "num[") (bytes ".0]") refl (omega arith) w, formed_back (bytes "num[") (bytes ".0]") refl (omega arith) w)

-- mark texts

begun : (t : Bytes) → same (take 10 t) (bytes "SUGGESTED ") ≡ true → t ≡ bytes "SUGGESTED " ++ drop 10 t
begun t h = sym (take-append-drop 10 t) ∙ ap (λ (z : Bytes). z ++ drop 10 t) (fact (same_d (take 10 t) (bytes "SUGGESTED ")) h)

begun_back : (ds : Bytes) → mark_text (bytes "SUGGESTED " ++ ds) ≡ mark_number ds
unfolding mark_text bytes same
begun_back ds = refl

number_exactly_of : (w : Bytes) (i : ℕ) → mark_number w ≡ R.Mark i ↔ Shortest w i
unfolding mark_number
number_exactly_of w i = (by (digits w && not (eqb (get_or w 0 0) 48)) refl, back)
  where
    by : (b : Bool) → (digits w && not (eqb (get_or w 0 0) 48)) ≡ b → pick b (R.Mark (value 0 w)) R.Unreadable ≡ R.Mark i → Shortest w i
    by true h e = (shortest_exactly w i).0 (h, cc)
    by false h e = absurd (false≢true (cc))

    back : Shortest w i → pick (digits w && not (eqb (get_or w 0 0) 48)) (R.Mark (value 0 w)) R.Unreadable ≡ R.Mark i
    back s = let q = (shortest_exactly w i).1 s in rw (q.0, q.1)

mark_into : (t : Bytes) (i : ℕ) → mark_text t ≡ R.Mark i → MarkText t i
unfolding mark_text
mark_into t i e = by (same (take 10 t) (bytes "SUGGESTED ")) refl e
  where
    by : (b : Bool) → same (take 10 t) (bytes "SUGGESTED ") ≡ b → pick b (mark_number (drop 10 t)) R.Comment ≡ R.Mark i → MarkText t i
    by true h e = record { digits = drop 10 t; whole = begun t h; reads = (number_exactly_of (drop 10 t) i).0 e }
    by false h e = absurd (false≢true (cc))

-- a text is a mark of field i exactly if it is that word, its space, and i
pub mark_exactly : (t : Bytes) (i : ℕ) → mark_text t ≡ R.Mark i ↔ MarkText t i
mark_exactly t i = (mark_into t i, λ m. rw (m.whole, begun_back m.digits) ((number_exactly_of m.digits i).1 m.reads))

mark_some : (w : Bytes) → ¬ (mark_number w ≡ R.Comment)
unfolding mark_number
mark_some w e = by (digits w && not (eqb (get_or w 0 0) 48)) e
  where
    by : (b : Bool) → ¬ (pick b (R.Mark (value 0 w)) R.Unreadable ≡ R.Comment)
    by true e = false≢true (cc)
    by false e = false≢true (cc)

comment_back : (t : Bytes) → ((w : Bytes) → ¬ (t ≡ bytes "SUGGESTED " ++ w)) → mark_text t ≡ R.Comment
unfolding mark_text
comment_back t n = by (same (take 10 t) (bytes "SUGGESTED ")) refl
  where
    by : (b : Bool) → same (take 10 t) (bytes "SUGGESTED ") ≡ b → pick b (mark_number (drop 10 t)) R.Comment ≡ R.Comment
    by true h = absurd (n (drop 10 t) (begun t h))
    by false h = refl

-- an ordinary comment exactly if it does not begin with that word and its space
pub comment_exactly : (t : Bytes) → mark_text t ≡ R.Comment ↔ ((w : Bytes) → ¬ (t ≡ bytes "SUGGESTED " ++ w))
comment_exactly t = (λ e w h. mark_some w (sym (begun_back w) ∙ (ap mark_text (sym h) ∙ e)), comment_back t)

-- a `com` line is a mark of field i exactly if its trimmed rest is one closed text, and that a mark text of i
pub remark_exactly : (w : Bytes) (i : ℕ) → remark_of w ≡ R.Mark i ↔ ((t : Bytes) × (trim w ≡ quoted t) × MarkText t i)
unfolding remark_of
remark_exactly w i = (by (text_of (trim w)) refl, λ m. rw ((text_exactly (trim w) m.0).1 m.1) ((mark_exactly m.0 i).1 m.2))
  where
    by : (o : Option Bytes) → text_of (trim w) ≡ o → mark_in o ≡ R.Mark i → (t : Bytes) × (trim w ≡ quoted t) × MarkText t i
    by None h e = absurd (false≢true (cc))
    by (Some t) h e = (t, (text_exactly (trim w) t).0 h, (mark_exactly t i).0 e)
