-- The fields that the iterator has still to hand out, and where each stands. Assumes nothing.
use Rattle.std.proofs.Common.{◌≡◌, ◌∙◌, ◌<◌, ℕ, List, [], ◌∷◌, Option, None, Some, IsSome, get_or, ap, ap₂, sym, subst, length, refl}
use Rattle.std.specs.Iterator.{Yields, SkipsThenYields}
use Rattle.std.specs.List.{slice_get}
use Rattle.std.specs.Option.{option_map, unwrap_or}
use Rattle.std.proofs.lemmas.Option.{unwrap_or-slice_get, slice_get-get_or}
use Rattle.std.proofs.lemmas.Iterator.{YieldsList}
use Rattle.std.proofs.lemmas.Iterator.Consumers.{YieldsList-from_shown, nth_from_yields_List}
use Rattle.page.specs.Bytes.{Bytes, trim}
use Rattle.page.specs.Fields.{fields}
use Rattle.page.specs.Places.{field_place}
use Rattle.page.proofs.FieldLaws.{from, from_end, from_all}
use Rattle.commands.specs.declared.fields.Field.{Field}
use Rattle.commands.specs.declared.fields.Fields.{Fields}
use Rattle.commands.specs.Fields.{GivesField, FieldAt}

abbrev pub field_text : Field → Bytes
field_text f = trim f.bytes.now

left : Fields → List Bytes
left x = from x.bytes.now x.at

-- from the front it yields the fields of w
pub yields_fields : (x : Fields) (w : Bytes) → x.bytes.now ≡ w → x.at ≡ 0 → YieldsList GivesField field_text x (fields w)
unfolding left
yields_fields x w b p =
    subst (YieldsList GivesField field_text x) (ap₂ from b p ∙ from_all w)
    (YieldsList-from_shown GivesField field_text left (λ x y h. ap length (from_end x.bytes.now x.at h.2)) (λ x f y h. rw h.0 h.1.cut) x)

-- past k fields it has come to the place of field k
comes_to : (x : Fields) (fs : List Field) (y : Fields) → Yields GivesField x fs y
    → (y.bytes.now ≡ x.bytes.now) × (field_place (length fs) x.at x.bytes.now ≡ y.at)
unfolding field_place
comes_to x [] y e = rw e (refl, refl)
comes_to x (f ∷ fs) y (z, g, r) =
    let i = comes_to z fs y r in
    (i.0 ∙ g.0, rw (g.1.next_is, g.0) at i.1)

some_of : (r : Option Field) (o : Option Bytes) (v : Bytes) → option_map field_text r ≡ o → o ≡ Some v → IsSome r
some_of None o v q e = absurd (cc (q, e))
some_of (Some f) o v q e = refl

-- what `nth(k)` gives of the fields of w
module _ (x : Fields) (w : Bytes) (b : x.bytes.now ≡ w) (p : x.at ≡ 0) (k : ℕ) (u : Fields) where
  nth_read : (r : Option Field) → SkipsThenYields GivesField x k r u → option_map field_text r ≡ slice_get (fields w) k
  nth_read r ran = nth_from_yields_List r u k ran (yields_fields x w b p)

  pub nth_text : (r : Option Field) → SkipsThenYields GivesField x k r u → unwrap_or (option_map field_text r) [] ≡ get_or (fields w) k []
  nth_text r ran = ap (λ (o : Option Bytes). unwrap_or o []) (nth_read r ran) ∙ unwrap_or-slice_get (fields w) k []

  pub nth_some : (r : Option Field) → SkipsThenYields GivesField x k r u → k < length (fields w) → IsSome r
  nth_some r ran h = some_of r (slice_get (fields w) k) (get_or (fields w) k []) (nth_read r ran) (slice_get-get_or (fields w) k [] h)

  pub nth_at : (f : Field) → SkipsThenYields GivesField x k (Some f) u → FieldAt w (field_place k 0 w) f u.at
  nth_at f (fs, (t, ys, g), n) =
      let i = comes_to x fs t ys in
      let q : t.at ≡ field_place k 0 w = sym i.1 ∙ rw (n, p, b) in
      rw (i.0 ∙ b, q) at g.1
