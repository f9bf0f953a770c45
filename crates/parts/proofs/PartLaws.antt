-- The fields of a record that stand as they are written, by column: they are what is written of the record. Assumes nothing.
use mathlib.Core.Path.{◌≡◌, refl, ap, sym, ◌∙◌}
use mathlib.Core.Bool.{Bool, true, false}
use mathlib.Core.List.{List, [], ◌∷◌, ◌++◌}
use Prim.Native.Nat.{ℕ, ◌+◌, ◌-◌, ◌<◌, ◌≤◌}
use native.Mathlib.Omega.{arith}
use borrow.Author.Tests.{eqb-true, eqb-false}
use lib.Dec.{eqb}
use lib.ListN.{length, get_or, set, take, drop, drop_of_length-le}
use lib.Seq.{get_or-set_same, get_or-set_other}
use Rattle.page.specs.Bytes.{Bytes, bytes}
use Rattle.page.specs.Fields.{fields}
use Rattle.page.specs.Tables.{WIDEST, columns, width}
use Rattle.page.specs.Order.{Order, standing, place, by_column}
use Rattle.page.specs.Section.{first_wrong}
use Rattle.page.specs.Places.{field_place}
use Rattle.page.specs.Form.{separated}
use Rattle.page.proofs.OrderLaws.{place_in, place_at, by_column_length, by_column_at, columns_many, sound_by_column}
use Rattle.page.proofs.FieldLaws.{end_in}
use Rattle.digits.specs.Runs.{field_from}
use Rattle.arrangement.specs.Orders.{held, Stands}
use Rattle.arrangement.proofs.OrderLaws.{held_length, held_at}
use Rattle.copies.specs.Parts.{Ends, fields_form, stands}
use Rattle.copies.proofs.FieldLaws.{fields_cons}
use Rattle.copies.proofs.ReadLaws.{field_begins, field_there}
use Rattle.copies.proofs.StandLaws.{ends_spaced, ends_stand, stand_all, fields_kept}
use Rattle.page.specs.declared.Span.{Span}
use Rattle.parts.specs.Parted.{Part, part_at, Parted}

-- those of the columns that stand at the first k places
abbrev pub Placed : ℕ → List ℕ → Bytes → ℕ → List Span → Type 0
Placed t a w k parts = (c : ℕ) → c < width t → place c (held t a) < k → Part w (place c (held t a)) (part_at parts c).from (part_at parts c).to

module _ (t : ℕ) (a : List ℕ) (x : Stands t a) (w : Bytes) where
  abbrev o : Order
  o = held t a

  long : length o ≡ width t
  long = held_length t a x.orderly

  module _ (k at e : ℕ) (parts : List Span) (h : k < width t) (l : length parts ≡ WIDEST) (m : Placed t a w k parts)
      (q : at ≡ field_place k 0 w) (u : Ends w at e) where
    abbrev i : ℕ
    i = get_or a k 0

    abbrev n : Span
    n = record { from = at; to = e }

    abbrev none : Span
    none = record { from = 0; to = 0 }

    small : i < WIDEST
    small = x.orderly.small k

    here : (c : ℕ) → c ≡ i → Part w (place c o) (part_at (set parts i n) c).from (part_at (set parts i n) c).to
    here c y =
        let z : place c o ≡ k =
        ap (λ (v : ℕ). place v o) (y ∙ sym (held_at t a k h)) ∙ place_at (width t) o x.arranged k (omega (arith, long)) in
        let s : part_at (set parts i n) c ≡ n = rw y (get_or-set_same parts i n none (omega (arith, small, l))) in
        rw s (record { begins = q ∙ ap (λ (p : ℕ). field_place p 0 w) (sym z); ends = u })

    other : (c : ℕ) → c < width t → place c o < k + 1 → (c ≡ i → ⊥) → Part w (place c o) (part_at (set parts i n) c).from (part_at (set parts i n) c).to
    other c g p y =
        let z : place c o ≡ k → ⊥ =
        λ (z : place c o ≡ k). y (sym (place_in (width t) o x.arranged c g).1 ∙ ap (λ (v : ℕ). get_or o v 0) z ∙ held_at t a k h) in
        rw (get_or-set_other parts i c n none y) (m c g (omega (arith, z)))

    pub placed_more : Placed t a w (k + 1) (set parts i n)
    placed_more c g p = by (eqb c i) refl
      where
        by : (b : Bool) → eqb c i ≡ b → Part w (place c o) (part_at (set parts i n) c).from (part_at (set parts i n) c).to
        by true d = here c (eqb-true c i d)
        by false d = other c g p (eqb-false c i d)

  pub placed_all : (k : ℕ) (parts : List Span) → width t ≤ k → Placed t a w k parts → Parted t o w parts
  placed_all k parts h m c g = m c g (omega (arith, (place_in (width t) o x.arranged c g).0, long))

  -- as many fields as columns
  module _ (n : length (fields w) ≡ width t) where
    abbrev ws : List Bytes
    ws = by_column o (fields w)

    module _ (parts : List Span) (m : Parted t o w parts) where
      module _ (c : ℕ) (h : c < width t) where
        abbrev s : ℕ
        s = (part_at parts c).from

        abbrev e : ℕ
        e = (part_at parts c).to

        placed : place c o < length (fields w)
        placed = omega (arith, (place_in (width t) o x.arranged c h).0, long)

        pub part_in : (s ≤ e) × (e ≤ length w)
        part_in =
            let l : s ≤ length w = rw (m c h).begins (field_begins w (place c o) placed) in
            end_in w s e l (m c h).ends.size

        part_field : field_from w s ≡ get_or (fields w) (place c o) []
        part_field = rw (m c h).begins (field_there w (place c o) placed)

        part_stands : stands (get_or ws c []) ≡ true
        part_stands = rw (by_column_at o (fields w) c (omega (arith, long)), sym part_field) (ends_stand w s e (m c h).ends)

        pub part_more : separated (drop c ws) ≡ (59 ∷ take (e - s) (drop s w)) ++ separated (drop (c + 1) ws)
        unfolding separated bytes
        part_more =
            ap separated (fields_cons o (fields w) c (omega (arith, long)))
            ∙ ap (λ (y : Bytes). 59 ∷ 32 ∷ (y ++ separated (drop (c + 1) ws))) (sym part_field)
            ∙ ap (λ (y : Bytes). 59 ∷ (y ++ separated (drop (c + 1) ws))) (sym (ends_spaced w s e (m c h).ends))

      pub parts_end : (c : ℕ) → width t ≤ c → separated (drop c ws) ≡ []
      unfolding separated
      parts_end c h =
          let l : length ws ≤ c = omega (arith, by_column_length o (fields w), long) in
          rw (drop_of_length-le ws l)

      -- where nothing is marked and nothing filled
      pub parts_kept : (strip : Bool) (y : Bytes) (f i : ℕ) → first_wrong (standing t o) (fields w) ≡ 0 → i ≡ 0 → f ≡ 0
          → separated ws ≡ fields_form strip f y i 1 (columns t) ws
      parts_kept strip y f i z p q =
          let l : length (fields w) ≡ length o = n ∙ sym long in
          let g : length ws ≡ width t = by_column_length o (fields w) ∙ long in
          rw (p, q)
          (fields_kept strip y 0 (columns t) ws (columns_many t o (fields w) x.arranged)
          ((sound_by_column t o (fields w) x.arranged l).0 z)
          (stand_all ws (λ c h. part_stands c (omega arith))))
