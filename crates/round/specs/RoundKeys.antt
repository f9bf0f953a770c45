-- 17 to 20, of what a file says: tables by their numbers, records by their values.
use Rattle.std.specs.Prelude.{◌≡◌, Bool, false, ◌||◌, List, [], ◌∷◌, ◌++◌, map, ℕ, eqb}
use Rattle.page.specs.Bytes.{pick}
use Rattle.page.specs.Tables.{number_at}
use Rattle.page.specs.Records.{Record}
use Rattle.page.specs.Model.{Content}
use Rattle.page.specs.File.{Filed, any, by_primary, by_second, repeats, lost}

-- is a table met a second time?
unfoldable pub again : List ℕ → List ℕ → Bool
again seen [] = false
again seen (t ∷ ts) = any (eqb t) seen || again (t ∷ seen) ts

-- does a record break a rule, by those before it?
unfoldable pub breaks : (List Filed → Filed → Bool) → List Filed → List Filed → Bool
breaks bad before [] = false
breaks bad before (e ∷ es) = bad before e || breaks bad (e ∷ before) es

-- records without their places
abbrev pub placeless : ℕ → Record → Filed
placeless t vs = record { section = 0; table = t; line = 0; values = vs }

unfoldable pub filed_content : List Content → List Filed
filed_content [] = []
filed_content (c ∷ cs) = map (placeless c.table) c.records ++ filed_content cs

pub record KeysHold (cs : List Content) : Type 0 where
  pub once : again [] (map (λ (c : Content). number_at c.table) cs) ≡ false
  pub primary : breaks (repeats by_primary) [] (filed_content cs) ≡ false
  pub second : breaks (repeats by_second) [] (filed_content cs) ≡ false
  pub references : breaks (λ before. lost (filed_content cs)) [] (filed_content cs) ≡ false

-- the first of 17 to 20 that a file of sound sections breaks
unfoldable pub keys_number : List Content → ℕ
keys_number cs =
    pick (again [] (map (λ (c : Content). number_at c.table) cs)) 17
    (pick (breaks (repeats by_primary) [] (filed_content cs)) 18
    (pick (breaks (repeats by_second) [] (filed_content cs)) 19 (pick (breaks (λ before. lost (filed_content cs)) [] (filed_content cs)) 20 0)))
