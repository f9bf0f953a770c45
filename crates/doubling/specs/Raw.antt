-- Texts as they stand in a file.
use Rattle.std.specs.Prelude.{Bool, true, false, [], ◌∷◌, ◌++◌}
use Rattle.page.specs.Bytes.{Bytes}
use Rattle.page.specs.Fields.{quote}

-- what stands between a text's quotes, doubled ones still doubled, with its quotes
unfoldable pub raw_text : Bytes → Bytes
raw_text raw = 34 ∷ (raw ++ (34 ∷ []))

-- a text's own bytes, of what stands between its quotes; `met`: the first of two quotes was just met
unfoldable pub undoubled : Bool → Bytes → Bytes
undoubled met [] = []
undoubled true (b ∷ bs) = undoubled false bs
undoubled false (b ∷ bs) = b ∷ undoubled (quote b) bs
