-- Why a fill is refused where the file is accepted and the field is there.
use Rattle.std.specs.Prelude.{Bool, false, ℕ, eqb, ltb, length}
use Rattle.page.specs.Bytes.{Bytes, pick, all}
use Rattle.page.specs.Lines.{allowed}
use Rattle.page.specs.declared.Value.{Value}
use Rattle.page.specs.declared.Value.TheVariants as Va

-- nothing stands between a text's quotes
abbrev pub empty_value : Value → Bool
empty_value (Va.Number n) = false
empty_value Va.Missing = false
empty_value (Va.Words x) = eqb x.from x.to

-- "text empty 11, text byte not allowed in a `rec` 4, over 40 bytes 13"
unfoldable pub text_number : Bool → Bytes → ℕ
text_number latin t = pick (eqb (length t) 0) 11 (pick (all (allowed latin) t) (pick (ltb 40 (length t)) 13 0) 4)

-- 23, 22, then the text's
unfoldable pub fill_number : Bool → Bool → Bool → Bytes → ℕ
fill_number fillable empty latin t = pick fillable (pick empty (text_number latin t) 22) 23
