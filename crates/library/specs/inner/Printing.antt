-- The parts of an item's text that are appended one after the other. Only contracts of private
-- functions cite this.
use Rattle.std.specs.Prelude.{ℕ, List, [], ◌++◌, Bool, true, false, Option, Some, None, codes, decimal}
use Rattle.json_text.specs.Characters.{quote}

abbrev pub status_text : Bool → List ℕ
status_text true = codes ",\"status\":\"published\""
status_text false = codes ",\"status\":\"unpublished\""

abbrev pub name_text : Option (List ℕ) → List ℕ
name_text None = []
name_text (Some name) = codes ",\"name\":" ++ quote name

abbrev pub text_before_name : List ℕ → Bool → ℕ → List ℕ
text_before_name id published created =
    codes "{\"id\":"
    ++ (quote id ++ (status_text published ++ (codes ",\"created\":" ++ decimal created)))
