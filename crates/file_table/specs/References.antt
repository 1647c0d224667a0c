-- The files that the images of a scene show. This project's own.
use Rattle.std.specs.Prelude.{ℕ, List, Option, filter_map}
use Rattle.std.specs.Option.{option_map}
use Rattle.json_text.specs.Compact.{Member as Pair}
use Rattle.scene_json.specs.Named.{value_at}
use Rattle.json_text.specs.FirstOccurrences.{first_texts}
use Rattle.elem.specs.ElementValue.{ElementValue}

-- the ids of files that elements name, as images alone do, in the order of the elements
abbrev pub references : List ElementValue → List (List ℕ)
references elements = filter_map (λ (e : ElementValue). e.file) elements

-- the file of an id, if the table has one
abbrev pub file_of : List Pair → List ℕ → Option Pair
file_of files id = option_map (λ entry. (id, entry)) (value_at id files)

-- the files that elements name, each once, in the order in which they are first named
abbrev pub referred_files : List Pair → List ElementValue → List Pair
referred_files files elements = filter_map (file_of files) (first_texts (references elements))
