-- What stands before the elements' texts in the text of a scene, and what stands behind them. This
-- project's own.
use Rattle.std.specs.Prelude.{ℕ, List, ◌++◌, Option, codes}
use Rattle.json_text.specs.Compact.{Member as Pair, object_text}
use Rattle.elem.specs.Texts.{text_or_null}

-- with this source
abbrev pub text_before_elements : Option (List ℕ) → List ℕ
text_before_elements source = codes "{\"type\":\"excalidraw\",\"version\":2,\"source\":"
    ++ (text_or_null source ++ codes ",\"elements\":[")

-- with these settings and these files
abbrev pub text_behind_elements : List Pair → List Pair → List ℕ
text_behind_elements settings files = codes "],\"appState\":"
    ++ (object_text settings ++ (codes ",\"files\":" ++ (object_text files ++ codes "}")))
