-- The members that every element has, and what each is where an element doesn't give it.
-- Excalidraw's element types and its restore; that these rows are taken is this project's own.
use Rattle.std.specs.Prelude.{List, [], ◌∷◌, codes}
use Rattle.json_text.specs.Compact.{Member as Pair}

-- Each row is the name of a member and the compact text of its default, in the order of the bytes
-- of the names.
abbrev pub defaults : List Pair
defaults =
    (codes "angle", codes "0")
    ∷ (codes "backgroundColor", codes "\"transparent\"")
    ∷ (codes "boundElements", codes "[]")
    ∷ (codes "fillStyle", codes "\"solid\"")
    ∷ (codes "frameId", codes "null")
    ∷ (codes "groupIds", codes "[]")
    ∷ (codes "height", codes "0")
    ∷ (codes "index", codes "null")
    ∷ (codes "isDeleted", codes "false")
    ∷ (codes "link", codes "null")
    ∷ (codes "locked", codes "false")
    ∷ (codes "opacity", codes "100")
    ∷ (codes "roughness", codes "1")
    ∷ (codes "roundness", codes "null")
    ∷ (codes "seed", codes "1")
    ∷ (codes "strokeColor", codes "\"#1e1e1e\"")
    ∷ (codes "strokeStyle", codes "\"solid\"")
    ∷ (codes "strokeWidth", codes "2")
    ∷ (codes "updated", codes "0")
    ∷ (codes "version", codes "1")
    ∷ (codes "versionNonce", codes "0")
    ∷ (codes "width", codes "0")
    ∷ (codes "x", codes "0")
    ∷ (codes "y", codes "0")
    ∷ []
