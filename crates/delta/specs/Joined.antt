-- Lists that change item by item. This project's own, after Excalidraw's deltas.
use Rattle.std.specs.Prelude.{List, ◌++◌, Bool, not, ◌==◌, length, ◌&&◌, ◌||◌, filter, if◌then◌else◌}
use Rattle.std.specs.List.{list_any, list_all, zip}
use Rattle.json_text.specs.FirstOccurrences.{first_occurrences}

-- whether two lists are the same: as long, and the same item by item
abbrev pub are_same : {T : Type 0} → (T → T → Bool) → List T → List T → Bool
are_same {T} same xs ys =
    length xs == length ys && list_all (λ (p : T × T). same p.0 p.1) (zip xs ys)

-- whether an item is in a list
abbrev pub is_in : {T : Type 0} → (T → T → Bool) → List T → T → Bool
is_in same items item = list_any (λ other. same other item) items

-- whether an item stays: it isn't one that was before and isn't after
abbrev pub stays : {T : Type 0} → (T → T → Bool) → List T → List T → T → Bool
stays same before after item = not (is_in same before item) || is_in same after item

-- whether an item is gained: it wasn't before and isn't there now
abbrev pub is_gained : {T : Type 0} → (T → T → Bool) → List T → List T → T → Bool
is_gained same before now item = not (is_in same before item) && not (is_in same now item)

-- A list to which a change from `before` to `after` is applied: one that equals `before` becomes
-- `after`. Another one loses the items of `before` that aren't in `after`, and gains at its end
-- those of `after` that are neither in `before` nor in it, each once, in the order of their first
-- occurrences.
abbrev pub joined : {T : Type 0} → (T → T → Bool) → List T → List T → List T → List T
joined same before after now =
    if are_same same now before then after
    else filter (stays same before after) now
    ++ first_occurrences same (filter (is_gained same before now) after)
