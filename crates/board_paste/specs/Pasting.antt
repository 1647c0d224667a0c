-- A clip that is pasted: its copies stand above all that is shown. That copies are above, and that
-- a stored id refuses a clip, is this project's own.
use Rattle.std.specs.Prelude.{◌≡◌, ℕ, ◌-◌, List, [], ◌∷◌, ◌++◌, Bool, Option, Some, None, is_some, length, slice_get, option_and_then, if◌then◌else◌}
use Rattle.frac_keys.specs.Between.{keys_between}
use Rattle.json_text.specs.Compact.{Member as Pair}
use Rattle.elem.specs.ElementValue.{ElementValue}
use Rattle.index_repair.specs.Keyed.{index_of, keyed}
use Rattle.elem_store.specs.Updates.{element_of}
use Rattle.view.specs.Shown.{live_elements, shown}
use Rattle.file_table.specs.Table.{AreLeastEntries}
use Rattle.scene_file.specs.Heads.{Heading, IsJoinedHead}
use Rattle.copies.specs.Copies.{copies_of}

-- the key of the last element, if there is one and it has one
abbrev pub last_key : List ElementValue → Option (List ℕ)
last_key elements = option_and_then index_of (slice_get elements (length elements - 1))

-- whether the id of an element is stored
abbrev pub is_stored : List ElementValue → ElementValue → Bool
is_stored stored e = is_some (element_of stored e.id)

-- the place of the first of these elements whose id is stored
abbrev pub first_stored : List ElementValue → List ElementValue → List ℕ → Option ℕ
first_stored stored [] places = None
first_stored stored (e ∷ elements) [] = None
first_stored stored (e ∷ elements) (place ∷ places) =
    if is_stored stored e then Some place else first_stored stored elements places

-- the copies of elements with the keys that they get where they are pasted: above the last key of
-- what is shown
unfoldable pub pasted : List ElementValue → List ElementValue → List ℕ → List ElementValue
pasted stored elements prefix =
    keyed (copies_of elements prefix) (keys_between (last_key (shown (live_elements stored))) None
    (length (copies_of elements prefix)))

-- The head of a clip has its files, and nothing else.
pub record IsClipHead (entries : List Pair) (head : Heading) : Type 0 where
  pub source : head.source ≡ None
  pub app_state : head.app_state ≡ []
  pub files : AreLeastEntries entries head.files

-- Wherever the old head is that of some heads, the new one is that of these and of a head that has
-- these files alone.
pub record HasJoinedFiles (old : Heading) (files : List Pair) (new : Heading) : Type 0 where
  pub clip : Heading
  pub own : IsClipHead files clip
  pub joined : (heads : List Heading) → IsJoinedHead heads old
      → IsJoinedHead (heads ++ clip ∷ []) new
