-- What every scene has that is read, and every head and element that is made of such scenes: so
-- their texts are read back. This project's own.
use Rattle.std.specs.Prelude.{◌≡◌, true, List, All, IfSome, is_some, filter, bytes_eq}
use Rattle.std.specs.List.{list_all, list_any}
use Rattle.std.specs.Str.{IsUtf8}
use Rattle.json_text.specs.Compact.{Member as Pair}
use Rattle.json_text.specs.Members.{pairs}
use Rattle.json_text.specs.Parts.{AreMembers}
use Rattle.scene_json.specs.Named.{HaveRisingNames}
use Rattle.elem.specs.ElementValue.{ElementValue}
use Rattle.elem_read.specs.Reading.{IsWholeElement}
use Rattle.file_table.specs.References.{references}
use Rattle.scene_file.specs.Heads.{Heading}
use Rattle.scene_file.specs.declared.scene.Scene.{Scene}

-- The source is a text; settings and files are the members of objects in a scene, in the order of
-- their names.
pub record IsWholeHead (head : Heading) : Type 0 where
  pub source : IfSome head.source IsUtf8
  pub settings : AreMembers 126 (pairs head.app_state)
  pub settings_ordered : HaveRisingNames (pairs head.app_state)
  pub files : AreMembers 126 head.files
  pub files_ordered : HaveRisingNames head.files

-- Each element has a key.
abbrev pub HaveKeys : List ElementValue → Type 0
HaveKeys elements = list_all (λ (e : ElementValue). is_some e.index) elements ≡ true

-- Its head is whole; each element is what its text is read as, and has a key.
pub record IsWholeScene (scene : Scene) : Type 0 where
  pub head : IsWholeHead scene.head
  pub elements : All IsWholeElement scene.elements
  pub keys : HaveKeys scene.elements

-- the head with those of its files alone that elements name
abbrev pub with_named_files : Heading → List ElementValue → Heading
with_named_files head elements = record head {
  files = filter (λ (file : Pair). list_any (bytes_eq file.0) (references elements)) head.files;
}
