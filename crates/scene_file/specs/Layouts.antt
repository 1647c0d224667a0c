-- The layouts of a text.
use Rattle.std.specs.Prelude.{◌≡◌, ℕ, List}
use Rattle.scene_json.specs.Layout.{IsLaidOut}
use Rattle.scene_file.specs.declared.layout.Layout.{Layout}
use Rattle.scene_file.specs.declared.layout.Layout.TheVariants.{Compact, Pretty}

-- How a compact text is written: as it is, or in the layout of two spaces a level. This project's
-- own.
abbrev pub IsWrittenIn : Layout → List ℕ → List ℕ → Type 0
IsWrittenIn Compact text written = written ≡ text
IsWrittenIn Pretty text written = IsLaidOut 0 text written
