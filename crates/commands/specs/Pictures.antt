-- What is told of the pictures of files. This project's own.
use Rattle.std.specs.Prelude.{◌≡◌, ℕ, List, [], ◌∷◌, ◌++◌, codes, decimal}
use Rattle.json_text.specs.Characters.{quote}
use Rattle.json_text.specs.Compact.{Member as Pair}
use Rattle.file_table.specs.Picture.{HasData, IsPictureSize}
use Rattle.commands.specs.Faults.{newline}

-- What is told of an entry's picture: how many bytes it has, or that it isn't base64, or that there
-- is no data URL.
pub data IsToldOfPicture (entry : List ℕ) : List ℕ → Type 0 where
  size : (size : ℕ) → IsPictureSize entry size → IsToldOfPicture entry (decimal size)
  not_base64 : (content : List ℕ) → HasData entry content
      → ((size : ℕ) → IsPictureSize entry size → ⊥) → IsToldOfPicture entry (codes "not base64")
  no_data_url : ((content : List ℕ) → HasData entry content → ⊥)
      → IsToldOfPicture entry (codes "no data url")

-- A line on each file: its id as a string, a space, and what is told of its picture.
abbrev pub AreLines : List Pair → List ℕ → Type 0
AreLines [] text = text ≡ []
AreLines (file ∷ files) text =
    (told : List ℕ) × (rest : List ℕ) × IsToldOfPicture file.1 told × AreLines files rest
    × (text ≡ quote file.0 ++ (codes " " ++ (told ++ (newline ++ rest))))
