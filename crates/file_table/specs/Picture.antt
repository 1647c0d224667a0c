-- How large the picture of a file is. RFC 2397 and RFC 4648; the form of the URL is the one that
-- Excalidraw writes.
use Rattle.std.specs.Prelude.{◌≡◌, ℕ, List, ◌∷◌, ◌++◌, false, ◌==◌, Some, Ok, length, codes}
use Rattle.std.specs.List.{list_any}
use Rattle.std.specs.Str.{IsUtf8}
use Rattle.base64.specs.Engines.{standard}
use Rattle.base64.specs.GeneralPurpose.{decode_of}
use Rattle.json_text.specs.Characters.{quote}
use Rattle.json_text.specs.Compact.{Member as Pair, object_text}
use Rattle.json_text.specs.Parts.{AreMembers}
use Rattle.scene_json.specs.Named.{value_at}

-- The text is a data URL in base64 with this data: `data:`, a media type without a comma,
-- `;base64`, a comma, the data.
pub record IsDataUrl (url content : List ℕ) : Type 0 where
  pub media : List ℕ
  pub parts : url ≡ codes "data:" ++ (media ++ (codes ";base64" ++ 44 ∷ content))
  pub first : list_any (λ byte. byte == 44) media ≡ false

-- The entry is an object whose member `dataURL` is a string of this text.
pub record HasUrl (entry url : List ℕ) : Type 0 where
  pub members : List Pair
  pub are_members : AreMembers 127 members
  pub object : entry ≡ object_text members
  pub text : IsUtf8 url
  pub named : value_at (codes "dataURL") members ≡ Some (quote url)

-- The entry has a data URL in base64 with this data.
pub record HasData (entry content : List ℕ) : Type 0 where
  pub url : List ℕ
  pub has_url : HasUrl entry url
  pub is_data_url : IsDataUrl url content

-- The data of the entry's URL is the base64 text of so many bytes.
pub record IsPictureSize (entry : List ℕ) (size : ℕ) : Type 0 where
  pub text : List ℕ
  pub bytes : List ℕ
  pub has_data : HasData entry text
  pub decoded : decode_of standard text ≡ Ok bytes
  pub size_is : size ≡ length bytes
