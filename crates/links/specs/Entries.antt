-- Entries of listings.
use Rattle.std.specs.Prelude.{ℕ, List, Bool}
use Rattle.std.specs.List.{list_any}
use Rattle.json_text.specs.FirstOccurrences.{first_occurrences}
use Rattle.elem.specs.Listings.{same_listing_entry}
use Rattle.elem.specs.declared.kind.Role.TheVariants.{Arrow, Text}
use Rattle.elem.specs.declared.parts.BoundRef.{BoundRef}

-- the entry of an arrow, and that of a text
abbrev pub arrow_entry : List ℕ → BoundRef
arrow_entry id = record { id = id; role = Arrow }

abbrev pub text_entry : List ℕ → BoundRef
text_entry id = record { id = id; role = Text }

-- whether entries have this one
abbrev pub lists : List BoundRef → BoundRef → Bool
lists entries entry = list_any (same_listing_entry entry) entries

-- each entry once, in the order of the first occurrences
abbrev pub first_entries : List BoundRef → List BoundRef
first_entries entries = first_occurrences same_listing_entry entries
