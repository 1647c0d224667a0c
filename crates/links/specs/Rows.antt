-- Rows of who names whom. This project's own.
use Rattle.std.specs.Prelude.{◌≡◌, ℕ, ◌-◌, min, List, [], ◌∷◌, ◌++◌, Bool, true, ◌&&◌, ◌||◌, Option, Some, None, AllPairs, length, map, bytes_eq}
use Rattle.std.specs.List.{list_any}
use Rattle.frac_keys.specs.Keys.{bytes_less}
use Rattle.json_text.specs.FirstOccurrences.{first_texts}
use Rattle.elem.specs.ElementValue.{ElementValue}
use Rattle.links.specs.declared.rows.LinkRow.{LinkRow}
use Rattle.links.specs.Names.{target_of}

-- the id, if there is one
abbrev pub id_there : Option (List ℕ) → List (List ℕ)
id_there None = []
id_there (Some id) = id ∷ []

-- the ids that an element names: its container's, its frame's and those that its ends are bound to,
-- each once
abbrev pub named_ids : ElementValue → List (List ℕ)
named_ids e = first_texts (id_there e.container
    ++ (id_there e.frame ++ (id_there (target_of e.start_binding)
    ++ id_there (target_of e.end_binding))))

-- the ids that an element links to: its container's and those that its ends are bound to
abbrev pub linked_ids : ElementValue → List (List ℕ)
linked_ids e = id_there e.container ++ (id_there (target_of e.start_binding)
    ++ id_there (target_of e.end_binding))

-- the row of an id that an element names, and the rows of all of them
abbrev pub row_of : ElementValue → List ℕ → LinkRow
row_of e id = record { named = id; namer = e.id }

abbrev pub rows_of : ElementValue → List LinkRow
rows_of e = map (row_of e) (named_ids e)

-- whether two rows are the same, and whether rows have one
abbrev pub same_row : LinkRow → LinkRow → Bool
same_row row other = bytes_eq row.named other.named && bytes_eq row.namer other.namer

abbrev pub has_row : List LinkRow → LinkRow → Bool
has_row rows row = list_any (same_row row) rows

-- whether a row is for this id, and whether this id is its namer
abbrev pub is_for : List ℕ → LinkRow → Bool
is_for id row = bytes_eq id row.named

abbrev pub is_namer : List ℕ → LinkRow → Bool
is_namer id row = bytes_eq id row.namer

abbrev pub namer_of : LinkRow → List ℕ
namer_of row = row.namer

-- whether a row comes before another one: by the named id, and then by the namer
abbrev pub is_earlier : LinkRow → LinkRow → Bool
is_earlier row other = bytes_less row.named other.named ||
    (bytes_eq row.named other.named && bytes_less row.namer other.namer)

-- each row comes before those behind it, so that none stands twice
abbrev pub AreRowsRising : List LinkRow → Type 0
AreRowsRising rows = AllPairs (λ row other. is_earlier row other ≡ true) rows

-- The rows of a table, and how many more it has room for.
pub record LinkRows : Type 0 where
  pub rows : List LinkRow
  pub spare : ℕ

-- the rows of named ids and their namers, side by side
abbrev pub rows_at : List (List ℕ) → List (List ℕ) → List LinkRow
rows_at [] namers = []
rows_at (named ∷ nameds) [] = []
rows_at (named ∷ nameds) (namer ∷ namers) =
    record { named = named; namer = namer } ∷ rows_at nameds namers

-- how many more rows fit in so much room for both, of which so much is taken
abbrev pub room_in : ℕ → ℕ → ℕ → ℕ
room_in named_room namers_room count = min (named_room - count) (namers_room - count)

-- There are as many namers as named ids, and the rows rise.
pub record AreRows (named namers : List (List ℕ)) : Type 0 where
  pub full : length namers ≡ length named
  pub rise : AreRowsRising (rows_at named namers)
