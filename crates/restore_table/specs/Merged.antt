-- How the table is laid between given members.
use Rattle.std.specs.Prelude.{List, [], ◌∷◌, bytes_eq, if◌then◌else◌}
use Rattle.std.specs.Cmp.Lexicographic.{slice_cmp}
use Rattle.std.specs.Ordering.{nat_cmp, match_ordering}
use Rattle.json_text.specs.Compact.{Member as Pair}
use Rattle.json_text.specs.Tree.{null_word}

-- a member of which the table has a row
abbrev pub chosen : Pair → Pair → Pair
chosen row member = (member.0, if bytes_eq member.1 null_word then row.1 else member.1)

-- the rows before a member, the member, and what is made of the rows behind it
abbrev pub spliced : Pair → List Pair → (List Pair → List Pair) → List Pair
spliced member [] rest = member ∷ rest []
spliced member (row ∷ rows) rest =
    match_ordering (slice_cmp nat_cmp row.0 member.0)
    (row ∷ spliced member rows rest) (chosen row member ∷ rest rows) (member ∷ rest (row ∷ rows))

-- the members between the rows
abbrev pub merged : List Pair → List Pair → List Pair
merged [] rows = rows
merged (member ∷ members) rows = spliced member rows (merged members)
