-- How bytes are told apart by the first of them. This project's own.
use Rattle.std.specs.Prelude.{ℕ, suc, zero, List, [], ◌∷◌, drop, slice_index_or}

-- so many first bytes, and zeros where there are fewer
abbrev pub front : ℕ → List ℕ → List ℕ
front zero bytes = []
front (suc n) bytes = slice_index_or bytes 0 0 ∷ front n (drop 1 bytes)

-- the first eight
abbrev pub front_of : List ℕ → List ℕ
front_of bytes = front 8 bytes
