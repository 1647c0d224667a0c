-- Items that are appended between commas to what was there.
use Rattle.std.proofs.Common.{◌≡◌, ◌<◌, ◌≤◌, ℕ, ◌+◌, List, [], ◌∷◌, ◌++◌, ◌⊎◌, sym, ap, ◌∙◌, length, map, take, get_or, take_all, All, append_assoc}
use Rattle.std.proofs.lemmas.List.{take-map, length-map, get_or-map}
use Rattle.std.proofs.lemmas.List.Elements.{All-map, All-same, recursion_from_All}
use Rattle.std.specs.List.{join_with_byte}
use Rattle.json_text.specs.Compact.{array_text}
use Rattle.json_text.specs.Value.{IsCompact}
use Rattle.json_text.proofs.CallerLemmas.{array-compact, items-step}

-- one turn of a loop that appends the texts of items between commas
pub mapped-step : {X : Type 0} (f : X → List ℕ) (start : List ℕ) (xs : List X) (x : X) (i : ℕ) (out comma done : List ℕ)
    → i < length xs → x ≡ get_or xs i x →
    out ≡ start ++ join_with_byte 44 (map f (take i xs)) → ((0 < i) × (comma ≡ out ++ 44 ∷ []))
    ⊎ ((i ≡ 0) × (comma ≡ out)) → done ≡ comma ++ f x →
    done ≡ start ++ join_with_byte 44 (map f (take (i + 1) xs))
mapped-step f start xs x i out comma done l at before between last =
    rw (← take-map) (items-step start (map f xs) (f x) i out comma done (simp length-map l) (ap f at
    ∙ sym (get_or-map f xs i x (f x) l)) (rw take-map before) between last)

-- the closing bracket of an array
pub array-closed : {X : Type 0} (f : X → List ℕ) (old start : List ℕ) (xs : List X) (i : ℕ) (out done : List ℕ)
    → length xs ≤ i → start ≡ old ++ 91 ∷ [] →
    out ≡ start ++ join_with_byte 44 (map f (take i xs)) → done ≡ out ++ 93 ∷ [] → done ≡ old ++ array_text (map f xs)
unfolding array_text
array-closed f old start xs i out done all first before last =
    rw (last, before, first, take_all i xs all) (simp append_assoc)

-- the array of items whose texts are compact
pub mapped-compact : {X : Type 0} (f : X → List ℕ) (limit i : ℕ) (xs : List X) → length xs ≤ i
    → All (λ x. IsCompact limit (f x)) (take i xs) → IsCompact (limit + 1) (array_text (map f xs))
mapped-compact f limit i xs all each =
    array-compact limit (map f xs)
    (recursion_from_All (IsCompact limit) (map f xs)
    (All-map (IsCompact limit) f xs (All-same (λ x. IsCompact limit (f x)) xs _ (sym (take_all i xs all)) each)))
