-- The rows of an element are those of the ids that it names.
use Rattle.std.proofs.Common.{◌≡◌, ℕ, Bool, true, false, ◌&&◌, ◌||◌, List, [], ◌∷◌, ◌++◌, map, Option, Some, None, bytes_eq, refl, ap, ap₂, ◌∙◌}
use Rattle.std.specs.List.{list_any, AllByRecursion, IsDistinct}
use Rattle.std.proofs.lemmas.List.Folds.{list_any-append}
use Rattle.json_text.specs.FirstOccurrences.{first_texts}
use Rattle.json_text.proofs.CallerLemmas.{Contains-first_texts, IsDistinct-first_texts}
use Rattle.elem.specs.ElementValue.{ElementValue}
use Rattle.links.specs.declared.rows.LinkRow.{LinkRow}
use Rattle.links.specs.Names.{is_id, target_of}
use Rattle.links.specs.Rows.{id_there, named_ids, rows_of, is_for, same_row}
use Rattle.links.specs.Steps.{names_id}
use Rattle.links.proofs.Members.{same_bools, list_any-from, list_any-found}
use Rattle.links.proofs.Tabled.{list_any-map}

any-first : (p : List ℕ → Bool) (ids : List (List ℕ)) → list_any p (first_texts ids) ≡ list_any p ids
any-first p ids =
    same_bools (list_any p (first_texts ids)) (list_any p ids)
    (λ h. let found = list_any-found p (first_texts ids) h in
    list_any-from p ids found.0 ((Contains-first_texts ids found.0).0 found.1) found.2)
    (λ h. let found = list_any-found p ids h in
    list_any-from p (first_texts ids) found.0 ((Contains-first_texts ids found.0).1 found.1) found.2)

any-there : (id : List ℕ) (o : Option (List ℕ)) → list_any (bytes_eq id) (id_there o) ≡ is_id id o
any-there id None = refl
any-there id (Some other) = or_false (bytes_eq id other) where
  or_false : (b : Bool) → (b || false) ≡ b
  or_false true = refl
  or_false false = refl

or_assoc : (a b c : Bool) → (a || (b || c)) ≡ ((a || b) || c)
or_assoc true b c = refl
or_assoc false b c = refl

pub rows_of-named : (e : ElementValue) (id : List ℕ) → list_any (is_for id) (rows_of e) ≡ names_id id e
rows_of-named e id =
    let p = bytes_eq id in
    let container = id_there e.container in
    let frame = id_there e.frame in
    let start = id_there (target_of e.start_binding) in
    let end' = id_there (target_of e.end_binding) in
    list_any-map (λ (named : List ℕ). record { named = named; namer = e.id }) (is_for id)
    (first_texts (container ++ (frame ++ (start ++ end'))))
    ∙ any-first p (container ++ (frame ++ (start ++ end')))
    ∙ list_any-append p container (frame ++ (start ++ end'))
    ∙ ap (λ b. list_any p container || b) (list_any-append p frame (start ++ end')
    ∙ ap (λ b. list_any p frame || b) (list_any-append p start end'))
    ∙ or_assoc (list_any p container) (list_any p frame) (list_any p start || list_any p end')
    ∙ ap₂ (λ a b. a || b) (ap₂ (λ a b. a || b) (any-there id e.container) (any-there id e.frame))
    (ap₂ (λ a b. a || b) (any-there id (target_of e.start_binding)) (any-there id (target_of e.end_binding)))

-- no row comes twice
apart-rows : (id namer : List ℕ) (ids : List (List ℕ)) → AllByRecursion (λ other. bytes_eq id other ≡ false) ids
    → AllByRecursion (λ (row : LinkRow). same_row (record { named = id; namer = namer }) row ≡ false)
    (map (λ (other : List ℕ). record { named = other; namer = namer }) ids)
apart-rows id namer [] h = tt
apart-rows id namer (other ∷ ids) h = (ap (λ b. b && bytes_eq namer namer) h.0, apart-rows id namer ids h.1)

distinct-rows : (namer : List ℕ) (ids : List (List ℕ)) → IsDistinct bytes_eq ids
    → IsDistinct same_row (map (λ (id : List ℕ). record { named = id; namer = namer }) ids)
unfolding IsDistinct
distinct-rows namer [] h = tt
distinct-rows namer (id ∷ ids) h = (apart-rows id namer ids h.0, distinct-rows namer ids h.1)

pub rows_of-distinct : (e : ElementValue) → IsDistinct same_row (rows_of e)
rows_of-distinct e = distinct-rows e.id (named_ids e) (IsDistinct-first_texts _)
