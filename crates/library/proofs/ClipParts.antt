-- The elements of a clip, one element after the other.
use Rattle.std.proofs.Common.{◌≡◌, ℕ, suc, ◌+◌, ◌<◌, true, false, cond, not, List, [], ◌∷◌, ◌++◌, length, take, get_or, filter, sym, ap, ◌∙◌, arith, append-nil, length-take}
use Rattle.std.proofs.lemmas.List.{map-append, take_more}
use Rattle.std.proofs.lemmas.List.Elements.{filter-append}
use Rattle.elem.specs.ElementValue.{ElementValue}
use Rattle.clips.specs.Placed.{elements_in, places_in}
use Rattle.clips.specs.declared.placed.Placed.{Placed}
use Rattle.library.specs.Inserting.{live_of, placed_from}

placed-append : (place : ℕ) (elements : List ElementValue) (e : ElementValue)
    → placed_from place (elements ++ e ∷ []) ≡ placed_from place elements
    ++ (record { place = place + length elements; element = e } ∷ [])
placed-append place [] e =
    let same : place ≡ place + 0 = omega arith in ap (λ n. record { place = n; element = e } ∷ []) same
placed-append place (x ∷ elements) e =
    let same : suc place + length elements ≡ place + suc (length elements) = omega arith in
    ap (λ ps. record { place = place; element = x } ∷ ps)
    (placed-append (suc place) elements e
    ∙ ap (λ n. placed_from (suc place) elements ++ (record { place = n; element = e } ∷ [])) same)

module _ (elements : List ElementValue) (i : ℕ) (e : ElementValue) (within : i < length elements)
    (at : e ≡ get_or elements i e) where
  abbrev here : Placed
  here = record { place = i; element = e }

  live-next : live_of (take (i + 1) elements) ≡ live_of (take i elements) ++ cond (not e.deleted) (here ∷ []) []
  live-next =
      let next : take (i + 1) elements ≡ take i elements ++ e ∷ [] =
      take_more elements i e within ∙ ap (λ x. take i elements ++ x ∷ []) (sym at) in
      let count : 0 + length (take i elements) ≡ i = omega (arith, length-take i elements, within) in
      ap live_of next
      ∙ ap (filter (λ (p : Placed). not p.element.deleted)) (placed-append 0 (take i elements) e
      ∙ ap (λ n. placed_from 0 (take i elements) ++ (record { place = n; element = e } ∷ [])) count)
      ∙ filter-append (λ (p : Placed). not p.element.deleted) (placed_from 0 (take i elements)) (here ∷ [])

  -- a live element comes to the others, with its place
  pub live-kept : (live : List ElementValue) (places : List ℕ) → not e.deleted ≡ true
      → live ≡ elements_in (live_of (take i elements)) → places ≡ places_in (live_of (take i elements))
      → (live ++ e ∷ [] ≡ elements_in (live_of (take (i + 1) elements)))
      × (places ++ i ∷ [] ≡ places_in (live_of (take (i + 1) elements)))
  live-kept live places kept so_far beside =
      let before = live_of (take i elements) in
      let next : live_of (take (i + 1) elements) ≡ before ++ here ∷ [] =
      live-next ∙ ap (λ b. before ++ cond b (here ∷ []) []) kept in (
        ap (λ es. es ++ e ∷ []) so_far ∙ sym (ap elements_in next
            ∙ map-append (λ (p : Placed). p.element) before (here ∷ [])),
        ap (λ ns. ns ++ i ∷ []) beside ∙ sym (ap places_in next
            ∙ map-append (λ (p : Placed). p.place) before (here ∷ [])),
      )

  -- a deleted one doesn't
  pub live-dropped : not e.deleted ≡ false → live_of (take (i + 1) elements) ≡ live_of (take i elements)
  live-dropped dropped =
      let before = live_of (take i elements) in
      live-next ∙ ap (λ b. before ++ cond b (here ∷ []) []) dropped ∙ append-nil before
