-- The key of an element that stands at a spot lies within the gap there.
use Rattle.std.proofs.Common.{◌≡◌, ℕ, true, false, List, [], ◌∷◌, ◌++◌, append-nil, append_assoc, Option, Some, None, bytes_eq, refl, sym, ap, ◌∙◌, subst}
use Rattle.std.specs.List.{AllByRecursion, IsDistinct}
use Rattle.std.proofs.lemmas.Bool.{and_from}
use Rattle.json_text.proofs.CallerLemmas.{bytes_eq-flip, bytes_eq-same}
use Rattle.frac_keys.specs.Rising.{ends_rise}
use Rattle.elem.specs.ElementValue.{ElementValue}
use Rattle.elem.specs.Order.{HaveDistinctIds}
use Rattle.elem_store.specs.Updates.{element_of, ids_of}
use Rattle.index_repair.specs.Keyed.{HaveRisingKeys}
use Rattle.board_commands.specs.declared.command.Spot.{Spot}
use Rattle.board_commands.specs.declared.command.Spot.TheVariants.{Bottom, Top, After}
use Rattle.effects.specs.Placing.{first_key, gap_above, gap_at, gap_of, last_key, last_key_or, lies_within, others}
use Rattle.effects.proofs.CallerLemmas.{Rises, Rises-shown}
use Rattle.effect_laws.specs.Standing.{StandsAt}

-- ---- ids
apart-behind : (id : List ℕ) (below : List ElementValue) (e : ElementValue) (above : List ElementValue)
    → AllByRecursion (λ other. bytes_eq id other ≡ false) (ids_of (below ++ e ∷ above)) → bytes_eq id e.id ≡ false
apart-behind id [] e above all = all.0
apart-behind id (f ∷ below) e above all = apart-behind id below e above all.1

found-behind : (below : List ElementValue) (e : ElementValue) (above : List ElementValue)
    → HaveDistinctIds (below ++ e ∷ above) → element_of (below ++ e ∷ above) e.id ≡ Some e
unfolding IsDistinct
found-behind [] e above distinct = rw (bytes_eq-same e.id) refl
found-behind (f ∷ below) e above distinct =
    rw (bytes_eq-flip f.id e.id (apart-behind f.id below e above distinct.0))
    (found-behind below e above distinct.1)

none-left-out : (id : List ℕ) (es : List ElementValue) → AllByRecursion (λ other. bytes_eq id other ≡ false) (ids_of es)
    → others (Some id) es ≡ es
none-left-out id [] all = refl
none-left-out id (e ∷ es) all = rw all.0 (ap (λ more. e ∷ more) (none-left-out id es all.1))

others-behind : (below : List ElementValue) (e : ElementValue) (above : List ElementValue)
    → HaveDistinctIds (below ++ e ∷ above) → others (Some e.id) (below ++ e ∷ above) ≡ below ++ above
unfolding IsDistinct
others-behind [] e above distinct = rw (bytes_eq-same e.id) (none-left-out e.id above distinct.0)
others-behind (f ∷ below) e above distinct =
    rw (bytes_eq-flip f.id e.id (apart-behind f.id below e above distinct.0))
    (ap (λ more. f ∷ more) (others-behind below e above distinct.1))

gap-next : (below : List ElementValue) (next : ElementValue) (rest above : List ElementValue)
    → HaveDistinctIds (below ++ next ∷ rest)
    → gap_above next.id (below ++ next ∷ above) ≡ record { low = next.index; high = first_key above }
unfolding IsDistinct
gap-next [] next rest above distinct = rw (bytes_eq-same next.id) refl
gap-next (f ∷ below) next rest above distinct =
    rw (bytes_eq-flip f.id next.id (apart-behind f.id below next rest distinct.0))
    (gap-next below next rest above distinct.1)

-- ---- keys
last-of : (key : Option (List ℕ)) (below : List ElementValue) (next : ElementValue)
    → last_key_or key (below ++ next ∷ []) ≡ next.index
last-of key [] next = refl
last-of key (f ∷ below) next = last-of f.index below next

-- its key, which lies between those of the elements beside it
around : (low : Option (List ℕ)) (below : List ElementValue) (e : ElementValue) (above : List ElementValue)
    → Rises low (below ++ e ∷ above) → (key : List ℕ) × (e.index ≡ Some key)
    × (ends_rise (last_key_or low below) (Some key) ≡ true) × (ends_rise (Some key) (first_key above) ≡ true)
around low [] e [] h = (h.0, h.1, h.2, refl)
around low [] e (a ∷ above) h = (h.0, h.1, h.2, ap (ends_rise (Some h.0)) h.3.1 ∙ h.3.2)
around low (f ∷ below) e above h = rw h.1 (around (Some h.0) below e above h.3)

-- ---- spots
abbrev IsAtSpot : ElementValue → Spot → List ElementValue → Type 0
IsAtSpot e spot shown =
    (element_of shown e.id ≡ Some e) × (lies_within (gap_of shown spot (Some e.id)) e.index ≡ true)

module _ (shown below : List ElementValue) (e : ElementValue) (above : List ElementValue)
    (rising : HaveRisingKeys shown) (distinct : HaveDistinctIds shown) (is : shown ≡ below ++ e ∷ above) where
  inside : (spot : Spot) → ((key : List ℕ) → ends_rise (last_key_or None below) (Some key) ≡ true
      → ends_rise (Some key) (first_key above) ≡ true → lies_within (gap_at spot (below ++ above)) (Some key) ≡ true)
      → IsAtSpot e spot shown
  inside spot holds =
      let at = around None below e above (subst (Rises None) is (Rises-shown shown rising)) in
      let apart = subst HaveDistinctIds is distinct in
      subst (IsAtSpot e spot) (sym is) (
        found-behind below e above apart,
        ap (λ es. lies_within (gap_at spot es) e.index) (others-behind below e above apart)
            ∙ ap (lies_within (gap_at spot (below ++ above))) at.1 ∙ holds at.0 at.2 at.3,
      )

pub stands : (shown : List ElementValue) (e : ElementValue) (spot : Spot) → HaveRisingKeys shown
    → HaveDistinctIds shown → StandsAt shown e spot → IsAtSpot e spot shown
stands shown e Bottom rising distinct (above, is) = inside shown [] e above rising distinct is Bottom
    (λ key low high. high)
stands shown e Top rising distinct (below, is) = inside shown below e [] rising distinct is Top
    (λ key low high. and_from (ends_rise (last_key (below ++ [])) (Some key)) true
    (ap (λ es. ends_rise (last_key es) (Some key)) (append-nil below) ∙ low) refl)
stands shown e (After id) rising distinct (below, next, above, is, own) =
    inside shown (below ++ next ∷ []) e above rising distinct (is ∙ sym (append_assoc below (next ∷ []) (e ∷ above)))
    (After id)
    (λ key low high.
    let gap : gap_above id ((below ++ next ∷ []) ++ above) ≡ record { low = next.index; high = first_key above } =
    ap (λ i. gap_above i ((below ++ next ∷ []) ++ above)) (sym own)
    ∙ ap (gap_above next.id) (append_assoc below (next ∷ []) above)
    ∙ gap-next below next (e ∷ above) above (subst HaveDistinctIds is distinct) in
    ap (λ gap. lies_within gap (Some key)) gap
    ∙ and_from (ends_rise next.index (Some key)) (ends_rise (Some key) (first_key above))
    (ap (λ k. ends_rise k (Some key)) (sym (last-of None below next)) ∙ low) high)
