-- The pairs of the first stored elements.
use Rattle.std.proofs.Common.{◌≡◌, ℕ, ◌+◌, ◌<◌, true, List, [], ◌∷◌, ◌++◌, length, take, map, get_or, Some, None, Contains, slice_get, sym, ap, ◌∙◌, subst₂, length-take, arith}
use Rattle.std.proofs.lemmas.List.{map-append, take_more, get_or-take}
use Rattle.std.proofs.lemmas.Option.{slice_get_within, get_or_from_slice_get}
use Rattle.frac_keys.specs.Keys.{bytes_less}
use Rattle.frac_keys.specs.Rising.{are_rising}
use Rattle.json_text.proofs.CallerLemmas.{Contains-map}
use Rattle.elem.specs.ElementValue.{ElementValue}
use Rattle.delta.specs.Pairs.{Pair, pair_with}
use Rattle.elem_store.specs.Updates.{element_of, ids_of}
use Rattle.elem_store.proofs.CallerLemmas.{earlier_less}
use Rattle.snapshot.specs.Pending.{pairs_since}

module _ (snapshot store : List ElementValue) (i : ℕ) (e : ElementValue) (at : slice_get store i ≡ Some e) where
  here : get_or store i e ≡ e
  here = get_or_from_slice_get store i e e at

  within : i < length store
  within = slice_get_within store i e at

  -- those with the next one
  pub pairs-more : pairs_since snapshot (take i store) ++ pair_with (element_of snapshot e.id) e ∷ []
      ≡ pairs_since snapshot (take (i + 1) store)
  pairs-more =
      let pair = λ (x : ElementValue). pair_with (element_of snapshot x.id) x in
      sym (map-append pair (take i store) (e ∷ []))
      ∙ ap (map pair) (sym (take_more store i e within ∙ ap (λ x. take i store ++ x ∷ []) here))

  -- have lesser ids than that
  pub pairs-less : are_rising (ids_of store) ≡ true → (other : Pair)
      → Contains (pairs_since snapshot (take i store)) other → bytes_less other.after.id e.id ≡ true
  pairs-less rising other c =
      let own = Contains-map (λ (x : ElementValue). pair_with (element_of snapshot x.id) x) (take i store) other c in
      let low : own.1.0 < i = omega (arith, own.1.1, length-take i store) in
      subst₂ (λ a b. bytes_less a b ≡ true)
      (ap (λ (x : ElementValue). x.id) (sym (get_or-take i store own.1.0 own.0 low) ∙ own.1.2)
      ∙ ap (λ (p : Pair). p.after.id) own.2)
      (ap (λ (x : ElementValue). x.id) (get_or_from_slice_get store i e own.0 at))
      (earlier_less None None store own.1.0 i own.0 rising low within)
