-- Where no element names or lists another one, settling changes nothing.
use Rattle.std.proofs.Common.{◌≡◌, Bool, true, false, not, length, ◌==◌, cond, ◌&&◌, ◌||◌, List, [], ◌∷◌, ◌++◌, map, find, filter, Option, None, Contains, refl, sym, ap, ap₂, ◌∙◌, inl, inr, arith}
use Rattle.std.specs.List.{list_any}
use Rattle.std.specs.Option.{is_some, option_map, option_or}
use Rattle.std.proofs.lemmas.Bool.{cases_Bool, cond-false, false_from_ne_true, both_ways}
use Rattle.std.proofs.lemmas.List.{nil_from_length}
use Rattle.elem.specs.ElementValue.{ElementValue}
use Rattle.elem.specs.declared.parts.BoundRef.{BoundRef}
use Rattle.json_text.proofs.CallerLemmas.{none-is}
use Rattle.links.specs.Arrows.{names_target, is_bound_to, is_true_entry, arrow_entries, text_entries, listing, with_settled_links, settled_arrows}
use Rattle.links.specs.Entries.{arrow_entry, first_entries}
use Rattle.links.specs.Names.{id_of, is_text, is_arrow, is_id, can_hold_text, target_of, end_names, has_end_at, names_container, is_target}
use Rattle.links.specs.inner.Settled.{is_linked}
use Rattle.links.specs.Texts.{is_text_entry, keeps_container, text_of, with_settled_container, settled_texts}
use Rattle.links.proofs.Members.{Contains-head, Contains-cons, map-same, list_any-from, find-None}
use Rattle.links.proofs.Tabled.{held, not_held}

kept-none : {X : Type 0} (b : Bool) (o : Option X) → o ≡ None → cond b o None ≡ o
kept-none true o h = refl
kept-none false o h = sym h

and_false : (a b : Bool) → b ≡ false → (a && b) ≡ false
and_false true b h = h
and_false false b h = refl

list_any-none : {X : Type 0} (p : X → Bool) (xs : List X) (x : X) → list_any p xs ≡ false → Contains xs x → p x ≡ false
list_any-none p xs x none there =
    false_from_ne_true (p x) (λ h. both_ways (list_any p xs) none (list_any-from p xs x there h))

pub filter-none_of : {X : Type 0} (p : X → Bool) (xs : List X) → ((x : X) → Contains xs x → p x ≡ false)
    → filter p xs ≡ []
filter-none_of p [] h = refl
filter-none_of p (x ∷ xs) h =
    cond-false (p x) (x ∷ filter p xs) (filter p xs) (h x (Contains-head x xs))
    ∙ filter-none_of p xs (λ y there. h y (Contains-cons x xs y there))

map-stays : {X : Type 0} (f : X → X) (xs : List X) → ((x : X) → Contains xs x → f x ≡ x) → map f xs ≡ xs
map-stays f xs h = map-same f (λ x. x) xs h ∙ itself xs
  where
    itself : {X : Type 0} (xs : List X) → map (λ x. x) xs ≡ xs
    itself [] = refl
    itself (x ∷ xs) = ap (λ ys. x ∷ ys) (itself xs)

pub settled_texts-none : (list : List ElementValue) → list_any (λ (e : ElementValue). is_some e.container) list ≡ false
    → settled_texts list ≡ list
settled_texts-none list none =
    map-stays (with_settled_container list) list
    (λ e there. ap (λ container. record e { container = container })
    (kept-none (keeps_container list e) e.container
    (none-is e.container (list_any-none (λ (x : ElementValue). is_some x.container) list e none there))))

-- what an element without links lacks
record LacksLinks (e : ElementValue) : Type 0 where
  bound : e.bound ≡ []
  container : e.container ≡ None
  start : e.start_binding ≡ None
  end' : e.end_binding ≡ None

or_both : (a b : Bool) → (a || b) ≡ false → (a ≡ false) × (b ≡ false)
or_both true b h = cc
or_both false b h = (refl, h)

empty_is : {X : Type 0} (xs : List X) → not (length xs == 0) ≡ false → xs ≡ []
empty_is xs h = nil_from_length xs (grind (arith, h))

lacks : (e : ElementValue) → is_linked e ≡ false → LacksLinks e
lacks e h =
    let first = or_both (not (length e.bound == 0)) (is_some e.container
    || (is_some e.start_binding || is_some e.end_binding)) h in
    let second = or_both (is_some e.container) (is_some e.start_binding || is_some e.end_binding) first.1 in
    let third = or_both (is_some e.start_binding) (is_some e.end_binding) second.1 in
    record {
      bound = empty_is e.bound first.0;
      container = none-is e.container second.0;
      start = none-is e.start_binding third.0;
      end' = none-is e.end_binding third.1;
    }

module _ (list : List ElementValue) (none : list_any is_linked list ≡ false) where
  each : (e : ElementValue) → Contains list e → LacksLinks e
  each e there = lacks e (list_any-none is_linked list e none there)

  no_text : (e : ElementValue) → Contains list e → text_of list e ≡ None
  no_text e there =
      elim (cases_Bool (can_hold_text e.kind)) [
        | inl t ↦ held list e t
            ∙ ap₂ (λ l f. option_or (option_map (λ (entry : BoundRef). entry.id) l) (option_map id_of f))
            (ap (find (is_text_entry list e)) (each e there).bound)
            (find-None (names_container e.id) list (λ x among. and_false (is_text x.kind) (is_id e.id x.container)
            (ap (is_id e.id) (each x among).container)))
        | inr f ↦ not_held list e f
      ]

  no_arrow : (e : ElementValue) → arrow_entries list e ≡ []
  no_arrow e =
      ap (map (λ (arrow : ElementValue). arrow_entry arrow.id))
      (filter-none_of (is_bound_to e) list
      (λ x among. and_false (is_target e) (has_end_at e.id x)
      (and_false (is_arrow x.kind) (end_names e.id x.start_binding || end_names e.id x.end_binding)
      (ap₂ (λ s t. end_names e.id s || end_names e.id t) (each x among).start (each x among).end'))))

  no_listing : (e : ElementValue) → Contains list e → listing list e ≡ e.bound
  unfolding listing
  no_listing e there =
      ap₂ (λ own others. first_entries (own ++ others)) (ap (filter (is_true_entry list e)) (each e there).bound)
      (ap₂ (λ arrows text. arrows ++ text_entries text) (no_arrow e) (no_text e there))
      ∙ sym (each e there).bound

  pub settled_arrows-none : settled_arrows list ≡ list
  settled_arrows-none =
      map-stays (with_settled_links list) list
      (λ e there. ap (λ start. record (with_settled_links list e) { start_binding = start })
      (kept-none (names_target list (target_of e.start_binding)) e.start_binding (each e there).start)
      ∙ (ap (λ end'. record e { end_binding = end'; bound = listing list e })
      (kept-none (names_target list (target_of e.end_binding)) e.end_binding (each e there).end')
      ∙ ap (λ bound. record e { bound = bound }) (no_listing e there)))
