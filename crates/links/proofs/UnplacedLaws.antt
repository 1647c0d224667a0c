-- Settling looks at no key and no stamp.
use Rattle.std.proofs.Common.{◌≡◌, ℕ, cond, ◌&&◌, List, ◌++◌, find, filter, map, Option, Some, None, refl, sym, ap, ap₂, ◌∙◌}
use Rattle.std.specs.List.{list_any}
use Rattle.std.specs.Option.{option_map, option_or}
use Rattle.elem.specs.declared.kind.Role.{Role}
use Rattle.elem.specs.declared.kind.Role.TheVariants.{Arrow, Text}
use Rattle.elem.specs.declared.parts.BoundRef.{BoundRef}
use Rattle.elem.specs.ElementValue.{ElementValue}
use Rattle.elem.specs.Order.{has_id}
use Rattle.links.specs.Names.{id_of, is_id, can_hold_text, names_container, target_of, is_target}
use Rattle.links.specs.Entries.{arrow_entry, first_entries}
use Rattle.links.specs.Texts.{is_for_text, is_text_entry, listed_text, first_text, text_of, is_text_of, keeps_container, with_settled_container, settled_texts}
use Rattle.links.specs.Arrows.{names_target, is_bound_to, is_true_as, arrow_entries, text_entries, listing, with_settled_links, settled_arrows}
use Rattle.links.specs.Settled.{unplaced, settled_links}
use Rattle.links.proofs.Members.{map-same, map-map, filter-map, find-map}
use Rattle.links.proofs.Tabled.{list_any-map}

module _ (list : List ElementValue) where
  text_entry-unplaced : (c : ElementValue) (entry : BoundRef) → is_text_entry (map unplaced list) (unplaced c) entry
      ≡ is_text_entry list c entry
  text_entry-unplaced c entry =
      ap (λ b. is_for_text entry.role && b) (list_any-map unplaced (λ t. has_id entry.id t && names_container c.id t)
      list)

  listed-unplaced : (c : ElementValue) → listed_text (map unplaced list) (unplaced c) ≡ listed_text list c
  listed-unplaced c = λ i. option_map (λ (x : BoundRef). x.id) (find (λ entry. text_entry-unplaced c entry i) c.bound)

  first-unplaced : (c : ElementValue) → first_text (map unplaced list) (unplaced c) ≡ first_text list c
  first-unplaced c = ap (option_map id_of) (find-map (names_container c.id) unplaced list)
      ∙ same_id (find (names_container c.id) list) where
        same_id : (o : Option ElementValue) → option_map id_of (option_map unplaced o) ≡ option_map id_of o
        same_id None = refl
        same_id (Some t) = refl

  text_of-unplaced : (c : ElementValue) → text_of (map unplaced list) (unplaced c) ≡ text_of list c
  unfolding text_of
  text_of-unplaced c =
      ap₂ (λ l f. cond (can_hold_text c.kind) (option_or l f) None) (listed-unplaced c) (first-unplaced c)

  keeps-unplaced : (e : ElementValue) → keeps_container (map unplaced list) (unplaced e) ≡ keeps_container list e
  unfolding keeps_container
  keeps-unplaced e =
      list_any-map unplaced (λ c. is_text_of (map unplaced list) e.id c && names_container c.id (unplaced e)) list
      ∙ (λ i. list_any (λ c. is_id e.id (text_of-unplaced c i) && names_container c.id e) list)

  texts-unplaced : settled_texts (map unplaced list) ≡ map unplaced (settled_texts list)
  texts-unplaced =
      map-map (with_settled_container (map unplaced list)) unplaced list
      ∙ map-same (λ e. with_settled_container (map unplaced list) (unplaced e))
      (λ e. unplaced (with_settled_container list e)) list
      (λ e _. ap (λ b. record (unplaced e) { container = cond b e.container None }) (keeps-unplaced e))
      ∙ sym (map-map unplaced (with_settled_container list) list)

  target-unplaced : (target : Option (List ℕ)) → names_target (map unplaced list) target ≡ names_target list target
  target-unplaced None = refl
  target-unplaced (Some id) = list_any-map unplaced (λ t. has_id id t && is_target t) list

  true-unplaced : (e : ElementValue) (r : Role) (id : List ℕ) → is_true_as r (map unplaced list) (unplaced e) id
      ≡ is_true_as r list e id
  true-unplaced e Arrow id = list_any-map unplaced (λ a. has_id id a && is_bound_to (unplaced e) a) list
  true-unplaced e Text id = ap (is_id id) (text_of-unplaced e)

  arrows-unplaced : (e : ElementValue) → arrow_entries (map unplaced list) (unplaced e) ≡ arrow_entries list e
  arrows-unplaced e =
      ap (map (λ (a : ElementValue). arrow_entry a.id)) (filter-map (is_bound_to (unplaced e)) unplaced list)
      ∙ map-map (λ (a : ElementValue). arrow_entry a.id) unplaced (filter (is_bound_to e) list)

  listing-unplaced : (e : ElementValue) → listing (map unplaced list) (unplaced e) ≡ listing list e
  unfolding listing
  listing-unplaced e = λ i.
      first_entries (filter (λ (x : BoundRef). true-unplaced e x.role x.id i) e.bound
      ++ (arrows-unplaced e i ++ text_entries (text_of-unplaced e i)))

  arrows-all-unplaced : settled_arrows (map unplaced list) ≡ map unplaced (settled_arrows list)
  arrows-all-unplaced =
      map-map (with_settled_links (map unplaced list)) unplaced list
      ∙ map-same (λ e. with_settled_links (map unplaced list) (unplaced e)) (λ e. unplaced (with_settled_links list e))
      list
      (λ e _. λ i. record (unplaced e) {
        start_binding = cond (target-unplaced (target_of e.start_binding) i) e.start_binding None;
        end_binding = cond (target-unplaced (target_of e.end_binding) i) e.end_binding None;
        bound = listing-unplaced e i;
      })
      ∙ sym (map-map unplaced (with_settled_links list) list)

pub links-unplaced : (list : List ElementValue) → settled_links (map unplaced list) ≡ map unplaced (settled_links list)
links-unplaced list = ap settled_arrows (texts-unplaced list) ∙ arrows-all-unplaced (settled_texts list)
