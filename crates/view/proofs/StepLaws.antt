-- What settling makes of one element rests on the elements at most three steps of links from it, on its frame, and on
-- no key.
use Rattle.std.proofs.Common.{◌≡◌, ℕ, Bool, true, false, cond, List, find, filter, map, Option, Some, None, bytes_eq, refl, sym, ap, ap₂, subst, ◌∙◌}
use Rattle.std.specs.List.{list_any, IsDistinct}
use Rattle.std.specs.Option.{option_map, option_map_or}
use Rattle.std.proofs.lemmas.List.Elements.{filter_passes}
use Rattle.elem.specs.ElementValue.{ElementValue}
use Rattle.elem.specs.Order.{has_id, HaveDistinctIds}
use Rattle.elem_store.specs.Updates.{element_of}
use Rattle.frames_groups.specs.Frames.{is_frame_of, has_frame, keeps_frame, without_frame, framed, frames_settled}
use Rattle.frames_groups.specs.Groups.{grouped, groups_settled}
use Rattle.frames_groups.proofs.CallerLemmas.{framed-among}
use Rattle.links.specs.Arrows.{with_settled_links}
use Rattle.links.specs.Settled.{settled_links, unlinked, unplaced}
use Rattle.links.specs.Steps.{is_within}
use Rattle.links.specs.Texts.{with_settled_container, settled_texts}
use Rattle.links.proofs.CallerLemmas.{find-map, map-map, near-all, near-seen, looks-alike, seen-alone, found-settled, unlinked-links, list_any-map, links-unplaced}
use Rattle.view.specs.Settled.{settled}
use Rattle.view.specs.Shown.{without_index}
use Rattle.view.specs.Steps.{is_framed, settled_of, settled_but_for_key, AreAlikeNear, HasAllLinked, HasAllNear, HasAllSeenFramed, LookAlikeFramed}
use Rattle.view.proofs.SettledLaws.{same_elements}

-- ---- keys play no part
links-keys : (list : List ElementValue) → settled_links (map without_index list)
    ≡ map without_index (settled_links list)
links-keys list =
    same_elements (settled_links (map without_index list)) (map without_index (settled_links list))
    (sym (links-unplaced (map without_index list)) ∙ ap settled_links (map-map unplaced without_index list)
    ∙ links-unplaced list
    ∙ sym (map-map unplaced without_index (settled_links list)))
    (unlinked-links (map without_index list) ∙ map-map unlinked without_index list
    ∙ sym (map-map without_index unlinked list)
    ∙ ap (map without_index) (sym (unlinked-links list)) ∙ map-map without_index unlinked (settled_links list)
    ∙ sym (map-map unlinked without_index (settled_links list)))

framed-keys : (names : List ℕ → Bool) (e : ElementValue)
    → framed names (without_index e) ≡ without_index (framed names e)
framed-keys names e = either (keeps_frame names e) where
  either : (b : Bool) → cond b (without_index e) (without_frame (without_index e))
      ≡ without_index (cond b e (without_frame e))
  either true = refl
  either false = refl

frames-keys : (list : List ElementValue) → frames_settled (map without_index list)
    ≡ map without_index (frames_settled list)
frames-keys list =
    ap (λ names. map (framed names) (map without_index list))
    (λ i id. list_any-map without_index (is_frame_of id) list i)
    ∙ map-map (framed (has_frame list)) without_index list
    ∙ (λ i. map (λ e. framed-keys (has_frame list) e i) list)
    ∙ sym (map-map without_index (framed (has_frame list)) list)

pub settled-keys : (list : List ElementValue) → settled (map without_index list) ≡ map without_index (settled list)
unfolding settled
settled-keys list =
    ap (λ es. groups_settled (frames_settled es)) (links-keys list)
    ∙ ap groups_settled (frames-keys (settled_links list))
    ∙ map-map grouped without_index (frames_settled (settled_links list))
    ∙ sym (map-map without_index grouped (frames_settled (settled_links list)))

-- ---- some of the elements
frames-linked : (list : List ElementValue) (id : List ℕ) → has_frame (settled_links list) id ≡ has_frame list id
frames-linked list id =
    sym (list_any-map unlinked (is_frame_of id) (settled_links list))
    ∙ ap (list_any (is_frame_of id)) (unlinked-links list) ∙ list_any-map unlinked (is_frame_of id) list

-- the element of an id after links, and after frames and groups too
framed_of : (names : List ℕ → Bool) (id : List ℕ) (e : ElementValue) → has_id id (framed names e) ≡ has_id id e
framed_of names id e = either (keeps_frame names e) where
  either : (b : Bool) → has_id id (cond b e (without_frame e)) ≡ has_id id e
  either true = refl
  either false = refl

found-framed : (list : List ElementValue) (id : List ℕ) → element_of (groups_settled (frames_settled list)) id
    ≡ option_map grouped (option_map (framed (has_frame list)) (element_of list id))
found-framed list id =
    find-map (has_id id) grouped (frames_settled list)
    ∙ ap (option_map grouped) (find-map (has_id id) (framed (has_frame list)) list
    ∙ ap (option_map (framed (has_frame list))) (λ i. find (λ e. framed_of (has_frame list) id e i) list))

module _ (list : List ElementValue) (among : ElementValue → Bool) (id : List ℕ) (distinct : HaveDistinctIds list)
    (seen : HasAllSeenFramed among list id) where
  framed-near : (o : Option ElementValue) → find (has_id id) list ≡ o
      → option_map (framed (has_frame (settled_links (filter among list))))
      (option_map (λ e. with_settled_links (settled_texts list) (with_settled_container list e)) o)
      ≡ option_map (framed (has_frame (settled_links list)))
      (option_map (λ e. with_settled_links (settled_texts list) (with_settled_container list e)) o)
  framed-near None is = refl
  framed-near (Some e) is =
      let y = with_settled_links (settled_texts list) (with_settled_container list e) in
      ap Some
      ((λ i. framed (λ fid. frames-linked (filter among list) fid i) y)
      ∙ framed-among list among y (λ frame there is_one names. seen.framed e frame is names there is_one)
      ∙ (λ i. framed (λ fid. sym (frames-linked list fid) i) y))

  pub settled-seen : settled_of (filter among list) id ≡ settled_of list id
  unfolding settled
  settled-seen =
      let names = has_frame (settled_links (filter among list)) in
      let of_list = found-settled id list in
      found-framed (settled_links (filter among list)) id
      ∙ ap (λ o. option_map grouped (option_map (framed names) o)) (seen-alone list among id distinct seen.linked)
      ∙ ap (λ o. option_map grouped (option_map (framed names) o)) of_list
      ∙ ap (option_map grouped) (framed-near (find (has_id id) list) refl)
      ∙ ap (λ o. option_map grouped (option_map (framed (has_frame (settled_links list))) o)) (sym of_list)
      ∙ sym (found-framed (settled_links list) id)

pub settled-alone : (list : List ElementValue) (among : ElementValue → Bool) (id : List ℕ) → HaveDistinctIds list
    → HasAllNear among list id → settled_of (filter among list) id ≡ settled_of list id
settled-alone list among id distinct near = settled-seen list among id distinct (record {
  linked = near-seen list among id (near-all list among id near.linked);
  framed = near.framed;
})

-- ---- what settling makes of an element but for its key
-- an element that keeps its frame name or not
abbrev framed_if : Bool → ElementValue → ElementValue
framed_if keeps e = cond keeps e (without_frame e)

abbrev framed_all : Bool → Option ElementValue → Option ElementValue
framed_all keeps o = option_map grouped (option_map (framed_if keeps) o)

-- what settling links makes of the element of an id, but for its key
abbrev linked_but_for_key : List ElementValue → List ℕ → Option ElementValue
linked_but_for_key list id = option_map without_index (find (has_id id) (settled_links list))

module _ (list : List ElementValue) (id : List ℕ) where
  -- the frame name is kept as it is before links are settled
  framed-as : (o : Option ElementValue) → find (has_id id) list ≡ o
      → option_map without_index (option_map grouped
      (option_map (framed (has_frame (settled_links list)))
      (option_map (λ e. with_settled_links (settled_texts list) (with_settled_container list e)) o)))
      ≡ framed_all (is_framed list id) (option_map without_index
      (option_map (λ e. with_settled_links (settled_texts list) (with_settled_container list e)) o))
  framed-as None is = refl
  framed-as (Some e) is =
      let y = with_settled_links (settled_texts list) (with_settled_container list e) in
      ap (λ f. Some (without_index (grouped f))) (λ i. framed (λ fid. frames-linked list fid i) y)
      ∙ kept (keeps_frame (has_frame list) e) y
      ∙ ap (λ b. Some (grouped (framed_if b (without_index y))))
      (ap (λ o. option_map_or (keeps_frame (has_frame list)) o false) (sym is))
    where
      kept : (b : Bool) (y : ElementValue) → Some (without_index (grouped (cond b y (without_frame y))))
          ≡ Some (grouped (framed_if b (without_index y)))
      kept true y = refl
      kept false y = refl

  settled-framed : settled_but_for_key list id ≡ framed_all (is_framed list id) (linked_but_for_key list id)
  unfolding settled
  settled-framed =
      let of_list = found-settled id list in
      ap (option_map without_index)
      (found-framed (settled_links list) id
      ∙ ap (λ o. option_map grouped (option_map (framed (has_frame (settled_links list))) o)) of_list)
      ∙ framed-as (find (has_id id) list) refl
      ∙ ap (λ o. framed_all (is_framed list id) (option_map without_index o)) (sym of_list)

  linked-keyless : linked_but_for_key list id ≡ find (has_id id) (settled_links (map without_index list))
  linked-keyless =
      sym (find-map (has_id id) without_index (settled_links list)) ∙ ap (find (has_id id)) (sym (links-keys list))

module _ (list : List ElementValue) (among : ElementValue → Bool) (id : List ℕ) (distinct : HaveDistinctIds list)
    (has_linked : HasAllLinked among list id) where
  pub settled-as : settled_but_for_key list id
      ≡ framed_all (is_framed list id) (find (has_id id) (settled_links (map without_index (filter among list))))
  settled-as =
      settled-framed list id
      ∙ ap (framed_all (is_framed list id))
      (ap (option_map without_index)
      (sym (seen-alone list among id distinct (near-seen list among id (near-all list among id has_linked))))
      ∙ linked-keyless (filter among list) id)

-- ---- two lists that look alike to an element
distinct-keyless : (list : List ElementValue) → HaveDistinctIds list → HaveDistinctIds (map without_index list)
distinct-keyless list distinct =
    subst (IsDistinct bytes_eq) (sym (map-map (λ (e : ElementValue). e.id) without_index list)) distinct

pub settled-looks : (list other : List ElementValue) (id : List ℕ) → HaveDistinctIds list → HaveDistinctIds other
    → LookAlikeFramed list other id → settled_but_for_key list id ≡ settled_but_for_key other id
settled-looks list other id distinct apart look =
    settled-framed list id
    ∙ ap₂ framed_all look.framed (linked-keyless list id
    ∙ looks-alike (map without_index list) (map without_index other) id (distinct-keyless list distinct)
    (distinct-keyless other apart) look.linked
    ∙ sym (linked-keyless other id))
    ∙ sym (settled-framed other id)

-- ---- two lists whose elements that pass a test are the same, but for their keys
pub settled-unchanged : (list other : List ElementValue) (among : ElementValue → Bool) (id : List ℕ)
    → HaveDistinctIds list → HaveDistinctIds other
    → map without_index (filter among list) ≡ map without_index (filter among other) → HasAllLinked among list id
    → HasAllLinked among other id
    → is_framed list id ≡ is_framed other id → settled_but_for_key list id ≡ settled_but_for_key other id
settled-unchanged list other among id distinct apart same has_linked has_linked' framed_alike =
    settled-as list among id distinct has_linked
    ∙ ap₂ (λ b es. framed_all b (find (has_id id) (settled_links es))) framed_alike same
    ∙ sym (settled-as other among id apart has_linked')

-- ---- two lists with the same elements near an id, but for their keys
pub settled-alike : (list other : List ElementValue) (id : List ℕ) → HaveDistinctIds list → HaveDistinctIds other
    → AreAlikeNear list other id → settled_but_for_key list id ≡ settled_but_for_key other id
settled-alike list other id distinct apart same =
    settled-as list (is_within 3 list id) id distinct (filter_passes (is_within 3 list id) list)
    ∙ ap₂ (λ b es. framed_all b (find (has_id id) (settled_links es))) same.framed same.linked
    ∙ sym (settled-as other (is_within 3 other id) id apart (filter_passes (is_within 3 other id) other))
