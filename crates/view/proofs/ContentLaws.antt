-- What is shown of elements with other stamps, files and further members is what is shown of them, with these: no rule
-- looks at them.
use Rattle.std.proofs.Common.{◌≡◌, ℕ, Bool, true, false, cond, List, [], ◌∷◌, Option, map, refl, sym, ap, ap₂, ◌∙◌}
use Rattle.json_text.specs.declared.text.Member.{Member}
use Rattle.elem.specs.ElementValue.{ElementValue}
use Rattle.elem.specs.Order.{unstamped}
use Rattle.index_repair.specs.Keyed.{index_of, keyed}
use Rattle.index_repair.specs.Repair.{repaired}
use Rattle.frames_groups.specs.Frames.{is_frame_of, has_frame, keeps_frame, without_frame, framed, frames_settled}
use Rattle.frames_groups.specs.Groups.{grouped, groups_settled}
use Rattle.links.specs.Settled.{settled_links, unlinked, unplaced}
use Rattle.links.proofs.CallerLemmas.{map-map, unlinked-links, list_any-map, links-unplaced}
use Rattle.view.specs.Settled.{settled}
use Rattle.index_repair.specs.Keyed.{index_of, keyed}
use Rattle.view.specs.Shown.{comes_before, with_element, in_scene_order, placed, shown}
use Rattle.view.proofs.SettledLaws.{map-less, same_elements}

-- how an element's stamp, file and further members are changed, by its id
module _ (version nonce updated : List ℕ → ℕ → ℕ) (file : List ℕ → Option (List ℕ) → Option (List ℕ)) (rest : List ℕ
    → List Member → List Member) where
  abbrev pub redrawn : ElementValue → ElementValue
  redrawn e = record e {
    version = version e.id e.version;
    nonce = nonce e.id e.nonce;
    updated = updated e.id e.updated;
    file = file e.id e.file;
    rest = rest e.id e.rest;
  }

  -- ---- settling
  links-redrawn : (es : List ElementValue) → settled_links (map redrawn es) ≡ map redrawn (settled_links es)
  links-redrawn es =
      let linked = settled_links es in
      same_elements (settled_links (map redrawn es)) (map redrawn linked)
      (sym (links-unplaced (map redrawn es))
      ∙ (ap settled_links (map-map unplaced redrawn es)
      ∙ (links-unplaced es ∙ sym (map-map unplaced redrawn linked))))
      (unlinked-links (map redrawn es) ∙ (map-map unlinked redrawn es
      ∙ (sym (map-less unlinked redrawn linked es (unlinked-links es)) ∙ sym (map-map unlinked redrawn linked))))

  frame-redrawn : (kept : Bool) (e : ElementValue) → cond kept (redrawn e) (without_frame (redrawn e))
      ≡ redrawn (cond kept e (without_frame e))
  frame-redrawn true e = refl
  frame-redrawn false e = refl

  framed-redrawn : (names : List ℕ → Bool) (es : List ElementValue)
      → map (framed names) (map redrawn es) ≡ map redrawn (map (framed names) es)
  framed-redrawn names [] = refl
  framed-redrawn names (e ∷ es) = ap₂ (λ f fs. f ∷ fs) (frame-redrawn (keeps_frame names e) e) (framed-redrawn names es)

  frames-redrawn : (es : List ElementValue) → frames_settled (map redrawn es) ≡ map redrawn (frames_settled es)
  frames-redrawn es =
      ap (λ names. map (framed names) (map redrawn es)) (λ i id. list_any-map redrawn (is_frame_of id) es i)
      ∙ framed-redrawn (has_frame es) es

  groups-redrawn : (es : List ElementValue) → groups_settled (map redrawn es) ≡ map redrawn (groups_settled es)
  groups-redrawn es = map-map grouped redrawn es ∙ sym (map-map redrawn grouped es)

  settled-redrawn : (es : List ElementValue) → settled (map redrawn es) ≡ map redrawn (settled es)
  unfolding settled
  settled-redrawn es =
      ap (λ fs. groups_settled (frames_settled fs)) (links-redrawn es)
      ∙ (ap groups_settled (frames-redrawn (settled_links es)) ∙ groups-redrawn (frames_settled (settled_links es)))

  -- ---- placing
  with_element-redrawn : (e : ElementValue) (es : List ElementValue)
      → with_element comes_before (redrawn e) (map redrawn es) ≡ map redrawn (with_element comes_before e es)
  with_element-redrawn e [] = refl
  with_element-redrawn e (f ∷ fs) =
      elim (comes_before f e) as (λ b. cond b (redrawn f ∷ with_element comes_before (redrawn e) (map redrawn fs))
      (redrawn e ∷ redrawn f ∷ map redrawn fs)
      ≡ map redrawn (cond b (f ∷ with_element comes_before e fs) (e ∷ f ∷ fs))) [
        | true ↦ ap (λ gs. redrawn f ∷ gs) (with_element-redrawn e fs)
        | false ↦ refl
      ]

  order-redrawn : (es : List ElementValue) → in_scene_order (map redrawn es) ≡ map redrawn (in_scene_order es)
  order-redrawn [] = refl
  order-redrawn (e ∷ es) =
      ap (with_element comes_before (redrawn e)) (order-redrawn es) ∙ with_element-redrawn e (in_scene_order es)

  keyed-redrawn : (es : List ElementValue) (keys : List (List ℕ))
      → keyed (map redrawn es) keys ≡ map redrawn (keyed es keys)
  keyed-redrawn [] keys = refl
  keyed-redrawn (e ∷ es) [] = refl
  keyed-redrawn (e ∷ es) (key ∷ keys) = ap₂ (λ f fs. f ∷ fs) refl (keyed-redrawn es keys)

  placed-redrawn : (es : List ElementValue) → placed (map redrawn es) ≡ map redrawn (placed es)
  unfolding placed
  placed-redrawn es =
      let ordered = in_scene_order es in
      ap (λ fs. keyed fs (repaired (map index_of fs))) (order-redrawn es)
      ∙ (ap (λ indices. keyed (map redrawn ordered) (repaired indices)) (map-map index_of redrawn ordered)
      ∙ keyed-redrawn ordered (repaired (map index_of ordered)))

  pub shown-redrawn : (es : List ElementValue) → shown (map redrawn es) ≡ map redrawn (shown es)
  unfolding shown
  shown-redrawn es = ap settled (placed-redrawn es) ∙ settled-redrawn (placed es)

-- ---- stamps play no part
pub stamps-play_no_part : (live others : List ElementValue) → map unstamped live ≡ map unstamped others
    → map unstamped (shown live) ≡ map unstamped (shown others)
stamps-play_no_part live others same =
    let none : List ℕ → ℕ → ℕ = λ id n. 0 in
    let file : List ℕ → Option (List ℕ) → Option (List ℕ) = λ id f. f in
    let rest : List ℕ → List Member → List Member = λ id ms. ms in
    sym (shown-redrawn none none none file rest live) ∙ (ap shown same ∙ shown-redrawn none none none file rest others)
