-- What settling leaves as it is, and that settling again changes nothing.
use Rattle.std.proofs.Common.{◌≡◌, List, [], ◌∷◌, map, bytes_eq, refl, sym, ap, ap₂, ◌∙◌, subst}
use Rattle.std.specs.List.{IsDistinct}
use Rattle.elem.specs.ElementValue.{ElementValue}
use Rattle.frames_groups.specs.Frames.{without_frame, frames_settled, NameFrames}
use Rattle.frames_groups.specs.Groups.{without_groups, groups_settled, HaveDistinctGroups}
use Rattle.frames_groups.proofs.CallerLemmas.{frames_settled-settled, frames_settled-others, NameFrames-settled, groups_settled-settled, groups_settled-others, settled-either, NameFrames-grouped, HaveDistinctGroups-settled}
use Rattle.elem.specs.Order.{HaveDistinctIds}
use Rattle.links.specs.Names.{id_of}
use Rattle.links.specs.Settled.{settled_links, unlinked, unplaced, ArrowsAgree, TextsAgree, HaveOneText, NameTargets}
use Rattle.links.specs.Texts.{settled_texts}
use Rattle.links.proofs.CallerLemmas.{ArrowsAgree-settled, TextsAgree-settled, HaveOneText-settled, NameTargets-settled, map-map, distinct-texts, links-again, unlinked-links, settled_texts-again, links-unplaced}
use Rattle.view.specs.Settled.{settled, unsettled, AreSettled}

-- what is the same of two lists is the same of them when less of it is looked at
module _ {A B : Type 0} (keep : ElementValue → A) (less : A → B) where
  pub map-less : (es fs : List ElementValue) → map keep es ≡ map keep fs
      → map (λ e. less (keep e)) es ≡ map (λ e. less (keep e)) fs
  map-less es fs same = sym (map-map less keep es) ∙ ap (map less) same ∙ map-map less keep fs

-- ---- what settling leaves as it is
pub unsettled-settled : (elements : List ElementValue) → map unsettled (settled elements) ≡ map unsettled elements
unfolding settled
unsettled-settled elements =
    let linked = settled_links elements in
    let framed = frames_settled linked in
    map-less without_groups unsettled (groups_settled framed) framed (groups_settled-others framed)
    ∙ (map-less without_frame unsettled framed linked (frames_settled-others linked)
    ∙ map-less unlinked unsettled linked elements (unlinked-links elements))

-- ---- settling again changes nothing
-- an element of what settling links looks at and of what it leaves as it is
assembled : ElementValue → ElementValue → ElementValue
assembled linked other = record other {
  bound = linked.bound;
  container = linked.container;
  start_binding = linked.start_binding;
  end_binding = linked.end_binding;
}

pub same_elements : (es fs : List ElementValue) → map unplaced es ≡ map unplaced fs → map unlinked es ≡ map unlinked fs
    → es ≡ fs
unfolding assembled
same_elements [] [] linked others = refl
same_elements [] (f ∷ fs) linked others = cc
same_elements (e ∷ es) [] linked others = cc
same_elements (e ∷ es) (f ∷ fs) linked others =
    let first : unplaced e ≡ unplaced f = cc in
    let other : unlinked e ≡ unlinked f = cc in
    ap₂ (λ x xs. x ∷ xs) (ap₂ assembled first other) (same_elements es fs (cc) (cc))

-- links that are settled stay so where nothing is changed that settling looks at
links-stay : (es fs : List ElementValue) → map unplaced es ≡ map unplaced fs → settled_links fs ≡ fs
    → settled_links es ≡ es
links-stay es fs same stay =
    same_elements (settled_links es) es
    (sym (links-unplaced es) ∙ (ap settled_links same ∙ (links-unplaced fs ∙ (ap (map unplaced) stay ∙ sym same))))
    (unlinked-links es)

-- the links of what is settled stay
pub links-settled : (elements : List ElementValue) → HaveDistinctIds elements
    → settled_links (settled elements) ≡ settled elements
unfolding settled
links-settled elements apart =
    let linked = settled_links elements in
    let framed = frames_settled linked in
    links-stay (groups_settled framed) linked
    (map-less without_groups unplaced (groups_settled framed) framed (groups_settled-others framed)
    ∙ map-less without_frame unplaced framed linked (frames_settled-others linked))
    (links-again elements apart)

pub settled-again : (elements : List ElementValue) → HaveDistinctIds elements
    → settled (settled elements) ≡ settled elements
unfolding settled
settled-again elements apart =
    let framed = frames_settled (settled_links elements) in
    ap (λ es. groups_settled (frames_settled es)) (links-settled elements apart)
    ∙ (ap groups_settled (settled-either framed ∙ ap groups_settled (frames_settled-settled (settled_links elements)))
    ∙ groups_settled-settled framed)

pub distinct-settled : (elements : List ElementValue) → HaveDistinctIds elements → HaveDistinctIds (settled elements)
distinct-settled elements apart =
    subst (IsDistinct bytes_eq)
    (sym (map-less unsettled id_of (settled elements) elements (unsettled-settled elements))) apart

-- ---- what holds of the settled elements
frames-settled : (elements : List ElementValue) → NameFrames (settled elements) × HaveDistinctGroups (settled elements)
unfolding settled
frames-settled elements =
    let linked = settled_links elements in (
      NameFrames-grouped (frames_settled linked) (NameFrames-settled linked),
      HaveDistinctGroups-settled (frames_settled linked),
    )

pub settled-are : (elements : List ElementValue) → HaveDistinctIds elements → AreSettled (settled elements)
settled-are elements apart =
    let same = links-settled elements apart in
    let texts = settled_texts (settled elements) in
    let distinct = distinct-texts (settled elements) (distinct-settled elements apart) in
    let frames = frames-settled elements in
    record {
      arrows = subst ArrowsAgree same (ArrowsAgree-settled texts distinct);
      texts =
          subst TextsAgree same (TextsAgree-settled texts distinct
          (settled_texts-again (settled elements) (distinct-settled elements apart)));
      one_text = subst HaveOneText same (HaveOneText-settled texts);
      targets = subst NameTargets same (NameTargets-settled texts);
      frames = frames.0;
      groups = frames.1;
    }
