-- Settled groups, alone and beside frames.
use Rattle.std.proofs.Common.{◌≡◌, ℕ, Bool, true, false, cond, List, map, bytes_eq, refl, sym, ap, ◌∙◌, subst}
use Rattle.std.specs.List.{IsDistinct}
use Rattle.std.proofs.lemmas.List.Elements.{All-map, All-weaker}
use Rattle.json_text.proofs.CallerLemmas.{IsDistinct-first_texts, first_texts-distinct}
use Rattle.elem.specs.ElementValue.{ElementValue}
use Rattle.frames_groups.specs.Frames.{is_frame_of, has_frame, keeps_frame, without_frame, framed, frames_settled, NameFrames}
use Rattle.frames_groups.specs.Groups.{with_groups, grouped, groups_settled, without_groups, HaveDistinctGroups}
use Rattle.frames_groups.proofs.Lists.{map-agree, map-map, map-same, list_any-map}
use Rattle.frames_groups.proofs.FrameLaws.{NameFrames-settled, frames_settled-named}

abbrev HasDistinctGroups : ElementValue → Type 0
HasDistinctGroups e = IsDistinct bytes_eq e.groups

pub HaveDistinctGroups-settled : (elements : List ElementValue) → HaveDistinctGroups (groups_settled elements)
HaveDistinctGroups-settled elements =
    All-map HasDistinctGroups grouped elements (λ k d l. IsDistinct-first_texts _)

grouped-distinct : (e : ElementValue) → HasDistinctGroups e → grouped e ≡ e
grouped-distinct e h = ap (with_groups e) (first_texts-distinct e.groups h)

pub groups_settled-distinct : (elements : List ElementValue) → HaveDistinctGroups elements
    → groups_settled elements ≡ elements
groups_settled-distinct elements h =
    map-same grouped elements (All-weaker HasDistinctGroups (λ e. grouped e ≡ e) grouped-distinct elements h)

pub groups_settled-settled : (elements : List ElementValue)
    → groups_settled (groups_settled elements) ≡ groups_settled elements
groups_settled-settled elements =
    groups_settled-distinct (groups_settled elements) (HaveDistinctGroups-settled elements)

pub groups_settled-others : (elements : List ElementValue)
    → map without_groups (groups_settled elements) ≡ map without_groups elements
groups_settled-others elements = map-map without_groups grouped elements

-- ---- beside frames
module _ (names_frame : List ℕ → Bool) where
  framed-grouped : (e : ElementValue) → framed names_frame (grouped e) ≡ grouped (framed names_frame e)
  framed-grouped e = go (keeps_frame names_frame e)
    where
      go : (kept : Bool) → cond kept (grouped e) (without_frame (grouped e)) ≡ grouped (cond kept e (without_frame e))
      go true = refl
      go false = refl

pub settled-either : (elements : List ElementValue) → frames_settled (groups_settled elements)
    ≡ groups_settled (frames_settled elements)
settled-either elements =
    let names = has_frame elements in
    ap (λ h. map (framed h) (groups_settled elements)) (λ i id. list_any-map (is_frame_of id) grouped elements
    (λ e. refl) i)
    ∙ map-map (framed names) grouped elements
    ∙ map-agree (λ e. framed names (grouped e)) (λ e. grouped (framed names e)) elements (framed-grouped names)
    ∙ sym (map-map grouped (framed names) elements)

pub NameFrames-grouped : (elements : List ElementValue) → NameFrames elements → NameFrames (groups_settled elements)
NameFrames-grouped elements h =
    subst NameFrames (settled-either elements ∙ ap groups_settled (frames_settled-named elements h))
    (NameFrames-settled (groups_settled elements))

pub HaveDistinctGroups-framed : (elements : List ElementValue) → HaveDistinctGroups elements
    → HaveDistinctGroups (frames_settled elements)
HaveDistinctGroups-framed elements h =
    subst HaveDistinctGroups (sym (settled-either elements) ∙ ap frames_settled (groups_settled-distinct elements h))
    (HaveDistinctGroups-settled (frames_settled elements))
