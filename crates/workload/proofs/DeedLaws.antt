-- One event more in a drill: its line, and how many messages there are.
use Rattle.std.proofs.Common.{◌≡◌, ◌<◌, ◌≤◌, ℕ, zero, suc, ◌+◌, List, [], ◌∷◌, ◌++◌, map, flat_map, refl, sym, ap, ◌∙◌, arith, lit≤, add-one, append_assoc}
use Rattle.std.proofs.lemmas.List.{map-append, flat_map_more}
use Rattle.workload.specs.Deeds.{deed_of, messages_of, with_deed, course}
use Rattle.workload.specs.Draws.{drawn}
use Rattle.workload.specs.Texts.{deed_text, line}
use Rattle.workload.specs.declared.deed.Deed.{Deed}
use Rattle.workload.specs.declared.deed.Deed.TheVariants.{Change, Undo, Redo, Deliver}
use Rattle.workload.specs.declared.draws.Draws.{Draws}

-- ---- messages
pub first-makes : (made : ℕ) (draws : Draws) → messages_of (deed_of 0 made draws) ≡ 1
unfolding deed_of
first-makes made draws = refl

pub messages-few : (deed : Deed) → messages_of deed ≤ 1
messages-few (Change at time capture order) = lit≤ tt
messages-few (Undo at time) = lit≤ tt
messages-few (Redo at time) = lit≤ tt
messages-few (Deliver to first last) = lit≤ tt

pub some-more : (number made : ℕ) (draws : Draws) → (0 < number → 0 < made)
    → 0 < made + messages_of (deed_of number made draws)
some-more zero made draws some = omega (arith, first-makes made draws)
some-more (suc number) made draws some = omega (arith, some (omega arith))

-- ---- one event more
-- the event that is drawn next
abbrev pub next_deed : ℕ → ℕ → Deed
next_deed seed number = deed_of number (course seed number).made (drawn (course seed number).generator)

pub course-next : (seed number : ℕ) → course seed (number + 1) ≡ with_deed (next_deed seed number) (course seed number)
unfolding course
course-next seed number = rw add-one refl

pub lines-next : (seed number : ℕ) (start out done ended : List ℕ) (deed : Deed) → deed ≡ next_deed seed number
    → out ≡ start ++ flat_map line (map deed_text (course seed number).deeds)
    → done ≡ out ++ deed_text deed → ended ≡ done ++ 10 ∷ []
    → ended ≡ start ++ flat_map line (map deed_text (course seed (number + 1)).deeds)
lines-next seed number start out done ended deed is before one two =
    let c = course seed number in
    let texts : List (List ℕ) = map deed_text c.deeds in
    let more : texts ++ deed_text deed ∷ [] ≡ map deed_text (course seed (number + 1)).deeds =
    sym (map-append deed_text c.deeds (deed ∷ []))
    ∙ (ap (λ (d : Deed). map deed_text (c.deeds ++ d ∷ [])) is
    ∙ sym (ap (λ x. map deed_text x.deeds) (course-next seed number))) in
    two ∙ (ap (λ (bytes : List ℕ). bytes ++ 10 ∷ []) one ∙ (append_assoc out (deed_text deed) (10 ∷ [])
    ∙ (ap (λ (bytes : List ℕ). bytes ++ line (deed_text deed)) before ∙ (flat_map_more line start texts (deed_text deed)
    ∙ ap (λ (all : List (List ℕ)). start ++ flat_map line all) more))))
