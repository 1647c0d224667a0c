-- What holds of a drill after so many events.
use Rattle.std.proofs.Common.{◌≡◌, ◌<◌, ◌≤◌, ℕ, zero, suc, ◌+◌, ◌*◌, ◌==◌, List, [], ◌∷◌, ◌++◌, Bool, true, false, cond, map, length, refl, sym, ap, subst, ◌∙◌, arith, lit<, lit≤, length-append}
use Rattle.std.specs.Prelude.{nat_le}
use Rattle.std.specs.List.{AllByRecursion}
use Rattle.std.proofs.Math.Nat.{mod-lt}
use Rattle.std.proofs.lemmas.List.{map-append}
use Rattle.elem.specs.Facts.{greatest_whole}
use Rattle.board_commands.specs.declared.command.Side.TheVariants as sides
use Rattle.session_text.specs.Sessions as sessions
use Rattle.session_text.specs.Sessions.{made_after}
use Rattle.session_text.specs.declared.event.Event.{Event}
use Rattle.session_text.proofs.CallerLemmas.{made-more}
use Rattle.rand_pcg.specs.Lcg.{Lcg}
use Rattle.workload.specs.Deeds.{most_drilled, row_of, order_of, deed_of, messages_of, course}
use Rattle.workload.specs.Draws.{drawn}
use Rattle.workload.specs.inner.Draws.{IsDrawn}
use Rattle.workload.specs.Drills.{event_of}
use Rattle.workload.specs.Facts.{IsOfReplicas}
use Rattle.workload.specs.Texts.{deed_text}
use Rattle.workload.specs.declared.deed.Deed.{Deed}
use Rattle.workload.specs.declared.deed.Deed.TheVariants.{Change, Undo, Redo, Deliver}
use Rattle.workload.specs.declared.deed.Order.{Order}
use Rattle.workload.specs.declared.deed.Order.TheVariants.{Create, SetX, SetY, Place, Bind, Label, Frame, Group, Delete}
use Rattle.workload.specs.declared.draws.Draws.{Draws}
use Rattle.workload.proofs.DeedLaws.{messages-few, some-more}
use Rattle.workload.proofs.EventLaws.{IsLine, IsFine, deed-line}
use Rattle.workload.proofs.LineLaws.{AreLines, lines-append}
use Rattle.workload.proofs.OrderLaws.{IsSmall}

-- ---- what is drawn
pub drawn-within : (generator : Lcg) → IsDrawn (drawn generator)
unfolding drawn
drawn-within generator = record {
  at = mod-lt _ (lit< tt);
  row = mod-lt _ (lit< tt);
  element = mod-lt _ (lit< tt);
  other = mod-lt _ (lit< tt);
  capture = mod-lt _ (lit< tt);
}

picked : (P : Order → Type 0) (b : Bool) (x y : Order) → P x → P y → P (cond b x y)
picked P true x y one two = one
picked P false x y one two = two

order-small : (row element other : ℕ) → element < 200 → other < 200 → IsSmall (order_of row element other)
order-small row element other one two =
    picked IsSmall (nat_le row 2) (Create element) _ one
    (picked IsSmall (nat_le row 5) (SetX element other) _ (one, two)
    (picked IsSmall (row == 6) (SetY element other) _ (one, two)
    (picked IsSmall (row == 7) (Place element other) _ (one, two)
    (picked IsSmall (row == 8) (Bind sides.Start element other) _ (one, two)
    (picked IsSmall (row == 9) (Bind sides.End element other) _ (one, two)
    (picked IsSmall (row == 10) (Label element other) _ (one, two)
    (picked IsSmall (row == 11) (Frame element other) _ (one, two)
    (picked IsSmall (row == 12) (Group element other) (Delete element) (one, two) one))))))))

chosen : (P : Deed → Type 0) (a b c : Bool) (p q r s : Deed) → P p → P q → P r → P s
    → P (cond a p (cond b q (cond c r s)))
chosen P true b c p q r s one two three four = one
chosen P false true c p q r s one two three four = two
chosen P false false true p q r s one two three four = three
chosen P false false false p q r s one two three four = four

-- ---- one event
pub deed-fine : (number made : ℕ) (draws : Draws) → number < most_drilled → (0 < number → 0 < made) → IsDrawn draws
    → IsFine made (deed_of number made draws)
unfolding deed_of
deed-fine zero made draws few some within =
    (within.at, lit≤ tt, order-small 0 draws.element draws.other within.element within.other)
deed-fine (suc number) made draws few some within =
    let row = row_of (suc number) draws in
    let messages : 0 < made = some (omega arith) in
    let soon : suc number + 1 ≤ greatest_whole = omega arith in
    chosen (IsFine made) (nat_le row 13) (row == 14) (row == 15) _ _ _ _
    (within.at, soon, order-small row draws.element draws.other within.element within.other) (
      within.at,
      soon,
    ) (within.at, soon)
    (within.at, mod-lt (200 * draws.element + draws.other) messages, omega arith)

pub messages-same : (deed : Deed) → sessions.messages_of (event_of deed) ≡ messages_of deed
messages-same (Change at time capture order) = refl
messages-same (Undo at time) = refl
messages-same (Redo at time) = refl
messages-same (Deliver to first last) = refl

own-event : (deed : Deed) → IsOfReplicas (event_of deed)
own-event (Change at time capture order) = tt
own-event (Undo at time) = tt
own-event (Redo at time) = tt
own-event (Deliver to first last) = tt

-- ---- all events so far
-- Counts of events and messages.
pub record IsCounted (seed number : ℕ) : Type 0 where
  pub long : length (course seed number).deeds ≡ number
  pub few : (course seed number).made ≤ number
  pub some : 0 < number → 0 < (course seed number).made
  pub made : (course seed number).made ≡ made_after 0 (map event_of (course seed number).deeds)

pub counted : (seed number : ℕ) → IsCounted seed number
unfolding course
counted seed zero = record { long = refl; few = lit≤ tt; some = λ h. absurd (omega arith); made = refl }
counted seed (suc number) =
    let before = counted seed number in
    let c = course seed number in
    let draws = drawn c.generator in
    let deed = deed_of number c.made draws in
    record {
      long = omega (arith, length-append c.deeds (deed ∷ []), before.long);
      few = omega (arith, before.few, messages-few deed);
      some = λ h. some-more number c.made draws before.some;
      made = ap (λ n. n + messages_of deed) before.made
          ∙ (ap (λ n. made_after 0 (map event_of c.deeds) + n) (sym (messages-same deed))
          ∙ (sym (made-more 0 (map event_of c.deeds) (event_of deed))
          ∙ ap (made_after 0) (sym (map-append event_of c.deeds (deed ∷ [])))));
    }

pub own-events : (deeds : List Deed) → AllByRecursion IsOfReplicas (map event_of deeds)
own-events [] = tt
own-events (deed ∷ deeds) = (own-event deed, own-events deeds)

-- the lines of the events
pub course-lines : (seed number : ℕ) → number ≤ most_drilled
    → AreLines 0 (map deed_text (course seed number).deeds) (map event_of (course seed number).deeds)
unfolding course
course-lines seed zero few = tt
course-lines seed (suc number) few =
    let before = counted seed number in
    let c = course seed number in
    let draws = drawn c.generator in
    let deed = deed_of number c.made draws in
    let made = made_after 0 (map event_of c.deeds) in
    let fine = deed-fine number c.made draws (omega arith) before.some (drawn-within c.generator) in
    let last : IsLine made (deed_text deed) (event_of deed) =
    subst (λ n. IsLine n (deed_text deed) (event_of deed)) before.made
    (deed-line c.made deed (omega (arith, before.few)) fine) in
    let all = lines-append 0 (map deed_text c.deeds) (deed_text deed ∷ []) (map event_of c.deeds) (event_of deed ∷ [])
    (course-lines seed number (omega arith)) (last, tt) in
    subst (λ (texts : List (List ℕ)). AreLines 0 texts (map event_of (c.deeds ++ deed ∷ [])))
    (sym (map-append deed_text c.deeds (deed ∷ [])))
    (subst (λ (events : List Event). AreLines 0 (map deed_text c.deeds ++ deed_text deed ∷ []) events)
    (sym (map-append event_of c.deeds (deed ∷ []))) all)
