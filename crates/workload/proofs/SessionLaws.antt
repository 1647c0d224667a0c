-- The text of a drill is the text of its session.
use Rattle.std.proofs.Common.{◌≡◌, ◌<◌, ◌≤◌, ℕ, zero, suc, ◌+◌, ◌-◌, List, [], ◌∷◌, ◌++◌, get_or, map, flat_map, length, drop, refl, sym, ap, subst, ◌∙◌, arith, lit<, zero-add, append_assoc, length-append, Contains}
use Rattle.std.specs.List.{AllByRecursion, range_with_len}
use Rattle.std.proofs.Math.Seq.{drop-append_seam}
use Rattle.std.proofs.lemmas.List.{length-map, length-reverse, get_or-reverse}
use Rattle.std.proofs.lemmas.List.Elements.{All-from_recursion, recursion_from_All, Contains-get_or}
use Rattle.std.proofs.lemmas.List.FromFn.{get_or-range_with_len, length-range_with_len}
use Rattle.std.proofs.lemmas.List.Sorted.{All-permutation, IsPermutation-reverse}
use Rattle.json_text.specs.Characters.{is_blank}
use Rattle.json_text.specs.Value.{Stands}
use Rattle.json_text.proofs.CallerLemmas.{Contains-to_map}
use Rattle.elem.specs.Facts.{greatest_whole}
use Rattle.session_text.specs.Sessions.{EventsLead, IsSessionOf}
use Rattle.session_text.specs.declared.event.Event.{Event}
use Rattle.session_text.specs.declared.event.Pick.TheVariants.{All}
use Rattle.workload.specs.Deeds.{most_drilled, course}
use Rattle.workload.specs.Drills.{event_of, drawn_events, last_events, drill_session}
use Rattle.workload.specs.Facts.{IsOfReplicas, IsDrill, PicksAll}
use Rattle.workload.specs.Texts.{rising, falling, deed_text, last_texts, session_header_text, line, event_texts, drill_text}
use Rattle.workload.proofs.CourseLaws.{counted, course-lines, own-events}
use Rattle.workload.proofs.EventLaws.{delivery-line, header-compact, header-says}
use Rattle.workload.proofs.LineLaws.{AreLines, lines-append, lines-lead, behind_all, last-feed}

-- ---- the last four events
range-below : (from count limit : ℕ) → from + count ≤ limit
    → AllByRecursion (λ message. message < limit) (range_with_len from count)
range-below from zero limit within = tt
range-below from (suc count) limit within = (omega arith, range-below (from + 1) count limit (omega arith))

rising-below : (made limit : ℕ) → made ≤ limit → AllByRecursion (λ message. message < limit) (rising made)
rising-below made limit within = range-below 0 made limit (omega arith)

falling-below : (made limit : ℕ) → made ≤ limit → AllByRecursion (λ message. message < limit) (falling made)
falling-below made limit within =
    let P : ℕ → Type 0 = λ message. message < limit in
    recursion_from_All P (falling made)
    (All-permutation P (rising made) (falling made) (IsPermutation-reverse (rising made))
    (All-from_recursion P (rising made) (rising-below made limit within)))

last-lines : (made : ℕ) → made ≤ most_drilled → AreLines made (last_texts made) (last_events made)
last-lines made few = (
  delivery-line made 0 (rising made) (lit< tt) (omega arith) (rising-below made made (omega arith)),
  (
    delivery-line (made + 0) 1 (falling made) (lit< tt) (omega arith) (falling-below made (made + 0) (omega arith)),
    (
      delivery-line (made + 0 + 0) 2 (rising made) (lit< tt) (omega arith)
          (rising-below made (made + 0 + 0) (omega arith)),
      (
        delivery-line (made + 0 + 0 + 0) 3 (falling made) (lit< tt) (omega arith)
            (falling-below made (made + 0 + 0 + 0) (omega arith)),
        tt,
      ),
    ),
  ),
)

-- ---- all lines
all-lines : (seed events : ℕ) → events ≤ most_drilled
    → AreLines 0 (event_texts seed events) (drawn_events seed events ++ last_events (course seed events).made)
all-lines seed events few =
    let c = course seed events in
    let is = counted seed events in
    lines-append 0 (map deed_text c.deeds) (last_texts c.made) (map event_of c.deeds) (last_events c.made)
    (course-lines seed events few)
    (subst (λ n. AreLines n (last_texts c.made) (last_events c.made)) is.made
    (last-lines c.made (omega (arith, is.few))))

-- a header, and behind it lines to the last line feed
record IsLined (head : List ℕ) (texts : List (List ℕ)) (bytes : List ℕ) : Type 0 where
  end : ℕ
  within : end ≤ length bytes
  last : drop end bytes ≡ 10 ∷ []

lined : (head : List ℕ) (texts : List (List ℕ)) → IsLined head texts (flat_map line (head ∷ texts))
lined head texts =
    let front : List ℕ = head ++ behind_all texts in
    let whole : flat_map line (head ∷ texts) ≡ front ++ 10 ∷ [] =
    append_assoc head (10 ∷ []) (flat_map line texts) ∙ (ap (λ (bytes : List ℕ). head ++ bytes) (last-feed texts)
    ∙ sym (append_assoc head (behind_all texts) (10 ∷ []))) in
    record {
      end = length front;
      within = omega (arith, ap length whole, length-append front (10 ∷ []));
      last = ap (drop (length front)) whole ∙ drop-append_seam front (10 ∷ []);
    }

header-stands : (seed : ℕ) (rest : List ℕ) → seed ≤ greatest_whole
    → Stands (line (session_header_text seed) ++ rest) (session_header_text seed) (10 ∷ rest)
header-stands seed rest small = record {
  blank = [];
  value = session_header_text seed;
  parts = append_assoc (session_header_text seed) (10 ∷ []) rest;
  space = refl;
  reads = header-compact seed small;
  ends = λ number. refl;
}

pub drill-read : (seed events : ℕ) → seed ≤ greatest_whole → events ≤ most_drilled
    → IsSessionOf (drill_text seed events) (drill_session seed events)
unfolding drill_text drill_session
drill-read seed events small few =
    let c = course seed events in
    let is = counted seed events in
    let texts = event_texts seed events in
    let all = drawn_events seed events ++ last_events c.made in
    let ends = lined (session_header_text seed) texts in
    record {
      end = ends.end;
      lead = record {
        first = 10 ∷ flat_map line texts;
        heads = (session_header_text seed, header-stands seed (flat_map line texts) small, header-says seed small);
        lead = subst (λ (rest : List ℕ). EventsLead 4 0 (10 ∷ flat_map line texts) all rest) (sym ends.last)
            (lines-lead 0 texts all (all-lines seed events few));
        few = omega (
          arith,
          length-append (drawn_events seed events) (last_events c.made),
          length-map c.deeds event_of,
          is.long,
        );
        within = ends.within;
      };
      space = ap is_blank ends.last;
    }

-- ---- what the session is
own-both : (events more : List Event) → AllByRecursion IsOfReplicas events → AllByRecursion IsOfReplicas more
    → AllByRecursion IsOfReplicas (events ++ more)
own-both [] more own others = others
own-both (event ∷ events) more own others = (own.0, own-both events more own.1 others)

pub drill-is : (seed events : ℕ) → IsDrill seed events (drill_session seed events)
unfolding drill_session
drill-is seed events =
    let c = course seed events in
    let is = counted seed events in
    record {
      replicas = refl;
      seed = refl;
      scene = refl;
      own = own-both (drawn_events seed events) (last_events c.made) (own-events c.deeds) (tt, (tt, (tt, (tt, tt))));
      drawn = drawn_events seed events;
      made = c.made;
      counted = length-map c.deeds event_of ∙ is.long;
      messages = is.made;
      events = refl;
    }

-- ---- all messages are delivered
rising-has : (made message : ℕ) → message < made → Contains (rising made) message
rising-has made message below =
    subst (Contains (rising made)) (get_or-range_with_len 0 made message 0 below ∙ zero-add message)
    (Contains-get_or (rising made) message 0 (omega (arith, length-range_with_len 0 made)))

falling-has : (made message : ℕ) → message < made → Contains (falling made) message
falling-has made message below =
    let long = length-range_with_len 0 made in
    let at : ℕ = made - 1 - message in
    let inside : at < length (rising made) = omega arith in
    let back : length (rising made) - 1 - at ≡ message = omega arith in
    let found : get_or (falling made) at 0 ≡ message =
    get_or-reverse (rising made) at 0 inside
    ∙ (ap (λ i. get_or (rising made) i 0) back
    ∙ (get_or-range_with_len 0 made message 0 below ∙ zero-add message)) in
    subst (Contains (falling made)) found
    (Contains-get_or (falling made) at 0 (omega (arith, length-reverse (rising made), inside)))

pub picks-all : (made : ℕ) → PicksAll made
picks-all made = record {
  up = λ message below. Contains-to_map All (rising made) message (rising-has made message below);
  down = λ message below. Contains-to_map All (falling made) message (falling-has made message below);
}
