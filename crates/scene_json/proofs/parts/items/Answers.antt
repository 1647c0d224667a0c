use Rattle.std.proofs.Common.{◌≡◌, ◌-◌, ◌<◌, ℕ, List, [], ◌∷◌, ◌++◌, take, drop, refl, ap, sym, ◌∙◌, append-nil, arith}
use Rattle.std.specs.List.{AllByRecursion}
use Rattle.json_text.specs.Compact.{array_text}
use Rattle.json_text.specs.Value.{IsCompact}
use Rattle.json_text.proofs.CallerLemmas.{Value-Form, Value-deeper, starts-same, array-starts, form-listed}
use Rattle.scene_json.proofs.ItemsLeft.{AreItemsLeft, IsNext, ends-inside, array-opened, left-next, left-inside, item-found, all-found}
use Rattle.scene_json.proofs.parts.items.Goals as goal
use Rattle.scene_json.proofs.parts.items.Goals.{After-new-found, In-loop-at}

whole : (c : After-new-found) → (all : List (List ℕ)) × AllByRecursion (IsCompact 127) all
    × (c.as_bytes-bytes.result.now ≡ array_text all)
whole c =
    let form = form-listed 128 c.args.value.now (Value-Form c.as_bytes-bytes.ensures.compact)
    (starts-same 91 c.as_bytes-bytes.ensures.value (c.if-not-begins_with.ensures.yes refl)) in
    (form.0, form.1, c.as_bytes-bytes.ensures.value ∙ form.2)

pub returns-then-not-begins_with-clause-shape : goal.returns-then-not-begins_with-clause-shape
returns-then-not-begins_with-clause-shape c =
    λ _ others e. c.if-not-begins_with.ensures.no refl (array-starts others).0 (c.as_bytes-bytes.ensures.value ∙ e
    ∙ (array-starts others).1)

pub loop-at-init : goal.loop-at-init
loop-at-init c =
    λ all compact e. rw c.new-found.ensures.items (record {
      left = all;
      parts = refl;
      walk =
          array-opened c.as_bytes-bytes.result.now 0 all [] compact (e ∙ sym (append-nil (array_text all)));
    })

pub bounds-bytes-at : goal.bounds-bytes-at
bounds-bytes-at c =
    let w = whole (goal.at.bounds-bytes-at c).After-new-found in
    let l = c.loop-at.invariant w.0 w.1 w.2 in
    left-inside c.as_bytes-bytes.result.now c.loop-at.at l.left [] l.walk

left : (c : In-loop-at) → (all : List (List ℕ))
    × AreItemsLeft c.as_bytes-bytes.result.now c.loop-at.at all c.loop-at.found.items
left c = let w = whole (goal.at.In-loop-at c).After-new-found in (w.0, c.loop-at.invariant w.0 w.1 w.2)

next : (c : In-loop-at) → IsNext c.as_bytes-bytes.result.now c.loop-at.at (left c).1.left []
next c = left-next c.as_bytes-bytes.result.now c.loop-at.at (left c).1.left [] (left c).1.walk c.loop-at-test.true

pub next_end-end-requires : goal.next_end-end-requires
next_end-end-requires c =
    let l = (left (goal.at.next_end-end-requires c).In-loop-at).1 in
    omega (arith, left-inside c.as_bytes-bytes.result.now c.loop-at.at l.left [] l.walk)

pub cut-requires-clause-compact : goal.cut-requires-clause-compact
cut-requires-clause-compact c =
    let n = next (goal.at.cut-requires-clause-compact c).In-loop-at in
    rw (← c.as_bytes-bytes.ensures.value, (c.next_end-end.ensures.end n.item _ n.stands).1)
    (Value-deeper (omega arith) n.stands.compact)

pub past_comma-at-requires : goal.past_comma-at-requires
past_comma-at-requires c =
    let n = next (goal.at.past_comma-at-requires c).In-loop-at in
    ends-inside c.as_bytes-bytes.result.now c.next_end-end.result [] _ n.stands.ends
    (c.next_end-end.ensures.end n.item _ n.stands).0

after : (c : goal.After-past_comma-at) {all : List (List ℕ)}
    → AreItemsLeft c.as_bytes-bytes.result.now c.loop-at.at all c.loop-at.found.items
    → (c.loop-at.at < c.past_comma-at.result)
    × AreItemsLeft c.as_bytes-bytes.result.now c.past_comma-at.result all (c.loop-at.found.items
    ++ take (c.next_end-end.result - c.loop-at.at) (drop c.loop-at.at c.as_bytes-bytes.result.now) ∷ [])
after c l = item-found l c.next_end-end.result c.past_comma-at.result c.loop-at-test.true c.next_end-end.ensures.end
    c.past_comma-at.ensures.next c.past_comma-at.ensures.within.0

pub loop-at-smaller : goal.loop-at-smaller
loop-at-smaller c =
    omega (arith, (after c (left (goal.at.loop-at-smaller c).In-loop-at).1).0, c.past_comma-at.ensures.within)

pub loop-at-preserved : goal.loop-at-preserved
loop-at-preserved c = λ all compact e. rw (
  c.in_ok-push.ensures.items,
  c.in_ok-cut.ensures,
  ← c.as_bytes-bytes.ensures.value,
) (after c (c.loop-at.invariant all compact e)).1

found : (c : goal.After-from_vec) (all : List (List ℕ)) → AllByRecursion (IsCompact 127) all
    → c.as_bytes-bytes.result.now ≡ array_text all → c.from_vec.result ≡ all
found c all compact e = c.from_vec.ensures ∙ sym (all-found (c.loop-at.invariant all compact e) c.loop-at-test.false)

pub returns-clause-spelled : goal.returns-clause-spelled
returns-clause-spelled c =
    let w = whole (goal.at.returns-clause-spelled c).After-new-found in
    sym c.as_bytes-bytes.ensures.value ∙ w.2 ∙ ap array_text (sym (found c w.0 w.1 w.2))

pub returns-clause-compact : goal.returns-clause-compact
returns-clause-compact c =
    let w = whole (goal.at.returns-clause-compact c).After-new-found in rw (found c w.0 w.1 w.2) w.1

pub returns-clause-only : goal.returns-clause-only
returns-clause-only c = λ all compact e. found c all compact (c.as_bytes-bytes.ensures.value ∙ e)
