use Rattle.std.proofs.Common.{◌≡◌, ◌<◌, List, ℕ, [], map, ap, arith}
use Rattle.json_text.specs.Tree.{object}
use Rattle.json_text.specs.Compact.{member_text}
use Rattle.scene_json.specs.Passes.{behind_item}
use Rattle.scene_json.specs.inner.Passes.{GoesOn}
use Rattle.scene_json.specs.Walks.{Walk, Leaves, AreLeft, AreBehind}
use Rattle.scene_json.proofs.ItemsLeft.{IsNext, ends-inside, left-next, left-none, left-inside}
use Rattle.scene_json.proofs.parts.Objects.next.Goals as goal
use Rattle.scene_json.proofs.parts.Objects.next.Goals.{Else-bytes-self-eq93, After-self-1}

pub bounds-bytes-self-inside : goal.bounds-bytes-self-inside
bounds-bytes-self-inside c = rw c.as_bytes-bytes.ensures.value
    (left-inside c.self.inside.text.now c.self.inside.at c.self.invariant.0 c.self.invariant.1.0 c.self.invariant.1.1)

pub returns-then-bytes-self-eq93-clause-next : goal.returns-then-bytes-self-eq93-clause-next
returns-then-bytes-self-eq93-clause-next c =
    λ left are.
    let here : AreLeft (record { text = c.self.inside.text.now; at = c.self.inside.at }) left = rw c.self.view_is are in
    (left-none c.self.inside.text.now c.self.inside.at left here.0 here.1
    (rw (← c.as_bytes-bytes.ensures.value) c.if-bytes-self-eq93.true)).0

next : (c : Else-bytes-self-eq93) (left : List (List ℕ)) (rest : List ℕ)
    → Leaves (record { text = c.self.inside.text.now; at = c.self.inside.at }) left rest
    → IsNext c.self.inside.text.now c.self.inside.at left rest
next c left rest l = left-next c.self.inside.text.now c.self.inside.at left rest l
    (rw (← c.as_bytes-bytes.ensures.value) c.if-bytes-self-eq93.false)

pub item_at-requires : goal.item_at-requires
item_at-requires c = (_, _, (next c c.self.invariant.0 c.self.invariant.1.0 c.self.invariant.1.1).stands)

pub past_comma-self-inside-requires : goal.past_comma-self-inside-requires
past_comma-self-inside-requires c =
    let n = next (goal.at.past_comma-self-inside-requires c).Else-bytes-self-eq93 c.self.invariant.0
    c.self.invariant.1.0 c.self.invariant.1.1 in
    rw c.as_bytes-bytes.ensures.value (ends-inside c.self.inside.text.now c.in_ok-item.end [] _ n.stands.ends
    (c.in_ok-item.ensures.item _ _ n.stands).1)

after : (c : After-self-1) {left : List (List ℕ)} {rest : List ℕ}
    (n : IsNext c.self.inside.text.now c.self.inside.at left rest) →
    (c.self.inside.at < c.past_comma-self-inside.result)
    × Leaves (record { text = c.self.inside.text.now; at = c.past_comma-self-inside.result }) n.others rest
after c n =
    let goes : GoesOn c.self.inside.text.now c.in_ok-item.end c.past_comma-self-inside.result =
    rw (← c.as_bytes-bytes.ensures.value) c.past_comma-self-inside.ensures.next in
    n.goes_on c.in_ok-item.end c.past_comma-self-inside.result (c.in_ok-item.ensures.item _ _ n.stands).1 goes
    c.past_comma-self-inside.ensures.within.0

pub invariant_of-self : goal.invariant_of-self
invariant_of-self c =
    let n = next (goal.at.invariant_of-self c).Else-bytes-self-eq93 c.self.invariant.0 c.self.invariant.1.0
    c.self.invariant.1.1 in
    (n.others, (c.self.invariant.1.0, (after c n).1))

pub returns-clause-next : goal.returns-clause-next
returns-clause-next c =
    λ left are.
    let here : AreLeft (record { text = c.self.inside.text.now; at = c.self.inside.at }) left = rw c.self.view_is are in
    let n = next (goal.at.returns-clause-next c).Else-bytes-self-eq93 left here.0 here.1 in
    (n.item, n.others, n.parts, (here.0, (after c n).1), (c.in_ok-item.ensures.item _ _ n.stands).0)

pub returns-clause-taken : goal.returns-clause-taken
returns-clause-taken c =
    let n = next (goal.at.returns-clause-taken c).Else-bytes-self-eq93 c.self.invariant.0 c.self.invariant.1.0
    c.self.invariant.1.1 in
    (n.item, (c.in_ok-item.ensures.item _ _ n.stands).0)

pub returns-clause-passed : goal.returns-clause-passed
returns-clause-passed c =
    let n = next (goal.at.returns-clause-passed c).Else-bytes-self-eq93 c.self.invariant.0 c.self.invariant.1.0
    c.self.invariant.1.1 in
    let same : c.self.inside.at ≡ c.args.self.now.at = ap (λ (w : Walk). w.at) c.self.view_is in (
      omega (arith, same, (after c n).0),
      omega (arith, c.past_comma-self-inside.ensures.within, c.as_bytes-bytes.type_inv.0),
    )

pub returns-clause-behind : goal.returns-clause-behind
returns-clause-behind c =
    λ members are.
    let b : AreBehind (record { text = c.self.inside.text.now; at = c.self.inside.at }) members =
    rw c.self.view_is are in
    let n = next (goal.at.returns-clause-behind c).Else-bytes-self-eq93 b.items
    (behind_item object b.rest (map member_text members)) b.left in
    record { named = b.named; valued = b.valued; items = n.others; rest = b.rest; left = (after c n).1 }
