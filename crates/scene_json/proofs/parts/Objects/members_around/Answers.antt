use Rattle.std.proofs.Common.{◌+◌, ◌<◌, ◌++◌, List, [], drop, map, ap, ◌∙◌, arith}
use Rattle.json_text.specs.Tree.{object}
use Rattle.json_text.specs.Compact.{Member, member_text}
use Rattle.json_text.specs.Members.{pairs}
use Rattle.scene_json.specs.inner.Passes.{StandHere}
use Rattle.scene_json.specs.Walks.{AreBehind}
use Rattle.scene_json.proofs.ItemsLeft.{behind-ends, ends-inside, left-next, left-none, left-inside}
use Rattle.scene_json.proofs.MembersLeft.{all-ended}
use Rattle.scene_json.proofs.parts.Objects.members_around.Goals as goal
use Rattle.scene_json.proofs.parts.Objects.members_around.Goals.{After-past_comma-at, After-past_comma}

pub loop-at-init : goal.loop-at-init
loop-at-init c = λ members behind. rw c.as_bytes-bytes.ensures.value (rw c.self.view_is behind)

pub bounds-bytes-at : goal.bounds-bytes-at
bounds-bytes-at c = let b = c.loop-at.invariant c.requires.0 c.requires.1 in
    left-inside c.as_bytes-bytes.result.now c.loop-at.at b.items _ b.left

pub next_end-requires : goal.next_end-requires
next_end-requires c =
    let b = c.loop-at.invariant c.requires.0 c.requires.1 in
    omega (arith, left-inside c.as_bytes-bytes.result.now c.loop-at.at b.items _ b.left)

pub past_comma-at-requires : goal.past_comma-at-requires
past_comma-at-requires c =
    let b = c.loop-at.invariant c.requires.0 c.requires.1 in
    let n = left-next c.as_bytes-bytes.result.now c.loop-at.at b.items _ b.left c.loop-at-test.true in
    ends-inside c.as_bytes-bytes.result.now c.next_end.result [] _ n.stands.ends
    (c.next_end.ensures.end n.item _ n.stands).0

-- the item here is passed
passed : (c : After-past_comma-at) (members : List Member)
    → AreBehind (record { text = c.as_bytes-bytes.result.now; at = c.loop-at.at }) members →
    (c.loop-at.at < c.past_comma-at.result)
    × AreBehind (record { text = c.as_bytes-bytes.result.now; at = c.past_comma-at.result }) members
passed c members b =
    let n = left-next c.as_bytes-bytes.result.now c.loop-at.at b.items _ b.left c.loop-at-test.true in
    let after = n.goes_on c.next_end.result c.past_comma-at.result (c.next_end.ensures.end n.item _ n.stands).0
    c.past_comma-at.ensures.next c.past_comma-at.ensures.within.0 in
    (after.0, record { named = b.named; valued = b.valued; items = n.others; rest = b.rest; left = after.1 })

pub loop-at-smaller : goal.loop-at-smaller
loop-at-smaller c = omega (
  arith,
  (passed c c.requires.0 (c.loop-at.invariant c.requires.0 c.requires.1)).0,
  c.past_comma-at.ensures.within,
)

pub loop-at-preserved : goal.loop-at-preserved
loop-at-preserved c = λ members behind. (passed c members (c.loop-at.invariant members behind)).1

pub past_comma-requires : goal.past_comma-requires
past_comma-requires c =
    let b = c.loop-at.invariant c.requires.0 c.requires.1 in
    let closed = left-none c.as_bytes-bytes.result.now c.loop-at.at b.items _ b.left c.loop-at-test.false in
    ends-inside c.as_bytes-bytes.result.now (c.loop-at.at + 1) [] _
    (behind-ends object b.rest (map member_text c.requires.0)) closed.1

stand : (c : After-past_comma) (members : List Member)
    (b : AreBehind (record { text = c.as_bytes-bytes.result.now; at = c.loop-at.at }) members)
    → StandHere (drop c.past_comma.result c.self.inside.text.now) members b.rest
stand c members b =
    let closed = left-none c.as_bytes-bytes.result.now c.loop-at.at b.items _ b.left c.loop-at-test.false in
    rw (← c.as_bytes-bytes.ensures.value) (record {
      named = b.named;
      valued = b.valued;
      here =
          c.past_comma.ensures.next object b.rest (map member_text members) closed.1;
    })

pub push_members-requires : goal.push_members-requires
push_members-requires c =
    let b = c.loop-at.invariant c.requires.0 c.requires.1 in
    (c.requires.0, b.rest, stand c c.requires.0 b)

pub returns : goal.returns
returns c =
    λ members behind.
    let b = c.loop-at.invariant members behind in
    let f = c.in_ok-push_members.ensures.found members b.rest (stand (goal.at.returns c).After-past_comma members b) in
    ap pairs c.from_vec.ensures ∙ f.1 ∙ ap (λ ms. pairs ms ++ f.0) c.into_vec-found.ensures
    ∙ ap (λ ms. pairs c.args.before ++ ms) (all-ended f.2).0
