use Rattle.std.proofs.Common.{◌≡◌, ◌≤◌, ◌+◌, ℕ, List, [], ◌∷◌, ◌++◌, All, map, drop, length, sym, ap, subst, ◌∙◌, append_assoc, append-nil, arith}
use Rattle.std.proofs.lemmas.List.Elements.{All-push}
use Rattle.json_text.specs.Tree.{object}
use Rattle.json_text.specs.Compact.{Member, member_text}
use Rattle.json_text.specs.Members.{pairs}
use Rattle.members.specs.Standing.{member_at, Stands}
use Rattle.members.specs.declared.standing.Place.{Place}
use Rattle.scene_json.specs.inner.Passes.{StandHere, EndsAt, GoesOn}
use Rattle.scene_json.proofs.MembersLeft.{IsNextMember, behind_member, members-inside, members-none, members-next}
use Rattle.scene_json.proofs.Placed.{IsPlaced, mark-inside, colon-inside, placed, pushed-places}
use Rattle.scene_json.proofs.parts.standing_from.Goals as goal
use Rattle.scene_json.proofs.parts.standing_from.Goals.{In-loop-at, In_ok-push}

pub bounds-bytes-at : goal.bounds-bytes-at
bounds-bytes-at c =
    let l = c.loop-at.invariant.left c.requires.0 c.requires.1 c.requires.2 in
    rw c.as_bytes-bytes.ensures.value (members-inside c.args.value.now c.loop-at.at l.0 c.requires.1 l.2)

inside : (c : In-loop-at) → c.loop-at.at + 1 ≤ length c.as_bytes-bytes.result.now
inside c =
    let l = c.loop-at.invariant.left c.requires.0 c.requires.1 c.requires.2 in
    let here = members-inside c.args.value.now c.loop-at.at l.0 c.requires.1 l.2 in
    omega (arith, here, ap length c.as_bytes-bytes.ensures.value)

pub overflow_add-at : goal.overflow_add-at
overflow_add-at c = omega (arith, inside c, c.if-bytes.false)

pub run_end-mark-requires : goal.run_end-mark-requires
run_end-mark-requires c = inside c

next : (c : In-loop-at) (all : List Member) (rest : List ℕ)
    (s : StandHere (drop c.args.start c.args.value.now) all rest)
    → IsNextMember (drop c.loop-at.at c.args.value.now) (c.loop-at.invariant.left all rest s).0 rest
next c all rest s =
    let l = c.loop-at.invariant.left all rest s in
    members-next c.args.value.now c.loop-at.at l.0 rest l.2
    (rw (← c.as_bytes-bytes.ensures.value) c.loop-at-test.true)

first : (c : In-loop-at) → IsNextMember (drop c.loop-at.at c.args.value.now)
    (c.loop-at.invariant.left c.requires.0 c.requires.1 c.requires.2).0 c.requires.1
first c = next c c.requires.0 c.requires.1 c.requires.2

pub bounds-bytes-mark : goal.bounds-bytes-mark
bounds-bytes-mark c =
    let n = first (goal.at.bounds-bytes-mark c).In-loop-at in
    mark-inside c.loop-at.at c.run_end-mark.result n.item _ c.as_bytes-bytes.ensures.value n.first
    c.run_end-mark.ensures.value

pub next_end-end-requires : goal.next_end-end-requires
next_end-end-requires c =
    let n = first (goal.at.next_end-end-requires c).In-loop-at in
    let colon =
    colon-inside c.loop-at.at c.run_end-mark.result n.item _ c.as_bytes-bytes.ensures.value n.first
    c.run_end-mark.ensures.value c.if-bytes-mark-ne34.false in
    omega (arith, colon)

here : (c : In_ok-push) {left : List Member} {rest : List ℕ}
    (n : IsNextMember (drop c.loop-at.at c.args.value.now) left rest)
    → IsPlaced c.args.value.now
    (record { start = c.loop-at.at; colon = c.run_end-mark.result + 1; end = c.next_end-end.result }) n.item
    (behind_member rest n.more)
here c n =
    let ends : EndsAt c.args.value.now (c.run_end-mark.result + 1 + 1) c.next_end-end.result =
    rw (← c.as_bytes-bytes.ensures.value) c.next_end-end.ensures.end in
    placed c.loop-at.at c.run_end-mark.result n.item _ c.as_bytes-bytes.ensures.value n.first
    c.run_end-mark.ensures.value c.if-bytes-mark-ne34.false c.next_end-end.result ends c.next_end-end.ensures.within.0

pub past_comma-at-requires : goal.past_comma-at-requires
past_comma-at-requires c =
    rw c.as_bytes-bytes.ensures.value (here c (first (goal.at.past_comma-at-requires c).In-loop-at)).inside

pub loop-at-preserved : goal.loop-at-preserved
loop-at-preserved c =
    let value = c.args.value.now in
    let old = c.loop-at.places.items in
    let p : Place =
    record { start = c.loop-at.at; colon = c.run_end-mark.result + 1; end = c.next_end-end.result } in
    let own = (goal.at.loop-at-preserved c).In_ok-push in
    let inner = (goal.at.loop-at-preserved c).In-loop-at in
    let pushed : c.push.new.self.items ≡ old ++ p ∷ [] = c.in_ok-push.ensures.items in record {
      past = omega (
        arith,
        c.loop-at.invariant.past,
        c.run_end-mark.ensures.within,
        c.next_end-end.ensures.within,
        c.past_comma-at.ensures.within,
      );
      stand = subst (All (Stands value)) (sym pushed)
          (All-push (Stands value) old p c.loop-at.invariant.stand (here own (first inner)).stands);
      left = λ all rest s.
          let l = c.loop-at.invariant.left all rest s in
          let n = next inner all rest s in
          let h = here own n in
          let M = pairs (map (member_at value) old) in
          let goes : GoesOn value c.next_end-end.result c.past_comma-at.result =
          rw (← c.as_bytes-bytes.ensures.value) c.past_comma-at.ensures.next in (
            n.more,
            l.1 ∙ ap (λ left. M ++ left) n.parts ∙ sym (append_assoc M (n.item ∷ []) n.more)
                ∙ ap (λ ms. ms ++ n.more) (sym (pushed-places value old c.push.new.self.items p h pushed)),
            record {
              named = n.named;
              valued = n.valued;
              here = goes object rest (map member_text n.more) h.behind;
            },
          );
    }

pub standing-requires : goal.standing-requires
standing-requires c =
    rw c.in_ok-try_clone.ensures c.loop-at.invariant.stand

pub returns-clause-found : goal.returns-clause-found
returns-clause-found c =
    λ all rest s.
    let l = c.loop-at.invariant.left all rest s in
    let none = members-none c.args.value.now c.loop-at.at l.0 rest l.2
    (rw (← c.as_bytes-bytes.ensures.value) c.loop-at-test.false) in (
      ap pairs (c.standing.ensures ∙ ap (λ text. map (member_at text) c.loop-at.places.items) c.in_ok-try_clone.ensures)
          ∙ sym (l.1 ∙ ap (λ left. pairs (map (member_at c.args.value.now) c.loop-at.places.items) ++ left) none.0
          ∙ append-nil (pairs (map (member_at c.args.value.now) c.loop-at.places.items))),
      none.1,
    )
