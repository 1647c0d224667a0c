use Rattle.std.proofs.Common.{◌+◌, ℕ, List, [], ◌∷◌, ◌++◌, inl, inr, Some, map, drop, option_copied, length, sym, ap, ap₂, ◌∙◌, append_assoc, append-nil, arith}
use Rattle.std.proofs.lemmas.Bool.{both_ways}
use Rattle.std.proofs.lemmas.List.{map-append}
use Rattle.std.proofs.lemmas.List.Elements.{All-push}
use Rattle.json_text.specs.Tree.{object}
use Rattle.json_text.specs.Compact.{Member, member_text}
use Rattle.json_text.specs.Members.{pairs, pair_of}
use Rattle.json_text.proofs.CallerLemmas.{Value-deeper}
use Rattle.scene_json.specs.inner.Passes.{StandHere, EndsAt, GoesOn, IsPassed}
use Rattle.scene_json.proofs.FirstBytes.{inside, array-here, array-first}
use Rattle.scene_json.proofs.MembersLeft.{IsNextMember, behind_member, members-inside, members-none, members-next, quoted-here, value-here, end-here}
use Rattle.scene_json.proofs.parts.push_members.Goals as goal
use Rattle.scene_json.proofs.parts.push_members.Goals.{In-loop-at}

pub bounds-bytes-at : goal.bounds-bytes-at
bounds-bytes-at c =
    let l = c.loop-at.invariant.left c.requires.0 c.requires.1 c.requires.2 in
    rw c.as_bytes-bytes.ensures.value (members-inside c.args.value.now c.loop-at.at l.left c.requires.1 l.here)

next : (c : In-loop-at) (all : List Member) (rest : List ℕ)
    (s : StandHere (drop c.args.start c.args.value.now) all rest)
    → IsNextMember (drop c.loop-at.at c.args.value.now) (c.loop-at.invariant.left all rest s).left rest
next c all rest s =
    let l = c.loop-at.invariant.left all rest s in
    members-next c.args.value.now c.loop-at.at l.left rest l.here
    (rw (← c.as_bytes-bytes.ensures.value) c.loop-at-test.true)

first : (c : In-loop-at) → IsNextMember (drop c.loop-at.at c.args.value.now)
    (c.loop-at.invariant.left c.requires.0 c.requires.1 c.requires.2).left c.requires.1
first c = next c c.requires.0 c.requires.1 c.requires.2

pub text_at-requires : goal.text_at-requires
text_at-requires c = (_, _, quoted-here (first c).first)

pub bounds-bytes-colon : goal.bounds-bytes-colon
bounds-bytes-colon c =
    let v = value-here c.args.value.now c.loop-at.at c.in_ok-name.colon c.in_ok-name.name
    (first (goal.at.bounds-bytes-colon c).In-loop-at).first c.in_ok-name.ensures.found in
    rw c.as_bytes-bytes.ensures.value (inside c.args.value.now (c.in_ok-name.colon + 1) v.2)

pub returns-then-stops_at-clause-found : goal.returns-then-stops_at-clause-found
returns-then-stops_at-clause-found c =
    λ all rest s.
    let l = c.loop-at.invariant.left all rest s in
    let n = next (goal.at.returns-then-stops_at-clause-found c).In-loop-at all rest s in
    let v = value-here c.args.value.now c.loop-at.at c.in_ok-name.colon c.in_ok-name.name n.first
    c.in_ok-name.ensures.found in
    let stops = c.stops_at.ensures.0 c.if-stops_at.true in
    let a =
    array-here c.args.value.now (c.in_ok-name.colon + 1) v.2 (rw (← c.as_bytes-bytes.ensures.value) stops.1) in (
      l.passed,
      l.taken,
      inr (record {
        name = n.item.0;
        items = a.0;
        behind = n.more;
        parts =
            l.parts ∙ ap (λ left. l.passed ++ left) n.parts ∙ ap (λ value. l.passed ++ (n.item.0, value) ∷ n.more) a.2;
        stops = stops.0 ∙ ap Some v.0;
        compact = a.1;
        named = n.named;
        valued = n.valued;
        here = v.2.parts ∙ ap (λ value. value ++ behind_member rest n.more) a.2;
      }),
    )

pub next_end-end-requires : goal.next_end-end-requires
next_end-end-requires c =
    let v = value-here c.args.value.now c.loop-at.at c.in_ok-name.colon c.in_ok-name.name
    (first (goal.at.next_end-end-requires c).In-loop-at).first c.in_ok-name.ensures.found in
    omega (arith, v.1, ap length c.as_bytes-bytes.ensures.value)

pub cut-requires-clause-compact : goal.cut-requires-clause-compact
cut-requires-clause-compact c =
    let f = (first (goal.at.cut-requires-clause-compact c).In-loop-at).first in
    let ends : EndsAt c.args.value.now (c.in_ok-name.colon + 1) c.next_end-end.result =
    rw (← c.as_bytes-bytes.ensures.value) c.next_end-end.ensures.end in
    rw (end-here c.args.value.now c.loop-at.at c.in_ok-name.colon c.in_ok-name.name f c.in_ok-name.ensures.found
    c.next_end-end.result ends).1 (Value-deeper (omega arith) f.valued)

pub past_comma-at-requires : goal.past_comma-at-requires
past_comma-at-requires c =
    let ends : EndsAt c.args.value.now (c.in_ok-name.colon + 1) c.next_end-end.result =
    rw (← c.as_bytes-bytes.ensures.value) c.next_end-end.ensures.end in
    rw c.as_bytes-bytes.ensures.value (end-here c.args.value.now c.loop-at.at c.in_ok-name.colon c.in_ok-name.name
    (first (goal.at.past_comma-at-requires c).In-loop-at).first c.in_ok-name.ensures.found c.next_end-end.result
    ends).2

pub loop-at-preserved : goal.loop-at-preserved
loop-at-preserved c = record {
  past = omega (
    arith,
    c.loop-at.invariant.past,
    c.in_ok-name.ensures.within,
    c.next_end-end.ensures.within,
    c.past_comma-at.ensures.within,
  );
  left = λ all rest s.
      let l = c.loop-at.invariant.left all rest s in
      let n = next (goal.at.loop-at-preserved c).In-loop-at all rest s in
      let v = value-here c.args.value.now c.loop-at.at c.in_ok-name.colon c.in_ok-name.name n.first
      c.in_ok-name.ensures.found in
      let ends : EndsAt c.args.value.now (c.in_ok-name.colon + 1) c.next_end-end.result =
      rw (← c.as_bytes-bytes.ensures.value) c.next_end-end.ensures.end in
      let end = end-here c.args.value.now c.loop-at.at c.in_ok-name.colon c.in_ok-name.name n.first
      c.in_ok-name.ensures.found c.next_end-end.result ends in
      let goes : GoesOn c.args.value.now c.next_end-end.result c.past_comma-at.result =
      rw (← c.as_bytes-bytes.ensures.value) c.past_comma-at.ensures.next in record {
        passed = l.passed ++ n.item ∷ [];
        left = n.more;
        parts = l.parts ∙ ap (λ left. l.passed ++ left) n.parts ∙ sym (append_assoc l.passed (n.item ∷ []) n.more);
        taken = ap pairs c.in_ok-push.ensures.items
            ∙ map-append pair_of c.loop-at.found.items (record { name = c.in_ok-name.name; value = c.in_ok-value.value }
            ∷ [])
            ∙ ap₂ (λ name value. pairs c.loop-at.found.items ++ (name, value) ∷ []) v.0 (c.in_ok-value.ensures ∙ end.1)
            ∙ ap (λ ms. ms ++ n.item ∷ []) l.taken ∙ append_assoc (pairs c.args.found.now.items) l.passed (n.item ∷ []);
        others = All-push (IsPassed (option_copied c.args.stop)) l.passed n.item l.others (λ stops items e.
            both_ways _ c.if-stops_at.false (c.stops_at.ensures.1 (
              stops
                  ∙ ap Some (sym v.0),
              rw c.as_bytes-bytes.ensures.value
                  (array-first c.args.value.now (c.in_ok-name.colon + 1) v.2 items e),
            )));
        here = record { named = n.named; valued = n.valued; here = goes object rest (map member_text n.more) end.0 };
      };
}

pub returns-clause-found : goal.returns-clause-found
returns-clause-found c =
    λ all rest s.
    let l = c.loop-at.invariant.left all rest s in
    let none = members-none c.args.value.now c.loop-at.at l.left rest l.here
    (rw (← c.as_bytes-bytes.ensures.value) c.loop-at-test.false) in (
      l.passed,
      l.taken,
      inl (
        sym (l.parts ∙ ap (λ left. l.passed ++ left) none.0 ∙ append-nil l.passed),
        l.others,
        none.1,
      ),
    )
