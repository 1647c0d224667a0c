use Rattle.std.proofs.Common.{◌≡◌, ◌≢◌, ◌∷◌, ◌++◌, List, ℕ, [], Some, drop, append-nil, refl, sym, ap, subst, ◌∙◌}
use Rattle.std.proofs.lemmas.List.Elements.{All-weaker}
use Rattle.json_text.specs.Parts.{AreMembers}
use Rattle.json_text.specs.Compact.{Member as Pair, array_text, object_text}
use Rattle.json_text.specs.Members.{pairs}
use Rattle.json_text.proofs.CallerLemmas.{Value-Form, starts-same, object-starts, form-membered}
use Rattle.scene_json.specs.inner.Passes.{StandHere, IsPassed, IsStopped, HaveEnded}
use Rattle.scene_json.proofs.ItemsLeft.{array-opened}
use Rattle.scene_json.proofs.MembersLeft.{object-opened, stopped-here, ended-here}
use Rattle.scene_json.proofs.parts.members_to.Goals as goal
use Rattle.scene_json.proofs.parts.members_to.Goals.{After-name-1, After-from_vec-taken}

pub returns-then-not-begins_with-clause-shape : goal.returns-then-not-begins_with-clause-shape
returns-then-not-begins_with-clause-shape c =
    λ _ others e. c.if-not-begins_with.ensures.no refl (object-starts others).0 (c.as_bytes-bytes.ensures.value ∙ e
    ∙ (object-starts others).1)

whole : (c : After-name-1) → (all : List Pair) × AreMembers 127 all × (c.args.value.now ≡ object_text all)
    × StandHere (drop 1 c.args.value.now) all []
whole c =
    let form = form-membered 128 c.args.value.now (Value-Form c.as_bytes-bytes.ensures.compact)
    (starts-same 123 c.as_bytes-bytes.ensures.value (c.if-not-begins_with.ensures.yes refl)) in (
      form.0,
      form.1,
      form.2,
      object-opened c.args.value.now 0 form.0 [] form.1 (form.2
          ∙ sym (append-nil (object_text form.0))),
    )

pub push_members-requires : goal.push_members-requires
push_members-requires c = let w = whole c in (w.0, [], w.3)

ended : (c : After-from_vec-taken) {all : List Pair} → StandHere (drop 1 c.args.value.now) all []
    → HaveEnded (Some c.args.name.now) all (pairs c.from_vec-taken.result) [] (drop c.in_ok-end.end c.args.value.now)
ended c {all} s =
    let f = c.in_ok-end.ensures.found all [] s in
    let taken : pairs c.from_vec-taken.result ≡ f.0 =
    ap pairs c.from_vec-taken.ensures ∙ f.1 ∙ ap (λ ms. pairs ms ++ f.0) c.new-found.ensures.items in
    rw taken f.2

stopped : (c : goal.Then-bytes-end-eq91) {all : List Pair}
    → HaveEnded (Some c.args.name.now) all (pairs c.from_vec-taken.result) [] (drop c.in_ok-end.end c.args.value.now)
    → IsStopped (Some c.args.name.now) all (pairs c.from_vec-taken.result) [] (drop c.in_ok-end.end c.args.value.now)
stopped c e =
    stopped-here c.args.value.now c.in_ok-end.end e (rw (← c.as_bytes-bytes.ensures.value) c.if-bytes-end-eq91.true)

pub invariant_of-result : goal.invariant_of-result
invariant_of-result c =
    let w = whole (goal.at.invariant_of-result c).After-name-1 in
    let st = stopped c (ended (goal.at.invariant_of-result c).After-from_vec-taken w.3) in
    (st.items, (_, array-opened c.args.value.now c.in_ok-end.end st.items _ st.compact st.here))

pub returns-then-bytes-end-eq91-clause-taken : goal.returns-then-bytes-end-eq91-clause-taken
returns-then-bytes-end-eq91-clause-taken c =
    let w = whole (goal.at.returns-then-bytes-end-eq91-clause-taken c).After-name-1 in
    let st = stopped c (ended (goal.at.returns-then-bytes-end-eq91-clause-taken c).After-from_vec-taken w.3) in
    let walk = array-opened c.args.value.now c.in_ok-end.end st.items _ st.compact st.here in
    let stops = st.stops in
    let named : st.name ≡ c.args.name.now = cc in
    let all =
    st.parts ∙ ap (λ name. pairs c.from_vec-taken.result ++ (name, array_text st.items) ∷ st.behind) named in (
      st.items,
      st.behind,
      subst (AreMembers 127) all w.1,
      w.2 ∙ ap object_text all,
      (_, walk),
      record { named = st.named; valued = st.valued; items = st.items; rest = []; left = walk },
    )

pub returns-clause-taken : goal.returns-clause-taken
returns-clause-taken c =
    let w = whole (goal.at.returns-clause-taken c).After-name-1 in
    let e = ended-here c.args.value.now c.in_ok-end.end (ended (goal.at.returns-clause-taken c).After-from_vec-taken
    w.3) (rw (← c.as_bytes-bytes.ensures.value) c.if-bytes-end-eq91.false) in (
      subst (AreMembers 127) (sym e.0) w.1,
      w.2 ∙ ap object_text (sym e.0),
      All-weaker (IsPassed (Some c.args.name.now)) (λ (m : Pair). (items : List (List ℕ))
          → m ≢ (c.args.name.now, array_text items))
          (λ m passed items same. passed (ap (λ (m : Pair). Some m.0) (sym same)) items (ap (λ (m : Pair). m.1) same))
          (pairs c.from_vec-taken.result) e.1,
    )
