use Rattle.std.proofs.Common.{◌≡◌, ℕ, List, length, Some, get_or, sym, ap, ◌∙◌, arith}
use Rattle.std.proofs.lemmas.Map.Text.{btree_map_updates_str}
use Rattle.std.specs.BTreeMap.{get_by}
use Rattle.std.specs.Cmp.Lexicographic.{slice_cmp}
use Rattle.std.specs.Ordering.{nat_cmp}
use Rattle.json_reader.specs.inner.Places.{cut}
use Rattle.json_reader.proofs.Placing.{nowhere, first_within, kept_last, kept_new}
use Rattle.json_reader.proofs.collapsing.kept_places.Goals as goal
use Rattle.json_reader.proofs.collapsing.kept_places.Goals.{After-copied, in-Some, in-None+in_ok-insert-in-None+in_ok-push-in-None}

-- what was found is the place of the name
found : (c : After-copied) → c.copied.result
    ≡ get_by
    (λ k. slice_cmp nat_cmp (cut c.args.bytes.now (get_or c.args.places.now c.loop-place.place-index nowhere).name)
    k.now) c.loop-place.known
found c = c.copied.ensures ∙ c.get.ensures.value
    ∙ ap (λ (name : List ℕ). get_by (λ k. slice_cmp nat_cmp name k.now) c.loop-place.known) c.bytes_at-name.ensures

pub keep_last-requires : goal.keep_last-requires
keep_last-requires c =
    let l = c.loop-place in
    first_within c.args.bytes.now c.args.places.now l.kept.items l.place-index _ l.repeats l.invariant (omega arith)
    c.requires c.in-Some.first
    (sym (found (goal.at.keep_last-requires c).After-copied) ∙ c.in-Some.is)

pub loop-place-preserved : goal.loop-place-preserved
loop-place-preserved c =
    let l = c.loop-place in
    let bytes = c.args.bytes.now in
    let places = c.args.places.now in
    let is = found (goal.at.loop-place-preserved c).After-copied in
    elim c.match-copied.branch [
      | in-Some w ↦
          rw (w.kept-is, w.keep_last.ensures, w.known-is, w.repeats-is)
          (kept_last bytes places l.kept.items l.place-index _ l.repeats l.invariant (omega arith) c.requires
          w.in-Some.first (sym is ∙ w.in-Some.is) _)
      | in-None+in_ok-insert-in-None+in_ok-push-in-None w ↦
          let count : w.len.result ≡ length l.kept.items = omega arith in
          rw (w.kept-is, w.in_ok-push-in-None.ensures.items, w.known-is, w.repeats-is)
          (kept_new bytes places l.kept.items l.place-index _ l.repeats l.invariant (omega arith) c.requires (sym is
          ∙ w.in-None.is) _
          (λ q. rw (← count, ← c.bytes_at-name.ensures) (btree_map_updates_str c.bytes_at-name.result.now l.known
          w.insert.new.self (Some w.len.result) w.in_ok-insert-in-None.ensures.updates q)))
    ]
