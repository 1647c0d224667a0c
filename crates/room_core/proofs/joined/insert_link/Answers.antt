-- A search among rising links ends at the link, or at its place.
use Rattle.std.proofs.Common.{◌≡◌, ℕ, ◌<◌, ◌≤◌, List, Result, Ok, Err, IsOk, is_ok, if◌then◌else◌, insert, length, ◌∙◌}
use Rattle.std.proofs.lemmas.List.Sorted.{searched}
use Rattle.std.proofs.lemmas.Map.Keys.{sorted_from_strictly_increasing, non_decreasing_from_sorted}
use Rattle.room_core.proofs.JoinedLinks.{with_link-found, with_link-absent, insert-rises}
use Rattle.room_core.proofs.joined.insert_link.Goals as goal

-- what is there after an insertion that succeeds
inserted : {A E : Type 0} (r : Result A E) (xs ys new : List ℕ) → IsOk r → new ≡ (if is_ok r then xs else ys) → new ≡ xs
inserted (Ok a) xs ys new ok is = is
inserted (Err e) xs ys new ok is = absurd cc

pub returns-in-Ok-clause-with_link : goal.returns-in-Ok-clause-with_link
returns-in-Ok-clause-with_link c =
    let xs = c.args.joined.now.items in
    let up = λ (i j : ℕ) (a : i ≤ j) (b : j < length xs). non_decreasing_from_sorted xs
    (sorted_from_strictly_increasing xs c.requires.rising) i j 0 a b in
    let found =
    searched xs c.args.link (Ok c.in-Ok.field-0) (rw c.deref.ensures.value at c.in-Ok.ensures.position) up in
    with_link-found xs c.args.link c.in-Ok.field-0 c.requires.rising found.0 found.1

pub returns-in-Err-clause-with_link : goal.returns-in-Err-clause-with_link
returns-in-Err-clause-with_link c =
    let xs = c.args.joined.now.items in
    let up = λ (i j : ℕ) (a : i ≤ j) (b : j < length xs). non_decreasing_from_sorted xs
    (sorted_from_strictly_increasing xs c.requires.rising) i j 0 a b in
    let place = searched xs c.args.link (Err c.in-Err.at) (rw c.deref.ensures.value at c.in-Err.ensures.position) up in
    inserted c.insert.result (insert xs c.in-Err.at c.args.link) xs _ (c.insert.ensures.succeeds c.requires.room)
    c.insert.ensures.items
    ∙ with_link-absent xs c.args.link c.in-Err.at place.0 place.1 place.2

pub returns-in-Err-clause-rising : goal.returns-in-Err-clause-rising
returns-in-Err-clause-rising c =
    let xs = c.args.joined.now.items in
    let up = λ (i j : ℕ) (a : i ≤ j) (b : j < length xs). non_decreasing_from_sorted xs
    (sorted_from_strictly_increasing xs c.requires.rising) i j 0 a b in
    let place = searched xs c.args.link (Err c.in-Err.at) (rw c.deref.ensures.value at c.in-Err.ensures.position) up in
    rw (inserted c.insert.result (insert xs c.in-Err.at c.args.link) xs _ (c.insert.ensures.succeeds c.requires.room)
    c.insert.ensures.items)
    (insert-rises xs c.args.link c.in-Err.at place.0 place.1 place.2 c.requires.rising)
