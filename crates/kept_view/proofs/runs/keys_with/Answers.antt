use Rattle.std.proofs.Common.{◌-◌, List, Option, ℕ, insert, ap₂, ◌∙◌, subst, arith}
use Rattle.std.proofs.lemmas.List.{length-map}
use Rattle.elem.specs.ElementValue.{ElementValue}
use Rattle.view.specs.Shown.{as_stored}
use Rattle.kept_view.specs.inner.Runs.{stored_keys, AreRepaired}
use Rattle.kept_view.proofs.runs.keys_with.Goals as goal

pub returns-in-Some : goal.returns-in-Some
returns-in-Some c =
    let live = c.args.live.now.items in
    let shown = c.args.shown.now.items in
    let place = c.args.place in
    let start = c.run_start-start.result in
    record {
      begins = c.run_start-start.ensures;
      end' = c.end_with-end.result;
      behind = c.end_with-end.ensures.0;
      within =
          omega (arith, c.end_with-end.ensures.1, length-map shown (λ (e : ElementValue). (as_stored live e).index));
      repaired = subst (λ part. AreRepaired (stored_keys live shown) part c.end_with-end.result c.in-Some.keys)
          (c.in_ok-insert.ensures.items
          ∙ ap₂ (λ (ps : List (Option (List ℕ))) (k : Option (List ℕ)). insert ps (place - start) k)
          c.in_ok-part.ensures c.in_ok-key_copied.ensures)
          (rw c.in-Some.is at c.in_ok-keys.ensures);
    }
