use Rattle.std.proofs.Common.{◌++◌, set, sym, ap, ◌∙◌, append_assoc, append-nil, arith}
use Rattle.std.proofs.lemmas.List.{nil_from_length}
use Rattle.kept_view.specs.inner.Putting.{all_put}
use Rattle.kept_view.proofs.PuttingLaws.{all_put-push, length-all_put, put-within}
use Rattle.kept_view.proofs.places.put_all.Goals as goal

pub replace-requires : goal.replace-requires
replace-requires c =
    let parts = c.loop-put.invariant.parts ∙ ap (λ rest. c.loop-put.yielded ++ rest) c.in-Some.ensures.steps.0 in
    let within = put-within c.args.elements.now.items c.args.puts.items c.loop-put.yielded c.in-Some.put
    c.next.new.self.rest.items c.requires parts in
    rw c.loop-put.invariant.items (omega (arith, within, length-all_put c.loop-put.yielded c.args.elements.now.items))

pub loop-put-preserved : goal.loop-put-preserved
loop-put-preserved c = record {
  items = c.replace.ensures.items ∙ ap (λ es. set es c.in-Some.put.at c.in-Some.put.e) c.loop-put.invariant.items
      ∙ sym (all_put-push c.loop-put.yielded c.in-Some.put c.args.elements.now.items);
  len = c.replace.ensures.len ∙ c.loop-put.invariant.len;
  room = c.replace.ensures.room ∙ c.loop-put.invariant.room;
  parts =
      rw append_assoc (c.loop-put.invariant.parts ∙ ap (λ rest. c.loop-put.yielded ++ rest) c.in-Some.ensures.steps.0);
}

pub returns-clause-items : goal.returns-clause-items
returns-clause-items c =
    let none = nil_from_length c.loop-put.put-iterator.rest.items (omega (arith, c.in-None.ensures.steps)) in
    let all =
    c.loop-put.invariant.parts ∙ ap (λ rest. c.loop-put.yielded ++ rest) none ∙ append-nil c.loop-put.yielded in
    c.loop-put.invariant.items ∙ ap (λ puts. all_put puts c.args.elements.now.items) (sym all)
