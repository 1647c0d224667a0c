use Rattle.std.proofs.Common.{[], ◌∷◌, ◌++◌, length, sym, ap, ◌∙◌, append_assoc, append-nil, length-append, arith}
use Rattle.std.proofs.lemmas.List.{nil_from_length}
use Rattle.kept_view.specs.inner.Coming.{rekeyed}
use Rattle.kept_view.proofs.RekeyedLaws.{length-rekeyed, rekeyed-push}
use Rattle.kept_view.proofs.coming.set_keys.Goals as goal

pub set_key-requires : goal.set_key-requires
set_key-requires c =
    let parts = c.loop-key.invariant.parts ∙ ap (λ rest. c.loop-key.yielded ++ rest) c.in-Some.ensures.steps.0 in
    let all = ap length parts ∙ length-append c.loop-key.yielded _ in
    rw c.loop-key.invariant.items (omega (
      arith,
      all,
      c.requires,
      c.loop-key.invariant.place,
      length-rekeyed c.args.rekeying.start c.loop-key.yielded c.args.elements.now.items,
    ))

pub loop-key-preserved : goal.loop-key-preserved
loop-key-preserved c = record {
  items = c.in_ok-set_key.ensures ∙ ap (rekeyed c.loop-key.at (c.in-Some.key ∷ [])) c.loop-key.invariant.items
      ∙ rekeyed-push c.args.rekeying.start c.loop-key.yielded c.in-Some.key c.args.elements.now.items c.loop-key.at
      c.loop-key.invariant.place;
  place = omega (arith, c.loop-key.invariant.place, length-append c.loop-key.yielded (c.in-Some.key ∷ []));
  parts =
      rw append_assoc (c.loop-key.invariant.parts ∙ ap (λ rest. c.loop-key.yielded ++ rest) c.in-Some.ensures.steps.0);
}

pub returns : goal.returns
returns c =
    let none = nil_from_length c.loop-key.key-iterator.rest.items (omega (arith, c.in-None.ensures.steps)) in
    let all =
    c.loop-key.invariant.parts ∙ ap (λ rest. c.loop-key.yielded ++ rest) none ∙ append-nil c.loop-key.yielded in
    c.loop-key.invariant.items ∙ ap (λ ks. rekeyed c.args.rekeying.start ks c.args.elements.now.items) (sym all)
