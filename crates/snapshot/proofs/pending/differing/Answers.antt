-- What is stored of each id is put in its turn, or is there already.
use Rattle.std.proofs.Common.{option_copied, sym, ap, ◌∙◌}
use Rattle.undo_model.specs.Carrying.{with_all_put}
use Rattle.snapshot.proofs.TouchedLaws.{all_found, found-over, found-ordered, found-found, found-all}
use Rattle.snapshot.proofs.pending.differing.Goals as goal

pub put_differing-requires : goal.put_differing-requires
put_differing-requires c = c.loop-id.invariant.ordered

pub loop-id-preserved : goal.loop-id-preserved
loop-id-preserved c =
    let stored = c.args.store.now.elements in
    let captured = c.args.elements.now.items in
    let id = c.in-Some.id.now in
    let copies = c.loop-id.copies.items in
    let new = c.put_differing.new.copies.items in
    let old = option_copied c.find.result in
    let own = option_copied c.get.result in
    let was = c.loop-id.invariant in
    let put = c.in_ok-put_differing.ensures in
    record {
      next = tt;
      finite = tt;
      over =
          ap (all_found stored c.next.new.self) (found-over stored captured c.requires.rise id copies new old
          was.ordered was.found c.find.ensures own c.get.ensures.element put)
          ∙ sym (ap (λ ids. all_found stored ids (with_all_put copies captured)) c.in-Some.ensures.steps) ∙ was.over;
      ordered =
          found-ordered stored captured c.requires.rise id copies new old was.ordered was.found c.find.ensures own put;
      found = found-found stored captured c.requires.rise id copies new old was.ordered was.found c.find.ensures own
          c.get.ensures.element put;
    }

pub returns-clause-over : goal.returns-clause-over
returns-clause-over c =
    let stored = c.args.store.now.elements in
    let captured = c.args.elements.now.items in
    sym (ap (λ ids. all_found stored ids (with_all_put c.loop-id.copies.items captured)) c.in-None.ensures.steps.0)
    ∙ c.loop-id.invariant.over
    ∙ found-all stored captured c.requires.rise c.args.touched.now.keys c.len-2.ensures.ordered c.requires.untouched
