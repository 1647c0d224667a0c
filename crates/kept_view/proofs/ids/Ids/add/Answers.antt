use Rattle.std.proofs.Common.{sym, ◌∙◌}
use Rattle.std.specs.Cmp.Lexicographic.{nat_list_eq_equiv}
use Rattle.std.proofs.lemmas.Map.Keys.{IsDistinct-push}
use Rattle.links.specs.Tables.{has_seen}
use Rattle.links.proofs.CallerLemmas.{seen-more}
use Rattle.kept_view.proofs.IdLaws.{among-stays, same-push}
use Rattle.kept_view.proofs.ids.Ids.add.Goals as goal

pub returns-then-has : goal.returns-then-has
returns-then-has c = among-stays c.args.self.now.list.items c.args.id.now (sym c.has.ensures ∙ c.if-has.true)

pub invariant_of-self-2 : goal.invariant_of-self-2
invariant_of-self-2 c =
    let old = c.args.self.now in
    let id = c.args.id.now in
    rw (c.push_reserved.ensures.items, c.in_ok-reserve.ensures.items, c.in_ok-listed.ensures) (record {
      same = same-push old.list.items old.seen c.insert.new.self id old.same (λ other.
          rw c.in_ok-try_clone.ensures at c.in_ok-insert.ensures.updates.0 other
          ∙ seen-more id other (has_seen old.seen other));
      distinct = IsDistinct-push nat_list_eq_equiv old.list.items id old.distinct (sym c.has.ensures ∙ c.if-has.false);
    })
