-- The texts of both calls were tried, as far as they came.
use Rattle.std.proofs.Common.{◌≡◌, ◌++◌, [], subst, sym, ap, ◌∙◌}
use Rattle.json_text.proofs.CallerLemmas.{on_err}
use Rattle.room_core.specs.Planned.{texts_told}
use Rattle.room_core.specs.Told.{HaveTried}
use Rattle.room_disk.proofs.KeptEvents.{tried-first, tried-twice}
use Rattle.room_disk.proofs.kept.tell.Goals as goal

pub returns-in_err-gone-clause-cut : goal.returns-in_err-gone-clause-cut
returns-in_err-gone-clause-cut g c =
    let cut = c.in_err-gone.ensures.cut in
    on_err c.from_residual.result (
      cut.0,
      cut.1 ++ texts_told c.args.kept.now,
      tried-first (g.L.Links.seen c.args.links.now) (g.L.Links.seen c.send_all.new.links) (texts_told c.args.told.now)
          (texts_told c.args.kept.now) cut.0 cut.1 cut.2,
    )

pub returns-in_err-more-clause-cut : goal.returns-in_err-more-clause-cut
returns-in_err-more-clause-cut g c =
    let cut = c.in_err-more.ensures.cut in
    on_err c.from_residual-in_err-more.result (
      c.in_ok-gone.gone.items ++ cut.0,
      cut.1,
      tried-twice (g.L.Links.seen c.args.links.now) (g.L.Links.seen c.send_all.new.links)
          (g.L.Links.seen c.send_all-2.new.links) (texts_told c.args.told.now) (texts_told c.args.kept.now)
          c.in_ok-gone.gone.items cut.0 cut.1 c.in_ok-gone.ensures.tried cut.2,
    )

pub returns-in_err-extend_from_slice-clause-cut : goal.returns-in_err-extend_from_slice-clause-cut
returns-in_err-extend_from_slice-clause-cut g c =
    on_err c.from_residual-in_err-extend_from_slice.result (
      c.in_ok-gone.gone.items ++ c.in_ok-more.more.items,
      [],
      tried-twice (g.L.Links.seen c.args.links.now) (g.L.Links.seen c.send_all.new.links)
          (g.L.Links.seen c.send_all-2.new.links) (texts_told c.args.told.now) (texts_told c.args.kept.now)
          c.in_ok-gone.gone.items c.in_ok-more.more.items [] c.in_ok-gone.ensures.tried c.in_ok-more.ensures.tried,
    )

pub returns-clause-tried : goal.returns-clause-tried
returns-clause-tried g c =
    let all : c.extend_from_slice.new.self.items ≡ c.in_ok-gone.gone.items ++ c.in_ok-more.more.items =
    c.in_ok-extend_from_slice.ensures.items ∙ ap (λ items. c.in_ok-gone.gone.items ++ items) c.deref.ensures.value in
    subst (λ gone. HaveTried (g.L.Links.seen c.args.links.now) (g.L.Links.seen c.send_all-2.new.links)
    (texts_told c.args.told.now ++ texts_told c.args.kept.now) gone [])
    (sym all)
    (tried-twice (g.L.Links.seen c.args.links.now) (g.L.Links.seen c.send_all.new.links)
    (g.L.Links.seen c.send_all-2.new.links) (texts_told c.args.told.now) (texts_told c.args.kept.now)
    c.in_ok-gone.gone.items c.in_ok-more.more.items [] c.in_ok-gone.ensures.tried c.in_ok-more.ensures.tried)
