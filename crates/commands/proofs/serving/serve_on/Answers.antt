use Rattle.std.proofs.Common.{inl, inr, refl, ◌∙◌}
use Rattle.room_core.specs.Serving.{at_start}
use Rattle.room_core.proofs.CallerLemmas.{tells-nothing}
use Rattle.commands.proofs.Opening.{failed-at_once, served-since, wanted-at_once}
use Rattle.commands.proofs.serving.serve_on.Goals as goal

pub returns-in-Ok-clause-served : goal.returns-in-Ok-clause-served
returns-in-Ok-clause-served g c =
    served-since c.args.service.limits (at_start c.args.room.now.state) _ _ (g.L.Links.seen c.listen.new.self) _ _
    (tells-nothing _ _ c.listen.ensures.given c.listen.ensures.sent c.listen.ensures.lost) c.serve_room.ensures.served

pub returns-in-Ok-clause-listens : goal.returns-in-Ok-clause-listens
returns-in-Ok-clause-listens g c whole = record {
  once = c.serve_room.ensures.listens ∙ c.listen.ensures.listens;
  on_port = inl (c.serve_room.ensures.port ∙ c.in-Ok.ensures.ok);
}

pub returns-in-Err-Failed-clause-served : goal.returns-in-Err-Failed-clause-served
returns-in-Err-Failed-clause-served g c =
    failed-at_once c.args.service c.args.room.now.state _ _
    (tells-nothing _ _ c.listen.ensures.given c.listen.ensures.sent c.listen.ensures.lost) c.requires.service

pub returns-in-Err-Failed-clause-listens : goal.returns-in-Err-Failed-clause-listens
returns-in-Err-Failed-clause-listens g c whole = record {
  once = c.listen.ensures.listens;
  on_port = inr (
    refl,
    c.in-Err-Failed.ensures.err,
    tells-nothing _ _ c.listen.ensures.given c.listen.ensures.sent c.listen.ensures.lost,
  );
}

pub returns-in-Err-Memory-clause-served : goal.returns-in-Err-Memory-clause-served
returns-in-Err-Memory-clause-served g c =
    wanted-at_once c.args.service c.args.room.now.state _ _
    (tells-nothing _ _ c.listen.ensures.given c.listen.ensures.sent c.listen.ensures.lost) c.requires.service
