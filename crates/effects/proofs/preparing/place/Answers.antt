use Rattle.std.proofs.Common.{Some, ap, ◌∙◌}
use Rattle.effects.specs.Placing.{key_at, with_key_of, with_view_key}
use Rattle.effects.proofs.PreparingLaws.{settled-view}
use Rattle.effects.proofs.preparing.place.Goals as goal

pub returns : goal.returns
returns c =
    let lookup = c.args.lookup.now in
    let seen = lookup.shown.now in
    record {
      exact = λ e among live.
          ap (with_key_of c.in_ok-id.id c.in_ok-key.key)
          (settled-view lookup c.requires c.in_ok-keys.keys c.in_ok-keys.ensures e among live)
          ∙ ap (λ id. with_key_of id c.in_ok-key.key (with_view_key seen e)) c.in_ok-id.ensures
          ∙ ap (λ key. with_key_of c.args.id.now key (with_view_key seen e))
          (c.in_ok-key.ensures.exact ∙ ap (key_at seen c.args.spot.now (Some c.args.id.now)) c.in_ok-old.ensures);
      sound = tt;
      live = tt;
    }
