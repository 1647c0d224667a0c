-- The text was tried on one more link.
use Rattle.std.proofs.Common.{◌≡◌, ◌<◌, ◌+◌, ◌++◌, ◌∷◌, [], Err, true, false, drop, length, get_or, refl, sym, ap, ◌∙◌, append-nil, arith}
use Rattle.json_text.proofs.CallerLemmas.{on_err}
use Rattle.room_core.specs.Planned.{texts_told}
use Rattle.room_core.specs.Told.{Try}
use Rattle.room_core.proofs.Tries.{told-next, tells-sent, tells-lost}
use Rattle.room_core.proofs.sending.send_all.Goals as goal
use Rattle.room_core.proofs.sending.send_all.Goals.{in-Ok, in-Err-Gone+in_ok-push-in-Err-Gone}

pub returns-in_err-push-in-Err-Gone-clause-cut : goal.returns-in_err-push-in-Err-Gone-clause-cut
returns-in_err-push-in-Err-Gone-clause-cut g c =
    let links = c.args.told.now.links in
    let text = c.args.told.now.text in
    let i = c.loop-link.link-index in
    let link = get_or c.as_slice-link-items.result.now i 0 in
    let after = g.L.Links.seen c.send.new.self in
    let try : Try = record { link = link; text = text; is_sent = false } in
    let facts = c.in-Err-Gone.ensures in
    let lost = tells-lost (g.L.Links.seen c.loop-link.links) after link text facts.given facts.err
    (facts.lost (ap Err c.in-Err-Gone.field-0-is)) in
    let within : i < length links = rw c.as_slice-link-items.ensures at c.loop-link-test.true in
    on_err c.from_residual.result (
      c.loop-link.gone.items ++ link ∷ [],
      drop (i + 1) (texts_told c.args.told.now),
      told-next (g.L.Links.seen c.args.links.now) (g.L.Links.seen c.loop-link.links) after links text
          c.loop-link.gone.items i try within
          (ap (λ xs. get_or xs i 0) (sym c.as_slice-link-items.ensures)) refl c.loop-link.invariant.tried lost,
    )

pub loop-link-preserved : goal.loop-link-preserved
loop-link-preserved g c =
    let links = c.args.told.now.links in
    let text = c.args.told.now.text in
    let i = c.loop-link.link-index in
    let link = get_or c.as_slice-link-items.result.now i 0 in
    let before = g.L.Links.seen c.loop-link.links in
    let after = g.L.Links.seen c.send.new.self in
    let within : i < length links = rw c.as_slice-link-items.ensures at c.loop-link-test.true in
    let here : get_or links i 0 ≡ link = ap (λ xs. get_or xs i 0) (sym c.as_slice-link-items.ensures) in
    elim c.match-send.branch [
      | in-Ok w ↦
          let facts = w.in-Ok.ensures in
          let try : Try = record { link = link; text = text; is_sent = true } in
          let tried = told-next (g.L.Links.seen c.args.links.now) before after links text c.loop-link.gone.items i try
          within here refl c.loop-link.invariant.tried
          (tells-sent before after link text facts.given (rw c.as_bytes-text.ensures at facts.ok) facts.kept) in
          record {
            tried = rw (ap (λ v. v.items) w.gone-is, ← append-nil c.loop-link.gone.items) tried;
            port = facts.port ∙ c.loop-link.invariant.port;
            listens = facts.listens ∙ c.loop-link.invariant.listens;
            counted = omega (arith, facts.counted, c.loop-link.invariant.counted);
            gone_counted = omega (arith, facts.gone_counted, c.loop-link.invariant.gone_counted);
          }
      | in-Err-Gone+in_ok-push-in-Err-Gone w ↦
          let facts = w.in-Err-Gone.ensures in
          let try : Try = record { link = link; text = text; is_sent = false } in
          let tried = told-next (g.L.Links.seen c.args.links.now) before after links text c.loop-link.gone.items i try
          within here refl c.loop-link.invariant.tried
          (tells-lost before after link text facts.given facts.err (facts.lost (ap Err w.in-Err-Gone.field-0-is))) in
          record {
            tried = rw (ap (λ v. v.items) w.gone-is, w.in_ok-push-in-Err-Gone.ensures.items) tried;
            port = facts.port ∙ c.loop-link.invariant.port;
            listens = facts.listens ∙ c.loop-link.invariant.listens;
            counted = omega (arith, facts.counted, c.loop-link.invariant.counted);
            gone_counted = omega (arith, facts.gone_counted, c.loop-link.invariant.gone_counted);
          }
    ]
