use Rattle.std.proofs.Common.{◌≡◌, ap, ◌∙◌, option_copied}
use Rattle.view.specs.Shown.{live_elements, shown}
use Rattle.board_paste.specs.Pasting.{last_key}
use Rattle.board_paste.proofs.pasting.keyed_above.Goals as goal

pub returns : goal.returns
returns c =
    let low : option_copied c.last_key.result ≡ last_key (shown (live_elements c.args.store.now.elements)) =
    c.last_key.ensures ∙ ap last_key c.in_ok-shown.ensures.exact in
    rw low at c.keyed_between.ensures
