-- The text stands at the end of its frame.
use Rattle.std.proofs.Common.{◌∙◌, ◌-◌, sym, ap, ap₂, length, drop}
use Rattle.ws_links.specs.inner.Texts.{frame_of_text}
use Rattle.ws_links.proofs.Framing.{text-at-end}
use Rattle.ws_links.proofs.frames.make_frame.Goals as goal

pub invariant_of-result : goal.invariant_of-result
invariant_of-result c =
    let whole = ap (λ bytes. bytes.items) c.in_ok-new.ensures.ok ∙ c.in_ok-bytes.ensures in
    let counted = c.len.ensures ∙ c.in_ok-bytes.bytes.ok.0 ∙ ap length c.in_ok-bytes.ensures in
    let head = c.saturating_sub-head.ensures ∙ ap (λ n. n - length c.args.text.now) counted in
    let at-end = ap₂ drop head whole ∙ text-at-end c.args.text.now in
    record { whole = whole ∙ ap frame_of_text (sym at-end) }
