use Rattle.std.proofs.Common.{◌≡◌, length, ap, ap₂, ◌∙◌, option_copied}
use Rattle.frac_keys.specs.Between.{keys_between}
use Rattle.index_repair.specs.Keyed.{keyed, with_index}
use Rattle.index_repair.proofs.CallerLemmas.{keyed-zip}
use Rattle.copies.proofs.keying.keyed_between.Goals as goal

pub returns : goal.returns
returns c =
    let es : c.into_vec-elements.result.items ≡ c.args.elements = c.into_vec-elements.ensures in
    let count : c.len.result ≡ length c.args.elements =
    c.len.ensures ∙ (c.into_vec-elements.result.ok.0 ∙ ap length es) in
    let keys = c.into_vec.ensures ∙ (c.in_ok-keys.ensures.exact
    ∙ ap (keys_between (option_copied c.args.low) (option_copied c.args.high)) count) in
    c.from_vec.ensures ∙ (c.change_each.ensures with_index (λ e key new changed. changed)
    ∙ (keyed-zip c.into_vec-elements.result.items c.into_vec.result.items ∙ ap₂ keyed es keys))
