use Rattle.std.proofs.Common.{◌≡◌, None, Some, cond, length, ap₂, subst, ◌∙◌}
use Rattle.std.specs.BTreeMap.{is_at}
use Rattle.clash.specs.inner.Marks.{mark_cmp, place_of}
use Rattle.clash.proofs.MarkLaws.{AreListed-added}
use Rattle.clash.proofs.marks.add.Goals as goal

pub returns-clause-listed : goal.returns-clause-listed
returns-clause-listed c =
    let old = c.args.places.now.entries in
    let count : c.len.result ≡ length c.args.firsts.now.items =
    c.len.ensures ∙ c.in_ok-reserve.ensures.len ∙ c.args.firsts.now.ok.0 in
    rw (c.in-Ok.ensures.items, c.in_ok-reserve.ensures.items)
    (AreListed-added c.args.firsts.now.items old c.insert.new.self.entries c.args.e c.requires.listed
    (subst (λ m. place_of old m ≡ None) c.requires.mark c.requires.new)
    (λ q. c.in_ok-insert.ensures.updates.0 q
    ∙ ap₂ (λ m n. cond (is_at (mark_cmp m) q) (Some n) (place_of old q)) c.requires.mark count))
