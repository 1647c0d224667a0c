-- The bytes that leave are the first of those that are left.
use Rattle.std.proofs.Common.{◌≡◌, ◌∙◌, ◌+◌, length, drop, map, arith, ap}
use Rattle.std.specs.List.{concat}
use Rattle.ws_links.specs.inner.Leaving.{frames_left}
use Rattle.ws_links.proofs.Left.{left-first, leaves-within}
use Rattle.ws_links.proofs.outbox.Outbox.leave.Goals as goal

pub overflow_add-self-inside : goal.overflow_add-self-inside
overflow_add-self-inside c =
    let within = leaves-within (λ f. f.value.items) c.self.inside.frames.items c.in-Some.frame.now
    c.self.inside.left c.args.count c.args.self.now
    c.in-Some.ensures.item.3.0 c.in-Some.ensures.lookup
    (ap (λ view. view.frames) c.self.view_is) (ap (λ view. view.begun) c.self.view_is)
    c.if-has_reply_first.ensures c.self.invariant c.requires in
    let small = c.len-length.type_inv in
    let counted = c.len-length.ensures ∙ ap (λ v. v.len) c.deref.ensures in
    let ok = c.in-Some.frame.now.value.ok in
    omega arith

pub returns-else-self-count-clause-frames : goal.returns-else-self-count-clause-frames
returns-else-self-count-clause-frames c not-first =
    let within = leaves-within (λ f. f.value.items) c.self.inside.frames.items c.in-Some.frame.now
    c.self.inside.left c.args.count c.args.self.now
    c.in-Some.ensures.item.3.0 c.in-Some.ensures.lookup
    (ap (λ view. view.frames) c.self.view_is) (ap (λ view. view.begun) c.self.view_is)
    c.if-has_reply_first.ensures c.self.invariant c.requires in
    let past = c.if-self-count.false in
    let counted = c.len-length.ensures ∙ ap (λ v. v.len) c.deref.ensures in
    let ok = c.in-Some.frame.now.value.ok in
    let whole : length c.in-Some.frame.now.value.items ≡ c.self.inside.left + c.args.count = omega arith in
    ap (λ items. concat (map (λ f. f.value.items) items)) c.drop_first.ensures
    ∙ left-first (λ f. f.value.items) c.self.inside.frames.items c.in-Some.frame.now c.self.inside.left c.args.count
    c.in-Some.ensures.item.3.0 c.in-Some.ensures.lookup whole
    ∙ ap (λ view. drop c.args.count (frames_left view)) c.self.view_is
