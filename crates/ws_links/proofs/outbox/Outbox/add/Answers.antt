-- The frame stands behind those that wait.
use Rattle.std.proofs.Common.{◌≤◌, ◌∙◌, ◌++◌, sym, ap, subst, length, map, drop}
use Rattle.std.proofs.lemmas.List.{map_push}
use Rattle.std.specs.List.{concat}
use Rattle.ws_links.specs.inner.Leaving.{first_of, frames_left}
use Rattle.ws_links.proofs.Left.{left-push, first-push}
use Rattle.ws_links.proofs.outbox.Outbox.add.Goals as goal

pub invariant_of-self-2 : goal.invariant_of-self-2
invariant_of-self-2 c =
    let made = ap (map (λ f. f.value.items)) c.in_ok-push_back.ensures.items
    ∙ map_push (λ f. f.value.items) c.self.inside.frames.items c.args.frame in
    subst (λ xss. c.self.inside.left ≤ length (first_of xss)) (sym made)
    (first-push c.self.inside.left (map (λ f. f.value.items) c.self.inside.frames.items)
    c.args.frame.value.items c.self.invariant)

pub returns-clause-added : goal.returns-clause-added
returns-clause-added c =
    let made = ap (map (λ f. f.value.items)) c.in_ok-push_back.ensures.items
    ∙ map_push (λ f. f.value.items) c.self.inside.frames.items c.args.frame in
    ap (λ xss. drop c.self.inside.left (concat xss)) made
    ∙ left-push c.self.inside.left (map (λ f. f.value.items) c.self.inside.frames.items)
    c.args.frame.value.items c.self.invariant
    ∙ ap (λ view. frames_left view ++ c.args.frame.value.items) c.self.view_is
