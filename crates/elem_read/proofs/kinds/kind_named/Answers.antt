-- Where the name is none of the known ones, it is another kind's.
use Rattle.std.proofs.lemmas.Bool.{both_ways}
use Rattle.elem_read.proofs.Parts.{other-kind}
use Rattle.elem_read.proofs.kinds.kind_named.Goals as goal

pub returns-else-is-12-clause-kind : goal.returns-else-is-12-clause-kind
returns-else-is-12-clause-kind c =
    other-kind c.args.name
    (λ e. both_ways _ c.if-is.false (c.is.ensures.1 e))
    (λ e. both_ways _ c.if-is-2.false (c.is-else-is.ensures.1 e))
    (λ e. both_ways _ c.if-is-3.false (c.is-else-is-2.ensures.1 e))
    (λ e. both_ways _ c.if-is-4.false (c.is-else-is-3.ensures.1 e))
    (λ e. both_ways _ c.if-is-5.false (c.is-else-is-4.ensures.1 e))
    (λ e. both_ways _ c.if-is-6.false (c.is-else-is-5.ensures.1 e))
    (λ e. both_ways _ c.if-is-7.false (c.is-else-is-6.ensures.1 e))
    (λ e. both_ways _ c.if-is-8.false (c.is-else-is-7.ensures.1 e))
    (λ e. both_ways _ c.if-is-9.false (c.is-else-is-8.ensures.1 e))
    (λ e. both_ways _ c.if-is-10.false (c.is-else-is-9.ensures.1 e))
    (λ e. both_ways _ c.if-is-11.false (c.is-else-is-10.ensures.1 e))
    (λ e. both_ways _ c.if-is-12.false (c.is-else-is-11.ensures.1 e))
    c.requires
