-- The two names differ, and both values are flat.
use Rattle.std.proofs.Common.{[], ◌∷◌, refl, ap, arith}
use Rattle.std.specs.List.{IsDistinct}
use Rattle.std.proofs.lemmas.List.Elements.{All-from_recursion}
use Rattle.json_text.specs.Value.{IsCompact}
use Rattle.json_text.specs.declared.text.Member.{Member}
use Rattle.json_text.proofs.CallerLemmas.{Value-deeper}
use Rattle.restore_table.proofs.legacy.arrow_raw.Goals as goal

pub raw_object-requires-clause-distinct : goal.raw_object-requires-clause-distinct
unfolding IsDistinct
raw_object-requires-clause-distinct c =
    rw (
      c.from_vec.ensures,
      c.in_ok-vec.ensures.items,
      ap (λ p. p.0) c.in_ok-id.ensures,
      ap (λ p. p.0) c.in_ok-role.ensures,
    ) ((refl, tt), (tt, tt))

pub raw_object-requires-clause-values : goal.raw_object-requires-clause-values
raw_object-requires-clause-values c =
    let P : Member → Type 0 = λ member. IsCompact 127 member.value in
    let id : P c.in_ok-id.id =
    rw (ap (λ p. p.1) c.in_ok-id.ensures) (Value-deeper (omega arith) c.in_ok-raw_text.ensures.nests) in
    let role : P c.in_ok-role.role =
    rw (ap (λ p. p.1) c.in_ok-role.ensures) (Value-deeper (omega arith) c.in_ok-raw_text-2.ensures.nests) in
    rw (c.from_vec.ensures, c.in_ok-vec.ensures.items) (All-from_recursion P (c.in_ok-id.id ∷ c.in_ok-role.role ∷ [])
    (id, (role, tt)))

pub returns-clause-nests : goal.returns-clause-nests
returns-clause-nests c =
    let P : Member → Type 0 = λ member. IsCompact 0 member.value in
    let id : P c.in_ok-id.id = rw (ap (λ p. p.1) c.in_ok-id.ensures) c.in_ok-raw_text.ensures.nests in
    let role : P c.in_ok-role.role = rw (ap (λ p. p.1) c.in_ok-role.ensures) c.in_ok-raw_text-2.ensures.nests in
    c.raw_object-2.ensures.nests 0
    (rw (c.from_vec.ensures, c.in_ok-vec.ensures.items) (All-from_recursion P (c.in_ok-id.id ∷ c.in_ok-role.role ∷ [])
    (id, (role, tt))))
