-- An element that names nothing that is gone stays as it is.
use Rattle.std.proofs.Common.{◌≡◌, ℕ, Bool, false, List, [], ◌∷◌, refl, sym, ap}
use Rattle.std.specs.List.{list_any}
use Rattle.std.proofs.lemmas.Bool.{or_parts}
use Rattle.elem.specs.declared.parts.BoundRef.{BoundRef}
use Rattle.elem.specs.ElementValue.{ElementValue}
use Rattle.links.specs.Names.{target_of}
use Rattle.effects.specs.Deleting.{kept_entries, deleted_from, has_gone_names}
use Rattle.effects.specs.Naming.{is_some_that}

all-kept : (is_gone : List ℕ → Bool) (entries : List BoundRef)
    → list_any (λ (entry : BoundRef). is_gone entry.id) entries ≡ false → kept_entries is_gone entries ≡ entries
all-kept is_gone [] h = refl
all-kept is_gone (entry ∷ entries) h =
    let parts = or_parts (is_gone entry.id) (list_any (λ (entry : BoundRef). is_gone entry.id) entries) h in
    rw parts.0 (ap (λ others. entry ∷ others) (all-kept is_gone entries parts.1))

pub deleted_from-none : (is_gone : List ℕ → Bool) (e : ElementValue) → is_gone e.id ≡ false
    → has_gone_names is_gone e ≡ false → e ≡ deleted_from is_gone e
deleted_from-none is_gone e own none =
    let entries = list_any (λ (entry : BoundRef). is_gone entry.id) e.bound in
    let f = or_parts (is_some_that is_gone e.frame) _ none in
    let c = or_parts (is_some_that is_gone e.container) _ f.1 in
    let s = or_parts (is_some_that is_gone (target_of e.start_binding)) _ c.1 in
    let n = or_parts (is_some_that is_gone (target_of e.end_binding)) entries s.1 in
    sym
    (rw (own, f.0, c.0, s.0, n.0)
    (ap (λ bound. record e { bound = bound }) (all-kept is_gone e.bound n.1)))
