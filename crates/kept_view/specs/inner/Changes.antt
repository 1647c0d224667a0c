-- How two lists of elements differ. This project's own.
-- Only this crate's own bodies and proofs need it.
use Rattle.std.specs.Prelude.{◌≡◌, ℕ, List, [], true, None, map, slice_get, IsSomeAnd, bytes_eq, if◌then◌else◌}
use Rattle.frac_keys.specs.Rising.{are_rising}
use Rattle.elem.specs.ElementValue.{ElementValue}
use Rattle.elem_store.specs.Updates.{element_of, ids_of}
use Rattle.view.specs.Shown.{is_live, shown}

-- the element without its stamp, its file and its further members, at which no rule of what is
-- shown looks
abbrev pub outline : ElementValue → ElementValue
outline e = record e { version = 0; nonce = 0; updated = 0; file = None; rest = [] }

-- an element, with the stamp, the file and the further members of another one if it is of that
-- one's id
abbrev pub redrawn_as : ElementValue → ElementValue → ElementValue
redrawn_as new e = record e {
  version = if bytes_eq new.id e.id then new.version else e.version;
  nonce = if bytes_eq new.id e.id then new.nonce else e.nonce;
  updated = if bytes_eq new.id e.id then new.updated else e.updated;
  file = if bytes_eq new.id e.id then new.file else e.file;
  rest = if bytes_eq new.id e.id then new.rest else e.rest;
}

-- At one place these elements, whose ids rise, have one that differs from the new one at most in
-- what no rule looks at, and at the other what is shown of it, which becomes that element.
pub record IsRedrawn (live : List ElementValue) (new : ElementValue) (held_at shown_at : ℕ)
    (redrawn : ElementValue) : Type 0 where
  pub ordered : are_rising (ids_of live) ≡ true
  pub is_live : is_live new ≡ true
  pub held : IsSomeAnd (slice_get live held_at) (λ old. outline old ≡ outline new)
  pub shown : IsSomeAnd (slice_get (shown live) shown_at) (λ e. (e.id ≡ new.id)
      × (redrawn ≡ redrawn_as new e))

-- The element of the new one's id has its outline, and the new one has taken its place.
pub record HasRedrawn (live : List ElementValue) (new : ElementValue)
    (redrawn : List ElementValue) : Type 0 where
  pub ordered : are_rising (ids_of live) ≡ true
  pub is_live : is_live new ≡ true
  pub old : IsSomeAnd (element_of live new.id) (λ e. outline e ≡ outline new)
  pub place : redrawn ≡ map (redrawn_as new) live
