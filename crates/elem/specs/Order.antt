-- Which of two elements of one id counts.
use Rattle.std.specs.Prelude.{Bool, ◌&&◌, ◌||◌, ◌==◌, nat_lt, ℕ, List, map, bytes_eq}
use Rattle.std.specs.List.{IsDistinct}
use Rattle.frac_keys.specs.Keys.{bytes_less}
use Rattle.elem.specs.ElementValue.{ElementValue}
use Rattle.elem.specs.Texts.{element_text}

-- whether an element is of this id
abbrev pub has_id : List ℕ → ElementValue → Bool
has_id id e = bytes_eq id e.id

-- no two elements have one id
abbrev pub HaveDistinctIds : List ElementValue → Type 0
HaveDistinctIds elements = IsDistinct bytes_eq (map (λ (e : ElementValue). e.id) elements)

-- whether an element's text is less than another one's in the order of their bytes. This project's
-- own.
unfoldable pub text_less : ElementValue → ElementValue → Bool
text_less a b = bytes_less (element_text a) (element_text b)

-- An update beats another one of its id if its version is higher, or the versions are equal and its
-- nonce is lower, or both are equal and its text is less. Source: Excalidraw's reconcile; the last
-- case is this project's own.
abbrev pub beats : ElementValue → ElementValue → Bool
beats new old =
    nat_lt old.version new.version
    || (new.version == old.version
    && (nat_lt new.nonce old.nonce || (new.nonce == old.nonce && text_less new old)))

-- the element without its stamp: its version, its nonce and its time
abbrev pub unstamped : ElementValue → ElementValue
unstamped e = record e { version = 0; nonce = 0; updated = 0 }
