-- What holds of a list whose links are settled, and what settling leaves as it is. This project's
-- own.
-- Only this crate's own bodies and proofs need it.
use Rattle.std.specs.Prelude.{◌==◌, Bool, not, ◌||◌, is_some, length}
use Rattle.elem.specs.ElementValue.{ElementValue}

-- whether an element names another one or lists one
abbrev pub is_linked : ElementValue → Bool
is_linked e = not (length e.bound == 0)
    || (is_some e.container || (is_some e.start_binding || is_some e.end_binding))
