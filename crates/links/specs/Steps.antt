-- How elements stand apart by who names whom. This project's own.
use Rattle.std.specs.Prelude.{ℕ, zero, suc, List, Bool, ◌&&◌, ◌||◌, filter}
use Rattle.std.specs.List.{list_any}
use Rattle.elem.specs.ElementValue.{ElementValue}
use Rattle.elem.specs.Order.{has_id}
use Rattle.links.specs.Names.{is_id, end_names}

-- whether an element's container, its frame or one of its ends names this id
abbrev pub names_id : List ℕ → ElementValue → Bool
names_id id e = (is_id id e.container || is_id id e.frame) ||
    (end_names id e.start_binding || end_names id e.end_binding)

-- whether an element links to this id: its container or one of its ends names it, whatever its
-- frame
abbrev pub links_to : List ℕ → ElementValue → Bool
links_to id e = is_id id e.container || (end_names id e.start_binding || end_names id e.end_binding)

-- whether two elements are one step of links apart: one of them links to the other
abbrev pub is_one_step : ElementValue → ElementValue → Bool
is_one_step e other = links_to other.id e || links_to e.id other

-- whether an element is of this id, or at most so many steps of links from the element of the list
-- that is
unfoldable pub is_within : ℕ → List ElementValue → List ℕ → ElementValue → Bool
is_within zero list id e = has_id id e
is_within (suc n) list id e = is_within n list id e || list_any
    (λ other. is_within n list id other && is_one_step other e) list

-- the elements of the list at most three steps of links from an id
abbrev pub near : List ElementValue → List ℕ → List ElementValue
near list id = filter (is_within 3 list id) list
