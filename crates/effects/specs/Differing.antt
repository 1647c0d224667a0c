-- Whether a command changed an element. It changes no id, no kind and no file.
use Rattle.std.specs.Prelude.{Bool, true, false, not, ◌&&◌, bytes_eq}
use Rattle.std.specs.Option.{option_eq}
use Rattle.std.specs.Cmp.Lexicographic.{pointwise}
use Rattle.json_text.specs.declared.text.Member.{Member}
use Rattle.elem.specs.declared.parts.Binding.{Binding}
use Rattle.elem.specs.ElementValue.{ElementValue}
use Rattle.elem.specs.Listings.{same_listing_entry}

abbrev pub same_truth : Bool → Bool → Bool
same_truth true other = other
same_truth false other = not other

abbrev pub same_member : Member → Member → Bool
same_member member other = bytes_eq member.name other.name && bytes_eq member.value other.value

abbrev pub same_binding : Binding → Binding → Bool
same_binding binding other =
    bytes_eq binding.target other.target && pointwise same_member binding.rest other.rest

-- whether an element and what was made of it differ in a member outside the stamp
abbrev pub differs : ElementValue → ElementValue → Bool
differs e new =
    not (same_truth e.deleted new.deleted
    && (option_eq bytes_eq e.index new.index
    && (pointwise bytes_eq e.groups new.groups
    && (option_eq bytes_eq e.frame new.frame
    && (pointwise same_listing_entry e.bound new.bound
    && (option_eq bytes_eq e.container new.container
    && (option_eq same_binding e.start_binding new.start_binding
    && (option_eq same_binding e.end_binding new.end_binding
    && pointwise same_member e.rest new.rest))))))))
