-- What the type of elements keeps stays where a part changes into one that may stand there.
use Rattle.std.proofs.Common.{◌≡◌, ℕ, ◌≤◌, Bool, true, List, Option, IfSome, IsUtf8}
use Rattle.std.specs.List.{All, AllByRecursion}
use Rattle.std.proofs.ByRecursion.{All-weaker}
use Rattle.std.proofs.lemmas.List.Elements.{All-from_recursion, recursion_from_All}
use Rattle.frac_keys.specs.Keys.{is_key}
use Rattle.elem.specs.declared.kind.Kind.{Kind}
use Rattle.elem.specs.declared.kind.Kind.TheVariants.{Arrow, Text}
use Rattle.elem.specs.declared.parts.BoundRef.{BoundRef}
use Rattle.elem.specs.declared.parts.Binding.{Binding}
use Rattle.elem.specs.ElementValue.{ElementValue}
use Rattle.elem.specs.Facts.{IsBinding, IsElement, greatest_whole}
use Rattle.elem.specs.Said.{HasValidTexts, IsBindingText}

-- what the type of elements keeps
pub record IsKept (e : ElementValue) : Type 0 where
  pub element : IsElement e
  pub written : HasValidTexts e

abbrev pub AreKept : List ElementValue → Type 0
AreKept es = AllByRecursion IsKept es

-- as laws say it
pub kept-from : (es : List ElementValue) → All (λ e. IsElement e × HasValidTexts e) es → AreKept es
kept-from es all =
    All-weaker (λ e. IsElement e × HasValidTexts e) IsKept
    (λ e h. record { element = h.0; written = h.1 }) es (recursion_from_All _ es all)

pub kept-to : (es : List ElementValue) → AreKept es → All (λ e. IsElement e × HasValidTexts e) es
kept-to es all =
    All-from_recursion _ es
    (All-weaker IsKept (λ e. IsElement e × HasValidTexts e) (λ e h. (h.element, h.written)) es all)

-- ---- another stamp
pub element_with_stamp : (e : ElementValue) (version nonce updated : ℕ)
    → version ≤ greatest_whole → nonce ≤ greatest_whole → updated ≤ greatest_whole
    → IsElement e → IsElement (record e { version = version; nonce = nonce; updated = updated })
element_with_stamp e version nonce updated v n u is = record {
  named = is.named;
  version = v;
  nonce = n;
  updated = u;
  kind = is.kind;
  container = is.container;
  start_binding = is.start_binding;
  end_binding = is.end_binding;
  file = is.file;
  rise = is.rise;
  free = is.free;
  nest = is.nest;
}

pub texts_with_stamp : (e : ElementValue) (version nonce updated : ℕ)
    → HasValidTexts e → HasValidTexts (record e { version = version; nonce = nonce; updated = updated })
texts_with_stamp e version nonce updated w = record {
  id = w.id;
  kind = w.kind;
  index = w.index;
  groups = w.groups;
  frame = w.frame;
  bound = w.bound;
  container = w.container;
  start_binding = w.start_binding;
  end_binding = w.end_binding;
  file = w.file;
  rest = w.rest;
}

-- ---- deleted or not
pub element_with_deleted : (e : ElementValue) (deleted : Bool)
    → IsElement e → IsElement (record e { deleted = deleted })
element_with_deleted e deleted is = record {
  named = is.named;
  version = is.version;
  nonce = is.nonce;
  updated = is.updated;
  kind = is.kind;
  container = is.container;
  start_binding = is.start_binding;
  end_binding = is.end_binding;
  file = is.file;
  rise = is.rise;
  free = is.free;
  nest = is.nest;
}

pub texts_with_deleted : (e : ElementValue) (deleted : Bool)
    → HasValidTexts e → HasValidTexts (record e { deleted = deleted })
texts_with_deleted e deleted w = record {
  id = w.id;
  kind = w.kind;
  index = w.index;
  groups = w.groups;
  frame = w.frame;
  bound = w.bound;
  container = w.container;
  start_binding = w.start_binding;
  end_binding = w.end_binding;
  file = w.file;
  rest = w.rest;
}

-- ---- other parts
-- an index is a key, an entry is text, and a binding is an end of an arrow
abbrev pub IsIndex : Option (List ℕ) → Type 0
IsIndex index = IfSome index (λ key. is_key key ≡ true)

abbrev pub HasText : BoundRef → Type 0
HasText entry = IsUtf8 entry.id

abbrev pub IsEnd : Kind → Option Binding → Type 0
IsEnd kind end' = IfSome end' (λ binding. (kind ≡ Arrow) × IsBinding binding)

module _ (e : ElementValue) (kept : IsKept e) where
  pub with_parts : (deleted : Bool) (index : Option (List ℕ)) (groups : List (List ℕ)) (frame : Option (List ℕ))
      (bound : List BoundRef) (container : Option (List ℕ)) (start_binding end_binding : Option Binding)
      → IsIndex index → AllByRecursion IsUtf8 groups → IfSome frame IsUtf8 → AllByRecursion HasText bound
      → IfSome container (λ id. e.kind ≡ Text) → IfSome container IsUtf8
      → IsEnd e.kind start_binding → IfSome start_binding IsBindingText → IsEnd e.kind end_binding
      → IfSome end_binding IsBindingText
      → IsKept (record e {
        deleted = deleted;
        index = index;
        groups = groups;
        frame = frame;
        bound = bound;
        container = container;
        start_binding = start_binding;
        end_binding = end_binding;
      })
  with_parts deleted index groups frame bound container start_binding end_binding key group_texts frame_text entry_texts
      on_text container_text starts start_text ends end_text =
      let a = kept.element in
      let w = kept.written in
      record {
        element = record {
          named = a.named;
          version = a.version;
          nonce = a.nonce;
          updated = a.updated;
          kind = a.kind;
          container = on_text;
          start_binding = starts;
          end_binding = ends;
          file = a.file;
          rise = a.rise;
          free = a.free;
          nest = a.nest;
        };
        written = record {
          id = w.id;
          kind = w.kind;
          index = key;
          groups = group_texts;
          frame = frame_text;
          bound = entry_texts;
          container = container_text;
          start_binding = start_text;
          end_binding = end_text;
          file = w.file;
          rest = w.rest;
        };
      }

  pub with_deleted : (deleted : Bool) → IsKept (record e { deleted = deleted })
  with_deleted deleted = record {
    element = element_with_deleted e deleted kept.element;
    written = texts_with_deleted e deleted kept.written;
  }

  pub with_index : (index : Option (List ℕ)) → IsIndex index → IsKept (record e { index = index })
  with_index index is =
      let a = kept.element in
      let w = kept.written in
      with_parts e.deleted index e.groups e.frame e.bound e.container e.start_binding e.end_binding is w.groups w.frame
      w.bound a.container w.container a.start_binding w.start_binding a.end_binding w.end_binding

  pub with_groups : (groups : List (List ℕ)) → AllByRecursion IsUtf8 groups → IsKept (record e { groups = groups })
  with_groups groups are =
      let a = kept.element in
      let w = kept.written in
      with_parts e.deleted e.index groups e.frame e.bound e.container e.start_binding e.end_binding w.index are w.frame
      w.bound a.container w.container a.start_binding w.start_binding a.end_binding w.end_binding

  pub with_frame : (frame : Option (List ℕ)) → IfSome frame IsUtf8 → IsKept (record e { frame = frame })
  with_frame frame is =
      let a = kept.element in
      let w = kept.written in
      with_parts e.deleted e.index e.groups frame e.bound e.container e.start_binding e.end_binding w.index w.groups is
      w.bound a.container w.container a.start_binding w.start_binding a.end_binding w.end_binding

  pub with_bound : (bound : List BoundRef) → AllByRecursion HasText bound → IsKept (record e { bound = bound })
  with_bound bound are =
      let a = kept.element in
      let w = kept.written in
      with_parts e.deleted e.index e.groups e.frame bound e.container e.start_binding e.end_binding w.index w.groups
      w.frame are a.container w.container a.start_binding w.start_binding a.end_binding w.end_binding

  pub with_container : (container : Option (List ℕ)) → IfSome container (λ id. e.kind ≡ Text) → IfSome container IsUtf8
      → IsKept (record e { container = container })
  with_container container on_text text =
      let a = kept.element in
      let w = kept.written in
      with_parts e.deleted e.index e.groups e.frame e.bound container e.start_binding e.end_binding w.index w.groups
      w.frame w.bound on_text text a.start_binding w.start_binding a.end_binding w.end_binding

  pub with_start : (binding : Option Binding) → IsEnd e.kind binding → IfSome binding IsBindingText
      → IsKept (record e { start_binding = binding })
  with_start binding is text =
      let a = kept.element in
      let w = kept.written in
      with_parts e.deleted e.index e.groups e.frame e.bound e.container binding e.end_binding w.index w.groups w.frame
      w.bound a.container w.container is text a.end_binding w.end_binding

  pub with_end' : (binding : Option Binding) → IsEnd e.kind binding → IfSome binding IsBindingText
      → IsKept (record e { end_binding = binding })
  with_end' binding is text =
      let a = kept.element in
      let w = kept.written in
      with_parts e.deleted e.index e.groups e.frame e.bound e.container e.start_binding binding w.index w.groups w.frame
      w.bound a.container w.container a.start_binding w.start_binding is text

  pub with_stamp : (version nonce updated : ℕ)
      → version ≤ greatest_whole → nonce ≤ greatest_whole → updated ≤ greatest_whole
      → IsKept (record e { version = version; nonce = nonce; updated = updated })
  with_stamp version nonce updated v n u = record {
    element = element_with_stamp e version nonce updated v n u kept.element;
    written = texts_with_stamp e version nonce updated kept.written;
  }
