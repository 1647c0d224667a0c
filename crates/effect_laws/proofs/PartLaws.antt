-- An element whose further members change stays an element.
use Rattle.std.proofs.Common.{◌≡◌, false, List, ℕ, Some, refl, IsUtf8}
use Rattle.std.specs.List.{AllByRecursion}
use Rattle.json_text.specs.Value.{IsCompact}
use Rattle.elem.specs.ElementValue.{ElementValue}
use Rattle.elem.specs.Facts.{is_header, names}
use Rattle.elem.proofs.CallerLemmas.{IsKept}
use Rattle.delta.specs.Rest.{with_value}
use Rattle.delta.proofs.CallerLemmas.{IsElement-rest}

module _ (e : ElementValue) (kept : IsKept e) where
  pub with_rest : (name value : List ℕ) → is_header e.kind name ≡ false → IsCompact 119 value
      → AllByRecursion IsUtf8 (names (with_value name (Some value) e.rest))
      → IsKept (record e { rest = with_value name (Some value) e.rest })
  with_rest name value free compact texts =
      let w = kept.written in
      record {
        element =
            IsElement-rest e name (Some value) (with_value name (Some value) e.rest) kept.element free compact refl;
        written = record {
          id = w.id;
          kind = w.kind;
          index = w.index;
          groups = w.groups;
          frame = w.frame;
          bound = w.bound;
          container = w.container;
          start_binding = w.start_binding;
          end_binding = w.end_binding;
          file = w.file;
          rest = texts;
        };
      }
