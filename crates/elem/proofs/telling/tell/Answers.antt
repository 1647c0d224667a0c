use Rattle.std.proofs.Common.{subst}
use Rattle.elem.specs.Facts.{IsElement}
use Rattle.elem.specs.Said.{HasValidTexts}
use Rattle.elem.proofs.telling.tell.Goals as goal

pub returns-clause-is_element : goal.returns-clause-is_element
returns-clause-is_element c = subst IsElement c.e.view_is c.e.invariant

pub returns-clause-is_written : goal.returns-clause-is_written
returns-clause-is_written c = subst HasValidTexts c.e.view_is (record {
  id = c.tell_text.ensures;
  kind = c.tell_kind.ensures;
  index = c.tell_key.ensures;
  groups = c.tell_texts.ensures;
  frame = c.tell_optional.ensures;
  bound = c.tell_entries.ensures;
  container = c.tell_optional-2.ensures;
  start_binding = c.tell_binding.ensures;
  end_binding = c.tell_binding-2.ensures;
  file = c.tell_optional-3.ensures;
  rest = c.tell_names.ensures;
})
