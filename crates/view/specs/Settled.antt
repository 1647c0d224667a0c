-- The rules on texts in containers, bound arrows, frames and groups, over the whole list. This
-- project's own.
use Rattle.std.specs.Prelude.{List, [], None}
use Rattle.elem.specs.ElementValue.{ElementValue}
use Rattle.frames_groups.specs.Frames.{frames_settled, NameFrames}
use Rattle.frames_groups.specs.Groups.{groups_settled, HaveDistinctGroups}
use Rattle.links.specs.Settled.{settled_links, ArrowsAgree, TextsAgree, HaveOneText, NameTargets}

-- the elements with their texts, arrows, frames and groups settled, one after the other
unfoldable pub settled : List ElementValue → List ElementValue
settled elements = groups_settled (frames_settled (settled_links elements))

-- the element without what settling may change
abbrev pub unsettled : ElementValue → ElementValue
unsettled e = record e {
  groups = [];
  frame = None;
  bound = [];
  container = None;
  start_binding = None;
  end_binding = None;
}

-- The elements agree on their links, frames and groups: an arrow names an element exactly if that
-- element lists it, and a text a container exactly if the container lists it; an element lists one
-- text at most; each binding names a bindable target, each frame name a frame; and no element has a
-- group twice.
pub record AreSettled (elements : List ElementValue) : Type 0 where
  pub arrows : ArrowsAgree elements
  pub texts : TextsAgree elements
  pub one_text : HaveOneText elements
  pub targets : NameTargets elements
  pub frames : NameFrames elements
  pub groups : HaveDistinctGroups elements
