use Rattle.std.proofs.lemmas.List.Elements.{All-weaker}
use Rattle.elem.specs.Facts.{IsElement}
use Rattle.elem.specs.Said.{HasValidTexts}
use Rattle.elem.specs.Texts.{element_text}
use Rattle.elem_read.specs.Reading.{IsWholeElement}
use Rattle.elem_read.proofs.Whole.{IsSound-read}
use Rattle.elem_read.proofs.laws.what_is_read_is_an_element.Goals as goal

pub returns-clause-read : goal.returns-clause-read
returns-clause-read c = λ value e is. let sound = IsSound-read value e is in (sound.is_element, sound.written)

pub returns-clause-whole : goal.returns-clause-whole
returns-clause-whole c = λ elements all.
    All-weaker IsWholeElement (λ e. IsElement e × HasValidTexts e)
    (λ e whole. let sound = IsSound-read (element_text e) e whole in (sound.is_element, sound.written)) elements all
