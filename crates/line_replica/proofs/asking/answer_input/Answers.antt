use Rattle.line_replica.proofs.Asked.{talked, talked-in-part}
use Rattle.line_replica.proofs.asking.answer_input.Goals as goal

pub returns-clause-answered : goal.returns-clause-answered
returns-clause-answered g c other =
    let all = c.answer_lines.ensures.answered other in
    (all.0, all.1, talked c.new-talk.result c.answer_lines.new.answerer _ _ _ c.new-talk.ensures all.2)

pub returns-clause-part : goal.returns-clause-part
returns-clause-part g c failed =
    let part = c.answer_lines.ensures.part failed in
    (part.0, part.1, talked-in-part c.new-talk.result c.answer_lines.new.answerer _ _ _ c.new-talk.ensures part.2)
