use Rattle.commands.proofs.Existing.{answer-exists}
use Rattle.commands.proofs.laws.answer_exists.Goals as goal

pub returns : goal.returns
returns c = answer-exists c.reading_exists.ensures (λ bytes found is. (
  c.recovered_is_whole.ensures.head bytes found is,
  c.recovered_is_whole.ensures.elements bytes found is,
))
