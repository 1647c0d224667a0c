use Rattle.history.proofs.StackPairs.{step-elements, step-taken}
use Rattle.history.proofs.laws.what_a_step_gives_is_taken.Goals as goal

pub returns-clause-elements : goal.returns-clause-elements
returns-clause-elements c = λ stored given time nonce from to below grown old_from are early small h stepped.
    step-elements stored are time nonce early small given from to below grown old_from h stepped

pub returns-clause-ordered : goal.returns-clause-ordered
returns-clause-ordered c = λ stored given time nonce from to below grown stepped. stepped.step.gives.ordered

pub returns-clause-taken : goal.returns-clause-taken
returns-clause-taken c = λ stored given time nonce from to below grown e stepped among. step-taken stored given time
    nonce from to below grown stepped e among
