use Rattle.history.proofs.StackPairs.{step-done, step-nothing, step-full}
use Rattle.history.proofs.laws.step_is_that_of_the_pairs.Goals as goal

pub returns-clause-done : goal.returns-clause-done
returns-clause-done c = λ stored given time nonce from to below grown old_from old_to are early small h k stepped.
    step-done stored are time nonce early small given from to below grown old_from h stepped old_to k

pub returns-clause-nothing : goal.returns-clause-nothing
returns-clause-nothing c = λ stored time nonce from old_from old_to are h unseen. step-nothing stored are time nonce
    from old_from old_to h unseen

pub returns-clause-full : goal.returns-clause-full
returns-clause-full c = λ stored time nonce from to old_from old_to id are h k stops. step-full stored are time nonce
    from to old_from old_to id h k stops
