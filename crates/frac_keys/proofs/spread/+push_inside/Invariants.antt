use Rattle.frac_keys.proofs.spread.+push_inside.Given as goal

abbrev pub decreases-push_inside : goal.decreases-push_inside
decreases-push_inside l = l.n
