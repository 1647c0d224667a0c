-- The links that the test keeps are those that aren't gone.
use Rattle.std.proofs.Common.{◌≡◌, not, rules}
use Rattle.std.proofs.lemmas.Fn.{filter_same}
use Rattle.std.proofs.lemmas.List.Kept.{IsStrictlyIncreasing-filter}
use Rattle.room_core.specs.Rooms.{is_among, without}
use Rattle.room_core.proofs.joined.remove_links.Goals as goal

left : (c : goal.After-retain) → c.retain.new.self.items ≡ without c.args.joined.now.items c.args.gone.now
left c = filter_same _ (λ other. not (is_among c.args.gone.now other)) _ (λ x b f' k. search rules) _ _
    c.retain.ensures.filtered

pub returns-clause-left : goal.returns-clause-left
returns-clause-left c = left c

pub returns-clause-rising : goal.returns-clause-rising
returns-clause-rising c rise = rw (left c) (IsStrictlyIncreasing-filter (λ other. not (is_among c.args.gone.now other))
    c.args.joined.now.items rise)
