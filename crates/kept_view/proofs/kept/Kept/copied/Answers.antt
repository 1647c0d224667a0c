use Rattle.view.proofs.CallerLemmas.{HaveDistinctIds-rising}
use Rattle.kept_view.proofs.kept.Kept.copied.Goals as goal

pub table_of-requires : goal.table_of-requires
table_of-requires c = HaveDistinctIds-rising c.self.inside.live.items c.self.invariant.view.ordered
