use Rattle.std.proofs.Common.{take}
use Rattle.kept_view.specs.inner.Following.{HaveFollowed}
use Rattle.kept_view.proofs.kept.Kept.follow_each.Given as goal

-- those so far are followed
abbrev pub invariant-loop-new : goal.invariant-loop-new
invariant-loop-new l = HaveFollowed l.fn.self (take l.new-index l.news.items) l.kept
