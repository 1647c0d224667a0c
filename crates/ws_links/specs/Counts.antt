-- What contracts see of links over sockets: nothing of what they carry. This project's own.
use Rattle.std.specs.Prelude.{ℕ, Option, None}
use Rattle.board_ends.specs.Ends.{LinksEnd}

-- The port that is listened on, how many calls of `listen` there were, how many calls of `listen`
-- and `next` failed, and how many sends found their link gone.
pub record LinkCounts : Type 0 where
  pub port : Option ℕ
  pub listens : ℕ
  pub faults : ℕ
  pub gone : ℕ

-- what is seen of such links: they tell no content
abbrev pub untold_links : LinkCounts → LinksEnd
untold_links counts = record {
  port = counts.port;
  listens = counts.listens;
  given = None;
  sent = None;
  lost = None;
  faults = counts.faults;
  gone = counts.gone;
}
