use Rattle.std.proofs.Common.{◌≡◌, ◌-◌, map, filter, take, drop, ap, ◌∙◌}
use Rattle.frac_keys.specs.Rising.{are_rising}
use Rattle.links.specs.Rows.{is_for, namer_of, rows_at, LinkRows}
use Rattle.links.proofs.RowPlaces.{named-sorted, namers-between, namers-rising}
use Rattle.links.proofs.link_table.LinkTable.namers.Goals as goal

pub ends_of-start-requires : goal.ends_of-start-requires
ends_of-start-requires c = named-sorted c.self.inside.named.items c.self.inside.namers.items c.self.invariant

module _ (c : goal.After-result-1) where
  is : take (c.ends_of-start.result.1 - c.ends_of-start.result.0) (drop c.ends_of-start.result.0 c.deref.result.now)
      ≡ map namer_of (filter (is_for c.args.id.now) (rows_at c.self.inside.named.items c.self.inside.namers.items))
  is =
      ap (λ namers. take (c.ends_of-start.result.1 - c.ends_of-start.result.0) (drop c.ends_of-start.result.0 namers))
      c.deref.ensures.value
      ∙ namers-between c.self.inside.named.items c.self.inside.namers.items c.args.id.now c.ends_of-start.result.0
      c.ends_of-start.result.1 c.self.invariant.full c.ends_of-start.ensures

pub returns-clause-exact : goal.returns-clause-exact
returns-clause-exact c =
    is c ∙ ap (λ (t : LinkRows). map namer_of (filter (is_for c.args.id.now) t.rows)) c.self.view_is

pub returns-clause-rising : goal.returns-clause-rising
returns-clause-rising c = ap are_rising (is c)
    ∙ namers-rising (rows_at c.self.inside.named.items c.self.inside.namers.items) c.args.id.now c.self.invariant.rise
