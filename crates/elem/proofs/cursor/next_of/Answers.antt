use Rattle.std.proofs.Common.{◌≡◌, [], ◌∷◌, map, drop}
use Rattle.std.proofs.lemmas.List.{nil_from_length}
use Rattle.elem.specs.inner.Left.{value_left}
use Rattle.elem.specs.inner.Printing.{members_below, header_name, header_pair}
use Rattle.elem.proofs.Leaving.{header-splits}
use Rattle.elem.proofs.cursor.next_of.Goals as goal

pub returns-in-None-next_below : goal.returns-in-None-next_below
returns-in-None-next_below c =
    let e = c.args.source.e.now in
    let h = c.in-Some.header.now in
    let hs = c.in-Some.others.now in
    let all : c.args.headers.now ≡ h ∷ hs = search (c.in-Some.ensures) in
    let none : members_below (header_name h) (drop c.args.at c.args.rest.now) ≡ [] =
    rw (← c.name.ensures) c.in-None-next_below.ensures.first in
    rw all (header-splits c.args.first (header_pair e h) (map (header_pair e) hs) (drop c.args.at c.args.rest.now)
    c.header_piece-piece.result.0 (value_left c.header_piece-piece.result.1) none c.header_piece-piece.ensures)

pub returns-in-None : goal.returns-in-None
returns-in-None c =
    let none : c.args.headers.now ≡ [] = nil_from_length c.args.headers.now c.in-None.ensures.cases in
    rw none (c.next_kept.ensures c.args.source)
