-- What stands at a place.
use Rattle.std.proofs.Common.{ℕ, ◌-◌, List, ◌∷◌, ◌++◌, drop, ap, sym, ◌∙◌, append_assoc, take-append-drop}
use Rattle.json_text.specs.Characters.{quote}
use Rattle.json_text.specs.Walk.{Quoted}
use Rattle.json_text.proofs.CallerLemmas.{quote-Quoted}
use Rattle.members.specs.Standing.{member_at, Stands}
use Rattle.members.specs.declared.standing.Place.{Place}

-- the name's quote, a colon and the value stand there
pub named : (text : List ℕ) (p : Place) → Stands text p
    → Quoted (drop p.start text) (member_at text p).name
    ((58 ∷ (member_at text p).value) ++ drop (p.end - p.start) (drop p.start text))
named text p s =
    let n = p.end - p.start in
    quote-Quoted _ _ _ s.utf8 (sym (take-append-drop n (drop p.start text)) ∙
    ap (λ xs. xs ++ drop n (drop p.start text)) s.same ∙
    append_assoc (quote (member_at text p).name) (58 ∷ (member_at text p).value) _)
