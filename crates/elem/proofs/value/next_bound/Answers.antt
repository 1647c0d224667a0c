use Rattle.std.proofs.Common.{◌≡◌, [], ◌∷◌, codes, if◌then◌else◌, append-nil, drop, arith}
use Rattle.json_text.specs.Characters.{quote}
use Rattle.json_text.specs.Compact.{Member as Pair, member_text}
use Rattle.elem.proofs.Leaving.{header-splits}
use Rattle.elem.proofs.value.next_bound.Goals as goal

pub returns-in-None : goal.returns-in-None
returns-in-None c =
    let target : Pair = (codes "elementId", quote c.args.target.now) in
    let piece : c.member-piece.result ≡ (if c.args.first then 123 else 44) ∷ member_text target =
    rw (c.member-piece.ensures, c.object_mark.ensures, c.of-target.ensures, c.as_bytes.ensures.value)
    (simp append-nil) in
    header-splits c.args.first target [] (drop c.args.at c.args.rest.now) c.member-piece.result [] c.in-None.ensures.first
    (record { parts = rw piece (simp append-nil); some = rw piece (omega arith) })
