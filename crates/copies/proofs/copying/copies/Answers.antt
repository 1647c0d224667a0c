use Rattle.std.proofs.Common.{map, take_all, nat_cmp, ap, ◌∙◌, arith}
use Rattle.std.specs.BTreeSet.{contains}
use Rattle.std.specs.Cmp.Lexicographic.{slice_cmp}
use Rattle.copies.specs.Copies.{copies_of, copy_among}
use Rattle.copies.proofs.copying.copies.Goals as goal

pub returns : goal.returns
unfolding copies_of
returns c =
    let list = c.args.list.now in
    let among = contains (slice_cmp nat_cmp) c.in_ok-ids.ids in
    record {
      exact = c.from_vec.ensures ∙ c.loop-e.invariant
          ∙ ap (map (copy_among among c.args.prefix.now)) (take_all c.loop-e.e-index list (omega arith))
          ∙ ap (λ h. map (copy_among h c.args.prefix.now) list) (λ i id. c.in_ok-ids.ensures id i);
    }
