-- The opening elements and those of the first messages are noted, and those of them that clash are counted.
use Rattle.std.proofs.Common.{◌≡◌, ◌++◌, List, [], take, flat_map}
use Rattle.elem.specs.ElementValue.{ElementValue}
use Rattle.clash.specs.Firsts.{firsts_of}
use Rattle.session.specs.Clashes.{HaveClashes}
use Rattle.session.proofs.clashes.clashes_among.Given as goal

abbrev pub invariant-loop-message : goal.invariant-loop-message
invariant-loop-message l = record {
  counted : HaveClashes [] (l.opening ++ flat_map (λ (message : List ElementValue). message)
      (take l.message-index l.messages.items)) l.count;
  noted : l.clash ≡ firsts_of (l.opening ++ flat_map (λ (message : List ElementValue). message)
      (take l.message-index l.messages.items));
}
