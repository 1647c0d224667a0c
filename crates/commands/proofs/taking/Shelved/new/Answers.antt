use Rattle.std.proofs.Common.{refl, sym, subst, []}
use Rattle.library.specs.Best.{AreBest}
use Rattle.commands.proofs.taking.Shelved.new.Goals as goal

pub returns : goal.returns
returns c = record {
  items = [];
  read = refl;
  are_best =
      subst (AreBest []) (sym c.new.ensures) c.best_exist.ensures.none;
  counted = refl;
}
