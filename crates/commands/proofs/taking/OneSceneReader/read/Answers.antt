use Rattle.std.proofs.Common.{rules, List, ℕ, [], ◌∷◌, ◌++◌, sym, subst}
use Rattle.commands.specs.inner.Readers.{SayScenes}
use Rattle.commands.proofs.Readers.{one-open}
use Rattle.commands.proofs.taking.OneSceneReader.read.Goals as goal

pub returns-in_err-scene_of-clause-refused : goal.returns-in_err-scene_of-clause-refused
returns-in_err-scene_of-clause-refused c fault is texts say =
    (one-open c.args.self.now texts c.requires say, search rules)

pub returns-clause-read : goal.returns-clause-read
returns-clause-read c texts say =
    subst (λ (ts : List (List ℕ)). SayScenes (ts ++ c.args.text.now ∷ []) (c.in_ok-scene_of.field-0 ∷ []))
    (sym (one-open c.args.self.now texts c.requires say))
    (c.in_ok-scene_of.ensures.scene, tt)
