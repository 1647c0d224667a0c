use Rattle.std.proofs.Common.{◌≡◌, ◌∙◌, arith}
use Rattle.std.proofs.lemmas.Grind.{common_steps}
use Rattle.links.specs.Texts.{keeps_container}
use Rattle.links.proofs.Tabled.{keeps_container-is}
use Rattle.links.proofs.names.Names.kept_containers.Goals as goal

pub loop-e-preserved : goal.loop-e-preserved
loop-e-preserved c =
    let keeps : c.keeps_container.result ≡ keeps_container c.args.self.now c.e-item.result =
    c.keeps_container.ensures ∙ keeps_container-is c.args.self.now c.e-item.result c.in_ok-containers.containers
    c.in_ok-containers.ensures in
    grind (arith, common_steps)
