use Rattle.std.proofs.Common.{◌≡◌, ℕ, List, sym, subst}
use Rattle.scene_file.specs.declared.fault.SceneFault.{SceneFault}
use Rattle.checks.specs.Checks.{IsChecked}
use Rattle.commands.specs.Answers.{IsRefusal}
use Rattle.commands.specs.Checked.{BeginsWithFault}
use Rattle.commands.specs.Input.{HasFaultyText}
use Rattle.commands.specs.declared.status.InputRefusal.TheVariants as refusal
use Rattle.commands.proofs.ToldFirst.{board-checked, first-told}
use Rattle.commands.proofs.laws.checks_agree_with_merges.Goals as goal

refused-first : (bytes text : List ℕ) (number : ℕ) (fault : SceneFault) → IsRefusal bytes (refusal.Text number fault)
    → IsChecked bytes text → BeginsWithFault number fault text
refused-first bytes text number fault (other, why, same, has) is =
    let number_same : other ≡ number = cc in
    let fault_same : why ≡ fault = cc in
    subst (λ n. BeginsWithFault n fault text) number_same
    (subst (λ f. BeginsWithFault other f text) fault_same (first-told bytes text other why has is))

pub returns-clause-fault : goal.returns-clause-fault
returns-clause-fault c = λ layout bytes text number fault refused is. refused-first bytes text number fault refused is

pub returns-clause-board : goal.returns-clause-board
returns-clause-board c = λ layout bytes merged text made is. board-checked bytes text made.0 made.1 is
