use Rattle.std.proofs.Common.{sym, subst, Bool}
use Rattle.json_text.specs.Members.{pairs}
use Rattle.scene_json.specs.Named.{value_at}
use Rattle.elem.specs.Forms.{IsBindingOrNull}
use Rattle.elem.specs.Said.{IsOwn}
use Rattle.elem_read.specs.inner.Parts.{Reads}
use Rattle.elem_read.specs.declared.fault.ElemFault.TheVariants as faults
use Rattle.elem_read.proofs.binding.own_binding.Goals as goal

pub returns-then-own : goal.returns-then-own
returns-then-own c =
    subst (λ (own : Bool). Reads (IsOwn own IsBindingOrNull (value_at c.args.name.now (pairs c.args.members.now)))
    faults.Binding c.binding_or_null.result)
    (sym c.if-own.true) c.binding_or_null.ensures
