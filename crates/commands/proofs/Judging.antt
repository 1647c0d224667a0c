-- What bytes that were read are refused for.
use Rattle.std.proofs.Common.{◌≡◌, ℕ, List, Option, Err, Result, refl}
use Rattle.board_base.specs.declared.stop.Stop.{Stop}
use Rattle.board_base.specs.declared.stop.Stop.TheVariants as stop
use Rattle.board_ends.specs.Ends.{SourceEnd}
use Rattle.commands.specs.Ends.{Span, WasRead}
use Rattle.commands.specs.inner.Ends.{IsInputFault}
use Rattle.commands.specs.inner.Faults.{stopped}
use Rattle.commands.specs.declared.status.InputRefusal.{InputRefusal}

-- what a call with a value of this type gave that stopped so
abbrev pub stopped-so : (T : Type 0) → Stop InputRefusal → Result T (Stop InputRefusal)
stopped-so T s = Err s

pub same-stop : (T : Type 0) (a b : Stop InputRefusal) → stopped-so T a ≡ stopped-so T b → a ≡ b
same-stop T a b e = cc

pub same-why : (T : Type 0) (a b : InputRefusal) → stopped-so T (stop.Fault a) ≡ stopped-so T (stop.Fault b) → a ≡ b
same-why T a b e = cc

-- Bytes that were read are refused, or memory is wanted.
pub judged-fault : (most : Option ℕ) (IsRefused : List ℕ → InputRefusal
    → Type 0) (input : Span SourceEnd) (bytes : List ℕ)
    → WasRead most input bytes → (s : Stop InputRefusal)
    → ((why : InputRefusal) → s ≡ stop.Fault why → IsRefused bytes why) → IsInputFault most IsRefused input (stopped s)
judged-fault most IsRefused input bytes read (stop.Fault why) refused = (bytes, read, refused why refl)
judged-fault most IsRefused input bytes read stop.Memory refused = tt
