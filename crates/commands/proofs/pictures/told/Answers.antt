use Rattle.std.proofs.Common.{◌≡◌, List, ℕ, sym, subst}
use Rattle.std.proofs.lemmas.Result.{IfOk-weaker}
use Rattle.commands.specs.Pictures.{IsToldOfPicture}
use Rattle.commands.specs.Pictures.IsToldOfPicture.{size, not_base64, no_data_url}
use Rattle.commands.proofs.pictures.told.Goals as goal

-- what is told is what a text says
told-as : (entry told text : List ℕ) → told ≡ text → IsToldOfPicture entry text → IsToldOfPicture entry told
told-as entry told text same is = subst (IsToldOfPicture entry) (sym same) is

pub returns-in-Ok : goal.returns-in-Ok
returns-in-Ok c =
    IfOk-weaker c.to_string.result _ _ (λ s made. told-as c.args.entry.now _ _ made
    (size c.in-Ok.size (c.in-Ok.ensures.size))) c.to_string.ensures.ok

pub returns-in-Err-Fault-Base64 : goal.returns-in-Err-Fault-Base64
returns-in-Err-Fault-Base64 c =
    let why = c.in-Err-Fault-Base64.ensures.base64 (cc) in
    IfOk-weaker c.from_str.result _ _ (λ s made. told-as c.args.entry.now _ _ made (not_base64 why.0 why.1 why.2))
    c.from_str.ensures.ok

pub returns-in-Err-Fault-NoDataUrl : goal.returns-in-Err-Fault-NoDataUrl
returns-in-Err-Fault-NoDataUrl c =
    IfOk-weaker c.from_str-in-Err-Fault-NoDataUrl.result _ _
    (λ s made. told-as c.args.entry.now _ _ made (no_data_url (c.in-Err-Fault-NoDataUrl.ensures.no_data_url (cc))))
    c.from_str-in-Err-Fault-NoDataUrl.ensures.ok
