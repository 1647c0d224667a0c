use Rattle.json_text.proofs.Forms.{string-or-not, array-or-not, object-or-not, nests-or-not}
use Rattle.json_text.proofs.laws.form_is_decided.Goals as goal

pub returns : goal.returns
returns c = record { string = string-or-not; array = array-or-not; object = object-or-not; nesting = nests-or-not }
