use Rattle.effects.proofs.CopyLaws.{duplicates-stored, pasted-stored}
use Rattle.effects.proofs.laws.copies_are_stored.Goals as goal

pub returns-clause-duplicated : goal.returns-clause-duplicated
returns-clause-duplicated c = λ stored shown given ids prefix spot time nonce ordered distinct. duplicates-stored stored
    shown given time nonce ordered ids prefix spot distinct

pub returns-clause-pasted : goal.returns-clause-pasted
returns-clause-pasted c = λ stored shown given elements prefix spot time nonce ordered distinct. pasted-stored stored
    shown given time nonce ordered elements prefix spot distinct
