use Rattle.std.proofs.Common.{◌≡◌, true, inl, arith}
use Rattle.std.proofs.lemmas.Bool.Decides.{nat_tests}
use Rattle.json_text.specs.Characters.{is_space, is_plain, is_bare}
use Rattle.json_text.proofs.CallerLemmas.{passed_within, passed_all}
use Rattle.json_reader.proofs.staying.stay_end.Goals as goal

pub returns-in-Quoted-Quoted-default-Plain : goal.returns-in-Quoted-Quoted-default-Plain
returns-in-Quoted-Quoted-default-Plain c = record {
  within = c.bare_end.ensures.within;
  stays = passed_all is_bare _ (λ b is. grind (arith, nat_tests)) _ _ _ c.bare_end.ensures.value;
  alike = rw c.in-Quoted-Quoted-default-Plain.is-0
      (passed_all is_bare (λ b. is_plain b ≡ true) (λ b is. grind (arith, nat_tests)) _ _ _ c.bare_end.ensures.value);
}

pub returns-in-Between-Value : goal.returns-in-Between-Value
returns-in-Between-Value c = record {
  within = passed_within is_space _ _ _ c.requires c.skip_space.ensures;
  stays = passed_all is_space _ (λ b is. grind (arith, nat_tests)) _ _ _ c.skip_space.ensures;
  alike = rw c.in-Between-Value.is-0 (inl (passed_all is_space _ (λ b is. is) _ _ _ c.skip_space.ensures));
}

pub returns-in-Between-Fresh : goal.returns-in-Between-Fresh
returns-in-Between-Fresh c = record {
  within = passed_within is_space _ _ _ c.requires c.skip_space-in-Between-Fresh.ensures;
  stays = passed_all is_space _ (λ b is. grind (arith, nat_tests)) _ _ _ c.skip_space-in-Between-Fresh.ensures;
  alike =
      rw c.in-Between-Fresh.is-0 (inl (passed_all is_space _ (λ b is. is) _ _ _ c.skip_space-in-Between-Fresh.ensures));
}
