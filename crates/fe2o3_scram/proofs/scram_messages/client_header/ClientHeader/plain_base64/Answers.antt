use Rattle.std.proofs.Common.{◌≡◌, false, is_some, refl, rules}
use Rattle.base64.specs.Rfc4648.{encode_symbols}
use Rattle.fe2o3_scram.specs.Texts.{base64_text}
use Rattle.fe2o3_scram.proofs.lemmas.messages.HeaderLemmas.{no_name}
use Rattle.fe2o3_scram.proofs.scram_messages.client_header.ClientHeader.plain_base64.Goals as goal

pub returns-in-Absent : goal.returns-in-Absent
unfolding base64_text encode_symbols
returns-in-Absent c =
    let none : is_some c.self.inside.acts_for ≡ false = search rules in
    rw (← c.self.view_is, c.in-Absent.is, no_name c.self.inside.acts_for (λ name. name.now) none) (refl, refl)

pub returns-in-NotOffered : goal.returns-in-NotOffered
unfolding base64_text encode_symbols
returns-in-NotOffered c =
    let none : is_some c.self.inside.acts_for ≡ false = search rules in
    rw (← c.self.view_is, c.in-NotOffered.is, no_name c.self.inside.acts_for (λ name. name.now) none) (refl, refl)
