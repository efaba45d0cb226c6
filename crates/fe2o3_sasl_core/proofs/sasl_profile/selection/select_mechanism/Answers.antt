use Rattle.std.proofs.Common.{sym, ◌∙◌, ap}
use Rattle.std.specs.Prelude.{option_map}
use Rattle.fe2o3_scram.specs.ClientSecret.{secret_of}
use Rattle.fe2o3_sasl_core.specs.ClientPolicy.{IsFirstTaken, by_strength}
use Rattle.fe2o3_sasl_core.specs.SaslProfile.{profile_of}
use Rattle.fe2o3_sasl_core.proofs.lemmas.machines.PolicyLemmas.{some_taken}
use Rattle.fe2o3_sasl_core.proofs.sasl_profile.selection.select_mechanism.Goals as goal

pub returns-in_err-profile-clause-memory : goal.returns-in_err-profile-clause-memory
returns-in_err-profile-clause-memory g c is all =
    some_taken c.args.policy c.args.username.now (secret_of c.args.secret.now) (g.O.Offer.names c.args.offer.now) by_strength
    c.in-Some.mechanism
    (rw c.in-Some.is at (c.first_taken.ensures c.args.username.now)) all

pub unreachable-requires : goal.unreachable-requires
unreachable-requires g c =
    let first : IsFirstTaken c.args.policy c.args.username.now (secret_of c.args.secret.now) (g.O.Offer.names c.args.offer.now)
    by_strength c.in-Some.mechanism = rw c.in-Some.is at (c.first_taken.ensures c.args.username.now) in
    first.2.1 (sym c.in_ok-profile.ensures ∙ ap (option_map profile_of) c.in-None.is)

pub returns-clause-ok : goal.returns-clause-ok
returns-clause-ok g c = (
  c.in-Some.mechanism,
  rw c.in-Some.is at (c.first_taken.ensures c.args.username.now),
  sym c.in_ok-profile.ensures ∙ ap (option_map profile_of) c.in-Some-2.is,
)
