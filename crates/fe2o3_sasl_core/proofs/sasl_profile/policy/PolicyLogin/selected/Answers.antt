use Rattle.std.proofs.Common.{ap, option_map, string_bytes, sym, ◌∙◌, Some}
use Rattle.fe2o3_sasl_core.specs.SaslProfile.{profile_of, selection_of}
use Rattle.fe2o3_sasl_core.proofs.lemmas.machines.SelectionLemmas.{chosen_of_some, on_err_where, selected_acting, selected_itself}
use Rattle.fe2o3_sasl_core.proofs.sasl_profile.policy.PolicyLogin.selected.Goals as goal

pub returns-in_err-identity-in-Some-clause-err : goal.returns-in_err-identity-in-Some-clause-err
returns-in_err-identity-in-Some-clause-err g c = on_err_where c.from_residual.result (chosen_of_some
    (selection_of c.args.self.now) (g.O.Offer.names c.args.offer.now) (profile_of c.in-Ok.chosen)
    (rw c.deref.ensures at (rw c.lent-secret.ensures at c.in-Ok.ensures.ok)))

pub returns-in_ok-identity-in-Some-clause-ok : goal.returns-in_ok-identity-in-Some-clause-ok
returns-in_ok-identity-in-Some-clause-ok g c =
    selected_acting profile_of (selection_of c.args.self.now) (g.O.Offer.names c.args.offer.now) (profile_of c.in-Ok.chosen)
    (string_bytes c.in_ok-identity-in-Some.identity) c.acting_for.result
    (rw c.deref.ensures at (rw c.lent-secret.ensures at c.in-Ok.ensures.ok))
    (ap (option_map (λ name. string_bytes name)) c.in-Some.is
    ∙ ap (λ n. Some n) (sym (c.in_ok-identity-in-Some.ensures.ok ∙ c.deref-in-Some.ensures))) c.acting_for.ensures

pub returns-in-None-clause-ok : goal.returns-in-None-clause-ok
returns-in-None-clause-ok g c =
    selected_itself (selection_of c.args.self.now) (g.O.Offer.names c.args.offer.now) (profile_of c.in-Ok.chosen)
    (rw c.deref.ensures at (rw c.lent-secret.ensures at c.in-Ok.ensures.ok))
    (ap (option_map (λ name. string_bytes name)) c.in-None.is)
