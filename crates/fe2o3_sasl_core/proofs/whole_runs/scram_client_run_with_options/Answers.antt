use Rattle.std.proofs.Common.{arith, refl, subst}
use Rattle.std.proofs.lemmas.Option.{none-some}
use Rattle.std.proofs.lemmas.Str.{IsUtf8-nil}
use Rattle.base64.specs.GeneralPurpose.{IsBytes}
use Rattle.fe2o3_scram.proofs.lemmas.hashes.DigestLemmas.{IsBytes-nil}
use Rattle.fe2o3_sasl_core.specs.Events.{Login}
use Rattle.fe2o3_sasl_core.specs.Runs.{login_with}
use Rattle.fe2o3_sasl_core.proofs.lemmas.steps.LongerRunLemmas.{if_ok_map}
use Rattle.fe2o3_sasl_core.proofs.whole_runs.scram_client_run_with_options.Goals as goal

pub returns-clause-history : goal.returns-clause-history
returns-clause-history c =
    let login : Login = login_with c.args.options c.args.version c.args.user.now c.args.password.now in
    let made = rw (c.in_ok-username.ensures.ok, c.in_ok-password.ensures.ok) at c.scram-profile.ensures in
    if_ok_map _ _ c.run_profile.result (λ replies has. has login (made, refl)) c.run_profile.ensures.history

pub returns-clause-exactly : goal.returns-clause-exactly
returns-clause-exactly c =
    let login : Login = login_with c.args.options c.args.version c.args.user.now c.args.password.now in
    let made = rw (c.in_ok-username.ensures.ok, c.in_ok-password.ensures.ok) at c.scram-profile.ensures in
    if_ok_map _ _ c.run_profile.result (λ replies has. has login (made, refl)) c.run_profile.ensures.exactly

pub returns-clause-agreement : goal.returns-clause-agreement
returns-clause-agreement c =
    let login : Login = login_with c.args.options c.args.version c.args.user.now c.args.password.now in
    let made = rw (c.in_ok-username.ensures.ok, c.in_ok-password.ensures.ok) at c.scram-profile.ensures in
    if_ok_map _ _ c.run_profile.result (λ replies has. has login (made, refl)) c.run_profile.ensures.agreement

pub returns-clause-unaltered : goal.returns-clause-unaltered
returns-clause-unaltered c =
    let login : Login = login_with c.args.options c.args.version c.args.user.now c.args.password.now in
    let made = rw (c.in_ok-username.ensures.ok, c.in_ok-password.ensures.ok) at c.scram-profile.ensures in
    if_ok_map _ _ c.run_profile.result (λ replies has. has login (made, refl) (record {
      user = c.utf8.user;
      limit = omega arith;
      channel = (subst IsBytes c.data.ensures c.are_bytes.ensures, IsBytes-nil);
      identity = IsUtf8-nil;
      hostname = λ host is. absurd (none-some host is);
    })) c.run_profile.ensures.unaltered
