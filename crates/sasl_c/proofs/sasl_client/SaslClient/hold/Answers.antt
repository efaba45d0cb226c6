use Rattle.std.proofs.Common.{sym}
use Rattle.fe2o3_sasl_core.specs.SaslProfile.{profile_of}
use Rattle.fe2o3_sasl_negotiation.specs.Sides.{client_side, extended_in}
use Rattle.sasl_c.specs.SaslClient.{ProfileIsReached, IsProfile, WritesProfile}
use Rattle.sasl_c.proofs.SaslClientLemmas.{shows_side, writes_side}
use Rattle.sasl_c.proofs.StatusLemmas.{carried}
use Rattle.sasl_c.proofs.sasl_client.SaslClient.hold.Goals as goal

pub returns-clause-state : goal.returns-clause-state
returns-clause-state c = λ login comes limit few.
    let shown = profile_of c.profile.result.now in
    let state = (client_side c.args.side.now).state in
    let is = c.in-Some.ensures.state login (carried (ProfileIsReached login) state shown (sym c.profile.ensures) comes) in
    shows_side login c.keep.new.self c.in-Some.scram (client_side c.args.side.now) c.snapshot-kept.result
    c.snapshot-kept.ensures.side limit c.keep.ensures.keeps
    (carried (IsProfile login c.in-Some.scram) shown state c.profile.ensures is)

pub returns-clause-writes : goal.returns-clause-writes
returns-clause-writes c =
    let shown = profile_of c.profile.result.now in
    let state = (client_side c.args.side.now).state in
    writes_side c.keep.new.self c.in-Some.scram (extended_in c.args.side.now) (client_side c.args.side.now)
    c.snapshot-kept.result c.snapshot-kept.ensures.side c.snapshot-kept.ensures.extended c.keep.ensures.writes
    (carried (WritesProfile c.in-Some.scram) shown state c.profile.ensures c.in-Some.ensures.writes)

pub returns-in_default-clause-state : goal.returns-in_default-clause-state
returns-in_default-clause-state c = λ login comes limit few.
    absurd (c.in_default.ensures.state login (carried (ProfileIsReached login) (client_side c.args.side.now).state
    (profile_of c.profile.result.now) (sym c.profile.ensures) comes))
