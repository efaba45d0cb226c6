use Rattle.std.proofs.Common.{refl}
use Rattle.fe2o3_sasl_negotiation.specs.declared.progress.Expected.TheVariants.{Frame}
use Rattle.fe2o3_sasl_negotiation.specs.Sides.{endpoint_hostname, endpoint_profile}
use Rattle.fe2o3_sasl_core.specs.SaslProfile.{profile_of}
use Rattle.fe2o3_sasl_negotiation.proofs.lemmas.ClientAnswerLemmas.{unit_costs}
use Rattle.fe2o3_sasl_negotiation.proofs.lemmas.ClientKeptLemmas.{client_stays, opened_at_client}
use Rattle.fe2o3_sasl_negotiation.proofs.client.ClientEndpointEndpointClientRole.answer.Goals as goal

pub returns-in-Header-clause-ok : goal.returns-in-Header-clause-ok
returns-in-Header-clause-ok c =
    let opens = c.open.ensures c.args.out.now.items in rw c.in-Header.is (opens.0, opens.1, (opens.2, refl))

pub returns-in-Header-clause-fits : goal.returns-in-Header-clause-fits
returns-in-Header-clause-fits c = λ fits.
    opened_at_client c.args.unit.now c.args.out.now.items c.open.result (c.open.ensures c.args.out.now.items)

pub returns-in-Frame-clause-fits : goal.returns-in-Frame-clause-fits
returns-in-Frame-clause-fits c =
    rw c.in-Frame.is (client_stays (endpoint_hostname c.args.self.now) (Frame c.in-Frame.turn) (endpoint_profile c.args.self.now)
    (profile_of c.reply.new.profile) c.args.nonce.now c.args.unit.now c.args.out.now.items c.reply.new.out.items
    c.reply.result (rw c.shown_name-hostname.ensures at c.reply.ensures.ok))

pub returns-in-Frame-clause-cost : goal.returns-in-Frame-clause-cost
returns-in-Frame-clause-cost c = λ side bytes completes same.
    unit_costs side bytes c.args.nonce.now c.in-Frame.turn c.args.unit.now (endpoint_profile c.args.self.now)
    c.args.meter.now c.reply.new.meter (rw c.in-Frame.is at completes) same c.reply.ensures.cost
