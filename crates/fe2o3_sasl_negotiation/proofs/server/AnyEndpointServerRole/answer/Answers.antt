use Rattle.fe2o3_sasl_negotiation.specs.declared.progress.Expected.TheVariants.{Frame}
use Rattle.fe2o3_sasl_negotiation.proofs.lemmas.KeptLemmas.{server_stays}
use Rattle.fe2o3_sasl_negotiation.proofs.lemmas.ServerAnswerLemmas.{unit_costs}
use Rattle.fe2o3_sasl_negotiation.proofs.server.AnyEndpointServerRole.answer.Goals as goal

pub returns-in-Frame-clause-fits : goal.returns-in-Frame-clause-fits
returns-in-Frame-clause-fits g c =
    let m = g.A.SaslAcceptor in
    rw c.in-Frame.is (server_stays m.names m.machine (Frame c.in-Frame.turn) (m.state c.args.self.now)
    (m.state c.reply.new.acceptor) c.args.nonce.now c.args.unit.now c.args.out.now.items c.reply.new.out.items
    c.reply.result c.reply.ensures.ok)

pub returns-in-Frame-clause-cost : goal.returns-in-Frame-clause-cost
returns-in-Frame-clause-cost g c = λ side bytes completes same.
    let m = g.A.SaslAcceptor in
    unit_costs m.hmacs side bytes c.args.nonce.now c.in-Frame.turn c.args.unit.now (m.state c.args.self.now)
    c.args.meter.now c.reply.new.meter (rw c.in-Frame.is at completes) same c.reply.ensures.cost
