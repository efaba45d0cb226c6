use Rattle.fe2o3_sasl_negotiation.specs.Sides.{client_side, extended_in, hostname_in}
use Rattle.sasl_c.proofs.SaslClientLemmas.{received}
use Rattle.sasl_c.proofs.StatusLemmas.{err_so, ok_so}
use Rattle.sasl_c.proofs.sasl_client.received.Goals as goal

pub returns-clause-ok : goal.returns-clause-ok
returns-clause-ok c = ok_so c.taken-made.result _ _ (λ made held.
    let all = held c.args.login.now c.args.client.now c.in-Ok.ensures.ok.1 c.in-Ok.ensures.ok.2 in
    received c.args.login.now c.args.bytes.now c.args.nonce.now c.args.client.now c.taken-made.new.client
    (extended_in c.in-Ok.side) (hostname_in c.in-Ok.side) (client_side c.in-Ok.side) (client_side c.taken-made.new.side)
    made.taken made.sent.items c.in-Ok.ensures.extended c.in-Ok.ensures.ok.0 c.in-Ok.ensures.ok.1 c.in-Ok.ensures.ok.2 all.0
    all.1 all.3)
    c.taken-made.ensures.ok

pub returns-clause-fits : goal.returns-clause-fits
returns-clause-fits c = ok_so c.taken-made.result _ _ (λ made held.
    (held c.args.login.now c.args.client.now c.in-Ok.ensures.ok.1 c.in-Ok.ensures.ok.2).2) c.taken-made.ensures.ok

pub returns-clause-err : goal.returns-clause-err
returns-clause-err c = err_so c.taken-made.result _ _ (λ status held other.
    absurd (held other c.args.login.now c.args.client.now c.in-Ok.ensures.ok.1 c.in-Ok.ensures.ok.2))
    c.taken-made.ensures.err
