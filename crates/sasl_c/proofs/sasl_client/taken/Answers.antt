use Rattle.std.proofs.Common.{Bool}
use Rattle.fe2o3_sasl_negotiation.specs.Sides.{client_side, extended_in, hostname_in}
use Rattle.sasl_c.specs.SaslClient.{WritesSide}
use Rattle.sasl_c.proofs.ClientReplyLemmas.{behind_all}
use Rattle.sasl_c.proofs.StatusLemmas.{carried}
use Rattle.sasl_c.proofs.sasl_client.taken.Goals as goal

pub returns-then-not-hold-clause-err : goal.returns-then-not-hold-clause-err
returns-then-not-hold-clause-err c = λ _ login before is wanting.
    let all = behind_all login before (extended_in c.args.side.now) (hostname_in c.args.side.now)
    (client_side c.args.side.now) (client_side c.receive.new.self) c.args.bytes.now c.args.nonce.now
    c.new-sent.result.items c.receive.new.out.items c.in_ok-received.received.taken is wanting c.new-sent.ensures.items
    c.in_ok-received.ensures.ok in
    absurd (c.if-not-hold.ensures.state login all.1 all.2 all.3)

pub returns-clause-ok : goal.returns-clause-ok
returns-clause-ok c = λ login before is wanting.
    let all = behind_all login before (extended_in c.args.side.now) (hostname_in c.args.side.now)
    (client_side c.args.side.now) (client_side c.receive.new.self) c.args.bytes.now c.args.nonce.now
    c.new-sent.result.items c.receive.new.out.items c.in_ok-received.received.taken is wanting c.new-sent.ensures.items
    c.in_ok-received.ensures.ok in (
      all.0,
      c.if-not-hold.ensures.state login all.1 all.2 all.3,
      all.4,
      carried (λ (b : Bool). WritesSide b c.hold.new.self (client_side c.receive.new.self)) (extended_in c.receive.new.self)
          (extended_in c.args.side.now) c.receive.ensures.extended c.if-not-hold.ensures.writes,
    )
