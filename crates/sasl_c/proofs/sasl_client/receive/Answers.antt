use Rattle.std.proofs.Common.{arith, refl}
use Rattle.sasl_c.proofs.SaslClientLemmas.{not_received}
use Rattle.sasl_c.proofs.sasl_client.receive.Goals as goal

pub returns-in-Err-clause-text : goal.returns-in-Err-clause-text
returns-in-Err-clause-text c = (
  refl,
  omega (arith, c.if-out-lt-FRAME_MOST.false),
  refl,
  λ other. not_received c.args.login.now c.args.bytes.now c.args.nonce.now c.args.client.now c.received.new.client
      c.args.taken.now c.in-Err.status (c.in-Err.ensures.err other),
)
