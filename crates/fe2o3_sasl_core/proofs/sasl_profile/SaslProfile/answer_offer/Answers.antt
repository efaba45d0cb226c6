use Rattle.fe2o3_sasl_wire.specs.AmqpTypes.{init_frame}
use Rattle.fe2o3_sasl_wire.specs.FrameView.{shown}
use Rattle.std.proofs.Common.{refl}
use Rattle.std.proofs.lemmas.Result.{err_from_is_err_and}
use Rattle.fe2o3_sasl_core.specs.SaslProfile.{profile_of}
use Rattle.fe2o3_sasl_core.proofs.lemmas.steps.WrittenReplyLemmas.{offer_answered}
use Rattle.fe2o3_sasl_core.proofs.lemmas.machines.OfferLemmas.{for_allocates}
use Rattle.fe2o3_sasl_core.proofs.sasl_profile.SaslProfile.answer_offer.Goals as goal

pub returns-in_err-init-clause-answer : goal.returns-in_err-init-clause-answer
returns-in_err-init-clause-answer g c =
    let fault = err_from_is_err_and c.from_residual-in_err-init.result c.from_residual-in_err-init.ensures.1 in
    rw (fault.1, fault.2) (
      for_allocates (profile_of c.args.self.now) (profile_of c.in-Some.next)
          (g.O.Offer.names c.args.offer.now) (rw c.in-Some.is at c.in_ok-next.ensures.ok),
      refl,
    )

pub returns-clause-answer : goal.returns-clause-answer
returns-clause-answer g c = offer_answered (profile_of c.args.self.now) (profile_of c.in-Some.next)
    (profile_of c.start.new.self) (shown c.args.hostname) c.args.nonce.now (g.O.Offer.names c.args.offer.now)
    (init_frame c.in_ok-init.init) (rw c.in-Some.is at c.in_ok-next.ensures.ok) c.in_ok-init.ensures.ok
    c.in_ok-init.ensures.started
