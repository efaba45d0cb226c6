use Rattle.std.proofs.Common.{ℕ, List, ap, refl, true, Ok}
use Rattle.fe2o3_sasl_wire.specs.SaslFrames as frames
use Rattle.fe2o3_sasl_core.proofs.lemmas.steps.ProfileReplyLemmas.{challenge_replied, signature_refused}
use Rattle.fe2o3_sasl_core.proofs.sasl_profile.scram_frames.confirm.Goals as goal

pub returns-in-Ok-clause-answer : goal.returns-in-Ok-clause-answer
returns-in-Ok-clause-answer c = λ hostname nonce.
    challenge_replied c.args.client.now hostname nonce c.args.challenge.now true _ _ c.requires.expects c.requires.utf8 (
      Ok tt,
      c.validate_signature_challenge.new.self,
      c.in-Ok.ensures.answer,
      ap (λ (bytes : List ℕ). Ok (frames.Response bytes)) c.new.ensures.items,
      refl,
    )

pub returns-in-Err-clause-answer : goal.returns-in-Err-clause-answer
returns-in-Err-clause-answer c = λ hostname nonce.
    rw c.from.ensures (signature_refused (λ verified. verified) c.args.client.now
    c.validate_signature_challenge.new.self hostname nonce c.args.challenge.now c.in-Err.kind c.requires.expects
    c.requires.utf8 c.in-Err.ensures.err c.in-Err.ensures.answer)
