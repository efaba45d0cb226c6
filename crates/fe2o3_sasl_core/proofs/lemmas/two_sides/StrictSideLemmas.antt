-- Of a strict client and of a strict server: what it read has no attribute of RFC 5802 in the place of an extension.
use Rattle.std.proofs.Common.{ℕ, List, Some, inl, inr, subst, sym}
use Rattle.std.specs.Prelude.{T}
use Rattle.fe2o3_scram.specs.ChannelBinding.{is_strict, expected_header, needs_strict}
use Rattle.fe2o3_sasl_wire.specs.SaslFrames as frames
use Rattle.fe2o3_sasl_wire.specs.SaslFrames.{SaslFrame}
use Rattle.fe2o3_scram.specs.Credentials.{Provider}
use Rattle.fe2o3_scram.specs.Extensions.{HasAttributeFrom}
use Rattle.fe2o3_scram.proofs.lemmas.messages.StrictSideLemmas.{none_after_count, none_after_nonce, none_before_proof, strict_or}
use Rattle.fe2o3_sasl_core.specs.ClientHistory.{client_at}
use Rattle.fe2o3_sasl_core.specs.Events.{Given, ServerSays}
use Rattle.fe2o3_sasl_core.specs.Laws.{OneStrictSideIsEnough}
use Rattle.fe2o3_sasl_core.specs.ServerHistory.{Accepted, Challenging, FitsAsInit, FitsAsResponse, Open, server_at}

module _ (provider : Provider) (strict : T (is_strict provider.rules)) where
  -- an init that fits has none after its nonce
  init_has_none : (event : Given) (frame : SaslFrame) (challenge : Challenging) → FitsAsInit provider event frame challenge
      → ¬ HasAttributeFrom 2 challenge.client.bare
  init_has_none event (frames.Init mechanism (Some text) hostname) challenge fits =
      none_after_nonce provider.rules text challenge.client strict fits.1
  init_has_none event frame challenge fits = absurd fits

  -- a response that fits has none before its proof, and the init of its challenge none
  response_has_none : (events : List Given) (replies : List ServerSays) (n : ℕ) (frame : SaslFrame) (accepted : Accepted)
      → FitsAsResponse provider (Open provider events replies n) frame accepted
      → (¬ HasAttributeFrom 2 accepted.challenge.client.bare) × (¬ HasAttributeFrom 2 accepted.final.without)
  response_has_none events replies n (frames.Response text) accepted fits =
      let init = fits.0.2 in (
        init_has_none init.0 init.1 accepted.challenge init.4,
        none_before_proof (server_at provider accepted.challenge) text accepted.final
            (strict_or (needs_strict (expected_header provider.rules.channels accepted.challenge.client.header))
            (is_strict provider.rules) strict) fits.1,
      )
  response_has_none events replies n frame accepted fits = absurd fits

pub one_strict_side_is_enough : OneStrictSideIsEnough
one_strict_side_is_enough sides k n answer accepted answers accepts (inl strict) =
    inl (subst (λ (text : List ℕ). ¬ HasAttributeFrom 3 text) (sym answers.4.1)
    (none_after_count (client_at sides.login answer.nonce) answers.1 answer.first strict answers.4.3))
one_strict_side_is_enough sides k n answer accepted answers accepts (inr strict) =
    inr (response_has_none sides.provider strict sides.server_events sides.server_replies n accepts.1 accepted accepts.4)
