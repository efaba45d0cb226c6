-- The frames of a login, each of which is sent and is in turn.
use Rattle.std.proofs.Common.{◌≡◌, ℕ, Bool, true, false, Option, Some, List, [], ◌∷◌, length, ◌∙◌, arith}
use Rattle.std.proofs.lemmas.List.{length-append}
use Rattle.fe2o3_sasl_wire.specs.declared.amqp_types.SaslCode.{SaslCode}
use Rattle.fe2o3_sasl_wire.specs.declared.amqp_types.SaslCode.TheVariants as outcomes
use Rattle.fe2o3_sasl_wire.specs.SaslFrames.{SaslFrame}
use Rattle.fe2o3_sasl_wire.specs.SaslFrames as frames
use Rattle.fe2o3_scram.specs.ChannelBinding.{is_bound, header_of}
use Rattle.fe2o3_scram.specs.ClientFirst.{client_first_with}
use Rattle.fe2o3_scram.specs.ClientFinal.{keys_for, without_proof_with}
use Rattle.fe2o3_scram.specs.ClientKeys.{ClientKeys, keys_of}
use Rattle.fe2o3_scram.specs.Credentials.{Provider}
use Rattle.fe2o3_scram.specs.Exchanges.{Exchange, IsSound, Succeeds, nonce_in, bare_in, named_in, first_in, answer_in}
use Rattle.fe2o3_scram.specs.Keys.{auth_message, client_proof}
use Rattle.fe2o3_scram.specs.Texts.{base64_text}
use Rattle.fe2o3_scram.proofs.lemmas.messages.ExchangeLemmas.{succeeds, opened}
use Rattle.fe2o3_sasl_core.specs.Events.{Login, login_mechanism, IsLogin, login_header}
use Rattle.fe2o3_sasl_core.specs.ServerHistory.{final_message}
use Rattle.fe2o3_sasl_core.specs.TwoSides.{sides_of}
use Rattle.fe2o3_sasl_core.specs.UnalteredRuns.{HoldsLogin}
use Rattle.fe2o3_sasl_core.proofs.lemmas.unaltered.UnalteredStepLemmas as step
use Rattle.fe2o3_sasl_negotiation.specs.declared.progress.FrameKind.TheVariants as turns
use Rattle.fe2o3_sasl_negotiation.specs.ClientNegotiation.{client_follows}
use Rattle.fe2o3_sasl_negotiation.specs.FrameSizes.{CanBeSent}
use Rattle.fe2o3_sasl_negotiation.specs.Negotiations.{IsInTurn}
use Rattle.fe2o3_sasl_negotiation.proofs.lemmas.FrameSizeLemmas.{texts_fit}
use Rattle.connection_laws.specs.Unaltered.{FitsFrames, IsNonce}
use Rattle.connection_laws.proofs.lemmas.SmallReplyLemmas.{login_init_fits, nonce_is_printable, nonce_length, first_length, proof_length, response_length, names_fit, ok_fits}

-- an outcome is in turn after a response, whether or not the client accepts the signature in a challenge
pub outcome_in_turn : (signs : Bool) (code : SaslCode) (more : Option (List ℕ))
    → IsInTurn (client_follows signs turns.Challenge) (frames.Outcome code more)
outcome_in_turn true code more = tt
outcome_in_turn false code more = tt

-- a login with all that the law asks of it, and the nonces that both sides send
pub record Premises : Type 0 where
  pub login : Login
  pub provider : Provider
  pub password : List ℕ
  pub salt : List ℕ
  pub count : ℕ
  pub mine : List ℕ
  pub theirs : List ℕ
  pub is : IsLogin login
  pub holds : HoldsLogin (sides_of login [] [] provider [] []) password salt count
  pub fits : FitsFrames login salt
  pub mine_long : IsNonce mine
  pub theirs_long : IsNonce theirs

-- the init with this nonce
abbrev pub init_of : Login → List ℕ → SaslFrame
init_of login nonce = frames.Init (login_mechanism login)
    (Some (client_first_with (header_of (login_header login)) login.user (base64_text nonce))) login.hostname

pub init_fits : (login : Login) (salt nonce : List ℕ) → FitsFrames login salt → length nonce ≡ 32
    → CanBeSent (init_of login nonce)
init_fits = login_init_fits

module _ (p : Premises) where
  abbrev login : Login
  login = p.login

  abbrev provider : Provider
  provider = p.provider

  abbrev mine : List ℕ
  mine = p.mine

  abbrev theirs : List ℕ
  theirs = p.theirs

  abbrev pub exchange : Exchange
  exchange = step.exchange_of login provider.rules provider.rights p.password p.salt p.count mine theirs

  pub sound : IsSound exchange
  sound = step.sound_exchange (sides_of login [] [] provider [] []) p.password p.salt p.count mine theirs p.is p.holds
      (λ _. nonce_is_printable mine p.mine_long, λ _. nonce_is_printable theirs p.theirs_long)

  pub meets : Succeeds exchange
  meets = succeeds exchange sound

  -- ---- the frames

  abbrev pub names : SaslFrame
  names = frames.Mechanisms (login_mechanism login ∷ [])

  abbrev pub init : SaslFrame
  init = init_of login mine

  abbrev pub message : List ℕ
  message = (answer_in exchange).message

  abbrev pub final_sent : List ℕ
  final_sent = final_message provider (step.accepted_in exchange)

  abbrev pub outcome : SaslFrame
  outcome = frames.Outcome outcomes.Ok (Some final_sent)

  mine_long : length (base64_text mine) ≡ 44
  mine_long = nonce_length mine p.mine_long.1

  theirs_long : length (base64_text theirs) ≡ 44
  theirs_long = nonce_length theirs p.theirs_long.1

  abbrev pub names_sent : CanBeSent names
  names_sent = names_fit login.version (is_bound login.channel)

  abbrev pub init_sent : CanBeSent init
  init_sent = init_fits login p.salt mine p.fits p.mine_long.1

  pub challenge_sent : CanBeSent (frames.Challenge (first_in exchange))
  challenge_sent = (texts_fit (first_in exchange)
      (first_length exchange mine_long theirs_long p.fits.salt (omega (arith, p.holds.within, p.is.limit)))).0

  by_keys : keys_for login.version login.secret (named_in exchange) ≡ keys_of login.version p.password p.salt p.count
  by_keys = (opened login.version login.secret p.password p.salt p.count (nonce_in exchange) p.holds.opens).0

  pub response_sent : CanBeSent (frames.Response message)
  response_sent =
      let keys : ClientKeys = keys_for login.version login.secret (named_in exchange) in
      let auth : List ℕ = auth_message (bare_in exchange) (first_in exchange)
      (without_proof_with (login_header login) (nonce_in exchange)) in
      (texts_fit message
      (response_length (login_header login) (nonce_in exchange) (client_proof keys.version keys.client_key auth) p.fits.binding
      (length-append (base64_text mine) (base64_text theirs) ∙ omega (arith, mine_long, theirs_long))
      (proof_length keys login.version p.password p.salt auth p.count by_keys))).1

  pub outcome_sent : CanBeSent outcome
  outcome_sent = ok_fits provider (step.accepted_in exchange)

  abbrev pub names_body : List ℕ
  names_body = names_sent.0

  abbrev pub init_body : List ℕ
  init_body = init_sent.0

  abbrev pub challenge_body : List ℕ
  challenge_body = challenge_sent.0

  abbrev pub response_body : List ℕ
  response_body = response_sent.0

  abbrev pub outcome_body : List ℕ
  outcome_body = outcome_sent.0
