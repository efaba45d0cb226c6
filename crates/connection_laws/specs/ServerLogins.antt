-- Whom a server of all mechanisms lets in (AMQP 1.0, part 5, section 5.3.2). Each statement is the contract of a clause of
-- `servers::logins`.
use Rattle.std.specs.Prelude.{◌≡◌, ◌⊎◌, ℕ, Bool, false, Option, Some, None, List, [], Ok}
use Rattle.fe2o3_sasl_wire.specs.SaslFrames as frames
use Rattle.fe2o3_sasl_wire.specs.SaslFrames.{SaslFrame}
use Rattle.fe2o3_scram.specs.ServerFinal.{AnswersClientFinal}
use Rattle.fe2o3_scram.specs.ServerFirst.{OpenExchange}
use Rattle.fe2o3_scram.specs.declared.hmac.ScramVersion.{ScramVersion}
use Rattle.fe2o3_sasl_core.specs.ExternalServer.{AsksFor}
use Rattle.fe2o3_sasl_core.specs.PlainServer.{PlainParts, asked_identity}
use Rattle.fe2o3_sasl_core.specs.Servers.{ExchangeOpen, MessageLetsIn, ResponseAsked, ServerAt, ServerLogin, ServerSettings, ServerStage, SignatureShown, UserAuthenticated, asked_mechanism, exchange_login, exchange_server, is_response_asked, logged_in_at, sasl_machine}
use Rattle.fe2o3_sasl_core.specs.declared.mechanism.Mechanism.{Mechanism}
use Rattle.fe2o3_sasl_core.specs.declared.mechanism.Mechanism.TheVariants as mechanisms

-- an init of this mechanism, which is offered, completes a login by this initial response: everybody's by ANONYMOUS (RFC
-- 4505); by EXTERNAL that of the name of the transport, if no other name is asked for (RFC 4422, appendix A); and by PLAIN
-- that of the user of a message whose password and right are tested (RFC 4616, section 2). By SCRAM none.
abbrev pub InitCompletes : ServerSettings → Mechanism → Option (List ℕ) → ServerLogin → Type 0
InitCompletes settings mechanisms.Anonymous response login =
    login ≡ record { mechanism = mechanisms.Anonymous; user = None; acts_for = None }
InitCompletes settings mechanisms.External response login = AsksFor settings.external response
    × (login ≡ record { mechanism = mechanisms.External; user = Some settings.external; acts_for = None })
InitCompletes settings mechanisms.Plain (Some text) login = (parts : PlainParts) × MessageLetsIn settings text parts
    × (login ≡ record { mechanism = mechanisms.Plain; user = Some parts.user; acts_for = asked_identity parts })
InitCompletes settings mechanism response login = ⊥

-- the client-final message meets the open exchange (RFC 5802, section 5): its proof meets the stored key, and its user has
-- the right to the identity
abbrev pub MeetsExchange : ServerSettings → ScramVersion → Bool → OpenExchange → List ℕ → Type 0
MeetsExchange settings version plus exchange text = (message : List ℕ)
    × AnswersClientFinal (exchange_server settings version plus exchange) text (Ok message)

-- a response completes a login: as the initial response of an init that was asked for it; as the client-final message of the
-- open exchange, if the signature goes with the outcome; or as the empty response to a signature in a challenge
abbrev pub ResponseCompletes : ServerSettings → ServerStage → List ℕ → ServerLogin → Type 0
ResponseCompletes settings (ResponseAsked mechanism nonce) text login = InitCompletes settings mechanism (Some text) login
ResponseCompletes settings (ExchangeOpen version plus exchange) text login = (settings.extra.signature ≡ false)
    × MeetsExchange settings version plus exchange text × (login ≡ exchange_login version plus exchange)
ResponseCompletes settings (SignatureShown shown) text login = (text ≡ []) × (login ≡ shown)
ResponseCompletes settings stage text login = ⊥

-- a frame completes a login: an init by the mechanism that it asks for, which is offered, unless a response is due; or a
-- response
abbrev pub FrameCompletes : ServerSettings → ServerStage → SaslFrame → ServerLogin → Type 0
FrameCompletes settings stage (frames.Init name response hostname) login = (is_response_asked stage ≡ false)
    × ((mechanism : Mechanism) × (asked_mechanism settings name ≡ Some mechanism)
    × InitCompletes settings mechanism response login)
FrameCompletes settings stage (frames.Response text) login = ResponseCompletes settings stage text login
FrameCompletes settings stage frame login = ⊥

-- the login that a frame completes is that of the server from then on
abbrev pub CompletedLoginsAreLetIn : Type 0
CompletedLoginsAreLetIn = (server next : ServerAt) (nonce : List ℕ) (frame reply : SaslFrame) (login : ServerLogin)
    → sasl_machine server nonce frame reply next → FrameCompletes server.settings server.stage frame login
    → next.stage ≡ UserAuthenticated login

-- a server that is logged in after a frame was completed by it, or was there before
abbrev pub OnlyCompletedLoginsAreLetIn : Type 0
OnlyCompletedLoginsAreLetIn = (server next : ServerAt) (nonce : List ℕ) (frame reply : SaslFrame) (login : ServerLogin)
    → sasl_machine server nonce frame reply next → logged_in_at next.stage ≡ Some login
    → FrameCompletes server.settings server.stage frame login ⊎ (next.stage ≡ server.stage)

-- a signature is in a challenge after a client-final message that meets the open exchange, whose user it then logs in, or was
-- there before
abbrev pub SignaturesFollowProofs : Type 0
SignaturesFollowProofs = (server next : ServerAt) (nonce : List ℕ) (frame reply : SaslFrame) (login : ServerLogin)
    → sasl_machine server nonce frame reply next → next.stage ≡ SignatureShown login
    → ((version : ScramVersion) × (plus : Bool) × (exchange : OpenExchange) × (text : List ℕ)
    × (server.stage ≡ ExchangeOpen version plus exchange) × (frame ≡ frames.Response text)
    × MeetsExchange server.settings version plus exchange text × (login ≡ exchange_login version plus exchange))
    ⊎ (next.stage ≡ server.stage)
