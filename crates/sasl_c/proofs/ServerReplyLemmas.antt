-- The server of a configuration after a reply: its settings are as before, and its stage is one that is restored as it is.
use Rattle.std.proofs.Common.{refl, sym, ap, inl, inr, ◌∙◌, ◌≡◌, ◌⊎◌, ℕ, List}
use Rattle.std.specs.Prelude.{Bool, true, false, if◌then◌else◌, Option, Some, None, Result, Ok, Err}
use Rattle.fe2o3_sasl_wire.specs.declared.amqp_types.SaslCode.{SaslCode}
use Rattle.fe2o3_sasl_wire.specs.declared.amqp_types.SaslCode.TheVariants as outcomes
use Rattle.fe2o3_sasl_wire.specs.declared.sasl_frames.error.Error.{Error}
use Rattle.fe2o3_sasl_wire.specs.declared.sasl_frames.error.Error.TheVariants as faults
use Rattle.fe2o3_sasl_wire.specs.SaslFrames as frames
use Rattle.fe2o3_sasl_wire.specs.SaslFrames.{SaslFrame, canonical}
use Rattle.fe2o3_scram.specs.ChannelBinding.{is_required}
use Rattle.fe2o3_scram.specs.ServerFirst.{ServerChallenge}
use Rattle.fe2o3_scram.specs.declared.hmac.ScramVersion.{ScramVersion}
use Rattle.fe2o3_sasl_core.specs.Bodies.{carried as sent_or_not, server_says}
use Rattle.fe2o3_sasl_core.specs.Events.{Given, ServerSays, Challenged, Concluded, Failed}
use Rattle.fe2o3_sasl_core.specs.Runs.{AcceptorAnswers, AcceptorGives, SendsCanonical}
use Rattle.fe2o3_sasl_core.specs.SavedServers.{IsRestored, KeptStage, KeptNothing, KeptAsked, KeptOpen, KeptSignature, KeptLogin, challenge_mechanism, exchange_now, kept_stage, restored_stage}
use Rattle.fe2o3_sasl_core.specs.Servers.{ExchangeOpen, NotStarted, ResponseAsked, ServerSettings, ServerStage, SignatureShown, UserAuthenticated, is_offered_by, logged_in_at, sasl_reasons}
use Rattle.fe2o3_sasl_core.specs.declared.rejection.Rejection.{Rejection}
use Rattle.fe2o3_sasl_core.specs.declared.mechanism.Mechanism.{Mechanism}
use Rattle.fe2o3_sasl_core.proofs.lemmas.machines.SavedServerLemmas.{stage_goes}
use Rattle.sasl_c.specs.declared.sasl_server.SaslServerConfig.{SaslServerConfig as Config}
use Rattle.sasl_c.specs.Rejections.{IsReasonOf, Logged, server_machine}
use Rattle.sasl_c.specs.SaslServer.{AreSettings}
use Rattle.sasl_c.specs.Server.{IsUnfinished}
use Rattle.sasl_c.proofs.CallStageLemmas.{stage_quiet}
use Rattle.sasl_c.proofs.StatusLemmas.{carried}

-- ---- a stage that is restored

module _ (settings : ServerSettings) where
  again_asked : (mechanism : Mechanism) (nonce : List ℕ) (is : Bool) → is_offered_by settings mechanism ≡ is
      → IsRestored settings (if is then ResponseAsked mechanism nonce else NotStarted)
  unfolding IsRestored
  again_asked mechanism nonce true offers = ap (λ (is : Bool). if is then ResponseAsked mechanism nonce else NotStarted) offers
  again_asked mechanism nonce false offers = refl

  abbrev opened : ScramVersion → ServerChallenge → ServerStage
  opened version challenge =
      ExchangeOpen version (is_required challenge.header.flag) (exchange_now settings version challenge)

  again_open : (version : ScramVersion) (challenge : ServerChallenge) (is : Bool)
      → is_offered_by settings (challenge_mechanism version challenge) ≡ is
      → IsRestored settings (if is then opened version challenge else NotStarted)
  unfolding IsRestored
  again_open version challenge true offers =
      ap (λ (is : Bool). if is then opened version challenge else NotStarted) offers
  again_open version challenge false offers = refl

  -- what is restored is restored again as it is
  restored_again : (kept : KeptStage) → IsRestored settings (restored_stage settings kept)
  unfolding IsRestored
  restored_again KeptNothing = refl
  restored_again (KeptAsked mechanism nonce) = again_asked mechanism nonce (is_offered_by settings mechanism) refl
  restored_again (KeptOpen version challenge) =
      again_open version challenge (is_offered_by settings (challenge_mechanism version challenge)) refl
  restored_again (KeptSignature login) = refl
  restored_again (KeptLogin login) = refl

  pub restored_so : (stage : ServerStage) (kept : KeptStage) → stage ≡ restored_stage settings kept
      → IsRestored settings stage
  restored_so stage kept same =
      carried (IsRestored settings) (restored_stage settings kept) stage (sym same) (restored_again kept)

  pub restores : (stage : ServerStage) → IsRestored settings stage → stage ≡ restored_stage settings (kept_stage stage)
  unfolding IsRestored
  restores stage is = sym is

  -- a stage that was restored is the one before any init, or was saved so
  kept_where : (is : Bool) (restored stage : ServerStage) (kept : KeptStage) → kept_stage restored ≡ kept
      → stage ≡ (if is then restored else NotStarted) → (stage ≡ NotStarted) ⊎ (kept ≡ kept_stage stage)
  kept_where true restored stage kept saves same = inr (sym saves ∙ sym (ap kept_stage same))
  kept_where false restored stage kept saves same = inl same

  pub kept_by : (stage : ServerStage) (kept : KeptStage) → stage ≡ restored_stage settings kept
      → (stage ≡ NotStarted) ⊎ (kept ≡ kept_stage stage)
  kept_by stage KeptNothing same = inl same
  kept_by stage (KeptAsked mechanism nonce) same = kept_where (is_offered_by settings mechanism) _ stage _ refl same
  kept_by stage (KeptOpen version challenge) same =
      kept_where (is_offered_by settings (challenge_mechanism version challenge)) _ stage _ refl same
  kept_by stage (KeptSignature login) same = inr (sym (ap kept_stage same))
  kept_by stage (KeptLogin login) same = inr (sym (ap kept_stage same))

-- ---- after a reply

-- a server with the settings of a configuration, whose stage is restored as it is
abbrev pub Serves : Config → Logged → Type 0
Serves config logged = AreSettings config logged.server.settings
    × IsRestored logged.server.settings logged.server.stage

machine_serves : (config : Config) (server next : Logged) (nonce : List ℕ) (frame reply : SaslFrame)
    → Serves config server → server_machine server nonce frame reply next → Serves config next
machine_serves config server next nonce frame reply (are, is) held = let same = held.0.0 in (
  carried (AreSettings config) server.server.settings next.server.settings (sym same) are,
  carried (λ (s : ServerSettings). IsRestored s next.server.stage) server.server.settings next.server.settings (sym same)
      (stage_goes server.server.settings server.server.stage next.server.stage nonce frame reply is held.0.1),
)

sent_serves : (config : Config) (server moved next : Logged) (sent : Option (List ℕ)) → Serves config server
    → Serves config moved → next ≡ sent_or_not server (λ _. moved) sent → Serves config next
sent_serves config server moved next None before after same = carried (Serves config) server next (sym same) before
sent_serves config server moved next (Some body) before after same =
    carried (Serves config) moved next (sym same) after

answers_serves : (config : Config) (server next : Logged) (nonce : List ℕ) (frame : SaslFrame) (says : ServerSays)
    → Serves config server → AcceptorAnswers server_machine server nonce frame says next → Serves config next
answers_serves config server next nonce frame says serves (inl failed) =
    carried (Serves config) server next (sym failed.1) serves
answers_serves config server next nonce frame says serves (inr (reply, moved, held, sends)) = sent_serves config server
    moved next (canonical reply) serves (machine_serves config server moved nonce frame reply serves held) sends.1

pub gives_serves : (config : Config) (server next : Logged) (event : Given) (spelled : Result SaslFrame Error)
    (says : ServerSays) → Serves config server → AcceptorGives server_machine server event spelled says next
    → Serves config next
gives_serves config server next event (Err fault) says serves is =
    carried (Serves config) server next (sym is.1) serves
gives_serves config server next event (Ok (frames.Mechanisms names)) says serves is =
    carried (Serves config) server next (sym is.1) serves
gives_serves config server next event (Ok (frames.Challenge text)) says serves is =
    carried (Serves config) server next (sym is.1) serves
gives_serves config server next event (Ok (frames.Outcome code more)) says serves is =
    carried (Serves config) server next (sym is.1) serves
gives_serves config server next event (Ok (frames.Init mechanism response hostname)) says serves is =
    answers_serves config server next event.nonce (frames.Init mechanism response hostname) says serves is
gives_serves config server next event (Ok (frames.Response text)) says serves is =
    answers_serves config server next event.nonce (frames.Response text) says serves is

-- ---- a server that goes on

-- it has rejected nothing, and nobody has logged in
abbrev pub Goes : Logged → Type 0
Goes logged = (logged.rejection ≡ None) × IsUnfinished (kept_stage logged.server.stage)

abbrev Ends : SaslFrame → Type 0
Ends reply = (code : SaslCode) × (more : Option (List ℕ)) × (reply ≡ frames.Outcome code more)

out_unfinished : (stage : ServerStage) → logged_in_at stage ≡ None → IsUnfinished (kept_stage stage)
out_unfinished NotStarted out = tt
out_unfinished (ResponseAsked mechanism nonce) out = tt
out_unfinished (ExchangeOpen version plus exchange) out = tt
out_unfinished (SignatureShown login) out = tt
out_unfinished (UserAuthenticated login) out = absurd (cc)

unfinished : (reply : SaslFrame) (stage : ServerStage) → ¬ Ends reply → Ends reply ⊎ (logged_in_at stage ≡ None)
    → IsUnfinished (kept_stage stage)
unfinished reply stage not (inl ends) = absurd (not ends)
unfinished reply stage not (inr out) = out_unfinished stage out

no_reason : (Reasons : Rejection → Type 0) (reply : SaslFrame) (rejection : Option Rejection) → ¬ Ends reply
    → IsReasonOf Reasons reply rejection → rejection ≡ None
no_reason Reasons reply None not is = refl
no_reason Reasons reply (Some reason) not is = absurd (not (outcomes.Auth, None, is.0))

-- after a reply that is no outcome
machine_goes : (server next : Logged) (nonce : List ℕ) (frame reply : SaslFrame) → ¬ Ends reply
    → server_machine server nonce frame reply next → Goes next
machine_goes server next nonce frame reply not is = let settings = server.server.settings in (
  no_reason (sasl_reasons server.server frame) reply next.rejection not is.1,
  unfinished reply next.server.stage not (stage_quiet settings settings.records settings.rights settings.mock
      settings.plain_version server.server.stage next.server.stage nonce frame reply is.0.1),
)

sent_goes : (server moved next : Logged) (nonce : List ℕ) (frame reply : SaslFrame) (written : Option (List ℕ))
    (says : ServerSays) (body : List ℕ) → Goes server → server_machine server nonce frame reply moved
    → says ≡ Challenged body
    → SendsCanonical (Failed faults.TooLarge) (server_says reply) written server moved says next → Goes next
sent_goes server moved next nonce frame reply None says body goes is said sends =
    carried Goes server next (sym sends.1) goes
sent_goes server moved next nonce frame reply (Some text) says body goes is said sends =
    carried Goes moved next (sym sends.1) (machine_goes server moved nonce frame reply (λ ends.
    let concludes : says ≡ Concluded ends.0 text = sends.0 ∙ ap (λ (r : SaslFrame). server_says r text) ends.2 in
    let never : Challenged body ≡ Concluded ends.0 text = sym said ∙ concludes in
    absurd (cc)) is)

answers_goes : (server next : Logged) (nonce : List ℕ) (frame : SaslFrame) (says : ServerSays) (body : List ℕ)
    → Goes server → says ≡ Challenged body → AcceptorAnswers server_machine server nonce frame says next → Goes next
answers_goes server next nonce frame says body goes said (inl failed) =
    carried Goes server next (sym failed.1) goes
answers_goes server next nonce frame says body goes said (inr (reply, moved, held, sends)) =
    sent_goes server moved next nonce frame reply (canonical reply) says body goes held said sends

-- after a challenge
pub gives_goes : (server next : Logged) (event : Given) (spelled : Result SaslFrame Error) (says : ServerSays)
    (body : List ℕ) → Goes server → says ≡ Challenged body
    → AcceptorGives server_machine server event spelled says next → Goes next
gives_goes server next event (Err fault) says body goes said is = carried Goes server next (sym is.1) goes
gives_goes server next event (Ok (frames.Mechanisms names)) says body goes said is =
    carried Goes server next (sym is.1) goes
gives_goes server next event (Ok (frames.Challenge text)) says body goes said is =
    carried Goes server next (sym is.1) goes
gives_goes server next event (Ok (frames.Outcome code more)) says body goes said is =
    carried Goes server next (sym is.1) goes
gives_goes server next event (Ok (frames.Init mechanism response hostname)) says body goes said is =
    answers_goes server next event.nonce (frames.Init mechanism response hostname) says body goes said is
gives_goes server next event (Ok (frames.Response text)) says body goes said is =
    answers_goes server next event.nonce (frames.Response text) says body goes said is
