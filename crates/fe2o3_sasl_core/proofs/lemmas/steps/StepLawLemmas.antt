-- What an Ok of one step means, for a caller's own proof: `oks_log_in` of a server,
-- `reported_oks_are_signed` of a client.
use Rattle.std.proofs.Common.{◌≡◌, ◌≢◌, ℕ, Bool, true, false, Option, Some, None, List, [], refl, sym, ap, ◌∙◌, subst, inl, inr, Result, Ok, Err}
use Rattle.fe2o3_sasl_wire.specs.declared.amqp_types.SaslCode.{SaslCode}
use Rattle.fe2o3_sasl_wire.specs.declared.amqp_types.SaslCode.TheVariants as outcomes
use Rattle.fe2o3_sasl_wire.specs.declared.sasl_frames.error.Error.TheVariants as faults
use Rattle.fe2o3_sasl_wire.specs.SaslFrames.{canonical, SaslFrame}
use Rattle.fe2o3_sasl_wire.specs.SaslFrames as frames
use Rattle.fe2o3_scram.specs.Credentials.{Provider}
use Rattle.fe2o3_scram.specs.declared.scram_messages.error.ScramErrorKind.{ScramErrorKind}
use Rattle.fe2o3_scram.specs.declared.scram_messages.error.ServerScramErrorKind.{ServerScramErrorKind}
use Rattle.fe2o3_scram.specs.ScramClient.{is_strict_client, ClientSide, ClientState, SignatureVerified, ConcludesIn, VerifiesIn, expects_signature}
use Rattle.fe2o3_scram.specs.ScramServer.{ServerState, ServerFinalSent, ConcludesFrom}
use Rattle.fe2o3_scram.specs.Logins.{IsSigned}
use Rattle.fe2o3_scram.proofs.lemmas.messages.LoginLemmas.{accepted_texts_log_in, verified_texts_are_signed}
use Rattle.fe2o3_sasl_core.specs.Bodies.{SpellsBody, carried, server_says}
use Rattle.fe2o3_sasl_core.specs.Events.{Given, ServerSays, Concluded, Failed, ClientSays, Reported, Refused}
use Rattle.fe2o3_sasl_core.specs.Profiles.{Profile, ScramProfile}
use Rattle.fe2o3_sasl_core.specs.ProfileMachine.{ChallengeReplies, client_frame, profile_machine}
use Rattle.fe2o3_sasl_core.specs.Runs.{Replies, SendsCanonical}
use Rattle.fe2o3_sasl_core.specs.SaslAcceptor.{Acceptor, ScramAcceptor, acceptor_machine, ends_with, server_frame}
use Rattle.fe2o3_sasl_core.specs.StepLaws.{BodyLogsIn, OksLogIn, ReportedOksAreSigned, ShowsSignature}
use Rattle.fe2o3_sasl_core.specs.declared.sasl_profile.error.ProfileError.{ProfileError}
use Rattle.fe2o3_sasl_core.specs.declared.sasl_profile.error.ProfileError.TheVariants.{Frame}

-- ---- a server

-- a reply is sent with the state after it
abbrev SendsOk : SaslFrame → Acceptor → Acceptor → List ℕ → Acceptor → Type 0
SendsOk reply state moved body next =
    SendsCanonical (Failed faults.TooLarge) (server_says reply) (canonical reply) state moved (Concluded outcomes.Ok body) next

-- an outcome of code Auth is no Ok, and neither is a challenge
auth_is_no_ok : (reply : SaslFrame) (state moved next : Acceptor) (body : List ℕ) → reply ≡ ends_with outcomes.Auth
    → ¬ SendsOk reply state moved body next
auth_is_no_ok reply state moved next body is said =
    none (canonical (ends_with outcomes.Auth))
    (subst (λ (f : SaslFrame). SendsOk f state moved body next) is said).0
  where
    none : (sent : Option (List ℕ)) → Concluded outcomes.Ok body
        ≢ carried (Failed faults.TooLarge) (server_says (ends_with outcomes.Auth)) sent
    none None same = absurd (cc)
    none (Some other) same = absurd (cc)

challenge_is_no_ok : (reply : SaslFrame) (text : List ℕ) (state moved next : Acceptor) (body : List ℕ)
    → reply ≡ frames.Challenge text → ¬ SendsOk reply state moved body next
challenge_is_no_ok reply text state moved next body is said =
    none (canonical (frames.Challenge text)) (subst (λ (f : SaslFrame). SendsOk f state moved body next) is said).0
  where
    none : (sent : Option (List ℕ)) → Concluded outcomes.Ok body
        ≢ carried (Failed faults.TooLarge) (server_says (frames.Challenge text)) sent
    none None same = absurd (cc)
    none (Some other) same = absurd (cc)

-- what is sent with an Ok leaves the state that it moved to
sent_moves : {S : Type 0} (sent : Option (List ℕ)) (code : SaslCode) (body : List ℕ) (state moved next : S)
    → SendsCanonical (Failed faults.TooLarge) (λ b. Concluded code b) sent state moved (Concluded outcomes.Ok body) next
    → next ≡ moved
sent_moves None code body state moved next said = let no = said.0 in absurd (cc)
sent_moves (Some other) code body state moved next said = said.1

init_is_no_ok : (provider : Provider) (state : ServerState) (nonce mechanism : List ℕ)
    (response hostname : Option (List ℕ)) (reply : SaslFrame) (moved next : Acceptor) (body : List ℕ)
    → acceptor_machine (ScramAcceptor provider state) nonce (frames.Init mechanism response hostname) reply moved
    → ¬ SendsOk reply (ScramAcceptor provider state) moved body next
init_is_no_ok provider state nonce mechanism None hostname reply moved next body m said =
    auth_is_no_ok reply (ScramAcceptor provider state) moved next body m.0 said
init_is_no_ok provider state nonce mechanism (Some text) hostname reply moved next body (inl m) said =
    auth_is_no_ok reply (ScramAcceptor provider state) moved next body m.1 said
init_is_no_ok provider state nonce mechanism (Some text) hostname reply moved next body (inr m) said =
    answered m.1.0 m.1.3
  where
    answered : (answer : Result (Option (List ℕ)) ServerScramErrorKind)
        → reply ≡ server_frame (λ message. frames.Challenge message) answer → ⊥
    answered (Ok (Some message)) is =
        challenge_is_no_ok reply message (ScramAcceptor provider state) moved next body is said
    answered (Ok None) is = auth_is_no_ok reply (ScramAcceptor provider state) moved next body is said
    answered (Err fault) is = auth_is_no_ok reply (ScramAcceptor provider state) moved next body is said

-- a response that is answered Ok
response_logs_in : (provider : Provider) (state after : ServerState) (event : Given) (text : List ℕ)
    (answer : Result (Option (List ℕ)) ServerScramErrorKind) (reply : SaslFrame) (moved next : Acceptor)
    (body : List ℕ) → SpellsBody event.body (Ok (frames.Response text))
    → ConcludesFrom state provider.version provider.rules provider.rights text answer after
    → reply ≡ server_frame (λ message. frames.Outcome outcomes.Ok (Some message)) answer
    → moved ≡ ScramAcceptor provider after → SendsOk reply (ScramAcceptor provider state) moved body next
    → (user : List ℕ) × (acts_for : Option (List ℕ))
    × BodyLogsIn provider.version provider.rules provider.rights state event.body user acts_for
    × (next ≡ ScramAcceptor provider (ServerFinalSent user acts_for))
response_logs_in provider state after event text (Ok (Some message)) reply moved next body spells from is to said =
    let sent = subst (λ (f : SaslFrame). SendsOk f (ScramAcceptor provider state) moved body next) is said in
    let logs = accepted_texts_log_in state after provider.version provider.rules provider.rights text (Some message) from
    in (
      logs.0,
      logs.1,
      (text, spells, logs.2),
      sent_moves (canonical (frames.Outcome outcomes.Ok (Some message))) outcomes.Ok body
          (ScramAcceptor provider state) moved next sent
          ∙ (to ∙ ap (λ (s : ServerState). ScramAcceptor provider s) logs.3),
    )
response_logs_in provider state after event text (Ok None) reply moved next body spells from is to said =
    absurd (auth_is_no_ok reply (ScramAcceptor provider state) moved next body is said)
response_logs_in provider state after event text (Err fault) reply moved next body spells from is to said =
    absurd (auth_is_no_ok reply (ScramAcceptor provider state) moved next body is said)

pub oks_log_in : OksLogIn
oks_log_in provider state event body next (Err fault, spells, gives) = let no = gives.0 in absurd (cc)
oks_log_in provider state event body next (Ok (frames.Mechanisms names), spells, gives) =
    let no = gives.0 in absurd (cc)
oks_log_in provider state event body next (Ok (frames.Challenge text), spells, gives) =
    let no = gives.0 in absurd (cc)
oks_log_in provider state event body next (Ok (frames.Outcome code more), spells, gives) =
    let no = gives.0 in absurd (cc)
oks_log_in provider state event body next (Ok (frames.Init mechanism response hostname), spells, inl wants) =
    let no = wants.0 in absurd (cc)
oks_log_in provider state event body next (Ok (frames.Init mechanism response hostname), spells, inr gives) =
    absurd (init_is_no_ok provider state event.nonce mechanism response hostname gives.0 gives.1 next body gives.2
    gives.3)
oks_log_in provider state event body next (Ok (frames.Response text), spells, inl wants) =
    let no = wants.0 in absurd (cc)
oks_log_in provider state event body next (Ok (frames.Response text), spells, inr gives) =
    response_logs_in provider state gives.2.1 event text gives.2.0 gives.0 gives.1 next body spells gives.2.2 gives.2.3
    gives.2.4 gives.3

-- ---- a client

-- what a profile replies is no report, where it is an error, an init or a response
abbrev Reports : Profile → Profile → Result SaslFrame ProfileError → Option (List ℕ) → Profile → Type 0
Reports profile moved reply more next = Replies profile moved reply (Reported outcomes.Ok more) next

refusal_is_no_report : (profile moved next : Profile) (reply : Result SaslFrame ProfileError) (fault : ProfileError)
    (more : Option (List ℕ)) → reply ≡ Err fault → ¬ Reports profile moved reply more next
refusal_is_no_report profile moved next reply fault more is said =
    let no = (subst (λ (r : Result SaslFrame ProfileError). Reports profile moved r more next) is said).0 in absurd (cc)

init_is_no_report : (profile moved next : Profile) (reply : Result SaslFrame ProfileError) (mechanism : List ℕ)
    (response hostname more : Option (List ℕ)) → reply ≡ Ok (frames.Init mechanism response hostname)
    → ¬ Reports profile moved reply more next
init_is_no_report profile moved next reply mechanism response hostname more is said =
    none (canonical (frames.Init mechanism response hostname))
    (subst (λ (r : Result SaslFrame ProfileError). Reports profile moved r more next) is said).0
  where
    none : (sent : Option (List ℕ)) → Reported outcomes.Ok more
        ≢ carried (Refused (Frame faults.TooLarge)) (λ body. Rattle.fe2o3_sasl_core.specs.Events.Started body) sent
    none None same = absurd (cc)
    none (Some other) same = absurd (cc)

response_is_no_report : (profile moved next : Profile) (reply : Result SaslFrame ProfileError) (text : List ℕ)
    (more : Option (List ℕ)) → reply ≡ Ok (frames.Response text) → ¬ Reports profile moved reply more next
response_is_no_report profile moved next reply text more is said =
    none (canonical (frames.Response text))
    (subst (λ (r : Result SaslFrame ProfileError). Reports profile moved r more next) is said).0
  where
    none : (sent : Option (List ℕ)) → Reported outcomes.Ok more
        ≢ carried (Refused (Frame faults.TooLarge)) (λ body. Rattle.fe2o3_sasl_core.specs.Events.Answered body) sent
    none None same = absurd (cc)
    none (Some other) same = absurd (cc)

-- an outcome of another code is not reported as Ok
other_code : (profile moved next : Profile) (reply : Result SaslFrame ProfileError) (code : SaslCode)
    (shown more : Option (List ℕ)) → reply ≡ Ok (frames.Outcome code shown) → code ≢ outcomes.Ok
    → ¬ Reports profile moved reply more next
other_code profile moved next reply code shown more is apart said =
    let same = (subst (λ (r : Result SaslFrame ProfileError). Reports profile moved r more next) is said).0 in
    apart (cc)

-- a verifier that is verified
verified_is_signed : (client after : ClientSide) (event : Given) (text : List ℕ)
    (answer : Result (Unit {0}) ScramErrorKind) (reply : Result SaslFrame ProfileError) (moved next : Profile)
    (more : Option (List ℕ)) → VerifiesIn client.state client text answer after
    → reply ≡ client_frame (λ verified. frames.Outcome outcomes.Ok (Some text)) answer
    → Reports (ScramProfile client) moved reply more next → (more ≡ Some text)
    × IsSigned (is_strict_client client) client.state text
verified_is_signed client after event text (Ok tt) reply moved next more from is said =
    let same = (subst (λ (r : Result SaslFrame ProfileError). Reports (ScramProfile client) moved r more next) is
    said).0 in (cc, verified_texts_are_signed client after text from)
verified_is_signed client after event text (Err kind) reply moved next more from is said =
    absurd (refusal_is_no_report (ScramProfile client) moved next reply _ more is said)

-- a challenge is answered or rejected
challenge_is_no_report : (expects : Bool) (client : ClientSide) (text : List ℕ) (reply : Result SaslFrame ProfileError)
    (moved next : Profile) (more : Option (List ℕ)) → ChallengeReplies expects client text reply moved
    → ¬ Reports (ScramProfile client) moved reply more next
challenge_is_no_report false client text reply moved next more m said = answered m.0 m.3
  where
    answered : (answer : Result (List ℕ) ScramErrorKind)
        → reply ≡ client_frame (λ message. frames.Response message) answer → ⊥
    answered (Ok message) is = response_is_no_report (ScramProfile client) moved next reply message more is said
    answered (Err kind) is = refusal_is_no_report (ScramProfile client) moved next reply _ more is said
challenge_is_no_report true client text reply moved next more m said = confirmed m.0 m.3
  where
    confirmed : (answer : Result (Unit {0}) ScramErrorKind)
        → reply ≡ client_frame (λ verified. frames.Response []) answer → ⊥
    confirmed (Ok verified) is = response_is_no_report (ScramProfile client) moved next reply [] more is said
    confirmed (Err kind) is = refusal_is_no_report (ScramProfile client) moved next reply _ more is said

-- an outcome without data that is accepted
ended_is_verified : (state : ClientState) (client after : ClientSide) (answer : Result (Unit {0}) ScramErrorKind)
    (reply : Result SaslFrame ProfileError) (moved next : Profile) (more : Option (List ℕ))
    → ConcludesIn state client answer after
    → reply ≡ client_frame (λ verified. frames.Outcome outcomes.Ok None) answer
    → Reports (ScramProfile client) moved reply more next → (more ≡ None) × ShowsSignature (is_strict_client client) state None
ended_is_verified (SignatureVerified keys) client after (Ok tt) reply moved next more from is said =
    let same = (subst (λ (r : Result SaslFrame ProfileError). Reports (ScramProfile client) moved r more next) is
    said).0 in (cc, (keys, refl))
ended_is_verified state client after (Ok tt) reply moved next more from is said = absurd from
ended_is_verified state client after (Err kind) reply moved next more from is said =
    absurd (refusal_is_no_report (ScramProfile client) moved next reply _ more is said)

pub reported_oks_are_signed : ReportedOksAreSigned
reported_oks_are_signed hostname client event more next (Err fault, spells, gives) = let no = gives.0 in absurd (cc)
reported_oks_are_signed hostname client event more next (Ok frame, spells, inl wants) =
    let no = wants.1 in absurd (cc)
reported_oks_are_signed hostname client event more next (Ok frame, spells, inr gives) =
    go frame gives.0 gives.1 spells gives.2 gives.3
  where
    go : (frame : SaslFrame) (reply : Result SaslFrame ProfileError) (moved : Profile)
        → SpellsBody event.body (Ok frame) → profile_machine (ScramProfile client) hostname event.nonce frame reply moved
        → Reports (ScramProfile client) moved reply more next
        → SpellsBody event.body (Ok (frames.Outcome outcomes.Ok more))
        × ShowsSignature (is_strict_client client) client.state more
    go (frames.Mechanisms names) reply moved spells (inl m) said =
        absurd (init_is_no_report (ScramProfile client) moved next reply _ _ _ more m.1 said)
    go (frames.Mechanisms names) reply moved spells (inr m) said =
        absurd (refusal_is_no_report (ScramProfile client) moved next reply _ more m.1 said)
    go (frames.Challenge text) reply moved spells (inl m) said =
        absurd (refusal_is_no_report (ScramProfile client) moved next reply _ more m.1 said)
    go (frames.Challenge text) reply moved spells (inr m) said =
        absurd (challenge_is_no_report (expects_signature client) client text reply moved next more m.1 said)
    go (frames.Outcome outcomes.Ok None) reply moved spells m said =
        let ended = ended_is_verified client.state client m.1 m.0 reply moved next more m.2 m.3 said in
        subst (λ (shown : Option (List ℕ)). SpellsBody event.body (Ok (frames.Outcome outcomes.Ok shown))
        × ShowsSignature (is_strict_client client) client.state shown) (sym ended.0) (spells, ended.1)
    go (frames.Outcome outcomes.Ok (Some text)) reply moved spells m said =
        let signed = verified_is_signed client m.1 event text m.0 reply moved next more m.2 m.3 said in
        subst (λ (shown : Option (List ℕ)). SpellsBody event.body (Ok (frames.Outcome outcomes.Ok shown))
        × ShowsSignature (is_strict_client client) client.state shown) (sym signed.0) (spells, signed.1)
    go (frames.Outcome outcomes.Auth shown) reply moved spells m said =
        absurd (other_code (ScramProfile client) moved next reply outcomes.Auth shown more m.0 (λ is. absurd (cc)) said)
    go (frames.Outcome outcomes.Sys shown) reply moved spells m said =
        absurd (other_code (ScramProfile client) moved next reply outcomes.Sys shown more m.0 (λ is. absurd (cc)) said)
    go (frames.Outcome outcomes.SysPerm shown) reply moved spells m said =
        absurd (other_code (ScramProfile client) moved next reply outcomes.SysPerm shown more m.0 (λ is. absurd (cc)) said)
    go (frames.Outcome outcomes.SysTemp shown) reply moved spells m said =
        absurd (other_code (ScramProfile client) moved next reply outcomes.SysTemp shown more m.0 (λ is. absurd (cc)) said)
    go (frames.Init mechanism response hostname) reply moved spells m said =
        absurd (refusal_is_no_report (ScramProfile client) moved next reply _ more m.0 said)
    go (frames.Response text) reply moved spells m said =
        absurd (refusal_is_no_report (ScramProfile client) moved next reply _ more m.0 said)
