-- Each list of events whose bodies are bytes has a run of either machine in which memory does not run out, and so a
-- history.
use Rattle.std.proofs.Common.{◌≡◌, ◌≢◌, ℕ, Bool, true, false, zero, suc, ◌<◌, Option, Some, None, List, [], ◌∷◌, length, refl, sym, ◌∙◌, arith, inl, inr, Result, Ok, Err}
use Rattle.std.specs.List.{Contains}
use Rattle.std.specs.Prelude.{slice_get, slice_index_or, IsUtf8}
use Rattle.std.proofs.lemmas.Option.{none-some, same_Some}
use Rattle.fe2o3_sasl_wire.specs.SaslFrames.{ReadsBody, fault_of, IsBytes, canonical, SaslFrame}
use Rattle.fe2o3_sasl_wire.specs.SaslFrames as frames
use Rattle.fe2o3_sasl_wire.specs.declared.amqp_types.SaslCode.TheVariants as outcomes
use Rattle.fe2o3_sasl_wire.specs.declared.sasl_frames.error.Error.{Error}
use Rattle.fe2o3_sasl_wire.specs.declared.sasl_frames.error.Error.TheVariants as faults
use Rattle.fe2o3_sasl_wire.proofs.lemmas.frames.LawLemmas.{bodies_have_one_answer}
use Rattle.fe2o3_scram.specs.ActingRights.{Rights}
use Rattle.fe2o3_scram.specs.ChannelBinding.{server_mechanism}
use Rattle.fe2o3_scram.specs.ClientFinal.{ClientFinal, ReadsClientFinal, answer_of}
use Rattle.fe2o3_scram.specs.ClientFirst.{ClientFirst, ReadsClientFirst}
use Rattle.fe2o3_scram.specs.Credentials.{Record, Provider}
use Rattle.fe2o3_scram.specs.declared.hmac.ScramVersion.{ScramVersion}
use Rattle.fe2o3_scram.specs.declared.scram_messages.server_rules.ServerRules.{ServerRules}
use Rattle.fe2o3_scram.specs.ScramClient as client_states
use Rattle.fe2o3_scram.specs.ScramClient.{is_strict_client, ClientSide, ClientState, AnswersIn, ChecksSignatureIn, ConcludesIn, VerifiesIn, expects_signature, started, with_state, holding, header_in}
use Rattle.fe2o3_scram.specs.ScramServer.{ServerState, Initial, ServerFirstSent, ServerFinalSent, ChallengesFrom, ConcludesFrom, server_against}
use Rattle.fe2o3_scram.specs.ServerFinal.{ReadsServerFinal, server_final_of}
use Rattle.fe2o3_scram.specs.ServerFirst.{ServerFirst, ReadsServerFirst, challenge_of}
use Rattle.fe2o3_scram.specs.Texts.{base64_text}
use Rattle.fe2o3_scram.specs.declared.scram_messages.error.ScramErrorKind.{ScramErrorKind}
use Rattle.fe2o3_scram.specs.declared.scram_messages.error.ScramErrorKind.TheVariants.{Utf8Error, ServerSignatureMismatch, IllegalClientState}
use Rattle.fe2o3_scram.specs.declared.scram_messages.error.ServerScramErrorKind.{ServerScramErrorKind}
use Rattle.fe2o3_scram.specs.declared.scram_messages.error.ServerScramErrorKind.TheVariants.{IllegalAuthenticatorState}
use Rattle.fe2o3_scram.proofs.lemmas.messages.SomeReadingLemmas.{some_client_first, some_server_first, some_client_final, some_server_final}
use Rattle.fe2o3_scram.proofs.lemmas.texts.DecisionLemmas.{Decided, same_or, utf8_or}
use Rattle.fe2o3_sasl_core.specs.Events.{Given, ServerSays, Failed, ClientSays, Started, Answered, Reported, Refused}
use Rattle.fe2o3_sasl_core.specs.Laws.{BodiesAreBytes, SomeServerHistory, SomeClientHistory}
use Rattle.fe2o3_sasl_core.specs.Runs.{Runs, AcceptorGives, AcceptorSteps, ProfileGives, ProfileSteps, Replies, SendsCanonical}
use Rattle.fe2o3_sasl_core.specs.SaslAcceptor.{ScramAcceptor, acceptor_machine, ends_with, server_frame}
use Rattle.fe2o3_sasl_core.specs.Profiles.{ScramProfile, profile_name, initial_response}
use Rattle.fe2o3_sasl_core.specs.ProfileMachine.{ChallengeReplies, profile_machine, client_frame}
use Rattle.fe2o3_sasl_core.specs.Complete.{ServerComplete, ClientComplete}
use Rattle.fe2o3_sasl_core.specs.Bodies.{SpellsBody, server_says}
use Rattle.fe2o3_sasl_core.proofs.lemmas.machines.ClientMachineLemmas.{profile_runs_are_histories}
use Rattle.fe2o3_sasl_core.proofs.lemmas.machines.MemoryLemmas.{no_want, scram_tells}
use Rattle.fe2o3_sasl_core.proofs.lemmas.machines.ServerMachineLemmas.{acceptor_runs_are_histories}
use Rattle.fe2o3_sasl_core.specs.declared.sasl_profile.error.ProfileError.{ProfileError}
use Rattle.fe2o3_sasl_core.specs.declared.sasl_profile.error.ProfileError.TheVariants.{NotImplemented, Scram, Frame, OutOfMemory}

-- ---- what a body spells

-- it is not a fault of memory
abbrev Readable : Result SaslFrame Error → Type 0
Readable (Ok frame) = Unit {0}
Readable (Err fault) = fault ≢ faults.OutOfMemory

some_spelling : (body : List ℕ) → IsBytes body
    → (spelled : Result SaslFrame Error) × SpellsBody body spelled × Readable spelled
some_spelling body are = let read = bodies_have_one_answer body are in go read.0 read.1
  where
    go : (answer : Result (SaslFrame × ℕ) Error) → ReadsBody body answer
        → (spelled : Result SaslFrame Error) × SpellsBody body spelled × Readable spelled
    go (Ok answer) reads = (Ok answer.0, (answer.1, reads), tt)
    go (Err fault) reads = (Err fault, reads, λ is. no_want body (sym reads.0 ∙ is))

-- ---- the acceptor

-- an answer to a client-first message
some_challenge : (state : ServerState) (provider : Provider) (nonce text : List ℕ)
    → (answer : Result (Option (List ℕ)) ServerScramErrorKind) × (after : ServerState)
    × ChallengesFrom state provider nonce text answer after
some_challenge state provider nonce text = let read = some_client_first provider.rules text in go read.0 read.1
  where
    known : (client : ClientFirst) → ReadsClientFirst provider.rules text (Ok client) → (found : Option Record)
        → provider.records client.user ≡ found
        → (answer : Result (Option (List ℕ)) ServerScramErrorKind) × (after : ServerState)
        × ChallengesFrom state provider nonce text answer after
    known client reads None is = (Ok None, state, ((client, reads, is), refl))
    known client reads (Some stored) is =
        let challenge = challenge_of client (base64_text nonce) stored in (
          Ok (Some challenge.first),
          ServerFirstSent challenge stored,
          (challenge, (client, stored, reads, is, refl), refl, (stored, is, refl)),
        )

    go : (read : Result ClientFirst ServerScramErrorKind) → ReadsClientFirst provider.rules text read
        → (answer : Result (Option (List ℕ)) ServerScramErrorKind) × (after : ServerState)
        × ChallengesFrom state provider nonce text answer after
    go (Ok client) reads = known client reads (provider.records client.user) refl
    go (Err fault) reads = (Err fault, state, (reads, refl))

-- an answer to a client-final message
pub some_conclusion : (state : ServerState) (version : ScramVersion) (rules : ServerRules) (rights : Rights)
    (text : List ℕ)
    → (answer : Result (Option (List ℕ)) ServerScramErrorKind) × (after : ServerState)
    × ConcludesFrom state version rules rights text answer after
some_conclusion Initial version rules rights text = (Err IllegalAuthenticatorState, Initial, (refl, refl))
some_conclusion (ServerFinalSent user acts_for) version rules rights text =
    (Err IllegalAuthenticatorState, ServerFinalSent user acts_for, (refl, refl))
some_conclusion (ServerFirstSent challenge stored) version rules rights text = read answer.0 answer.1
  where
    answer : (read : Result ClientFinal ServerScramErrorKind)
        × ReadsClientFinal (server_against version rules rights challenge stored) text read
    answer = some_client_final (server_against version rules rights challenge stored) text

    read : (read : Result ClientFinal ServerScramErrorKind)
        → ReadsClientFinal (server_against version rules rights challenge stored) text read
        → (answer : Result (Option (List ℕ)) ServerScramErrorKind) × (after : ServerState)
        × ConcludesFrom (ServerFirstSent challenge stored) version rules rights text answer after
    read (Ok final) reads = (
      Ok (Some (server_final_of (server_against version rules rights challenge stored) final)),
      ServerFinalSent challenge.user challenge.header.acts_for,
      ((final, reads, refl), refl),
    )
    read (Err fault) reads = (Err fault, ServerFirstSent challenge stored, (reads, refl))

-- what the machine does with an init
pub some_start : (provider : Provider) (state : ServerState) (nonce mechanism : List ℕ)
    (response hostname : Option (List ℕ))
    → (reply : SaslFrame) × (moved : ServerState)
    × acceptor_machine (ScramAcceptor provider state) nonce (frames.Init mechanism response hostname) reply
    (ScramAcceptor provider moved)
some_start provider state nonce mechanism None hostname = (ends_with outcomes.Auth, state, (refl, refl))
some_start provider state nonce mechanism (Some text) hostname =
    go (same_or mechanism (server_mechanism provider.version provider.rules))
  where
    go : Decided (mechanism ≡ server_mechanism provider.version provider.rules)
        → (reply : SaslFrame) × (moved : ServerState)
        × acceptor_machine (ScramAcceptor provider state) nonce (frames.Init mechanism (Some text) hostname) reply
        (ScramAcceptor provider moved)
    go (inl same) = let answer = some_challenge state provider nonce text in (
      server_frame (λ message. frames.Challenge message) answer.0,
      answer.1,
      inr (same, (answer.0, answer.1, answer.2, refl, refl)),
    )
    go (inr other) = (ends_with outcomes.Auth, state, inl (other, refl, refl))

-- the reply that carries a frame
some_sent : (provider : Provider) (state moved : ServerState) (reply : SaslFrame) (body : Option (List ℕ))
    → (says : ServerSays) × (after : ServerState) × SendsCanonical (Failed faults.TooLarge) (server_says reply) body
    (ScramAcceptor provider state) (ScramAcceptor provider moved) says (ScramAcceptor provider after)
    × (says ≢ Failed faults.OutOfMemory)
some_sent provider state moved reply None = (Failed faults.TooLarge, state, (refl, refl), λ is. cc)
some_sent provider state moved reply (Some body) =
    (server_says reply body, moved, (refl, refl), carries reply)
  where
    carries : (reply : SaslFrame) → server_says reply body ≢ Failed faults.OutOfMemory
    carries (frames.Mechanisms names) is = cc
    carries (frames.Init mechanism response hostname) is = cc
    carries (frames.Challenge text) is = cc
    carries (frames.Response text) is = cc
    carries (frames.Outcome code more) is = cc

-- what the acceptor gives
some_given : (provider : Provider) (state : ServerState) (event : Given) (spelled : Result SaslFrame Error)
    → Readable spelled → (says : ServerSays) × (after : ServerState)
    × AcceptorGives acceptor_machine (ScramAcceptor provider state) event spelled says (ScramAcceptor provider after)
    × (says ≢ Failed faults.OutOfMemory)
some_given provider state event (Err fault) readable =
    (Failed fault, state, (refl, refl), λ is. readable (same_fault is))
  where
    same_fault : Failed fault ≡ Failed faults.OutOfMemory → fault ≡ faults.OutOfMemory
    same_fault is = cc
some_given provider state event (Ok (frames.Mechanisms names)) readable =
    (Failed faults.NotImplemented, state, (refl, refl), λ is. cc)
some_given provider state event (Ok (frames.Challenge text)) readable =
    (Failed faults.NotImplemented, state, (refl, refl), λ is. cc)
some_given provider state event (Ok (frames.Outcome code more)) readable =
    (Failed faults.NotImplemented, state, (refl, refl), λ is. cc)
some_given provider state event (Ok (frames.Init mechanism response hostname)) readable =
    let answer = some_start provider state event.nonce mechanism response hostname in
    let reply = some_sent provider state answer.1 answer.0 (canonical answer.0) in
    (reply.0, reply.1, inr (answer.0, ScramAcceptor provider answer.1, answer.2, reply.2), reply.3)
some_given provider state event (Ok (frames.Response text)) readable =
    let answer = some_conclusion state provider.version provider.rules provider.rights text in
    let frame = server_frame (λ message. frames.Outcome outcomes.Ok (Some message)) answer.0 in
    let reply = some_sent provider state answer.1 frame (canonical frame) in (
      reply.0,
      reply.1,
      inr (frame, ScramAcceptor provider answer.1, (answer.0, answer.1, answer.2, refl, refl), reply.2),
      reply.3,
    )

-- one reply more in front
complete_on : {A : Type 0} (want reply : A) (replies : List A) → reply ≢ want
    → ((k : ℕ) → slice_get replies k ≢ Some want) → (k : ℕ) → slice_get (reply ∷ replies) k ≢ Some want
complete_on want reply replies here there zero is = here (same_Some reply want is)
complete_on want reply replies here there (suc k) is = there k is

some_acceptor_run : (provider : Provider) (state : ServerState) (events : List Given) → BodiesAreBytes events
    → (replies : List ServerSays) × (last : ServerState)
    × Runs (AcceptorSteps acceptor_machine) (ScramAcceptor provider state) events replies (ScramAcceptor provider last)
    × ServerComplete replies
some_acceptor_run provider state [] are =
    ([], state, (refl, refl), λ k is. none-some (Failed faults.OutOfMemory) is)
some_acceptor_run provider state (event ∷ events) are =
    let spelled = some_spelling event.body (are 0 event refl) in
    let step = some_given provider state event spelled.0 spelled.2 in
    let rest = some_acceptor_run provider step.1 events (λ k. are (suc k)) in (
      step.0 ∷ rest.0,
      rest.1,
      (step.0, ScramAcceptor provider step.1, rest.0, (spelled.0, spelled.1, step.2), refl, rest.2),
      complete_on (Failed faults.OutOfMemory) step.0 rest.0 step.3 rest.3,
    )

pub some_server_history : SomeServerHistory
some_server_history provider events are =
    let run = some_acceptor_run provider Initial events are in
    (run.0, acceptor_runs_are_histories provider events run.0 (ScramAcceptor provider run.1) run.2, run.3)

-- ---- the profile

-- whether a list has a name
pub contains_or : (names : List (List ℕ)) (name : List ℕ) → Decided (Contains names name)
contains_or [] name = inr (λ has. let within = has.1 in absurd (omega (arith, within)))
contains_or (first ∷ names) name = go (same_or first name) (contains_or names name)
  where
    go : Decided (first ≡ name) → Decided (Contains names name) → Decided (Contains (first ∷ names) name)
    go (inl same) rest = inl (0, omega arith, same)
    go (inr other) (inl has) = inl (suc has.0, (let within = has.1 in omega (arith, within)), has.2)
    go (inr other) (inr none) = inr (λ has. back has.0 has.1 has.2)
      where
        back : (k : ℕ) → k < length (first ∷ names) → slice_index_or (first ∷ names) k name ≡ name → ⊥
        back zero within is = other is
        back (suc k) within is = none (k, omega (arith, within), is)

-- an answer to a server-first message
some_answer : (state : ClientState) (side : ClientSide) (text : List ℕ)
    → (answer : Result (List ℕ) ScramErrorKind) × (after : ClientSide) × AnswersIn state side text answer after
some_answer client_states.ClientInitial side text = (Err IllegalClientState, side, (refl, refl))
some_answer (client_states.ClientFinalSent signature keys) side text = (Err IllegalClientState, side, (refl, refl))
some_answer (client_states.SignatureVerified keys) side text = (Err IllegalClientState, side, (refl, refl))
some_answer (client_states.Complete keys) side text = (Err IllegalClientState, side, (refl, refl))
some_answer (client_states.ClientFirstSent nonce bare) side text =
    let read = some_server_first (holding side nonce) text in go read.0 read.1
  where
    go : (read : Result ServerFirst ScramErrorKind) → ReadsServerFirst (holding side nonce) text read
        → (answer : Result (List ℕ) ScramErrorKind) × (after : ClientSide)
        × AnswersIn (client_states.ClientFirstSent nonce bare) side text answer after
    go (Ok first) reads = let answer = answer_of side.version side.secret (header_in side) bare text first in (
      Ok answer.message,
      with_state side (client_states.ClientFinalSent answer.signature (Some answer.keys)),
      (answer, (first, reads, refl), refl, refl),
    )
    go (Err kind) reads = (Err kind, side, (reads, refl))

-- an answer to a server-final message
some_verification : (state : ClientState) (side : ClientSide) (text : List ℕ)
    → (answer : Result (Unit {0}) ScramErrorKind) × (after : ClientSide) × VerifiesIn state side text answer after
some_verification client_states.ClientInitial side text = (Err IllegalClientState, side, (refl, refl))
some_verification (client_states.ClientFirstSent nonce bare) side text = (Err IllegalClientState, side, (refl, refl))
some_verification (client_states.SignatureVerified keys) side text = (Err IllegalClientState, side, (refl, refl))
some_verification (client_states.Complete keys) side text = (Err IllegalClientState, side, (refl, refl))
some_verification (client_states.ClientFinalSent signature keys) side text =
    let read = some_server_final (is_strict_client side) signature text in go read.0 read.1
  where
    go : (read : Result (Unit {0}) ScramErrorKind) → ReadsServerFinal (is_strict_client side) signature text read
        → (answer : Result (Unit {0}) ScramErrorKind) × (after : ClientSide)
        × VerifiesIn (client_states.ClientFinalSent signature keys) side text answer after
    go (Ok verified) reads = (Ok verified, with_state side (client_states.Complete keys), (reads, refl))
    go (Err kind) reads = (Err kind, side, (reads, refl))

-- an answer to a signature in a challenge
some_check : (state : ClientState) (side : ClientSide) (text : List ℕ)
    → (answer : Result (Unit {0}) ScramErrorKind) × (after : ClientSide) × ChecksSignatureIn state side text answer after
some_check (client_states.ClientFinalSent signature keys) side text =
    let read = some_server_final (is_strict_client side) signature text in go read.0 read.1
  where
    go : (read : Result (Unit {0}) ScramErrorKind) → ReadsServerFinal (is_strict_client side) signature text read
        → (answer : Result (Unit {0}) ScramErrorKind) × (after : ClientSide)
        × ChecksSignatureIn (client_states.ClientFinalSent signature keys) side text answer after
    go (Ok verified) reads = (Ok verified, with_state side (client_states.SignatureVerified keys), (reads, refl))
    go (Err kind) reads = (Err kind, side, (reads, refl))
some_check state side text = (Err IllegalClientState, side, (refl, refl))

-- an answer to an outcome Ok without data
some_end : (state : ClientState) (side : ClientSide)
    → (answer : Result (Unit {0}) ScramErrorKind) × (after : ClientSide) × ConcludesIn state side answer after
some_end (client_states.SignatureVerified keys) side = (Ok tt, with_state side (client_states.Complete keys), refl)
some_end state side = (Err ServerSignatureMismatch, side, (refl, refl))

-- it is not an error for running out of memory
abbrev pub Told : Result SaslFrame ProfileError → Type 0
Told (Ok frame) = Unit {0}
Told (Err fault) = fault ≢ OutOfMemory

told_frame : {A : Type 0} (frame : A → SaslFrame) (answer : Result A ScramErrorKind) → Told (client_frame frame answer)
told_frame frame (Ok answer) = tt
told_frame frame (Err kind) = scram_tells kind

-- what a client replies to a challenge in UTF-8
some_reply : (expects : Bool) (side : ClientSide) (text : List ℕ)
    → (reply : Result SaslFrame ProfileError) × (moved : ClientSide)
    × ChallengeReplies expects side text reply (ScramProfile moved) × Told reply
some_reply false side text = let answer = some_answer side.state side text in (
  client_frame (λ message. frames.Response message) answer.0,
  answer.1,
  (answer.0, answer.1, answer.2, refl, refl),
  told_frame (λ message. frames.Response message) answer.0,
)
some_reply true side text = let answer = some_check side.state side text in (
  client_frame (λ verified. frames.Response []) answer.0,
  answer.1,
  (answer.0, answer.1, answer.2, refl, refl),
  told_frame (λ verified. frames.Response []) answer.0,
)

-- what the machine of a SCRAM profile does
abbrev pub Moves : Option (List ℕ) → ClientSide → List ℕ → SaslFrame → Type 0
Moves hostname side nonce frame = (reply : Result SaslFrame ProfileError) × (moved : ClientSide)
    × profile_machine (ScramProfile side) hostname nonce frame reply (ScramProfile moved)
    × Told reply

pub some_move : (hostname : Option (List ℕ)) (side : ClientSide) (nonce : List ℕ) (frame : SaslFrame)
    → Moves hostname side nonce frame
some_move hostname side nonce (frames.Mechanisms names) = go (contains_or names (profile_name (ScramProfile side)))
  where
    go : Decided (Contains names (profile_name (ScramProfile side))) → Moves hostname side nonce (frames.Mechanisms names)
    go (inl has) = (
      Ok (frames.Init (profile_name (ScramProfile side)) (initial_response (ScramProfile side) nonce) hostname),
      started side nonce,
      inl (has, refl, refl),
      tt,
    )
    go (inr none) = (Err NotImplemented, side, inr (none, refl, refl), λ is. cc)
some_move hostname side nonce (frames.Challenge text) = go (utf8_or text)
  where
    go : Decided (IsUtf8 text) → Moves hostname side nonce (frames.Challenge text)
    go (inl utf8) =
        let reply = some_reply (expects_signature side) side text in
        (reply.0, reply.1, inr (utf8, reply.2), reply.3)
    go (inr other) = (Err (Scram Utf8Error), side, inl (other, refl, refl), λ is. cc)
some_move hostname side nonce (frames.Outcome outcomes.Ok None) =
    let answer = some_end side.state side in (
      client_frame (λ verified. frames.Outcome outcomes.Ok None) answer.0,
      answer.1,
      (answer.0, answer.1, answer.2, refl, refl),
      told_frame (λ verified. frames.Outcome outcomes.Ok None) answer.0,
    )
some_move hostname side nonce (frames.Outcome outcomes.Ok (Some text)) =
    let answer = some_verification side.state side text in (
      client_frame (λ verified. frames.Outcome outcomes.Ok (Some text)) answer.0,
      answer.1,
      (answer.0, answer.1, answer.2, refl, refl),
      told_frame (λ verified. frames.Outcome outcomes.Ok (Some text)) answer.0,
    )
some_move hostname side nonce (frames.Outcome outcomes.Auth more) =
    (Ok (frames.Outcome outcomes.Auth more), side, (refl, refl), tt)
some_move hostname side nonce (frames.Outcome outcomes.Sys more) =
    (Ok (frames.Outcome outcomes.Sys more), side, (refl, refl), tt)
some_move hostname side nonce (frames.Outcome outcomes.SysPerm more) =
    (Ok (frames.Outcome outcomes.SysPerm more), side, (refl, refl), tt)
some_move hostname side nonce (frames.Outcome outcomes.SysTemp more) =
    (Ok (frames.Outcome outcomes.SysTemp more), side, (refl, refl), tt)
some_move hostname side nonce (frames.Init mechanism response host) = (Err NotImplemented, side, (refl, refl), λ is. cc)
some_move hostname side nonce (frames.Response text) = (Err NotImplemented, side, (refl, refl), λ is. cc)

-- what a client says with a reply
abbrev SaysWith : ClientSide → ClientSide → Result SaslFrame ProfileError → Type 0
SaysWith side moved reply = (says : ClientSays) × (after : ClientSide)
    × Replies (ScramProfile side) (ScramProfile moved) reply says
    (ScramProfile after) × (says ≢ Refused OutOfMemory)

-- the reply that carries a frame
abbrev CarriesIn : ClientSide → ClientSide → (List ℕ → ClientSays) → Option (List ℕ) → Type 0
CarriesIn side moved carry body = (says : ClientSays) × (after : ClientSide)
    × SendsCanonical (Refused (Frame faults.TooLarge)) carry body (ScramProfile side) (ScramProfile moved) says
    (ScramProfile after) × (says ≢ Refused OutOfMemory)

some_carried : (side moved : ClientSide) (carry : List ℕ → ClientSays) (body : Option (List ℕ))
    → ((bytes : List ℕ) → carry bytes ≢ Refused OutOfMemory) → CarriesIn side moved carry body
some_carried side moved carry None other = (Refused (Frame faults.TooLarge), side, (refl, refl), λ is. cc)
some_carried side moved carry (Some body) other = (carry body, moved, (refl, refl), other body)

some_says : (side moved : ClientSide) (reply : Result SaslFrame ProfileError) → Told reply → SaysWith side moved reply
some_says side moved (Err fault) told = (Refused fault, moved, (refl, refl), λ is. told (same_fault is))
  where
    same_fault : Refused fault ≡ Refused OutOfMemory → fault ≡ OutOfMemory
    same_fault is = cc
some_says side moved (Ok (frames.Init mechanism response hostname)) told =
    some_carried side moved (λ body. Started body) (canonical (frames.Init mechanism response hostname)) (λ body is. cc)
some_says side moved (Ok (frames.Outcome code more)) told = (Reported code more, moved, (refl, refl), λ is. cc)
some_says side moved (Ok (frames.Mechanisms names)) told =
    some_carried side moved (λ body. Answered body) (canonical (frames.Mechanisms names)) (λ body is. cc)
some_says side moved (Ok (frames.Challenge text)) told =
    some_carried side moved (λ body. Answered body) (canonical (frames.Challenge text)) (λ body is. cc)
some_says side moved (Ok (frames.Response text)) told =
    some_carried side moved (λ body. Answered body) (canonical (frames.Response text)) (λ body is. cc)

-- what the profile gives
some_told : (hostname : Option (List ℕ)) (side : ClientSide) (event : Given) (spelled : Result SaslFrame Error)
    → (says : ClientSays) × (after : ClientSide)
    × ProfileGives hostname (ScramProfile side) event spelled says (ScramProfile after)
    × (says ≢ Refused OutOfMemory)
some_told hostname side event (Err fault) = (Refused (Frame fault), side, (refl, refl), λ is. cc)
some_told hostname side event (Ok frame) =
    let move = some_move hostname side event.nonce frame in
    let reply = some_says side move.1 move.0 move.3 in
    (reply.0, reply.1, inr (move.0, ScramProfile move.1, move.2, reply.2), reply.3)

some_profile_run : (hostname : Option (List ℕ)) (side : ClientSide) (events : List Given) → BodiesAreBytes events
    → (replies : List ClientSays) × (last : ClientSide)
    × Runs (ProfileSteps hostname) (ScramProfile side) events replies (ScramProfile last)
    × ClientComplete replies
some_profile_run hostname side [] are = ([], side, (refl, refl), λ k is. none-some (Refused OutOfMemory) is)
some_profile_run hostname side (event ∷ events) are =
    let spelled = some_spelling event.body (are 0 event refl) in
    let step = some_told hostname side event spelled.0 in
    let rest = some_profile_run hostname step.1 events (λ k. are (suc k)) in (
      step.0 ∷ rest.0,
      rest.1,
      (step.0, ScramProfile step.1, rest.0, (spelled.0, spelled.1, step.2), refl, rest.2),
      complete_on (Refused OutOfMemory) step.0 rest.0 step.3 rest.3,
    )

pub some_client_history : SomeClientHistory
some_client_history login events are =
    let side : ClientSide = record {
      user = login.user;
      secret = login.secret;
      version = login.version;
      limits = login.limits;
      channel = login.channel;
      acts_for = login.acts_for;
      strict = login.strict;
      signature_by_challenge = login.signature_by_challenge;
      state = client_states.ClientInitial;
    } in
    let run = some_profile_run login.hostname side events are in
    (run.0, profile_runs_are_histories login events run.0 (ScramProfile run.1) run.2, run.3)
