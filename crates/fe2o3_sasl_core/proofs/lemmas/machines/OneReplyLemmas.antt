-- Each machine has one reply to each frame.
use Rattle.std.proofs.Common.{◌≡◌, ℕ, Bool, true, false, Option, Some, None, List, [], sym, ap, ◌∙◌, inl, inr, Result, Ok, Err}
use Rattle.fe2o3_sasl_wire.specs.declared.amqp_types.SaslCode.TheVariants as outcomes
use Rattle.fe2o3_sasl_wire.specs.SaslFrames as frames
use Rattle.fe2o3_sasl_wire.specs.SaslFrames.{SaslFrame}
use Rattle.std.proofs.lemmas.Option.{same_Some}
use Rattle.fe2o3_scram.specs.declared.hmac.ScramVersion.{ScramVersion}
use Rattle.fe2o3_scram.specs.declared.scram_messages.error.ScramErrorKind.{ScramErrorKind}
use Rattle.fe2o3_scram.specs.declared.scram_messages.error.ScramErrorKind.TheVariants.{ServerSignatureMismatch}
use Rattle.fe2o3_scram.specs.declared.scram_messages.error.ServerScramErrorKind.{ServerScramErrorKind}
use Rattle.fe2o3_scram.specs.declared.scram_messages.server_rules.ServerRules.{ServerRules}
use Rattle.fe2o3_scram.specs.ActingRights.{Rights}
use Rattle.fe2o3_scram.specs.ClientFinal.{Server, ClientFinal, ReadsClientFinal, Answer, answer_of}
use Rattle.fe2o3_scram.specs.ClientFirst.{ClientFirst, ReadsClientFirst}
use Rattle.fe2o3_scram.specs.Credentials.{Record, Provider}
use Rattle.fe2o3_scram.specs.ClientKeys.{ClientKeys}
use Rattle.fe2o3_scram.specs.ScramClient as client_states
use Rattle.fe2o3_scram.specs.ScramClient.{is_strict_client, ClientState, ClientSide, AnswersIn, ChecksSignatureIn, ConcludesIn, VerifiesIn, expects_signature, with_state, holding, header_in}
use Rattle.fe2o3_scram.specs.ScramServer as server_states
use Rattle.fe2o3_scram.specs.ScramServer.{ServerState, ChallengesFrom, ConcludesFrom, server_against}
use Rattle.fe2o3_scram.specs.ServerFinal.{ReadsServerFinal, server_final_of}
use Rattle.fe2o3_scram.specs.ServerFirst.{ServerChallenge, ServerFirst, ReadsServerFirst, challenge_of}
use Rattle.fe2o3_scram.specs.Texts.{base64_text}
use Rattle.fe2o3_scram.proofs.lemmas.messages.ClientFinalLemmas.{one_client_final}
use Rattle.fe2o3_scram.proofs.lemmas.messages.ClientFirstLemmas.{one_client_first}
use Rattle.fe2o3_scram.proofs.lemmas.messages.ServerFinalLemmas.{one_server_final}
use Rattle.fe2o3_scram.proofs.lemmas.messages.ServerFirstLemmas.{one_server_first}
use Rattle.fe2o3_sasl_core.specs.MechanismLaws.{OneAcceptorReply, OneProfileReply}
use Rattle.fe2o3_sasl_core.specs.SaslAcceptor.{Acceptor, ScramAcceptor, PlainAcceptor, AnonymousAcceptor, server_frame}
use Rattle.fe2o3_sasl_core.specs.Profiles.{Profile, ScramProfile, MessageProfile, PolicyProfile}
use Rattle.fe2o3_sasl_core.specs.ProfileMachine.{ChallengeReplies, client_frame}
use Rattle.fe2o3_sasl_core.proofs.lemmas.machines.OfferLemmas.{one_offer_reply}
use Rattle.fe2o3_sasl_core.specs.declared.sasl_profile.error.ProfileError.{ProfileError}

-- the result is made of a reading
abbrev MadeOf : {V R : Type 0} → (V → Type 0) → (V → R) → R → Type 0
MadeOf {V} Reads make result = (reading : V) × Reads reading × (result ≡ make reading)

-- of one reading there is one result
one_made : {V R : Type 0} (Reads : V → Type 0) (make : V → R) (result other : R)
    → ((reading again : V) → Reads reading → Reads again → reading ≡ again)
    → MadeOf Reads make result → MadeOf Reads make other → result ≡ other
one_made Reads make result other one is too = is.2 ∙ (ap make (one is.0 too.0 is.1 too.1) ∙ sym too.2)

-- ---- a SCRAM server

-- what it answers, and its state
abbrev pub ServerTurn : Type 0
ServerTurn = Result (Option (List ℕ)) ServerScramErrorKind × ServerState

abbrev challenged : ServerState → ClientFirst → List ℕ → Option Record → ServerTurn
challenged state client nonce None = (Ok None, state)
challenged state client nonce (Some stored) =
    let challenge = challenge_of client (base64_text nonce) stored in
    (Ok (Some challenge.first), server_states.ServerFirstSent challenge stored)

-- the turn to a client-first message that was read
abbrev first_turn : ServerState → Provider → List ℕ → Result ClientFirst ServerScramErrorKind → ServerTurn
first_turn state provider nonce (Ok client) = challenged state client nonce (provider.records client.user)
first_turn state provider nonce (Err fault) = (Err fault, state)

challenge_made : (state : ServerState) (provider : Provider) (nonce text : List ℕ)
    (answer : Result (Option (List ℕ)) ServerScramErrorKind) (next : ServerState)
    → ChallengesFrom state provider nonce text answer next
    → MadeOf (ReadsClientFirst provider.rules text) (first_turn state provider nonce) (answer, next)
challenge_made state provider nonce text (Ok (Some message)) next is =
    let made = is.1.4 in
    let first = is.2 ∙ ap (λ (x : ServerChallenge). x.first) made in
    let stored = same_Some is.3.0 is.1.1 (sym is.3.1 ∙ (ap (λ (x : ServerChallenge). provider.records x.user) made ∙ is.1.3))
    in
    let after = is.3.2 ∙ (λ i. server_states.ServerFirstSent (made i) (stored i)) in
    let turn : ◌≡◌ {A = ServerTurn} (Ok (Some message), next) (challenged state is.1.0 nonce (Some is.1.1)) =
    λ i. (Ok (Some (first i)), after i) in
    (Ok is.1.0, is.1.2, turn ∙ ap (challenged state is.1.0 nonce) (sym is.1.3))
challenge_made state provider nonce text (Ok None) next is =
    let turn : ◌≡◌ {A = ServerTurn} (Ok None, next) (challenged state is.0.0 nonce None) = λ i. (Ok None, is.1 i) in
    (Ok is.0.0, is.0.1, turn ∙ ap (challenged state is.0.0 nonce) (sym is.0.2))
challenge_made state provider nonce text (Err fault) next is = (Err fault, is.0, λ i. (Err fault, is.1 i))

-- the turn to a client-final message that was read against the record of the open challenge
abbrev final_turn : ServerChallenge → Record → Server → Result ClientFinal ServerScramErrorKind → ServerTurn
final_turn challenge stored server (Ok final) =
    (Ok (Some (server_final_of server final)), server_states.ServerFinalSent challenge.user challenge.header.acts_for)
final_turn challenge stored server (Err fault) = (Err fault, server_states.ServerFirstSent challenge stored)

conclusion_made : (challenge : ServerChallenge) (stored : Record) (version : ScramVersion) (rules : ServerRules)
    (rights : Rights) (text : List ℕ) (answer : Result (Option (List ℕ)) ServerScramErrorKind) (next : ServerState)
    → ConcludesFrom (server_states.ServerFirstSent challenge stored) version rules rights text answer next
    → let server = server_against version rules rights challenge stored in
    MadeOf (ReadsClientFinal server text) (final_turn challenge stored server) (answer, next)
conclusion_made challenge stored version rules rights text (Ok None) next is = absurd is
conclusion_made challenge stored version rules rights text (Ok (Some message)) next is =
    let said = is.0.2 in
    let after = is.1 in
    (Ok is.0.0, is.0.1, λ i. (Ok (Some (said i)), after i))
conclusion_made challenge stored version rules rights text (Err fault) next is =
    let after = is.1 in (Err fault, is.0, λ i. (Err fault, after i))

pub one_conclusion : (state : ServerState) (version : ScramVersion) (rules : ServerRules) (rights : Rights) (text : List ℕ)
    (answer other : Result (Option (List ℕ)) ServerScramErrorKind) (next last : ServerState)
    → ConcludesFrom state version rules rights text answer next → ConcludesFrom state version rules rights text other last
    → ◌≡◌ {A = ServerTurn} (answer, next) (other, last)
one_conclusion (server_states.ServerFirstSent challenge stored) version rules rights text answer other next last is too =
    let server = server_against version rules rights challenge stored in
    one_made (ReadsClientFinal server text) (final_turn challenge stored server) (answer, next) (other, last)
    (one_client_final server text) (conclusion_made challenge stored version rules rights text answer next is)
    (conclusion_made challenge stored version rules rights text other last too)
one_conclusion server_states.Initial version rules rights text (Ok message) other next last is too = absurd is
one_conclusion server_states.Initial version rules rights text (Err fault) (Ok message) next last is too = absurd too
one_conclusion server_states.Initial version rules rights text (Err fault) (Err kind) next last is too =
    λ i. (Err ((is.0 ∙ sym too.0) i), (is.1 ∙ sym too.1) i)
one_conclusion (server_states.ServerFinalSent user acts_for) version rules rights text (Ok message) other next last is too =
    absurd is
one_conclusion (server_states.ServerFinalSent user acts_for) version rules rights text (Err fault) (Ok message) next
    last is too = absurd too
one_conclusion (server_states.ServerFinalSent user acts_for) version rules rights text (Err fault) (Err kind) next last is too =
    λ i. (Err ((is.0 ∙ sym too.0) i), (is.1 ∙ sym too.1) i)

-- ---- an acceptor

-- both of one turn of the server
turn_taken : (provider : Provider) (frame : List ℕ → SaslFrame) (turn again : ServerTurn) (reply other : SaslFrame)
    (next last : Acceptor) → turn ≡ again
    → reply ≡ server_frame frame turn.0 → next ≡ ScramAcceptor provider turn.1
    → other ≡ server_frame frame again.0 → last ≡ ScramAcceptor provider again.1 → (reply ≡ other) × (next ≡ last)
turn_taken provider frame turn again reply other next last same r n s l = (
  r ∙ (ap (λ (x : ServerTurn). server_frame frame x.0) same ∙ sym s),
  n ∙ (ap (λ (x : ServerTurn). ScramAcceptor provider x.1) same ∙ sym l),
)

-- both are the same
both_are : {A B : Type 0} (wanted : A) (end : B) (reply other : A) (next last : B) → (reply ≡ wanted) × (next ≡ end)
    → (other ≡ wanted) × (last ≡ end) → (reply ≡ other) × (next ≡ last)
both_are wanted end reply other next last is too = (is.0 ∙ sym too.0, is.1 ∙ sym too.1)

pub one_acceptor_reply : OneAcceptorReply
one_acceptor_reply (ScramAcceptor provider state) nonce (frames.Init mechanism (Some text) hostname) reply other next
    last (inl is) (inl too) = (is.1 ∙ sym too.1, is.2 ∙ sym too.2)
one_acceptor_reply (ScramAcceptor provider state) nonce (frames.Init mechanism (Some text) hostname) reply other next
    last (inl is) (inr too) = absurd (is.0 too.0)
one_acceptor_reply (ScramAcceptor provider state) nonce (frames.Init mechanism (Some text) hostname) reply other next
    last (inr is) (inl too) = absurd (too.0 is.0)
one_acceptor_reply (ScramAcceptor provider state) nonce (frames.Init mechanism (Some text) hostname) reply other next
    last (inr is) (inr too) =
    let turn : ServerTurn = (is.1.0, is.1.1) in
    let again : ServerTurn = (too.1.0, too.1.1) in
    turn_taken provider (λ message. frames.Challenge message) turn again reply other next last
    (one_made (ReadsClientFirst provider.rules text) (first_turn state provider nonce) turn again
    (one_client_first provider.rules text)
    (challenge_made state provider nonce text is.1.0 is.1.1 is.1.2)
    (challenge_made state provider nonce text too.1.0 too.1.1 too.1.2))
    is.1.3 is.1.4 too.1.3 too.1.4
one_acceptor_reply (ScramAcceptor provider state) nonce (frames.Response text) reply other next last is too =
    let turn : ServerTurn = (is.0, is.1) in
    let again : ServerTurn = (too.0, too.1) in
    turn_taken provider (λ message. frames.Outcome outcomes.Ok (Some message)) turn again reply other next last
    (one_conclusion state provider.version provider.rules provider.rights text is.0 too.0 is.1 too.1 is.2 too.2) is.3 is.4
    too.3 too.4
one_acceptor_reply (PlainAcceptor user password accepted) nonce (frames.Init mechanism (Some text) hostname) reply other
    next last (inl is) (inl too) = (is.1 ∙ sym too.1, is.2 ∙ sym too.2)
one_acceptor_reply (PlainAcceptor user password accepted) nonce (frames.Init mechanism (Some text) hostname) reply other
    next last (inl is) (inr too) = absurd (too.0 is.0)
one_acceptor_reply (PlainAcceptor user password accepted) nonce (frames.Init mechanism (Some text) hostname) reply other
    next last (inr is) (inl too) = absurd (is.0 too.0)
one_acceptor_reply (PlainAcceptor user password accepted) nonce (frames.Init mechanism (Some text) hostname) reply other
    next last (inr is) (inr too) = (is.1 ∙ sym too.1, is.2 ∙ sym too.2)
one_acceptor_reply (PlainAcceptor user password accepted) nonce (frames.Response text) reply other next last is too =
    both_are _ _ reply other next last is too
one_acceptor_reply AnonymousAcceptor nonce (frames.Init mechanism response hostname) reply other next last is too =
    both_are _ _ reply other next last is too
one_acceptor_reply AnonymousAcceptor nonce (frames.Response text) reply other next last is too =
    both_are _ _ reply other next last is too
one_acceptor_reply acceptor nonce (frames.Init mechanism None hostname) reply other next last is too =
    both_are _ _ reply other next last is too
one_acceptor_reply acceptor nonce frame reply other next last is too = absurd is

-- ---- a SCRAM client

-- what it answers, and the client after it
abbrev ClientTurn : Type 0 → Type 0
ClientTurn A = Result A ScramErrorKind × ClientSide

abbrev answered_side : ClientSide → Answer → ClientSide
answered_side side answer = with_state side (client_states.ClientFinalSent answer.signature (Some answer.keys))

-- the turn to a server-first message that was read
abbrev answer_turn : ClientSide → List ℕ → List ℕ → Result ServerFirst ScramErrorKind → ClientTurn (List ℕ)
answer_turn side bare text (Ok first) =
    let answer = answer_of side.version side.secret (header_in side) bare text first in
    (Ok answer.message, answered_side side answer)
answer_turn side bare text (Err fault) = (Err fault, side)

answer_made : (nonce bare : List ℕ) (side : ClientSide) (text : List ℕ) (answer : Result (List ℕ) ScramErrorKind)
    (next : ClientSide) → AnswersIn (client_states.ClientFirstSent nonce bare) side text answer next
    → MadeOf (ReadsServerFirst (holding side nonce) text) (answer_turn side bare text) (answer, next)
answer_made nonce bare side text (Ok message) next is =
    let first = is.1 in
    let sent = is.2 ∙ ap (λ (x : Answer). x.message) first.2 in
    let after = is.3 ∙ ap (answered_side side) first.2 in
    (Ok first.0, first.1, λ i. (Ok (sent i), after i))
answer_made nonce bare side text (Err fault) next is = (Err fault, is.0, λ i. (Err fault, is.1 i))

one_answer : (state : ClientState) (side : ClientSide) (text : List ℕ) (answer other : Result (List ℕ) ScramErrorKind)
    (next last : ClientSide) → AnswersIn state side text answer next → AnswersIn state side text other last
    → ◌≡◌ {A = ClientTurn (List ℕ)} (answer, next) (other, last)
one_answer (client_states.ClientFirstSent nonce bare) side text answer other next last is too =
    one_made (ReadsServerFirst (holding side nonce) text) (answer_turn side bare text) (answer, next)
    (other, last) (one_server_first (holding side nonce) text) (answer_made nonce bare side text answer next is)
    (answer_made nonce bare side text other last too)
one_answer client_states.ClientInitial side text (Ok message) other next last is too = absurd is
one_answer client_states.ClientInitial side text (Err fault) (Ok message) next last is too = absurd too
one_answer client_states.ClientInitial side text (Err fault) (Err kind) next last is too =
    λ i. (Err ((is.0 ∙ sym too.0) i), (is.1 ∙ sym too.1) i)
one_answer (client_states.ClientFinalSent signature keys) side text (Ok message) other next last is too = absurd is
one_answer (client_states.ClientFinalSent signature keys) side text (Err fault) (Ok message) next last is too =
    absurd too
one_answer (client_states.ClientFinalSent signature keys) side text (Err fault) (Err kind) next last is too =
    λ i. (Err ((is.0 ∙ sym too.0) i), (is.1 ∙ sym too.1) i)
one_answer (client_states.SignatureVerified keys) side text (Ok message) other next last is too = absurd is
one_answer (client_states.SignatureVerified keys) side text (Err fault) (Ok message) next last is too = absurd too
one_answer (client_states.SignatureVerified keys) side text (Err fault) (Err kind) next last is too =
    λ i. (Err ((is.0 ∙ sym too.0) i), (is.1 ∙ sym too.1) i)
one_answer (client_states.Complete keys) side text (Ok message) other next last is too = absurd is
one_answer (client_states.Complete keys) side text (Err fault) (Ok message) next last is too = absurd too
one_answer (client_states.Complete keys) side text (Err fault) (Err kind) next last is too =
    λ i. (Err ((is.0 ∙ sym too.0) i), (is.1 ∙ sym too.1) i)

-- the turn to a server-final message that was read: the client is in this state after it
abbrev verification_turn : ClientSide → ClientState → Result (Unit {0}) ScramErrorKind → ClientTurn (Unit {0})
verification_turn side state (Ok verified) = (Ok verified, with_state side state)
verification_turn side state (Err fault) = (Err fault, side)

verification_made : (signature : List ℕ) (keys : Option ClientKeys) (side : ClientSide) (text : List ℕ)
    (answer : Result (Unit {0}) ScramErrorKind) (next : ClientSide)
    → VerifiesIn (client_states.ClientFinalSent signature keys) side text answer next
    → MadeOf (ReadsServerFinal (is_strict_client side) signature text) (verification_turn side (client_states.Complete keys))
    (answer, next)
verification_made signature keys side text (Ok verified) next is = (Ok verified, is.0, λ i. (Ok verified, is.1 i))
verification_made signature keys side text (Err fault) next is = (Err fault, is.0, λ i. (Err fault, is.1 i))

one_verification : (state : ClientState) (side : ClientSide) (text : List ℕ) (answer other : Result (Unit {0}) ScramErrorKind)
    (next last : ClientSide) → VerifiesIn state side text answer next → VerifiesIn state side text other last
    → ◌≡◌ {A = ClientTurn (Unit {0})} (answer, next) (other, last)
one_verification (client_states.ClientFinalSent signature keys) side text answer other next last is too =
    one_made (ReadsServerFinal (is_strict_client side) signature text) (verification_turn side (client_states.Complete keys))
    (answer, next) (other, last)
    (one_server_final (is_strict_client side) signature text) (verification_made signature keys side text answer next is)
    (verification_made signature keys side text other last too)
one_verification client_states.ClientInitial side text (Ok verified) other next last is too = absurd is
one_verification client_states.ClientInitial side text (Err fault) (Ok verified) next last is too = absurd too
one_verification client_states.ClientInitial side text (Err fault) (Err kind) next last is too =
    λ i. (Err ((is.0 ∙ sym too.0) i), (is.1 ∙ sym too.1) i)
one_verification (client_states.ClientFirstSent nonce bare) side text (Ok verified) other next last is too = absurd is
one_verification (client_states.ClientFirstSent nonce bare) side text (Err fault) (Ok verified) next last is too = absurd too
one_verification (client_states.ClientFirstSent nonce bare) side text (Err fault) (Err kind) next last is too =
    λ i. (Err ((is.0 ∙ sym too.0) i), (is.1 ∙ sym too.1) i)
one_verification (client_states.SignatureVerified keys) side text (Ok verified) other next last is too = absurd is
one_verification (client_states.SignatureVerified keys) side text (Err fault) (Ok verified) next last is too = absurd too
one_verification (client_states.SignatureVerified keys) side text (Err fault) (Err kind) next last is too =
    λ i. (Err ((is.0 ∙ sym too.0) i), (is.1 ∙ sym too.1) i)
one_verification (client_states.Complete keys) side text (Ok verified) other next last is too = absurd is
one_verification (client_states.Complete keys) side text (Err fault) (Ok verified) next last is too = absurd too
one_verification (client_states.Complete keys) side text (Err fault) (Err kind) next last is too =
    λ i. (Err ((is.0 ∙ sym too.0) i), (is.1 ∙ sym too.1) i)

check_made : (signature : List ℕ) (keys : Option ClientKeys) (side : ClientSide) (text : List ℕ)
    (answer : Result (Unit {0}) ScramErrorKind) (next : ClientSide)
    → ChecksSignatureIn (client_states.ClientFinalSent signature keys) side text answer next
    → MadeOf (ReadsServerFinal (is_strict_client side) signature text)
    (verification_turn side (client_states.SignatureVerified keys))
    (answer, next)
check_made signature keys side text (Ok verified) next is = (Ok verified, is.0, λ i. (Ok verified, is.1 i))
check_made signature keys side text (Err fault) next is = (Err fault, is.0, λ i. (Err fault, is.1 i))

-- a signature in a challenge
one_check : (state : ClientState) (side : ClientSide) (text : List ℕ) (answer other : Result (Unit {0}) ScramErrorKind)
    (next last : ClientSide) → ChecksSignatureIn state side text answer next
    → ChecksSignatureIn state side text other last
    → ◌≡◌ {A = ClientTurn (Unit {0})} (answer, next) (other, last)
one_check (client_states.ClientFinalSent signature keys) side text answer other next last is too =
    one_made (ReadsServerFinal (is_strict_client side) signature text)
    (verification_turn side (client_states.SignatureVerified keys))
    (answer, next) (other, last)
    (one_server_final (is_strict_client side) signature text) (check_made signature keys side text answer next is)
    (check_made signature keys side text other last too)
one_check state side text (Ok verified) other next last is too = absurd is
one_check state side text (Err fault) (Ok verified) next last is too = absurd too
one_check state side text (Err fault) (Err kind) next last is too =
    λ i. (Err ((is.0 ∙ sym too.0) i), (is.1 ∙ sym too.1) i)

-- an outcome Ok without data: the turn is by the state only
abbrev end_turn : ClientState → ClientSide → ClientTurn (Unit {0})
end_turn (client_states.SignatureVerified keys) side = (Ok tt, with_state side (client_states.Complete keys))
end_turn state side = (Err ServerSignatureMismatch, side)

end_made : (state : ClientState) (side : ClientSide) (answer : Result (Unit {0}) ScramErrorKind) (next : ClientSide)
    → ConcludesIn state side answer next → ◌≡◌ {A = ClientTurn (Unit {0})} (answer, next) (end_turn state side)
end_made (client_states.SignatureVerified keys) side (Ok verified) next is = λ i. (Ok tt, is i)
end_made (client_states.SignatureVerified keys) side (Err fault) next is = absurd is
end_made state side (Ok verified) next is = absurd is
end_made state side (Err fault) next is = λ i. (Err (is.0 i), is.1 i)

-- ---- a profile

-- both of one turn of the client
same_turn : {A : Type 0} (frame : A → SaslFrame) (turn again : ClientTurn A)
    (reply other : Result SaslFrame ProfileError) (next last : Profile) → turn ≡ again
    → reply ≡ client_frame frame turn.0 → next ≡ ScramProfile turn.1
    → other ≡ client_frame frame again.0 → last ≡ ScramProfile again.1 → (reply ≡ other) × (next ≡ last)
same_turn {A} frame turn again reply other next last same r n s l = (
  r ∙ (ap (λ (x : ClientTurn A). client_frame frame x.0) same ∙ sym s),
  n ∙ (ap (λ (x : ClientTurn A). ScramProfile x.1) same ∙ sym l),
)

-- a challenge in UTF-8
one_challenge_reply : (expects : Bool) (client : ClientSide) (text : List ℕ) (reply other : Result SaslFrame ProfileError)
    (next last : Profile) → ChallengeReplies expects client text reply next
    → ChallengeReplies expects client text other last → (reply ≡ other) × (next ≡ last)
one_challenge_reply false client text reply other next last is too =
    same_turn (λ message. frames.Response message) (is.0, is.1) (too.0, too.1) reply other next last
    (one_answer client.state client text is.0 too.0 is.1 too.1 is.2 too.2) is.3 is.4 too.3 too.4
one_challenge_reply true client text reply other next last is too =
    same_turn (λ verified. frames.Response []) (is.0, is.1) (too.0, too.1) reply other next last
    (one_check client.state client text is.0 too.0 is.1 too.1 is.2 too.2) is.3 is.4 too.3 too.4

pub one_profile_reply : OneProfileReply
one_profile_reply profile hostname nonce (frames.Mechanisms names) reply other next last is too =
    one_offer_reply profile hostname nonce names reply other next last is too
one_profile_reply (ScramProfile client) hostname nonce (frames.Challenge text) reply other next last
    (inl is) (inl too) = (is.1 ∙ sym too.1, is.2 ∙ sym too.2)
one_profile_reply (ScramProfile client) hostname nonce (frames.Challenge text) reply other next last
    (inl is) (inr too) = absurd (is.0 too.0)
one_profile_reply (ScramProfile client) hostname nonce (frames.Challenge text) reply other next last
    (inr is) (inl too) = absurd (too.0 is.0)
one_profile_reply (ScramProfile client) hostname nonce (frames.Challenge text) reply other next last
    (inr is) (inr too) =
    one_challenge_reply (expects_signature client) client text reply other next last is.1 too.1
one_profile_reply (ScramProfile client) hostname nonce (frames.Outcome outcomes.Ok None) reply other next last is too =
    same_turn (λ verified. frames.Outcome outcomes.Ok None) (is.0, is.1) (too.0, too.1) reply other next last
    (end_made client.state client is.0 is.1 is.2 ∙ sym (end_made client.state client too.0 too.1 too.2)) is.3 is.4
    too.3 too.4
one_profile_reply (ScramProfile client) hostname nonce (frames.Outcome outcomes.Ok (Some text)) reply other
    next last is too =
    same_turn (λ verified. frames.Outcome outcomes.Ok (Some text)) (is.0, is.1) (too.0, too.1) reply other next last
    (one_verification client.state client text is.0 too.0 is.1 too.1 is.2 too.2) is.3 is.4 too.3 too.4
one_profile_reply (MessageProfile mechanism message true) hostname nonce (frames.Challenge []) reply other next last is
    too = both_are _ _ reply other next last is too
one_profile_reply (PolicyProfile selection) hostname nonce (frames.Outcome code more) reply other next last is too =
    both_are _ _ reply other next last is too
one_profile_reply profile hostname nonce (frames.Outcome code more) reply other next last is too =
    both_are _ _ reply other next last is too
one_profile_reply profile hostname nonce frame reply other next last is too =
    both_are _ _ reply other next last is too
