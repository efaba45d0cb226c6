-- The profiles that a login reaches on a connection (AMQP 1.0, part 5, section 5.3.2).
use Rattle.std.proofs.Common.{refl, sym, ap, inl, inr, ◌≡◌, ℕ, List, [], true}
use Rattle.std.specs.Prelude.{Option, Some, None, Bool, false, ◌∷◌, Result, Ok, Err, drop}
use Rattle.fe2o3_sasl_wire.specs.declared.amqp_types.SaslCode.TheVariants as outcomes
use Rattle.fe2o3_sasl_wire.specs.declared.sasl_frames.error.Error.{Error}
use Rattle.fe2o3_sasl_wire.specs.SaslFrames as frames
use Rattle.fe2o3_sasl_wire.specs.SaslFrames.{SaslFrame, canonical}
use Rattle.fe2o3_scram.specs.declared.scram_messages.error.ScramErrorKind.{ScramErrorKind}
use Rattle.fe2o3_scram.specs.ScramClient as states
use Rattle.fe2o3_scram.specs.ScramClient.{AnswersIn, VerifiesIn, ClientSide, ClientState, started, ChecksSignatureIn, ConcludesIn, expects_signature}
use Rattle.fe2o3_sasl_core.specs.Bodies.{carried as sent_or_not}
use Rattle.fe2o3_sasl_core.specs.Events.{Given, ClientSays}
use Rattle.fe2o3_sasl_core.specs.Profiles.{Profile, ScramProfile, PlainProfile, AnonymousProfile, ExternalProfile, MessageProfile, MessageMechanism, PolicyProfile}
use Rattle.fe2o3_sasl_core.specs.ProfileMachine.{profile_machine, ChallengeReplies}
use Rattle.fe2o3_sasl_core.specs.Runs.{ProfileGives, Replies}
use Rattle.fe2o3_sasl_negotiation.specs.declared.progress.Expected.{Expected}
use Rattle.fe2o3_sasl_negotiation.specs.declared.progress.Expected.TheVariants.{Header, Frame}
use Rattle.fe2o3_sasl_negotiation.specs.ClientNegotiation.{ClientSideAnswers}
use Rattle.fe2o3_sasl_negotiation.specs.Negotiations.{SideOutput}
use Rattle.sasl_c.specs.declared.login.Login.{Login as Words}
use Rattle.sasl_c.specs.declared.client.ScramClient.{ScramClient as ScramStruct}
use Rattle.sasl_c.specs.declared.sasl_client.SaslLogin.{SaslLogin as Login}
use Rattle.sasl_c.specs.Client.{IsReached}
use Rattle.sasl_c.specs.SaslClient.{ProfileIsReached, IsProfile, ClientIsReached}
use Rattle.sasl_c.proofs.ClientRoomLemmas.{answer_fits}
use Rattle.sasl_c.proofs.ClientLemmas.{answering_login, verifying_login, moved_login, concluding_login, signing_login}
use Rattle.sasl_c.proofs.StateLemmas.{reached}
use Rattle.sasl_c.proofs.StatusLemmas.{carried}
use Rattle.fe2o3_sasl_core.specs.declared.sasl_profile.error.ProfileError.{ProfileError}

-- ---- a profile that a login reaches stays one

same_stands : (words : Words) (client after : ClientSide) → after ≡ client → ClientIsReached words client
    → ClientIsReached words after
same_stands words client after same stands = carried (ClientIsReached words) client after (sym same) stands

answered_stands : (words : Words) (state : ClientState) (client after : ClientSide) (text : List ℕ)
    (answer : Result (List ℕ) ScramErrorKind) → AnswersIn state client text answer after → ClientIsReached words client
    → ClientIsReached words after
answered_stands words state client after text (Ok message) is stands =
    let fits = answer_fits state client after text message is in (
      answering_login words state client after text message is stands.0,
      carried (IsReached after.user) (states.ClientFinalSent fits.1.0 fits.1.1) after.state (sym fits.1.2) fits.1.3,
    )
answered_stands words states.ClientInitial client after text (Err fault) is stands =
    same_stands words client after is.1 stands
answered_stands words (states.ClientFirstSent nonce bare) client after text (Err fault) is stands =
    same_stands words client after is.1 stands
answered_stands words (states.ClientFinalSent signature keys) client after text (Err fault) is stands =
    same_stands words client after is.1 stands
answered_stands words (states.SignatureVerified keys) client after text (Err fault) is stands =
    same_stands words client after is.1 stands
answered_stands words (states.Complete keys) client after text (Err fault) is stands =
    same_stands words client after is.1 stands

-- a signature in a challenge, and an outcome without data (RFC 4422, section 5)
signed_stands : (words : Words) (state : ClientState) (client after : ClientSide) (text : List ℕ)
    (answer : Result (Unit {0}) ScramErrorKind) → ChecksSignatureIn state client text answer after
    → ClientIsReached words client → ClientIsReached words after
signed_stands words (states.ClientFinalSent signature keys) client after text (Ok verified) is stands = (
  signing_login words (states.ClientFinalSent signature keys) client after text verified is stands.0,
  carried (IsReached after.user) (states.SignatureVerified keys) after.state
      (sym (ap (λ (side : ClientSide). side.state) is.1)) tt,
)
signed_stands words states.ClientInitial client after text (Ok verified) is stands = absurd is
signed_stands words (states.ClientFirstSent nonce bare) client after text (Ok verified) is stands = absurd is
signed_stands words (states.SignatureVerified keys) client after text (Ok verified) is stands = absurd is
signed_stands words (states.Complete keys) client after text (Ok verified) is stands = absurd is
signed_stands words states.ClientInitial client after text (Err fault) is stands =
    same_stands words client after is.1 stands
signed_stands words (states.ClientFirstSent nonce bare) client after text (Err fault) is stands =
    same_stands words client after is.1 stands
signed_stands words (states.ClientFinalSent signature keys) client after text (Err fault) is stands =
    same_stands words client after is.1 stands
signed_stands words (states.SignatureVerified keys) client after text (Err fault) is stands =
    same_stands words client after is.1 stands
signed_stands words (states.Complete keys) client after text (Err fault) is stands =
    same_stands words client after is.1 stands

concluded_stands : (words : Words) (state : ClientState) (client after : ClientSide)
    (answer : Result (Unit {0}) ScramErrorKind) → ConcludesIn state client answer after
    → ClientIsReached words client → ClientIsReached words after
concluded_stands words (states.SignatureVerified keys) client after (Ok verified) is stands = (
  concluding_login words (states.SignatureVerified keys) client after verified is stands.0,
  carried (IsReached after.user) (states.Complete keys) after.state
      (sym (ap (λ (side : ClientSide). side.state) is)) tt,
)
concluded_stands words states.ClientInitial client after (Ok verified) is stands = absurd is
concluded_stands words (states.ClientFirstSent nonce bare) client after (Ok verified) is stands = absurd is
concluded_stands words (states.ClientFinalSent signature keys) client after (Ok verified) is stands = absurd is
concluded_stands words (states.Complete keys) client after (Ok verified) is stands = absurd is
concluded_stands words (states.SignatureVerified keys) client after (Err fault) is stands = absurd is
concluded_stands words states.ClientInitial client after (Err fault) is stands =
    same_stands words client after is.1 stands
concluded_stands words (states.ClientFirstSent nonce bare) client after (Err fault) is stands =
    same_stands words client after is.1 stands
concluded_stands words (states.ClientFinalSent signature keys) client after (Err fault) is stands =
    same_stands words client after is.1 stands
concluded_stands words (states.Complete keys) client after (Err fault) is stands =
    same_stands words client after is.1 stands

verified_stands : (words : Words) (state : ClientState) (client after : ClientSide) (text : List ℕ)
    (answer : Result (Unit {0}) ScramErrorKind) → VerifiesIn state client text answer after → ClientIsReached words client
    → ClientIsReached words after
verified_stands words (states.ClientFinalSent signature keys) client after text (Ok verified) is stands = (
  verifying_login words (states.ClientFinalSent signature keys) client after text is stands.0,
  carried (IsReached after.user) (states.Complete keys) after.state
      (sym (ap (λ (side : ClientSide). side.state) is.1)) tt,
)
verified_stands words states.ClientInitial client after text (Ok verified) is stands = absurd is
verified_stands words (states.ClientFirstSent nonce bare) client after text (Ok verified) is stands = absurd is
verified_stands words (states.SignatureVerified keys) client after text (Ok verified) is stands = absurd is
verified_stands words (states.Complete keys) client after text (Ok verified) is stands = absurd is
verified_stands words states.ClientInitial client after text (Err fault) is stands =
    same_stands words client after is.1 stands
verified_stands words (states.ClientFirstSent nonce bare) client after text (Err fault) is stands =
    same_stands words client after is.1 stands
verified_stands words (states.ClientFinalSent signature keys) client after text (Err fault) is stands =
    same_stands words client after is.1 stands
verified_stands words (states.SignatureVerified keys) client after text (Err fault) is stands =
    same_stands words client after is.1 stands
verified_stands words (states.Complete keys) client after text (Err fault) is stands =
    same_stands words client after is.1 stands

-- a profile of SCRAM whose client is of these words
abbrev Moves : Words → Profile → Type 0
Moves words next = (side : ClientSide) × (next ≡ ScramProfile side) × ClientIsReached words side

challenge_moves : (words : Words) (client : ClientSide) (by_signature : Bool) (text : List ℕ)
    (reply : Result SaslFrame ProfileError) (moved : Profile) → ChallengeReplies by_signature client text reply moved
    → ClientIsReached words client → Moves words moved
challenge_moves words client false text reply moved turn stands =
    (turn.1, turn.4, answered_stands words client.state client turn.1 text turn.0 turn.2 stands)
challenge_moves words client true text reply moved turn stands =
    (turn.1, turn.4, signed_stands words client.state client turn.1 text turn.0 turn.2 stands)

scram_moves : (words : Words) (client : ClientSide) (hostname : Option (List ℕ)) (nonce : List ℕ) (frame : SaslFrame)
    (reply : Result SaslFrame ProfileError) (moved : Profile)
    → profile_machine (ScramProfile client) hostname nonce frame reply moved → ClientIsReached words client
    → Moves words moved
scram_moves words client hostname nonce (frames.Mechanisms names) reply moved (inl is) stands =
    (started client nonce, is.2, (moved_login words client _ stands.0, refl))
scram_moves words client hostname nonce (frames.Mechanisms names) reply moved (inr is) stands = (client, is.2, stands)
scram_moves words client hostname nonce (frames.Challenge text) reply moved (inl is) stands = (client, is.2, stands)
scram_moves words client hostname nonce (frames.Challenge text) reply moved (inr is) stands =
    challenge_moves words client (expects_signature client) text reply moved is.1 stands
scram_moves words client hostname nonce (frames.Outcome outcomes.Ok None) reply moved is stands =
    (is.1, is.4, concluded_stands words client.state client is.1 is.0 is.2 stands)
scram_moves words client hostname nonce (frames.Outcome outcomes.Ok (Some text)) reply moved is stands =
    (is.1, is.4, verified_stands words client.state client is.1 text is.0 is.2 stands)
scram_moves words client hostname nonce (frames.Outcome code more) reply moved is stands = (client, is.1, stands)
scram_moves words client hostname nonce (frames.Init mechanism response host) reply moved is stands =
    (client, is.1, stands)
scram_moves words client hostname nonce (frames.Response text) reply moved is stands = (client, is.1, stands)

-- a profile that is not of SCRAM stays as it is
pub plain_stays : (identity user password : List ℕ) (hostname : Option (List ℕ)) (nonce : List ℕ) (frame : SaslFrame)
    (reply : Result SaslFrame ProfileError) (moved : Profile)
    → profile_machine (PlainProfile identity user password) hostname nonce frame reply moved
    → moved ≡ PlainProfile identity user password
plain_stays identity user password hostname nonce (frames.Mechanisms names) reply moved (inl is) = is.2
plain_stays identity user password hostname nonce (frames.Mechanisms names) reply moved (inr is) = is.2
plain_stays identity user password hostname nonce (frames.Challenge text) reply moved is = is.1
plain_stays identity user password hostname nonce (frames.Outcome code more) reply moved is = is.1
plain_stays identity user password hostname nonce (frames.Init mechanism response host) reply moved is = is.1
plain_stays identity user password hostname nonce (frames.Response text) reply moved is = is.1

pub anonymous_stays : (hostname : Option (List ℕ)) (nonce : List ℕ) (frame : SaslFrame)
    (reply : Result SaslFrame ProfileError) (moved : Profile)
    → profile_machine AnonymousProfile hostname nonce frame reply moved → moved ≡ AnonymousProfile
anonymous_stays hostname nonce (frames.Mechanisms names) reply moved (inl is) = is.2
anonymous_stays hostname nonce (frames.Mechanisms names) reply moved (inr is) = is.2
anonymous_stays hostname nonce (frames.Challenge text) reply moved is = is.1
anonymous_stays hostname nonce (frames.Outcome code more) reply moved is = is.1
anonymous_stays hostname nonce (frames.Init mechanism response host) reply moved is = is.1
anonymous_stays hostname nonce (frames.Response text) reply moved is = is.1

pub external_stays : (hostname : Option (List ℕ)) (nonce : List ℕ) (frame : SaslFrame)
    (reply : Result SaslFrame ProfileError) (moved : Profile)
    → profile_machine ExternalProfile hostname nonce frame reply moved → moved ≡ ExternalProfile
external_stays hostname nonce (frames.Mechanisms names) reply moved (inl is) = is.2
external_stays hostname nonce (frames.Mechanisms names) reply moved (inr is) = is.2
external_stays hostname nonce (frames.Challenge text) reply moved is = is.1
external_stays hostname nonce (frames.Outcome code more) reply moved is = is.1
external_stays hostname nonce (frames.Init mechanism response host) reply moved is = is.1
external_stays hostname nonce (frames.Response text) reply moved is = is.1

-- a profile of a single message keeps it
pub message_stays : (mechanism : MessageMechanism) (message : List ℕ) (is_due : Bool) (hostname : Option (List ℕ))
    (nonce : List ℕ) (frame : SaslFrame) (reply : Result SaslFrame ProfileError) (moved : Profile)
    → profile_machine (MessageProfile mechanism message is_due) hostname nonce frame reply moved
    → (due : Bool) × (moved ≡ MessageProfile mechanism message due)
message_stays mechanism message is_due hostname nonce (frames.Mechanisms names) reply moved (inl is) = (true, is.2)
message_stays mechanism message is_due hostname nonce (frames.Mechanisms names) reply moved (inr is) = (is_due, is.2)
message_stays mechanism message true hostname nonce (frames.Challenge []) reply moved is = (false, is.1)
message_stays mechanism message true hostname nonce (frames.Challenge (byte ∷ rest)) reply moved is = (true, is.1)
message_stays mechanism message false hostname nonce (frames.Challenge text) reply moved is = (false, is.1)
message_stays mechanism message is_due hostname nonce (frames.Outcome code more) reply moved is = (is_due, is.1)
message_stays mechanism message is_due hostname nonce (frames.Init name response host) reply moved is = (is_due, is.1)
message_stays mechanism message is_due hostname nonce (frames.Response text) reply moved is = (is_due, is.1)

same_comes : (login : Login) (profile next : Profile) → next ≡ profile → ProfileIsReached login profile
    → ProfileIsReached login next
same_comes login profile next same comes = carried (ProfileIsReached login) profile next (sym same) comes

machine_comes : (login : Login) (profile : Profile) (hostname : Option (List ℕ)) (nonce : List ℕ) (frame : SaslFrame)
    (reply : Result SaslFrame ProfileError) (moved : Profile)
    → profile_machine profile hostname nonce frame reply moved → ProfileIsReached login profile → ProfileIsReached login moved
machine_comes login (ScramProfile client) hostname nonce frame reply moved is comes =
    let moves = scram_moves login.login client hostname nonce frame reply moved is comes.1 in
    same_comes login (ScramProfile moves.0) moved moves.1 (comes.0, moves.2)
machine_comes login (PlainProfile identity user password) hostname nonce frame reply moved is comes =
    same_comes login _ moved (plain_stays identity user password hostname nonce frame reply moved is) comes
machine_comes login AnonymousProfile hostname nonce frame reply moved is comes =
    same_comes login _ moved (anonymous_stays hostname nonce frame reply moved is) comes
machine_comes login ExternalProfile hostname nonce frame reply moved is comes =
    same_comes login _ moved (external_stays hostname nonce frame reply moved is) comes
machine_comes login (PolicyProfile selection) hostname nonce frame reply moved is comes = absurd comes
machine_comes login (MessageProfile mechanism message is_due) hostname nonce frame reply moved is comes =
    let stays = message_stays mechanism message is_due hostname nonce frame reply moved is in
    same_comes login (MessageProfile mechanism message stays.0) moved stays.1 comes

-- also where the reply is not sent
sent_comes : (login : Login) (profile : Profile) (body : Option (List ℕ)) (moved next : Profile)
    → ProfileIsReached login profile → ProfileIsReached login moved → next ≡ sent_or_not profile (λ _. moved) body
    → ProfileIsReached login next
sent_comes login profile None moved next comes moves is = same_comes login profile next is comes
sent_comes login profile (Some body) moved next comes moves is = same_comes login moved next is moves

replied_comes : (login : Login) (profile moved next : Profile) (reply : Result SaslFrame ProfileError)
    (says : ClientSays) → ProfileIsReached login profile → ProfileIsReached login moved → Replies profile moved reply says next
    → ProfileIsReached login next
replied_comes login profile moved next (Err fault) says comes moves is = same_comes login moved next is.1 moves
replied_comes login profile moved next (Ok (frames.Outcome code more)) says comes moves is =
    same_comes login moved next is.1 moves
replied_comes login profile moved next (Ok (frames.Init mechanism response host)) says comes moves is =
    sent_comes login profile (canonical (frames.Init mechanism response host)) moved next comes moves is.1
replied_comes login profile moved next (Ok (frames.Response text)) says comes moves is =
    sent_comes login profile (canonical (frames.Response text)) moved next comes moves is.1
replied_comes login profile moved next (Ok (frames.Mechanisms names)) says comes moves is =
    sent_comes login profile (canonical (frames.Mechanisms names)) moved next comes moves is.1
replied_comes login profile moved next (Ok (frames.Challenge text)) says comes moves is =
    sent_comes login profile (canonical (frames.Challenge text)) moved next comes moves is.1

pub gives_comes : (login : Login) (hostname : Option (List ℕ)) (profile : Profile) (event : Given)
    (spelled : Result SaslFrame Error) (says : ClientSays) (next : Profile)
    → ProfileGives hostname profile event spelled says next → ProfileIsReached login profile → ProfileIsReached login next
gives_comes login hostname profile event (Err fault) says next is comes = same_comes login profile next is.1 comes
gives_comes login hostname profile event (Ok frame) says next (inl is) comes =
    same_comes login profile next is.2 comes
gives_comes login hostname profile event (Ok frame) says next (inr is) comes =
    replied_comes login profile is.1 next is.0 says comes
    (machine_comes login profile hostname event.nonce frame is.0 is.1 is.2 comes) is.3

pub answers_comes : (login : Login) (hostname : Option (List ℕ)) (expected : Expected) (profile next : Profile)
    (nonce unit : List ℕ) (answer : SideOutput) → ClientSideAnswers hostname expected profile nonce unit answer next
    → ProfileIsReached login profile → ProfileIsReached login next
answers_comes login hostname Header profile next nonce unit answer is comes =
    same_comes login profile next is.1 comes
answers_comes login hostname (Frame turn) profile next nonce unit answer (Err fault, spells, unread) comes =
    same_comes login profile next unread.1 comes
answers_comes login hostname (Frame turn) profile next nonce unit answer (Ok frame, spells, inl out) comes =
    same_comes login profile next out.2 comes
answers_comes login hostname (Frame turn) profile next nonce unit answer
    (Ok frame, spells, inr (in_turn, (says, steps, said))) comes =
    gives_comes login hostname profile (record { body = drop 4 unit; nonce = nonce }) steps.0 says next steps.2 comes

-- the profile of a struct is one that the login reaches
pub profile_comes : (login : Login) (scram : ScramStruct) (profile : Profile) → IsProfile login scram profile
    → ProfileIsReached login profile
profile_comes login scram (ScramProfile side) is = (is.0, (is.1.0, reached side.user scram side.state is.1.1))
profile_comes login scram (PlainProfile identity user password) is = is
profile_comes login scram AnonymousProfile is = is
profile_comes login scram ExternalProfile is = is
profile_comes login scram (MessageProfile mechanism message is_due) is = (is.0, is.1, is.3)
profile_comes login scram (PolicyProfile selection) is = absurd is
