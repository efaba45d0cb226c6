-- No step, and no call, of a client that has selected its profile changes the kind of this profile.
use Rattle.std.proofs.Common.{◌≡◌, ℕ, Bool, true, false, Option, Some, None, List, [], ◌∷◌, drop, take, ap, ◌∙◌, inl, inr, Result, Ok, Err}
use Rattle.fe2o3_sasl_wire.specs.declared.amqp_types.SaslCode.TheVariants as outcomes
use Rattle.fe2o3_sasl_wire.specs.declared.sasl_frames.error.Error.{Error}
use Rattle.fe2o3_sasl_wire.specs.SaslFrames as frames
use Rattle.fe2o3_sasl_wire.specs.SaslFrames.{SaslFrame, canonical}
use Rattle.fe2o3_scram.specs.ScramClient.{ClientSide, expects_signature}
use Rattle.fe2o3_sasl_core.specs.Bodies.{carried}
use Rattle.fe2o3_sasl_core.specs.Events.{Given, ClientSays}
use Rattle.fe2o3_sasl_core.specs.Profiles.{Profile, ScramProfile, PlainProfile, AnonymousProfile, ExternalProfile, MessageProfile, PolicyProfile}
use Rattle.fe2o3_sasl_core.specs.ProfileMachine.{ChallengeReplies, profile_machine}
use Rattle.fe2o3_sasl_core.specs.Runs.{ProfileGives, Replies}
use Rattle.fe2o3_sasl_core.specs.declared.sasl_profile.error.ProfileError.{ProfileError}
use Rattle.fe2o3_sasl_negotiation.specs.ClientNegotiation.{ClientReceives, ClientSideAnswers}
use Rattle.fe2o3_sasl_negotiation.specs.Laws.{Call, Calls}
use Rattle.fe2o3_sasl_negotiation.specs.Negotiations.{Side, SideOutput}
use Rattle.fe2o3_sasl_negotiation.specs.declared.progress.Expected.{Expected}
use Rattle.fe2o3_sasl_negotiation.specs.declared.progress.Expected.TheVariants.{Header, Frame}
use Rattle.fe2o3_sasl_negotiation.proofs.lemmas.CostLemmas.{Left, leaves}
use Rattle.connection_laws.specs.PolicyClients.{IsChosen}

-- the kind of a selected profile: whether it is of SCRAM
abbrev pub kind : Profile → Option Bool
kind (PolicyProfile selection) = None
kind (ScramProfile client) = Some true
kind profile = Some false

-- the second profile is of the kind of the first
abbrev Stays : Profile → Profile → Type 0
Stays profile next = kind next ≡ kind profile

-- a kind of some is that of a selected profile
pub chosen_kind : (profile : Profile) (is : Bool) → kind profile ≡ Some is → IsChosen profile
chosen_kind (PolicyProfile selection) is same = absurd (cc)
chosen_kind profile is same = tt

pub chosen_like : (profile next : Profile) → kind next ≡ kind profile → IsChosen profile → IsChosen next
chosen_like (PolicyProfile selection) next same chosen = absurd chosen
chosen_like (ScramProfile client) next same chosen = chosen_kind next true same
chosen_like profile next same chosen = chosen_kind next false same

-- ---- a step

challenge_stays : (expects : Bool) (client : ClientSide) (text : List ℕ) (reply : Result SaslFrame ProfileError)
    (moved : Profile) → ChallengeReplies expects client text reply moved → Stays (ScramProfile client) moved
challenge_stays false client text reply moved is = ap kind is.4
challenge_stays true client text reply moved is = ap kind is.4

scram_stays : (client : ClientSide) (hostname : Option (List ℕ)) (nonce : List ℕ) (frame : SaslFrame)
    (reply : Result SaslFrame ProfileError) (moved : Profile)
    → profile_machine (ScramProfile client) hostname nonce frame reply moved → Stays (ScramProfile client) moved
scram_stays client hostname nonce (frames.Mechanisms names) reply moved (inl is) = ap kind is.2
scram_stays client hostname nonce (frames.Mechanisms names) reply moved (inr is) = ap kind is.2
scram_stays client hostname nonce (frames.Challenge text) reply moved (inl is) = ap kind is.2
scram_stays client hostname nonce (frames.Challenge text) reply moved (inr is) =
    challenge_stays (expects_signature client) client text reply moved is.1
scram_stays client hostname nonce (frames.Outcome outcomes.Ok None) reply moved is = ap kind is.4
scram_stays client hostname nonce (frames.Outcome outcomes.Ok (Some text)) reply moved is = ap kind is.4
scram_stays client hostname nonce (frames.Outcome code more) reply moved is = ap kind is.1
scram_stays client hostname nonce (frames.Init mechanism response host) reply moved is = ap kind is.1
scram_stays client hostname nonce (frames.Response text) reply moved is = ap kind is.1

machine_stays : (profile : Profile) (hostname : Option (List ℕ)) (nonce : List ℕ) (frame : SaslFrame)
    (reply : Result SaslFrame ProfileError) (moved : Profile)
    → IsChosen profile → profile_machine profile hostname nonce frame reply moved → Stays profile moved
machine_stays (PolicyProfile selection) hostname nonce frame reply moved chosen is = absurd chosen
machine_stays (ScramProfile client) hostname nonce frame reply moved chosen is =
    scram_stays client hostname nonce frame reply moved is
machine_stays (PlainProfile identity user password) hostname nonce (frames.Mechanisms names) reply moved chosen (inl is) =
    ap kind is.2
machine_stays (PlainProfile identity user password) hostname nonce (frames.Mechanisms names) reply moved chosen (inr is) =
    ap kind is.2
machine_stays AnonymousProfile hostname nonce (frames.Mechanisms names) reply moved chosen (inl is) = ap kind is.2
machine_stays AnonymousProfile hostname nonce (frames.Mechanisms names) reply moved chosen (inr is) = ap kind is.2
machine_stays ExternalProfile hostname nonce (frames.Mechanisms names) reply moved chosen (inl is) = ap kind is.2
machine_stays ExternalProfile hostname nonce (frames.Mechanisms names) reply moved chosen (inr is) = ap kind is.2
machine_stays (MessageProfile mechanism message is_due) hostname nonce (frames.Mechanisms names) reply moved chosen (inl is) =
    ap kind is.2
machine_stays (MessageProfile mechanism message is_due) hostname nonce (frames.Mechanisms names) reply moved chosen (inr is) =
    ap kind is.2
machine_stays (MessageProfile mechanism message true) hostname nonce (frames.Challenge []) reply moved chosen is = ap kind is.1
machine_stays profile hostname nonce frame reply moved chosen is = ap kind is.1

-- also where the reply is not sent
carried_stays : (profile : Profile) (body : Option (List ℕ)) (moved next : Profile) → Stays profile moved
    → next ≡ carried profile (λ _. moved) body → Stays profile next
carried_stays profile None moved next stays is = ap kind is
carried_stays profile (Some body) moved next stays is = ap kind is ∙ stays

replied_stays : (profile moved next : Profile) (reply : Result SaslFrame ProfileError) (says : ClientSays)
    → Stays profile moved → Replies profile moved reply says next → Stays profile next
replied_stays profile moved next (Err fault) says stays is = ap kind is.1 ∙ stays
replied_stays profile moved next (Ok (frames.Outcome code more)) says stays is =
    ap kind is.1 ∙ stays
replied_stays profile moved next (Ok (frames.Init mechanism response host)) says stays is =
    carried_stays profile (canonical (frames.Init mechanism response host)) moved next stays is.1
replied_stays profile moved next (Ok (frames.Response text)) says stays is =
    carried_stays profile (canonical (frames.Response text)) moved next stays is.1
replied_stays profile moved next (Ok (frames.Mechanisms names)) says stays is =
    carried_stays profile (canonical (frames.Mechanisms names)) moved next stays is.1
replied_stays profile moved next (Ok (frames.Challenge text)) says stays is =
    carried_stays profile (canonical (frames.Challenge text)) moved next stays is.1

given_stays : (hostname : Option (List ℕ)) (profile : Profile) (event : Given) (spelled : Result SaslFrame Error)
    (says : ClientSays) (next : Profile) → IsChosen profile → ProfileGives hostname profile event spelled says next
    → Stays profile next
given_stays hostname profile event (Err fault) says next chosen is = ap kind is.1
given_stays hostname profile event (Ok frame) says next chosen (inl is) = ap kind is.2
given_stays hostname profile event (Ok frame) says next chosen (inr is) = replied_stays profile is.1 next is.0 says
    (machine_stays profile hostname event.nonce frame is.0 is.1 chosen is.2) is.3

-- ---- a call

answer_kind : (hostname : Option (List ℕ)) (expected : Expected) (profile next : Profile) (nonce unit : List ℕ)
    (answer : SideOutput) → IsChosen profile → ClientSideAnswers hostname expected profile nonce unit answer next
    → Stays profile next
answer_kind hostname Header profile next nonce unit answer chosen (opens, same) = ap kind same
answer_kind hostname (Frame turn) profile next nonce unit answer chosen (Err fault, spells, (closed, same)) = ap kind same
answer_kind hostname (Frame turn) profile next nonce unit answer chosen (Ok frame, spells, inl (out, closed, same)) =
    ap kind same
answer_kind hostname (Frame turn) profile next nonce unit answer chosen
    (Ok frame, spells, inr (in_turn, (says, (spelled, spelt, gives), said))) =
    given_stays hostname profile (record { body = drop 4 unit; nonce = nonce }) spelled says next chosen gives

pub call_kind : (hostname : Option (List ℕ)) (side next : Side Profile) (bytes nonce sent : List ℕ) (taken : ℕ)
    → IsChosen side.state → ClientReceives hostname side bytes nonce taken sent next → kind next.state ≡ kind side.state
call_kind hostname side next bytes nonce sent taken chosen receives =
    go (leaves (ClientSideAnswers hostname) side.progress side next bytes nonce sent taken receives)
  where
    go : Left (ClientSideAnswers hostname) side bytes nonce next → kind next.state ≡ kind side.state
    go (inl waits) = ap kind waits.2
    go (inr (inl closed)) = ap kind closed.1
    go (inr (inr (answer, unit, answers, progress, due))) =
        answer_kind hostname side.expected side.state next.state nonce unit answer chosen answers

pub calls_kind : (hostname : Option (List ℕ)) (calls : List Call) (side last : Side Profile) (stream sent rest : List ℕ)
    → IsChosen side.state → Calls (ClientReceives hostname) side calls stream sent last rest
    → kind last.state ≡ kind side.state
calls_kind hostname [] side last stream sent rest chosen (nothing, same, left) =
    ap (λ (s : Side Profile). kind s.state) same
calls_kind hostname (call ∷ calls) side last stream sent rest chosen (k, first, next, later, receives, made, all) =
    let one = call_kind hostname side next (take call.handed stream) call.nonce first k chosen receives in
    calls_kind hostname calls next last (drop k stream) later rest (chosen_like side.state next.state one chosen) made ∙ one
