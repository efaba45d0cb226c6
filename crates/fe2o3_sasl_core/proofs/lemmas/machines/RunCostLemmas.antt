-- What runs cost: the sum over their bodies bounds it.
use Rattle.std.proofs.Common.{◌≡◌, ℕ, Bool, true, false, ◌+◌, ◌≤◌, Option, Some, None, List, [], ◌∷◌, refl, sym, ap, ◌∙◌, subst, inl, inr, Result, Ok, Err, arith}
use Rattle.std.specs.Prelude.{IsUtf8}
use Rattle.fe2o3_sasl_wire.specs.declared.amqp_types.SaslCode.TheVariants as outcomes
use Rattle.fe2o3_sasl_wire.specs.declared.sasl_frames.error.Error.{Error}
use Rattle.fe2o3_sasl_wire.specs.SaslFrames as frames
use Rattle.fe2o3_sasl_wire.specs.SaslFrames.{SaslFrame, canonical}
use Rattle.fe2o3_scram.specs.declared.scram_messages.error.ServerScramErrorKind.{ServerScramErrorKind}
use Rattle.fe2o3_scram.specs.declared.scram_messages.error.ServerScramErrorKind.TheVariants.{AuthenticationFailed, OutOfMemory as NoMemory}
use Rattle.fe2o3_scram.specs.declared.scram_messages.error.ScramErrorKind.{ScramErrorKind}
use Rattle.fe2o3_scram.specs.declared.client_secret.IterationLimits.{IterationLimits}
use Rattle.fe2o3_scram.specs.declared.hmac.ScramVersion.{ScramVersion}
use Rattle.fe2o3_scram.specs.declared.scram_messages.server_rules.ServerRules.{ServerRules}
use Rattle.fe2o3_scram.specs.ActingRights.{Rights}
use Rattle.fe2o3_scram.specs.ClientFinal.{Server}
use Rattle.fe2o3_scram.specs.ClientFirst.{ClientFirst, ReadsClientFirst}
use Rattle.fe2o3_scram.specs.ChannelBinding.{server_mechanism}
use Rattle.fe2o3_scram.specs.Credentials.{Provider}
use Rattle.fe2o3_scram.specs.ScramClient as client_states
use Rattle.fe2o3_scram.specs.ScramClient.{ClientSide, ClientState, AnswerCostsIn, AnswersIn, ChecksSignatureIn, ConcludesIn, VerifiesIn, expects_signature, started}
use Rattle.fe2o3_scram.specs.ScramServer as server_states
use Rattle.fe2o3_scram.specs.ScramServer.{ServerState, FinalCostsFrom, server_against}
use Rattle.fe2o3_scram.specs.ServerFinal.{FinalCosts}
use Rattle.fe2o3_scram.proofs.lemmas.texts.DecisionLemmas.{Decided, same_or, utf8_or}
use Rattle.fe2o3_scram.proofs.lemmas.messages.ClientFirstLemmas.{one_client_first}
use Rattle.fe2o3_scram.proofs.lemmas.messages.SomeReadingLemmas.{some_client_first}
use Rattle.fe2o3_sasl_core.specs.Bodies.{carried}
use Rattle.fe2o3_sasl_core.specs.CostLaws.{MeteredAcceptorSteps, MeteredProfileSteps, server_most, client_most, SumsUp, ServerRunsCost, ClientRunsCost, reply_of}
use Rattle.fe2o3_sasl_core.specs.Costs.{ReachesLookUp, acceptor_hmacs, AcceptorCostsOf, ProfileCostsOf}
use Rattle.fe2o3_sasl_core.specs.Events.{Given, ClientSays}
use Rattle.fe2o3_sasl_core.specs.Profiles.{Profile, ScramProfile}
use Rattle.fe2o3_sasl_core.specs.ProfileMachine.{ChallengeReplies, profile_machine}
use Rattle.fe2o3_sasl_core.specs.Runs.{Runs, ProfileGives, Replies}
use Rattle.fe2o3_sasl_core.specs.SaslAcceptor.{Acceptor, ScramAcceptor}
use Rattle.fe2o3_sasl_core.proofs.lemmas.frames.SpellingLemmas.{one_spelling}
use Rattle.fe2o3_sasl_core.proofs.lemmas.machines.ServerMachineLemmas.{gives_back}
use Rattle.fe2o3_sasl_core.proofs.lemmas.machines.SomeRunLemmas.{some_conclusion}
use Rattle.fe2o3_sasl_core.specs.declared.sasl_profile.error.ProfileError.{ProfileError}

-- ---- a server

-- an answer takes two at most
some_final : (server : Server) (text : List ℕ) (answer : Result (Option (List ℕ)) ServerScramErrorKind)
    → (n : ℕ) × (n ≤ 2) × FinalCosts server text answer 0 n
some_final server text (Ok message) = (2, omega (arith), refl)
some_final server text (Err AuthenticationFailed) = (1, omega (arith), refl)
some_final server text (Err NoMemory) = (0, omega (arith), (omega (arith), omega (arith), λ fault reads. refl))
some_final server text (Err fault) = (0, omega (arith), refl)

some_takes : (state : ServerState) (version : ScramVersion) (rules : ServerRules) (rights : Rights) (text : List ℕ)
    (answer : Result (Option (List ℕ)) ServerScramErrorKind)
    → (n : ℕ) × (n ≤ 2) × FinalCostsFrom state version rules rights text answer 0 n
some_takes (server_states.ServerFirstSent challenge stored) version rules rights text answer =
    some_final (server_against version rules rights challenge stored) text answer
some_takes server_states.Initial version rules rights text answer = (0, omega (arith), refl)
some_takes (server_states.ServerFinalSent user acts_for) version rules rights text answer = (0, omega (arith), refl)

-- an init takes those of a look-up at most
init_costs : (provider : Provider) (state : ServerState) (mechanism text : List ℕ) (hostname : Option (List ℕ))
    (before after : ℕ)
    → AcceptorCostsOf acceptor_hmacs (ScramAcceptor provider state) (Ok (frames.Init mechanism (Some text) hostname)) before
    after
    → after ≤ before + provider.look_up_cost
init_costs provider state mechanism text hostname before after costs =
    go (same_or mechanism (server_mechanism provider.version provider.rules)) (some_client_first provider.rules text)
  where
    none : ¬ ReachesLookUp provider mechanism text → after ≤ before + provider.look_up_cost
    none other = let same = costs.1 0 (inr (other, refl)) in omega (arith, same)

    go : Decided (mechanism ≡ server_mechanism provider.version provider.rules)
        → (answer : Result ClientFirst ServerScramErrorKind) × ReadsClientFirst provider.rules text answer
        → after ≤ before + provider.look_up_cost
    go (inl is) (Ok client, reads) = costs.1 provider.look_up_cost (inl ((is, (client, reads)), refl))
    go (inl is) (Err fault, refuses) = none (λ reaches.
        let both = one_client_first provider.rules text (Err fault) (Ok reaches.1.0) refuses reaches.1.1 in absurd (cc))
    go (inr other) read = none (λ reaches. other reaches.0)

-- a body costs a server no more than its bound
server_costs : (provider : Provider) (state : ServerState) (spelled : Result SaslFrame Error) (before after : ℕ)
    → AcceptorCostsOf acceptor_hmacs (ScramAcceptor provider state) spelled before after
    → (before ≤ after) × (after ≤ before + server_most provider spelled)
server_costs provider state (Ok (frames.Response text)) before after costs =
    let answer = some_conclusion state provider.version provider.rules provider.rights text in
    let takes = some_takes state provider.version provider.rules provider.rights text answer.0 in
    let most = costs.1 takes.0 (answer.0, answer.1, answer.2, takes.2) in
    let two = takes.1 in
    (costs.0, omega (arith, most, two))
server_costs provider state (Ok (frames.Init mechanism (Some text) hostname)) before after costs =
    (costs.0, init_costs provider state mechanism text hostname before after costs)
server_costs provider state (Ok (frames.Init mechanism None hostname)) before after costs =
    let none = costs.1 0 refl in (costs.0, omega (arith, none))
server_costs provider state (Ok (frames.Mechanisms names)) before after costs = (costs.0, costs.1 0 refl)
server_costs provider state (Ok (frames.Challenge text)) before after costs = (costs.0, costs.1 0 refl)
server_costs provider state (Ok (frames.Outcome code more)) before after costs = (costs.0, costs.1 0 refl)
server_costs provider state (Err fault) before after costs =
    let same : after ≡ before = costs in (omega (arith, same), omega (arith, same))

-- the bound of one body and the sum over the others
added : (before between after one rest sum : ℕ) → (before ≤ between) × (between ≤ before + one)
    → (between ≤ after) × (after ≤ between + rest) → sum ≡ one + rest → (before ≤ after) × (after ≤ before + sum)
added before between after one rest sum first others is =
    let a = first.0 in let b = first.1 in let c = others.0 in let d = others.1 in
    (omega (arith, a, c), omega (arith, b, d, is))

pub server_runs_cost : ServerRunsCost
server_runs_cost provider state [] replies before after sum last runs sums =
    let same : after ≡ before = ap (λ (p : Acceptor × ℕ). p.1) runs.1 in
    (omega (arith, same), omega (arith, same))
server_runs_cost provider state (event ∷ events) replies before after sum last runs sums =
    let says = runs.0 in
    let next = runs.1 in
    let step = runs.3.0 in
    let costs = runs.3.1 in
    let same = one_spelling event.body costs.0 sums.0 costs.1 sums.2 in
    let kept = gives_back provider state event step.0 says next.0 step.2 in
    let first = server_costs provider state costs.0 before next.1 costs.2 in
    let begin : ◌≡◌ {A = Acceptor × ℕ} next (ScramAcceptor provider kept.0, next.1) = λ i. (kept.1 i, next.1) in
    let others = server_runs_cost provider kept.0 events runs.2 next.1 after sums.1 last
    (subst (λ (p : Acceptor × ℕ). Runs MeteredAcceptorSteps p events runs.2 (last, after)) begin runs.5) sums.3 in
    added before next.1 after (server_most provider costs.0) sums.1 sum first others
    (sums.4 ∙ ap (λ (s : Result SaslFrame Error). server_most provider s + sums.1) (sym same))

-- ---- a client

-- a body costs a client no more than its bound
pub in_state_costs : {A F : Type 0} (state : ClientState) (client : ClientSide) (text : List ℕ) (result : Result A F)
    (before after : ℕ) → AnswerCostsIn state client text result before after
    → (before ≤ after) × (after ≤ before + (client.limits.max_iterations + 4))
in_state_costs (client_states.ClientFirstSent nonce bare) client text result before after costs =
    (costs.never_falls, costs.limited)
in_state_costs client_states.ClientInitial client text result before after costs =
    (omega (arith, costs), omega (arith, costs))
in_state_costs (client_states.ClientFinalSent signature keys) client text result before after costs =
    (omega (arith, costs), omega (arith, costs))
in_state_costs (client_states.SignatureVerified keys) client text result before after costs =
    (omega (arith, costs), omega (arith, costs))
in_state_costs (client_states.Complete keys) client text result before after costs =
    (omega (arith, costs), omega (arith, costs))

client_costs : {A F : Type 0} (client : ClientSide) (spelled : Result SaslFrame Error) (result : Result A F)
    (before after : ℕ) → ProfileCostsOf spelled (ScramProfile client) result before after
    → (before ≤ after) × (after ≤ before + client_most client.limits.max_iterations spelled)
client_costs client (Ok (frames.Challenge text)) result before after costs = go (utf8_or text)
  where
    go : Decided (IsUtf8 text) → (before ≤ after) × (after ≤ before + (client.limits.max_iterations + 4))
    go (inl is) = in_state_costs client.state client text result before after (costs.1 is)
    go (inr not) = let same = costs.0 not in (omega (arith, same), omega (arith, same))
client_costs client (Ok (frames.Mechanisms names)) result before after costs =
    (omega (arith, costs), omega (arith, costs))
client_costs client (Ok (frames.Init mechanism response hostname)) result before after costs =
    (omega (arith, costs), omega (arith, costs))
client_costs client (Ok (frames.Response text)) result before after costs = (omega (arith, costs), omega (arith, costs))
client_costs client (Ok (frames.Outcome code more)) result before after costs =
    (omega (arith, costs), omega (arith, costs))
client_costs client (Err fault) result before after costs = (omega (arith, costs), omega (arith, costs))

-- the profile is of SCRAM still, with the same limits
abbrev pub Keeps : ClientSide → Profile → Type 0
Keeps client next = (side : ClientSide) × (next ≡ ScramProfile side) × (side.limits ≡ client.limits)

answered_keeps : (state : ClientState) (client : ClientSide) (text : List ℕ)
    (answer : Result (List ℕ) ScramErrorKind) (after : ClientSide) → AnswersIn state client text answer after
    → after.limits ≡ client.limits
answered_keeps (client_states.ClientFirstSent nonce bare) client text (Ok message) after is =
    ap (λ (side : ClientSide). side.limits) is.3
answered_keeps (client_states.ClientFirstSent nonce bare) client text (Err fault) after is =
    ap (λ (side : ClientSide). side.limits) is.1
answered_keeps client_states.ClientInitial client text (Ok message) after is = absurd is
answered_keeps client_states.ClientInitial client text (Err fault) after is = ap (λ (side : ClientSide). side.limits) is.1
answered_keeps (client_states.ClientFinalSent signature keys) client text (Ok message) after is = absurd is
answered_keeps (client_states.ClientFinalSent signature keys) client text (Err fault) after is =
    ap (λ (side : ClientSide). side.limits) is.1
answered_keeps (client_states.SignatureVerified keys) client text (Ok message) after is = absurd is
answered_keeps (client_states.SignatureVerified keys) client text (Err fault) after is =
    ap (λ (side : ClientSide). side.limits) is.1
answered_keeps (client_states.Complete keys) client text (Ok message) after is = absurd is
answered_keeps (client_states.Complete keys) client text (Err fault) after is =
    ap (λ (side : ClientSide). side.limits) is.1

verified_keeps : (state : ClientState) (client : ClientSide) (text : List ℕ)
    (answer : Result (Unit {0}) ScramErrorKind) (after : ClientSide) → VerifiesIn state client text answer after
    → after.limits ≡ client.limits
verified_keeps (client_states.ClientFinalSent signature keys) client text (Ok verified) after is =
    ap (λ (side : ClientSide). side.limits) is.1
verified_keeps (client_states.ClientFinalSent signature keys) client text (Err fault) after is =
    ap (λ (side : ClientSide). side.limits) is.1
verified_keeps client_states.ClientInitial client text (Ok verified) after is = absurd is
verified_keeps client_states.ClientInitial client text (Err fault) after is = ap (λ (side : ClientSide). side.limits) is.1
verified_keeps (client_states.ClientFirstSent nonce bare) client text (Ok verified) after is = absurd is
verified_keeps (client_states.ClientFirstSent nonce bare) client text (Err fault) after is =
    ap (λ (side : ClientSide). side.limits) is.1
verified_keeps (client_states.SignatureVerified keys) client text (Ok verified) after is = absurd is
verified_keeps (client_states.SignatureVerified keys) client text (Err fault) after is =
    ap (λ (side : ClientSide). side.limits) is.1
verified_keeps (client_states.Complete keys) client text (Ok verified) after is = absurd is
verified_keeps (client_states.Complete keys) client text (Err fault) after is =
    ap (λ (side : ClientSide). side.limits) is.1

checked_keeps : (state : ClientState) (client : ClientSide) (text : List ℕ)
    (answer : Result (Unit {0}) ScramErrorKind) (after : ClientSide) → ChecksSignatureIn state client text answer after
    → after.limits ≡ client.limits
checked_keeps (client_states.ClientFinalSent signature keys) client text (Ok verified) after is =
    ap (λ (side : ClientSide). side.limits) is.1
checked_keeps (client_states.ClientFinalSent signature keys) client text (Err fault) after is =
    ap (λ (side : ClientSide). side.limits) is.1
checked_keeps state client text (Ok verified) after is = absurd is
checked_keeps state client text (Err fault) after is = ap (λ (side : ClientSide). side.limits) is.1

concluded_keeps : (state : ClientState) (client : ClientSide) (answer : Result (Unit {0}) ScramErrorKind)
    (after : ClientSide) → ConcludesIn state client answer after → after.limits ≡ client.limits
concluded_keeps (client_states.SignatureVerified keys) client (Ok verified) after is =
    ap (λ (side : ClientSide). side.limits) is
concluded_keeps (client_states.SignatureVerified keys) client (Err fault) after is = absurd is
concluded_keeps state client (Ok verified) after is = absurd is
concluded_keeps state client (Err fault) after is = ap (λ (side : ClientSide). side.limits) is.1

challenge_keeps : (expects : Bool) (client : ClientSide) (text : List ℕ) (reply : Result SaslFrame ProfileError)
    (moved : Profile) → ChallengeReplies expects client text reply moved → Keeps client moved
challenge_keeps false client text reply moved turn =
    (turn.1, turn.4, answered_keeps client.state client text turn.0 turn.1 turn.2)
challenge_keeps true client text reply moved turn =
    (turn.1, turn.4, checked_keeps client.state client text turn.0 turn.1 turn.2)

machine_keeps : (client : ClientSide) (hostname : Option (List ℕ)) (nonce : List ℕ) (frame : SaslFrame)
    (reply : Result SaslFrame ProfileError) (moved : Profile)
    → profile_machine (ScramProfile client) hostname nonce frame reply moved → Keeps client moved
machine_keeps client hostname nonce (frames.Mechanisms names) reply moved (inl is) =
    (started client nonce, is.2, refl)
machine_keeps client hostname nonce (frames.Mechanisms names) reply moved (inr is) = (client, is.2, refl)
machine_keeps client hostname nonce (frames.Challenge text) reply moved (inl is) = (client, is.2, refl)
machine_keeps client hostname nonce (frames.Challenge text) reply moved (inr is) =
    challenge_keeps (expects_signature client) client text reply moved is.1
machine_keeps client hostname nonce (frames.Outcome outcomes.Ok None) reply moved is =
    (is.1, is.4, concluded_keeps client.state client is.0 is.1 is.2)
machine_keeps client hostname nonce (frames.Outcome outcomes.Ok (Some text)) reply moved is =
    (is.1, is.4, verified_keeps client.state client text is.0 is.1 is.2)
machine_keeps client hostname nonce (frames.Outcome code more) reply moved is = (client, is.1, refl)
machine_keeps client hostname nonce (frames.Init mechanism response host) reply moved is = (client, is.1, refl)
machine_keeps client hostname nonce (frames.Response text) reply moved is = (client, is.1, refl)

-- also where the reply is not sent
carried_keeps : (client : ClientSide) (body : Option (List ℕ)) (moved next : Profile) → Keeps client moved
    → next ≡ carried (ScramProfile client) (λ _. moved) body → Keeps client next
carried_keeps client None moved next kept is = (client, is, refl)
carried_keeps client (Some body) moved next kept is = (kept.0, is ∙ kept.1, kept.2)

replied_keeps : (client : ClientSide) (moved next : Profile) (reply : Result SaslFrame ProfileError)
    (says : ClientSays) → Keeps client moved → Replies (ScramProfile client) moved reply says next → Keeps client next
replied_keeps client moved next (Err fault) says kept is = (kept.0, is.1 ∙ kept.1, kept.2)
replied_keeps client moved next (Ok (frames.Outcome code more)) says kept is = (kept.0, is.1 ∙ kept.1, kept.2)
replied_keeps client moved next (Ok (frames.Init mechanism response host)) says kept is =
    carried_keeps client (canonical (frames.Init mechanism response host)) moved next kept is.1
replied_keeps client moved next (Ok (frames.Response text)) says kept is =
    carried_keeps client (canonical (frames.Response text)) moved next kept is.1
replied_keeps client moved next (Ok (frames.Mechanisms names)) says kept is =
    carried_keeps client (canonical (frames.Mechanisms names)) moved next kept is.1
replied_keeps client moved next (Ok (frames.Challenge text)) says kept is =
    carried_keeps client (canonical (frames.Challenge text)) moved next kept is.1

pub step_keeps : (hostname : Option (List ℕ)) (client : ClientSide) (event : Given) (spelled : Result SaslFrame Error)
    (says : ClientSays) (next : Profile) → ProfileGives hostname (ScramProfile client) event spelled says next
    → Keeps client next
step_keeps hostname client event (Err fault) says next is = (client, is.1, refl)
step_keeps hostname client event (Ok frame) says next (inl is) = (client, is.2, refl)
step_keeps hostname client event (Ok frame) says next (inr is) =
    replied_keeps client is.1 next is.0 says
    (machine_keeps client hostname event.nonce frame is.0 is.1 is.2) is.3

pub client_runs_cost : ClientRunsCost
client_runs_cost hostname client [] replies before after sum last runs sums =
    let same : after ≡ before = ap (λ (p : Profile × ℕ). p.1) runs.1 in
    (omega (arith, same), omega (arith, same))
client_runs_cost hostname client (event ∷ events) replies before after sum last runs sums =
    let says = runs.0 in
    let next = runs.1 in
    let step = runs.3.0 in
    let costs = runs.3.1 in
    let same = one_spelling event.body costs.0 sums.0 costs.1 sums.2 in
    let kept = step_keeps hostname client event step.0 says next.0 step.2 in
    let first = client_costs client costs.0 (reply_of says) before next.1 costs.2 in
    let begin : ◌≡◌ {A = Profile × ℕ} next (ScramProfile kept.0, next.1) = λ i. (kept.1 i, next.1) in
    let limit : kept.0.limits.max_iterations ≡ client.limits.max_iterations =
    ap (λ (l : IterationLimits). l.max_iterations) kept.2 in
    let others = client_runs_cost hostname kept.0 events runs.2 next.1 after sums.1 last
    (subst (λ (p : Profile × ℕ). Runs (MeteredProfileSteps hostname) p events runs.2 (last, after)) begin runs.5)
    (subst (λ (l : ℕ). SumsUp (client_most l) events sums.1) (sym limit) sums.3) in
    added before next.1 after (client_most client.limits.max_iterations costs.0) sums.1 sum first others
    (sums.4 ∙ ap (λ (s : Result SaslFrame Error). client_most client.limits.max_iterations s + sums.1) (sym same))
