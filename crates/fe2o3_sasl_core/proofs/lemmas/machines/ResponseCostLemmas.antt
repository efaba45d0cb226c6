-- What the answer of a SCRAM acceptor to a response costs.
use Rattle.std.proofs.Common.{◌≡◌, ◌≢◌, ℕ, ◌+◌, ◌≤◌, Option, List, refl, sym, ap, subst, Result, Ok, Err, arith}
use Rattle.std.specs.Prelude.{IfOk, OnOk}
use Rattle.fe2o3_sasl_wire.specs.SaslFrames as frames
use Rattle.fe2o3_scram.specs.declared.scram_messages.error.ServerScramErrorKind.{ServerScramErrorKind}
use Rattle.fe2o3_scram.specs.declared.scram_messages.error.ServerScramErrorKind.TheVariants.{AuthenticationFailed, OutOfMemory}
use Rattle.fe2o3_scram.specs.declared.hmac.ScramVersion.{ScramVersion}
use Rattle.fe2o3_scram.specs.declared.scram_messages.server_rules.ServerRules.{ServerRules}
use Rattle.fe2o3_scram.specs.ActingRights.{Rights}
use Rattle.fe2o3_scram.specs.ClientFinal.{Server}
use Rattle.fe2o3_scram.specs.Credentials.{Record, Provider}
use Rattle.fe2o3_scram.specs.Readings.{Gives}
use Rattle.fe2o3_scram.specs.ScramServer as server_states
use Rattle.fe2o3_scram.specs.ScramServer.{ServerState, ConcludesFrom, FinalCostsFrom, server_against}
use Rattle.fe2o3_scram.specs.ServerFinal.{FinalCosts}
use Rattle.fe2o3_scram.specs.ServerFirst.{ServerChallenge}
use Rattle.fe2o3_sasl_core.specs.Costs.{acceptor_hmacs, CostsAtMost}
use Rattle.fe2o3_sasl_core.specs.SaslAcceptor.{ScramAcceptor}
use Rattle.fe2o3_sasl_core.proofs.lemmas.machines.OneReplyLemmas.{ServerTurn, one_conclusion}

-- a meter never falls
rises : {A : Type 0} (server : Server) (text : List ℕ) (result : Result A ServerScramErrorKind) (before after : ℕ)
    → FinalCosts server text result before after → before ≤ after
rises server text (Ok message) before after costs = omega (arith, costs)
rises server text (Err AuthenticationFailed) before after costs = omega (arith, costs)
rises server text (Err OutOfMemory) before after costs = costs.0
rises server text (Err fault) before after costs = let same : after ≡ before = costs in omega (arith, same)

-- two answers of one turn take as many
takes_of : (server : Server) (text : List ℕ) (answer other : Result (Option (List ℕ)) ServerScramErrorKind)
    (next last : ServerState) (n : ℕ) → ◌≡◌ {A = ServerTurn} (answer, next) (other, last)
    → FinalCosts server text other 0 n → FinalCosts server text answer 0 n
takes_of server text answer other next last n turn takes =
    subst (λ (a : Result (Option (List ℕ)) ServerScramErrorKind). FinalCosts server text a 0 n)
    (sym (ap (λ (t : ServerTurn). t.0) turn)) takes

-- no more than an answer against the record of the open challenge takes
against : {V : Type 0} (Allocates : Type 0) (view : V → Option (List ℕ)) (challenge : ServerChallenge) (stored : Record)
    (version : ScramVersion) (rules : ServerRules) (rights : Rights) (text : List ℕ) (result : Result V ServerScramErrorKind)
    (answer : Result (Option (List ℕ)) ServerScramErrorKind) (next last : ServerState) (before after n : ℕ)
    → Gives OutOfMemory Allocates view result
    (λ answer. ConcludesFrom (server_states.ServerFirstSent challenge stored) version rules rights text answer next)
    → ConcludesFrom (server_states.ServerFirstSent challenge stored) version rules rights text answer last
    → FinalCosts (server_against version rules rights challenge stored) text result before after
    → FinalCosts (server_against version rules rights challenge stored) text answer 0 n → after ≤ before + n
against Allocates view challenge stored version rules rights text (Ok value) answer next last before after n gives concludes costs
    takes =
    let turn = one_conclusion (server_states.ServerFirstSent challenge stored) version rules rights text
    (Ok (view value)) answer next last gives concludes in
    let two : n ≡ 2 = takes_of (server_against version rules rights challenge stored) text (Ok (view value)) answer next
    last n turn takes in
    omega (arith, costs, two)
against Allocates view challenge stored version rules rights text (Err AuthenticationFailed) answer next last before after n gives
    concludes costs takes =
    let turn = one_conclusion (server_states.ServerFirstSent challenge stored) version rules rights text
    (Err AuthenticationFailed) answer next last (gives.1 (λ e. absurd (cc))) concludes in
    let one : n ≡ 1 = takes_of (server_against version rules rights challenge stored) text (Err AuthenticationFailed)
    answer next last n turn takes in
    omega (arith, costs, one)
against Allocates view challenge stored version rules rights text (Err OutOfMemory) (Ok message) next last before after n gives
    concludes costs takes = let most = costs.1 in omega (arith, most, takes)
against Allocates view challenge stored version rules rights text (Err OutOfMemory) (Err fault) next last before after n gives
    concludes costs takes = let same = costs.2 fault concludes.0 in omega (arith, same)
against Allocates view challenge stored version rules rights text (Err fault) answer next last before after n
    gives concludes costs takes = let same : after ≡ before = costs in omega (arith, same)

-- no more than the acceptor's answer takes
pub response_costs : {V : Type 0} (Allocates : Type 0) (view : V → Option (List ℕ)) (provider : Provider)
    (state next : ServerState) (text : List ℕ) (result : Result V ServerScramErrorKind) (before after : ℕ)
    → Gives OutOfMemory Allocates view result
    (λ answer. ConcludesFrom state provider.version provider.rules provider.rights text answer next)
    → FinalCostsFrom state provider.version provider.rules provider.rights text result before after
    → CostsAtMost acceptor_hmacs (ScramAcceptor provider state) (frames.Response text) before after
response_costs Allocates view provider (server_states.ServerFirstSent challenge stored) next text result before after gives
    costs = (
      rises (server_against provider.version provider.rules provider.rights challenge stored) text result before after costs,
      λ n takes. against Allocates view challenge stored provider.version provider.rules provider.rights text
          result takes.0 next takes.1 before after n gives takes.2 costs takes.3,
    )
response_costs Allocates view provider server_states.Initial next text result before after gives costs =
    (omega (arith, costs), λ n takes. omega (arith, costs))
response_costs Allocates view provider (server_states.ServerFinalSent user acts_for) next text result before after gives costs =
    (omega (arith, costs), λ n takes. omega (arith, costs))

-- ---- where memory does not run out

-- as many as an answer against the record of the open challenge takes
exactly_against : {V : Type 0} (Allocates : Type 0) (view : V → Option (List ℕ)) (challenge : ServerChallenge)
    (stored : Record) (version : ScramVersion) (rules : ServerRules) (rights : Rights) (text : List ℕ)
    (result : Result V ServerScramErrorKind)
    (answer : Result (Option (List ℕ)) ServerScramErrorKind) (next last : ServerState) (before after n : ℕ)
    → result ≢ Err OutOfMemory
    → Gives OutOfMemory Allocates view result
    (λ answer. ConcludesFrom (server_states.ServerFirstSent challenge stored) version rules rights text answer next)
    → ConcludesFrom (server_states.ServerFirstSent challenge stored) version rules rights text answer last
    → FinalCosts (server_against version rules rights challenge stored) text result before after
    → FinalCosts (server_against version rules rights challenge stored) text answer 0 n → after ≡ before + n
exactly_against Allocates view challenge stored version rules rights text (Ok value) answer next last before after n told gives
    concludes costs takes =
    let turn = one_conclusion (server_states.ServerFirstSent challenge stored) version rules rights text
    (Ok (view value)) answer next last gives concludes in
    let two : n ≡ 2 = takes_of (server_against version rules rights challenge stored) text (Ok (view value)) answer next
    last n turn takes in
    omega (arith, costs, two)
exactly_against Allocates view challenge stored version rules rights text (Err AuthenticationFailed) answer next last
    before after n told gives concludes costs takes =
    let turn = one_conclusion (server_states.ServerFirstSent challenge stored) version rules rights text
    (Err AuthenticationFailed) answer next last (gives.1 (λ e. absurd (cc))) concludes in
    let one : n ≡ 1 = takes_of (server_against version rules rights challenge stored) text (Err AuthenticationFailed)
    answer next last n turn takes in
    omega (arith, costs, one)
exactly_against Allocates view challenge stored version rules rights text (Err OutOfMemory) answer next last
    before after n told gives concludes costs takes = absurd (told refl)
exactly_against Allocates view challenge stored version rules rights text (Err fault) answer next last before after n told gives
    concludes costs takes =
    let turn = one_conclusion (server_states.ServerFirstSent challenge stored) version rules rights text
    (Err fault) answer next last (gives.1 (λ e. absurd (cc))) concludes in
    let none : n ≡ 0 = takes_of (server_against version rules rights challenge stored) text (Err fault)
    answer next last n turn takes in
    let same : after ≡ before = costs in
    omega (arith, same, none)

-- as many as the acceptor's answer takes
pub exactly_from : {V : Type 0} (Allocates : Type 0) (view : V → Option (List ℕ)) (provider : Provider)
    (state next : ServerState) (text : List ℕ) (result : Result V ServerScramErrorKind) (before after n : ℕ)
    → result ≢ Err OutOfMemory
    → Gives OutOfMemory Allocates view result
    (λ answer. ConcludesFrom state provider.version provider.rules provider.rights text answer next)
    → FinalCostsFrom state provider.version provider.rules provider.rights text result before after
    → acceptor_hmacs (ScramAcceptor provider state) (frames.Response text) n → after ≡ before + n
exactly_from Allocates view provider (server_states.ServerFirstSent challenge stored) next text result before after n told
    gives costs takes =
    exactly_against Allocates view challenge stored provider.version provider.rules provider.rights text
    result takes.0 next takes.1 before after n told gives takes.2 costs takes.3
exactly_from Allocates view provider server_states.Initial next text result before after n told gives costs takes =
    let none = takes.3 in omega (arith, costs, none)
exactly_from Allocates view provider (server_states.ServerFinalSent user acts_for) next text result before after n told gives
    costs takes = let none = takes.3 in omega (arith, costs, none)

-- of a frame that was sent
pub answer_costs : {V X E : Type 0} (Allocates : Type 0) (view : V → Option (List ℕ)) (provider : Provider)
    (state next : ServerState) (text : List ℕ) (value : V) (sent : Result X E) (before after : ℕ)
    → ConcludesFrom state provider.version provider.rules provider.rights text (Ok (view value)) next
    → FinalCostsFrom state provider.version provider.rules provider.rights text (Ok value) before after
    → OnOk sent ((n : ℕ) → acceptor_hmacs (ScramAcceptor provider state) (frames.Response text) n → after ≡ before + n)
answer_costs Allocates view provider state next text value (Ok frame) before after concludes costs = λ n takes.
    exactly_from Allocates view provider state next text (Ok value) before after n (λ e. absurd (cc)) concludes costs
    takes
answer_costs Allocates view provider state next text value (Err fault) before after concludes costs = tt

pub refusal_costs : {V X E : Type 0} (Allocates : Type 0) (sends : X → Type 0) (view : V → Option (List ℕ))
    (provider : Provider) (state next : ServerState) (text : List ℕ) (kind : ServerScramErrorKind)
    (sent : Result X E) (before after : ℕ)
    → Gives OutOfMemory Allocates view (Err kind)
    (λ answer. ConcludesFrom state provider.version provider.rules provider.rights text answer next)
    → FinalCostsFrom {A = V} state provider.version provider.rules provider.rights text (Err kind) before after
    → IfOk sent (λ frame. (kind ≢ OutOfMemory) × sends frame)
    → OnOk sent ((n : ℕ) → acceptor_hmacs (ScramAcceptor provider state) (frames.Response text) n → after ≡ before + n)
refusal_costs {V = V} Allocates sends view provider state next text kind (Ok frame) before after gives costs is =
    λ n takes.
    exactly_from {V = V} Allocates view provider state next text (Err kind) before after n (λ e. is.0 (told kind e))
    gives costs takes
  where
    told : (kind : ServerScramErrorKind) → ◌≡◌ {A = Result V ServerScramErrorKind} (Err kind) (Err OutOfMemory)
        → kind ≡ OutOfMemory
    told kind e = cc
refusal_costs Allocates sends view provider state next text kind (Err fault) before after gives costs is = tt
