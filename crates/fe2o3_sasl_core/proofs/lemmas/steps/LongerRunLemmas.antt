-- A run goes on by one step, and what holds of every history holds of a run from a fresh start.
use Rattle.std.proofs.Common.{◌≡◌, ℕ, Option, List, [], ◌∷◌, ◌++◌, ◌+◌, ◌<◌, map, length, take, get_or, refl, sym, ap, ◌∙◌, subst, Result, Ok, Err}
use Rattle.std.specs.Prelude.{IfOk}
use Rattle.std.proofs.lemmas.List.{take_more, map-append}
use Rattle.fe2o3_sasl_core.specs.Events.{Given, Login, ServerSays, ClientSays}
use Rattle.fe2o3_sasl_core.specs.ClientHistory.{ClientHistory}
use Rattle.fe2o3_sasl_core.specs.ServerHistory.{ServerHistory}
use Rattle.fe2o3_sasl_core.specs.Runs.{AcceptorSteps, ProfileSteps, Runs, StartsAs}
use Rattle.fe2o3_sasl_core.specs.SaslAcceptor.{Acceptor, ScramAcceptor, acceptor_machine}
use Rattle.fe2o3_sasl_core.specs.Profiles.{Profile}
use Rattle.fe2o3_scram.specs.Credentials.{Provider}
use Rattle.fe2o3_scram.specs.ScramServer as server_states
use Rattle.fe2o3_sasl_core.proofs.lemmas.machines.ClientMachineLemmas.{profile_runs_are_histories}
use Rattle.fe2o3_sasl_core.proofs.lemmas.machines.ServerMachineLemmas.{acceptor_runs_are_histories}

-- ---- one step more

runs_push : {S A : Type 0} (Step : S → Given → A → S → Type 0) (state : S) (events : List Given) (replies : List A)
    (mid : S) (event : Given) (says : A) (last : S) → Runs Step state events replies mid → Step mid event says last
    → Runs Step state (events ++ event ∷ []) (replies ++ says ∷ []) last
runs_push Step state [] replies mid event says last h s =
    (says, last, [], subst (λ x. Step x event says last) h.1 s, ap (λ r. r ++ says ∷ []) h.0, (refl, refl))
runs_push Step state (first ∷ events) replies mid event says last h s = (
  h.0,
  h.1,
  h.2 ++ says ∷ [],
  h.3,
  ap (λ r. r ++ says ∷ []) h.4,
  runs_push Step h.1 events h.2 mid event says last h.5 s,
)

-- the same, where the lists are those of the code
pub runs_next : {S A E R : Type 0} (Step : S → Given → A → S → Type 0) (given : E → Given) (view : R → A) (state : S)
    (events : List E) (i : ℕ) (event : E) (replies grown : List R) (reply : R) (mid last : S)
    → i < length events → event ≡ get_or events i event → grown ≡ replies ++ reply ∷ []
    → Runs Step state (map given (take i events)) (map view replies) mid → Step mid (given event) (view reply) last
    → Runs Step state (map given (take (i + 1) events)) (map view grown) last
runs_next Step given view state events i event replies grown reply mid last within is more h s =
    let t : map given (take (i + 1) events) ≡ map given (take i events) ++ given event ∷ [] =
    ap (map given) (take_more events i event within)
    ∙ (map-append given (take i events) (get_or events i event ∷ [])
    ∙ ap (λ y. map given (take i events) ++ given y ∷ []) (sym is)) in
    let u : map view grown ≡ map view replies ++ view reply ∷ [] =
    ap (map view) more ∙ map-append view replies (reply ∷ []) in
    rw (t, u) (runs_push Step state (map given (take i events)) (map view replies) mid (given event) (view reply)
    last h s)

-- ---- runs from a fresh start

-- what holds of a value holds of a result
pub if_ok_map : {X E : Type 0} (P Q : X → Type 0) (result : Result X E) → ((x : X) → P x → Q x) → IfOk result P
    → IfOk result Q
if_ok_map P Q (Ok x) f h = f x h
if_ok_map P Q (Err e) f h = tt

pub server_run_is_history : (provider : Provider) (acceptor last : Acceptor) (events : List Given)
    (replies : List ServerSays) → acceptor ≡ ScramAcceptor provider server_states.Initial
    → Runs (AcceptorSteps acceptor_machine) acceptor events replies last → ServerHistory provider events replies
server_run_is_history provider acceptor last events replies is run =
    acceptor_runs_are_histories provider events replies last
    (subst (λ (a : Acceptor). Runs (AcceptorSteps acceptor_machine) a events replies last) is run)

-- and so is one from where a login starts, with its hostname
pub client_run_is_history : (login : Login) (hostname : Option (List ℕ)) (profile last : Profile) (events : List Given)
    (replies : List ClientSays) → StartsAs profile hostname login
    → Runs (ProfileSteps hostname) profile events replies last → ClientHistory login events replies
client_run_is_history login hostname profile last events replies starts run =
    profile_runs_are_histories login events replies last
    (subst (λ (p : Profile). Runs (ProfileSteps login.hostname) p events replies last) starts.0
    (subst (λ (h : Option (List ℕ)). Runs (ProfileSteps h) profile events replies last) starts.1 run))
