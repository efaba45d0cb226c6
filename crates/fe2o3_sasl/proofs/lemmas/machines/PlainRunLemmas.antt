-- Behind a run of PLAIN's acceptor its user has logged in exactly where some reply is an outcome Ok.
use Rattle.std.proofs.Common.{◌≡◌, ◌≢◌, ◌⊎◌, ℕ, zero, suc, Bool, true, false, true≢false, Option, Some, None, List, [], ◌∷◌, refl, sym, ap, ◌∙◌, subst, inl, inr, Result, Ok, Err}
use Rattle.std.specs.Prelude.{slice_get}
use Rattle.std.proofs.lemmas.Option.{none-some, same_Some}
use Rattle.fe2o3_sasl_wire.specs.declared.amqp_types.SaslCode.{SaslCode}
use Rattle.fe2o3_sasl_wire.specs.declared.amqp_types.SaslCode.TheVariants as outcomes
use Rattle.fe2o3_sasl_wire.specs.declared.sasl_frames.error.Error.{Error}
use Rattle.fe2o3_sasl_wire.specs.declared.sasl_frames.error.Error.TheVariants as faults
use Rattle.fe2o3_sasl_wire.specs.SaslFrames.{canonical, SaslFrame}
use Rattle.fe2o3_sasl_wire.specs.SaslFrames as frames
use Rattle.fe2o3_sasl_core.specs.Events.{Given, ServerSays, Concluded, Failed}
use Rattle.fe2o3_sasl_core.specs.MechanismLaws.{SaysOk, PlainRunsNameUsers}
use Rattle.fe2o3_sasl_core.specs.Runs.{Runs, AcceptorGives, AcceptorSteps, SendsCanonical}
use Rattle.fe2o3_sasl_core.specs.SaslAcceptor.{Acceptor, PlainAcceptor, acceptor_machine, acceptor_user, ends_with}
use Rattle.fe2o3_sasl_core.specs.Bodies.{server_says}

-- ---- one step

-- the reply is an outcome Ok
abbrev IsOk : ServerSays → Type 0
IsOk says = (body : List ℕ) × (says ≡ Concluded outcomes.Ok body)

-- after an Ok the acceptor has accepted, after any other reply it is as it was
abbrev Turns : List ℕ → List ℕ → Bool → ServerSays → Acceptor → Type 0
Turns user password accepted says next = (IsOk says × (next ≡ PlainAcceptor user password true))
    ⊎ (¬ IsOk says × (next ≡ PlainAcceptor user password accepted))

-- what is sent with an outcome of this code
abbrev Ends : SaslCode → Acceptor → Acceptor → ServerSays → Acceptor → Type 0
Ends code state moved says next = ((says ≡ Failed faults.TooLarge) × (next ≡ state))
    ⊎ ((body : List ℕ) × (says ≡ Concluded code body) × (next ≡ moved))

ends : (sent : Option (List ℕ)) (code : SaslCode) (state moved next : Acceptor) (says : ServerSays)
    → SendsCanonical (Failed faults.TooLarge) (λ body. Concluded code body) sent state moved says next
    → Ends code state moved says next
ends None code state moved next says said = inl said
ends (Some body) code state moved next says said = inr (body, said.0, said.1)

sends : (code : SaslCode) (reply : SaslFrame) (state moved next : Acceptor) (says : ServerSays)
    → reply ≡ ends_with code
    → SendsCanonical (Failed faults.TooLarge) (server_says reply) (canonical reply) state moved says next
    → Ends code state moved says next
sends code reply state moved next says is said = ends (canonical (ends_with code)) code state moved next says (subst
    (λ (f : SaslFrame). SendsCanonical (Failed faults.TooLarge) (server_says f) (canonical f) state moved says next) is said)

failed_is_no_ok : (fault : Error) (says : ServerSays) → says ≡ Failed fault → ¬ IsOk says
failed_is_no_ok fault says is ok = let same = sym is ∙ ok.1 in absurd (cc)

fails : (user password : List ℕ) (accepted : Bool) (fault : Error) (says : ServerSays) (next : Acceptor)
    → says ≡ Failed fault → next ≡ PlainAcceptor user password accepted → Turns user password accepted says next
fails user password accepted fault says next is stays = inr (failed_is_no_ok fault says is, stays)

-- an outcome of another code leaves the acceptor as it was
refuses : (user password : List ℕ) (accepted : Bool) (code : SaslCode) (moved next : Acceptor) (says : ServerSays)
    → code ≢ outcomes.Ok → moved ≡ PlainAcceptor user password accepted
    → Ends code (PlainAcceptor user password accepted) moved says next → Turns user password accepted says next
refuses user password accepted code moved next says apart stays (inl said) =
    fails user password accepted faults.TooLarge says next said.0 said.1
refuses user password accepted code moved next says apart stays (inr said) =
    inr (λ ok. apart (same said.0 ok.0 (sym said.1 ∙ ok.1)), said.2 ∙ stays)
  where
    same : (body other : List ℕ) → Concluded code body ≡ Concluded outcomes.Ok other → code ≡ outcomes.Ok
    same body other is = cc

accepts : (user password : List ℕ) (accepted : Bool) (moved next : Acceptor) (says : ServerSays)
    → moved ≡ PlainAcceptor user password true
    → Ends outcomes.Ok (PlainAcceptor user password accepted) moved says next → Turns user password accepted says next
accepts user password accepted moved next says to (inl said) =
    fails user password accepted faults.TooLarge says next said.0 said.1
accepts user password accepted moved next says to (inr said) = inl ((said.0, said.1), said.2 ∙ to)

auth_apart : outcomes.Auth ≢ outcomes.Ok
auth_apart is = absurd (cc)

sys_apart : outcomes.Sys ≢ outcomes.Ok
sys_apart is = absurd (cc)

init_turns : (user password : List ℕ) (accepted : Bool) (nonce mechanism : List ℕ) (response hostname : Option (List ℕ))
    (reply : SaslFrame) (moved next : Acceptor) (says : ServerSays)
    → acceptor_machine (PlainAcceptor user password accepted) nonce (frames.Init mechanism response hostname) reply
    moved
    → SendsCanonical (Failed faults.TooLarge) (server_says reply) (canonical reply) (PlainAcceptor user password accepted) moved
    says next → Turns user password accepted says next
init_turns user password accepted nonce mechanism None hostname reply moved next says m said =
    let state = PlainAcceptor user password accepted in
    refuses user password accepted outcomes.Auth moved next says auth_apart m.1
    (sends outcomes.Auth reply state moved next says m.0 said)
init_turns user password accepted nonce mechanism (Some text) hostname reply moved next says (inl m) said =
    let state = PlainAcceptor user password accepted in
    accepts user password accepted moved next says m.2 (sends outcomes.Ok reply state moved next says m.1 said)
init_turns user password accepted nonce mechanism (Some text) hostname reply moved next says (inr m) said =
    let state = PlainAcceptor user password accepted in
    refuses user password accepted outcomes.Auth moved next says auth_apart m.2
    (sends outcomes.Auth reply state moved next says m.1 said)

gives_turns : (user password : List ℕ) (accepted : Bool) (event : Given) (spelled : Result SaslFrame Error)
    (says : ServerSays) (next : Acceptor)
    → AcceptorGives acceptor_machine (PlainAcceptor user password accepted) event spelled says next
    → Turns user password accepted says next
gives_turns user password accepted event (Err fault) says next gives =
    fails user password accepted fault says next gives.0 gives.1
gives_turns user password accepted event (Ok (frames.Mechanisms names)) says next gives =
    fails user password accepted faults.NotImplemented says next gives.0 gives.1
gives_turns user password accepted event (Ok (frames.Challenge text)) says next gives =
    fails user password accepted faults.NotImplemented says next gives.0 gives.1
gives_turns user password accepted event (Ok (frames.Outcome code more)) says next gives =
    fails user password accepted faults.NotImplemented says next gives.0 gives.1
gives_turns user password accepted event (Ok (frames.Init mechanism response hostname)) says next (inl wants) =
    fails user password accepted faults.OutOfMemory says next wants.0 wants.1
gives_turns user password accepted event (Ok (frames.Init mechanism response hostname)) says next (inr gives) =
    init_turns user password accepted event.nonce mechanism response hostname gives.0 gives.1 next says gives.2 gives.3
gives_turns user password accepted event (Ok (frames.Response text)) says next (inl wants) =
    fails user password accepted faults.OutOfMemory says next wants.0 wants.1
gives_turns user password accepted event (Ok (frames.Response text)) says next (inr gives) =
    let state = PlainAcceptor user password accepted in
    refuses user password accepted outcomes.Sys gives.1 next says sys_apart gives.2.1
    (sends outcomes.Sys gives.0 state gives.1 next says gives.2.0 gives.3)

-- ---- a run

-- after a run the acceptor has accepted where it had before or some reply is an outcome Ok
abbrev Behind : List ℕ → List ℕ → Bool → List ServerSays → Acceptor → Type 0
Behind user password accepted replies last =
    (((accepted ≡ true) ⊎ SaysOk replies) × (last ≡ PlainAcceptor user password true))
    ⊎ ((accepted ≡ false) × ¬ SaysOk replies × (last ≡ PlainAcceptor user password false))

none_said : ¬ SaysOk []
none_said says = none-some (Concluded outcomes.Ok says.1) says.2

empty : (user password : List ℕ) (accepted : Bool) (last : Acceptor) → last ≡ PlainAcceptor user password accepted
    → Behind user password accepted [] last
empty user password true last is = inl (inl refl, is)
empty user password false last is = inr (refl, none_said, is)

-- one reply more in front
later : (says : ServerSays) (others : List ServerSays) → SaysOk others → SaysOk (says ∷ others)
later says others some = (suc some.0, some.1, some.2)

none_on : (says : ServerSays) (others : List ServerSays) → ¬ IsOk says → ¬ SaysOk others → ¬ SaysOk (says ∷ others)
none_on says others here there some = go some.0 some.1 some.2
  where
    go : (k : ℕ) (body : List ℕ) → slice_get (says ∷ others) k ≡ Some (Concluded outcomes.Ok body) → ⊥
    go zero body is = here (body, same_Some says (Concluded outcomes.Ok body) is)
    go (suc k) body is = there (k, body, is)

after_ok : (user password : List ℕ) (accepted : Bool) (says : ServerSays) (others : List ServerSays) (last : Acceptor)
    → IsOk says → Behind user password true others last → Behind user password accepted (says ∷ others) last
after_ok user password accepted says others last ok (inl rest) = inl (inr (0, ok.0, ap Some ok.1), rest.1)
after_ok user password accepted says others last ok (inr rest) = absurd (true≢false rest.0)

after_other : (user password : List ℕ) (accepted : Bool) (says : ServerSays) (others : List ServerSays)
    (last : Acceptor) → ¬ IsOk says → Behind user password accepted others last
    → Behind user password accepted (says ∷ others) last
after_other user password accepted says others last other (inl (inl before, is)) = inl (inl before, is)
after_other user password accepted says others last other (inl (inr some, is)) = inl (inr (later says others some), is)
after_other user password accepted says others last other (inr (before, none, is)) =
    inr (before, none_on says others other none, is)

after_turn : (user password : List ℕ) (accepted : Bool) (says : ServerSays) (next : Acceptor)
    (others : List ServerSays) (last : Acceptor)
    → ((now : Bool) → next ≡ PlainAcceptor user password now → Behind user password now others last)
    → Turns user password accepted says next → Behind user password accepted (says ∷ others) last
after_turn user password accepted says next others last on (inl turn) =
    after_ok user password accepted says others last turn.0 (on true turn.1)
after_turn user password accepted says next others last on (inr turn) =
    after_other user password accepted says others last turn.0 (on accepted turn.1)

plain_run : (user password : List ℕ) (accepted : Bool) (events : List Given) (replies : List ServerSays)
    (last : Acceptor)
    → Runs (AcceptorSteps acceptor_machine) (PlainAcceptor user password accepted) events replies last
    → Behind user password accepted replies last
plain_run user password accepted [] replies last run =
    subst (λ (all : List ServerSays). Behind user password accepted all last) (sym run.0)
    (empty user password accepted last run.1)
plain_run user password accepted (event ∷ events) replies last run =
    subst (λ (all : List ServerSays). Behind user password accepted all last) (sym run.4)
    (after_turn user password accepted run.0 run.1 run.2 last
    (λ now is. plain_run user password now events run.2 last
    (subst (λ (a : Acceptor). Runs (AcceptorSteps acceptor_machine) a events run.2 last) is run.5))
    (gives_turns user password accepted event run.3.0 run.0 run.1 run.3.2))

pub plain_runs_name_users : PlainRunsNameUsers
plain_runs_name_users user password events replies last run =
    go (plain_run user password false events replies last run)
  where
    go : Behind user password false replies last
        → (SaysOk replies × (acceptor_user last ≡ Some user)) ⊎ (¬ SaysOk replies × (acceptor_user last ≡ None))
    go (inl (inl before, is)) = absurd (true≢false (sym before))
    go (inl (inr some, is)) = inl (some, ap acceptor_user is)
    go (inr (before, none, is)) = inr (none, ap acceptor_user is)
