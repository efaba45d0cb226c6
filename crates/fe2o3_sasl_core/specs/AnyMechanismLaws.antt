-- How a run of a server of two acceptors splits into runs of the two, over any list of bodies: the contract of
-- `laws::any_mechanism`.
use Rattle.std.specs.Prelude.{◌≡◌, ℕ, Bool, true, false, cond, Option, Some, None, List, [], ◌∷◌, length, zip, Result, Ok}
use Rattle.std.specs.List.{AllByRecursion}
use Rattle.fe2o3_sasl_wire.specs.declared.amqp_types.SaslCode.TheVariants as outcomes
use Rattle.fe2o3_sasl_wire.specs.declared.sasl_frames.error.Error.{Error}
use Rattle.fe2o3_sasl_wire.specs.SaslFrames as frames
use Rattle.fe2o3_sasl_wire.specs.SaslFrames.{SaslFrame}
use Rattle.fe2o3_sasl_core.specs.Bodies.{SpellsBody}
use Rattle.fe2o3_sasl_core.specs.Events.{Given, ServerSays, Concluded, Failed}
use Rattle.fe2o3_sasl_core.specs.AnyMechanism.{BothStates, any_mechanism_machine, part_for}
use Rattle.fe2o3_sasl_core.specs.Runs.{Runs, AcceptorGives, AcceptorSteps}
use Rattle.fe2o3_sasl_core.specs.declared.any_mechanism.Selected.{Selected}
use Rattle.fe2o3_sasl_core.specs.declared.any_mechanism.Selected.TheVariants.{First, Second}

-- a machine of an acceptor: from a state, a nonce and a frame to a reply and the state after it
abbrev pub Machine : Type 0 → Type 1
Machine S = S → List ℕ → SaslFrame → SaslFrame → S → Type 0

-- ---- runs with a mark for each body

-- the mark of a body in a state: that of its frame if it spells an init or a response, since only they reach a machine
-- (AMQP 1.0, part 5, section 5.3.2), and `none` for every other body
abbrev pub mark_of : {S M : Type 0} → M → (S → SaslFrame → M) → S → Result SaslFrame Error → M
mark_of none mark state (Ok (frames.Init mechanism response hostname)) =
    mark state (frames.Init mechanism response hostname)
mark_of none mark state (Ok (frames.Response text)) = mark state (frames.Response text)
mark_of none mark state spelled = none

-- a step of an acceptor whose reply has the mark of the body in the state before the step
abbrev pub MarkedSteps : {S M : Type 0} → Machine S → M → (S → SaslFrame → M) → S → Given → M × ServerSays → S → Type 0
MarkedSteps machine none mark state event marked next = (spelled : Result SaslFrame Error)
    × SpellsBody event.body spelled × AcceptorGives machine state event spelled marked.1 next
    × (marked.0 ≡ mark_of none mark state spelled)

-- a run with its marks: mark k is that of body k in the state before it
pub record MarkedRuns {S M : Type 0} (machine : Machine S) (none : M) (mark : S → SaslFrame → M) (state : S)
    (events : List Given) (replies : List ServerSays) (last : S) (marks : List M) : Type 0 where
  pub count : length marks ≡ length events
  pub steps : Runs (MarkedSteps machine none mark) state events (zip marks replies) last

-- the elements of a list whose marks pass, with a mark for each element
abbrev pub those : {M X : Type 0} → (M → Bool) → List M → List X → List X
those passes [] xs = []
those passes (mark ∷ marks) [] = []
those passes (mark ∷ marks) (x ∷ xs) = cond (passes mark) (x ∷ those passes marks xs) (those passes marks xs)

-- ---- one server of two acceptors

-- the marks of bodies that went to the first, to the second, and to neither
abbrev pub to_first : Option Selected → Bool
to_first (Some First) = true
to_first mark = false

abbrev pub to_second : Option Selected → Bool
to_second (Some Second) = true
to_second mark = false

abbrev pub to_neither : Option Selected → Bool
to_neither None = true
to_neither mark = false

-- an outcome Auth, or an error
abbrev pub IsRefusal : ServerSays → Type 0
IsRefusal (Concluded outcomes.Auth body) = Unit {0}
IsRefusal (Failed fault) = Unit {0}
IsRefusal says = ⊥

-- each body went where `part_for` sends it in the state before it: what went to a part is a run of that part by itself,
-- and what went to neither is rejected
pub record Splits {S T : Type 0} (names : S → List (List ℕ)) (others : T → List (List ℕ)) (machine : Machine S)
    (other : Machine T) (parts : BothStates S T) (events : List Given) (replies : List ServerSays) (last : BothStates S T)
    (marks : List (Option Selected)) : Type 0 where
  pub marked : MarkedRuns (any_mechanism_machine names others machine other) None (part_for names others) parts events replies
      last marks
  pub first : Runs (AcceptorSteps machine) parts.first (those to_first marks events) (those to_first marks replies)
      last.first
  pub second : Runs (AcceptorSteps other) parts.second (those to_second marks events) (those to_second marks replies)
      last.second
  pub neither : AllByRecursion IsRefusal (those to_neither marks replies)

-- a run of a server of two acceptors, over any list of bodies, splits into runs of the two
abbrev pub AnyMechanismRunsAreSplit : {S T : Type 0} → (S → List (List ℕ)) → (T → List (List ℕ)) → Machine S → Machine T
    → Type 0
AnyMechanismRunsAreSplit {S} {T} names others machine other =
    (parts last : BothStates S T) (events : List Given) (replies : List ServerSays)
    → Runs (AcceptorSteps (any_mechanism_machine names others machine other)) parts events replies last
    → (marks : List (Option Selected)) × Splits names others machine other parts events replies last marks
