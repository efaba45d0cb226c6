-- What a server of several mechanisms answers (AMQP 1.0, part 5, section 5.3.3.2: the init names the mechanism that the
-- client has chosen of those that were offered).
use Rattle.std.specs.Prelude.{◌≡◌, ℕ, Bool, true, false, not, if◌then◌else◌, Option, Some, None, List, [], ◌∷◌, ◌++◌, filter, nat_eq}
use Rattle.std.specs.Cmp.Lexicographic.{pointwise}
use Rattle.fe2o3_sasl_wire.specs.declared.amqp_types.SaslCode.TheVariants as outcomes
use Rattle.fe2o3_sasl_wire.specs.SaslFrames as frames
use Rattle.fe2o3_sasl_wire.specs.SaslFrames.{SaslFrame}
use Rattle.fe2o3_sasl_core.specs.SaslAcceptor.{ends_with}
use Rattle.fe2o3_sasl_core.specs.declared.rejection.Rejection.{Rejection}
use Rattle.fe2o3_sasl_core.specs.declared.rejection.Rejection.TheVariants.{MechanismNotOffered, UnexpectedResponse}
use Rattle.fe2o3_sasl_core.specs.declared.any_mechanism.Selected.{Selected}
use Rattle.fe2o3_sasl_core.specs.declared.any_mechanism.Selected.TheVariants.{First, Second}

-- whether a name is in a list
abbrev pub has_name : List (List ℕ) → List ℕ → Bool
has_name [] name = false
has_name (other ∷ names) name = if pointwise nat_eq other name then true else has_name names name

-- ---- one server of two acceptors

-- the names of both: those of the first, followed by those that only the second has
abbrev pub both_names : List (List ℕ) → List (List ℕ) → List (List ℕ)
both_names names others = names ++ filter (λ name. not (has_name names name)) others

-- the two acceptors in their states, and the one that the last init went to
pub record BothStates (S T : Type 0) : Type 0 where
  pub first : S
  pub second : T
  pub selected : Option Selected

-- the first acceptor that has this mechanism
abbrev pub part_with : List (List ℕ) → List (List ℕ) → List ℕ → Option Selected
part_with names others mechanism =
    if has_name names mechanism then Some First else if has_name others mechanism then Some Second else None

-- the acceptor that a frame goes to: an init by its mechanism, a response to the one that the last init went to
abbrev pub part_for : {S T : Type 0} → (S → List (List ℕ)) → (T → List (List ℕ)) → BothStates S T → SaslFrame → Option Selected
part_for names others parts (frames.Init mechanism response hostname) =
    part_with (names parts.first) (others parts.second) mechanism
part_for names others parts frame = parts.selected

-- the reply is that of this part, and the other is unchanged; what goes to neither is Auth
abbrev pub PartReplies : {S T : Type 0} → (S → List ℕ → SaslFrame → SaslFrame → S → Type 0)
    → (T → List ℕ → SaslFrame → SaslFrame → T → Type 0) → BothStates S T → Option Selected → List ℕ → SaslFrame → SaslFrame
    → BothStates S T → Type 0
PartReplies machine other parts None nonce frame reply next = (reply ≡ ends_with outcomes.Auth) × (next ≡ parts)
PartReplies {S} machine other parts (Some First) nonce frame reply next =
    (moved : S) × machine parts.first nonce frame reply moved
    × (next ≡ record { first = moved; second = parts.second; selected = Some First })
PartReplies {S} {T} machine other parts (Some Second) nonce frame reply next =
    (moved : T) × other parts.second nonce frame reply moved
    × (next ≡ record { first = parts.first; second = moved; selected = Some Second })

-- the machine of a server of two acceptors
abbrev pub any_mechanism_machine : {S T : Type 0} → (S → List (List ℕ)) → (T → List (List ℕ))
    → (S → List ℕ → SaslFrame → SaslFrame → S → Type 0) → (T → List ℕ → SaslFrame → SaslFrame → T → Type 0)
    → BothStates S T → List ℕ → SaslFrame → SaslFrame → BothStates S T → Type 0
any_mechanism_machine names others machine other parts nonce frame reply next =
    PartReplies machine other parts (part_for names others parts frame) nonce frame reply next

-- why a frame that goes to neither acceptor is rejected: an init for its mechanism, and a response since no acceptor
-- waits for it
abbrev pub reason_of_neither : SaslFrame → Rejection
reason_of_neither (frames.Init mechanism response hostname) = MechanismNotOffered
reason_of_neither frame = UnexpectedResponse

-- this part rejects the frame for this reason
abbrev pub PartRejects : {S T : Type 0} → (S → SaslFrame → Rejection → Type 0) → (T → SaslFrame → Rejection → Type 0)
    → BothStates S T → Option Selected → SaslFrame → Rejection → Type 0
PartRejects reasons other parts None frame reason = reason ≡ reason_of_neither frame
PartRejects reasons other parts (Some First) frame reason = reasons parts.first frame reason
PartRejects reasons other parts (Some Second) frame reason = other parts.second frame reason

-- why a server of two acceptors rejects a frame: for the reason of the part that it goes to
abbrev pub any_mechanism_reasons : {S T : Type 0} → (S → List (List ℕ)) → (T → List (List ℕ))
    → (S → SaslFrame → Rejection → Type 0) → (T → SaslFrame → Rejection → Type 0) → BothStates S T → SaslFrame
    → Rejection → Type 0
any_mechanism_reasons names others reasons other parts frame reason =
    PartRejects reasons other parts (part_for names others parts frame) frame reason

-- this part allocates; none does for what goes to neither
abbrev pub PartAllocates : {S T : Type 0} → (S → SaslFrame → Type 0) → (T → SaslFrame → Type 0) → BothStates S T
    → Option Selected → SaslFrame → Type 0
PartAllocates allocates other parts None frame = ⊥
PartAllocates allocates other parts (Some First) frame = allocates parts.first frame
PartAllocates allocates other parts (Some Second) frame = other parts.second frame

-- where a server of two acceptors allocates: where the part does that the frame goes to
abbrev pub any_mechanism_allocates : {S T : Type 0} → (S → List (List ℕ)) → (T → List (List ℕ)) → (S → SaslFrame → Type 0)
    → (T → SaslFrame → Type 0) → BothStates S T → SaslFrame → Type 0
any_mechanism_allocates names others allocates other parts frame =
    PartAllocates allocates other parts (part_for names others parts frame) frame

-- this part makes that many HMAC values, and none are made for what goes to neither
abbrev pub PartTakes : {S T : Type 0} → (S → SaslFrame → ℕ → Type 0) → (T → SaslFrame → ℕ → Type 0) → BothStates S T
    → Option Selected → SaslFrame → ℕ → Type 0
PartTakes hmacs other parts None frame n = n ≡ 0
PartTakes hmacs other parts (Some First) frame n = hmacs parts.first frame n
PartTakes hmacs other parts (Some Second) frame n = other parts.second frame n

-- how many HMAC values a server of two acceptors makes (RFC 5802, section 3): as many as the part that the frame goes
-- to
abbrev pub any_mechanism_hmacs : {S T : Type 0} → (S → List (List ℕ)) → (T → List (List ℕ)) → (S → SaslFrame → ℕ → Type 0)
    → (T → SaslFrame → ℕ → Type 0) → BothStates S T → SaslFrame → ℕ → Type 0
any_mechanism_hmacs names others hmacs other parts frame n =
    PartTakes hmacs other parts (part_for names others parts frame) frame n

-- the user of a server of two acceptors: that of the part that the last init went to
abbrev pub part_names : Option Selected → Option (List ℕ) → Option (List ℕ) → Option (List ℕ)
part_names None user other = None
part_names (Some First) user other = user
part_names (Some Second) user other = other
