-- The acceptors that the code's values are, if there are several.
use Rattle.fe2o3_sasl_core.specs.declared.any_mechanism.AnyMechanism.{AnyMechanism}
use Rattle.fe2o3_sasl_core.specs.AnyMechanism.{BothStates}

-- the two acceptors of a server, by their states
abbrev pub both_states : {A B S T : Type 0} → (A → S) → (B → T) → AnyMechanism A B → BothStates S T
both_states state other both = record {
  first = state both.first;
  second = other both.second;
  selected = both.selected;
}
