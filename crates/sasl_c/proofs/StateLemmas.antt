-- That a struct is that of the client whose values it was made of.
use Rattle.std.proofs.Common.{arith, refl, sym, ap, ◌∙◌, ◌≡◌, ◌≢◌, ◌<◌, ℕ, List, length}
use Rattle.std.specs.Prelude.{Option, Some, None, IfSome, MatchOption, option_map, true, false}
use Rattle.std.proofs.lemmas.List.{length-take}
use Rattle.fe2o3_scram.specs.ClientKeys.{ClientKeys}
use Rattle.fe2o3_scram.specs.ScramClient.{ClientState, ClientInitial, ClientFirstSent, ClientFinalSent, SignatureVerified, Complete, answer_keys, is_complete, is_signature_verified, login_keys}
use Rattle.fe2o3_scram.specs.Texts.{base64_text}
use Rattle.sasl_c.specs.declared.client.ScramClient.{ScramClient as Struct}
use Rattle.sasl_c.specs.Client.{Holds, IsReached, IsState, WritesClient, complete_struct, fresh_client_struct, started_struct, verified_struct}
use Rattle.sasl_c.specs.Keys.{WritesKeys}
use Rattle.sasl_c.proofs.StatusLemmas.{carried}

pub first_sent : (user : List ℕ) (client : Struct) (state : ClientState) (nonce bare : List ℕ)
    → state ≡ ClientFirstSent (base64_text nonce) bare → IsReached user state → client.state ≡ 1 → client.nonce ≡ nonce
    → IsState user client state
first_sent user client state nonce bare is reached sent same =
    let of_user = carried (IsReached user) state (ClientFirstSent (base64_text nonce) bare) is reached in
    carried (IsState user client) (ClientFirstSent (base64_text nonce) bare) state (sym is)
    (sent, ap base64_text (sym same), of_user)

pub completed : (user : List ℕ) (client : Struct) (state : ClientState) → is_complete state ≡ true → client.state ≡ 3
    → Holds client.keys (login_keys state) → IsState user client state
completed user client (Complete keys) is sent holds = (sent, holds)
completed user client ClientInitial is sent holds = absurd (cc)
completed user client (ClientFirstSent nonce bare) is sent holds = absurd (cc)
completed user client (ClientFinalSent signature keys) is sent holds = absurd (cc)
completed user client (SignatureVerified keys) is sent holds = absurd (cc)

pub verified : (user : List ℕ) (client : Struct) (state : ClientState) → is_signature_verified state ≡ true
    → client.state ≡ 4 → Holds client.keys (answer_keys state) → IsState user client state
verified user client (SignatureVerified keys) is sent holds = (sent, holds)
verified user client ClientInitial is sent holds = absurd (cc)
verified user client (ClientFirstSent nonce bare) is sent holds = absurd (cc)
verified user client (ClientFinalSent signature keys) is sent holds = absurd (cc)
verified user client (Complete keys) is sent holds = absurd (cc)

pub nothing_sent : (user : List ℕ) (client : Struct) (state : ClientState)
    → ((nonce bare : List ℕ) → state ≢ ClientFirstSent nonce bare)
    → ((signature : List ℕ) (keys : Option ClientKeys) → state ≢ ClientFinalSent signature keys)
    → is_complete state ≡ false → is_signature_verified state ≡ false → IsState user client ClientInitial
    → IsState user client state
nothing_sent user client ClientInitial first final done unsigned is = is
nothing_sent user client (ClientFirstSent nonce bare) first final done unsigned is = absurd (first nonce bare refl)
nothing_sent user client (ClientFinalSent signature keys) first final done unsigned is = absurd (final signature keys refl)
nothing_sent user client (SignatureVerified keys) first final done unsigned is = absurd (cc)
nothing_sent user client (Complete keys) first final done unsigned is = absurd (cc)

-- a signature that was reached has room
pub never_too_long : (user : List ℕ) (state : ClientState) (signature : List ℕ) (keys : Option ClientKeys)
    → state ≡ ClientFinalSent signature keys → IsReached user state
    → ((signature : List ℕ) (keys : Option ClientKeys) → state ≡ ClientFinalSent signature keys
    → 64 < length signature) → ⊥
never_too_long user state signature keys is reached long =
    let few = carried (IsReached user) state (ClientFinalSent signature keys) is reached in
    absurd (omega (arith, few, long signature keys is))

-- the keys that were found are those that are expected
found_keys : {A : Type 0} (view : A → ClientKeys) (found : Option A) (expected : Option ClientKeys)
    → MatchOption found (expected ≡ None) (λ one. expected ≡ Some (view one)) → expected ≡ option_map view found
found_keys view None expected held = held
found_keys view (Some one) expected held = held

IsLong : ClientState → Type 0
IsLong (ClientFinalSent signature keys) = 64 < length signature
IsLong state = Unit {0}

-- the struct of a signature and of keys that were found is that of the state which has them
pub waits : {A : Type 0} (view : A → ClientKeys) (found : Option A) (state : ClientState) (answer : Option Struct)
    (signature : List ℕ) (keys : Option ClientKeys) → state ≡ ClientFinalSent signature keys
    → MatchOption found (answer_keys state ≡ None) (λ one. answer_keys state ≡ Some (view one))
    → MatchOption answer (64 < length signature)
    (λ client. (user : List ℕ) → IsState user client (ClientFinalSent signature (option_map view found)))
    → MatchOption answer ((signature : List ℕ) (keys : Option ClientKeys) → state ≡ ClientFinalSent signature keys
    → 64 < length signature) (λ client. (user : List ℕ) → IsState user client state)
unfolding IsLong
waits view found state None signature keys is given held = λ other others same.
    carried IsLong state (ClientFinalSent other others) same
    (carried IsLong (ClientFinalSent signature keys) state (sym is) held)
waits view found state (Some client) signature keys is given held =
    let same : keys ≡ option_map view found =
    sym (ap answer_keys is) ∙ found_keys view found (answer_keys state) given in
    let moved = is ∙ ap (ClientFinalSent signature) same in
    λ user. carried (IsState user client) (ClientFinalSent signature (option_map view found)) state (sym moved) (held user)

-- so a client that waits for a signature always has a struct
pub waiting : (user : List ℕ) (state : ClientState) (answer : Option Struct) (signature : List ℕ)
    (keys : Option ClientKeys) → state ≡ ClientFinalSent signature keys → IsReached user state
    → MatchOption answer ((signature : List ℕ) (keys : Option ClientKeys) → state ≡ ClientFinalSent signature keys
    → 64 < length signature) (λ client. (user : List ℕ) → IsState user client state)
    → MatchOption answer ⊥ (λ client. IsState user client state)
waiting user state None signature keys is reached held = never_too_long user state signature keys is reached held
waiting user state (Some client) signature keys is reached held = held user

-- the client that a struct shows has such a state
pub reached : (user : List ℕ) (client : Struct) (state : ClientState) → IsState user client state
    → IsReached user state
reached user client ClientInitial is = tt
reached user client (ClientFirstSent nonce bare) is = is.2
reached user client (ClientFinalSent signature keys) is =
    omega (arith, is.1, ap length is.2, length-take client.signature_len client.signature)
reached user client (SignatureVerified keys) is = tt
reached user client (Complete keys) is = tt

-- ---- the struct that is written for a client in a state

pub first_written : (client : Struct) (state : ClientState) (nonce bare : List ℕ)
    → state ≡ ClientFirstSent (base64_text nonce) bare → client ≡ started_struct nonce → WritesClient client state
first_written client state nonce bare is same =
    carried (WritesClient client) (ClientFirstSent (base64_text nonce) bare) state (sym is) (nonce, refl, same)

pub completed_written : (client : Struct) (state : ClientState) → is_complete state ≡ true
    → WritesKeys client.keys (login_keys state) → client ≡ complete_struct client.keys → WritesClient client state
completed_written client (Complete keys) is written same = (client.keys, written, same)
completed_written client ClientInitial is written same = absurd (cc)
completed_written client (ClientFirstSent nonce bare) is written same = absurd (cc)
completed_written client (ClientFinalSent signature keys) is written same = absurd (cc)
completed_written client (SignatureVerified keys) is written same = absurd (cc)

pub verified_written : (client : Struct) (state : ClientState) → is_signature_verified state ≡ true
    → WritesKeys client.keys (answer_keys state) → client ≡ verified_struct client.keys → WritesClient client state
verified_written client (SignatureVerified keys) is written same = (client.keys, written, same)
verified_written client ClientInitial is written same = absurd (cc)
verified_written client (ClientFirstSent nonce bare) is written same = absurd (cc)
verified_written client (ClientFinalSent signature keys) is written same = absurd (cc)
verified_written client (Complete keys) is written same = absurd (cc)

pub nothing_written : (client : Struct) (state : ClientState)
    → ((nonce bare : List ℕ) → state ≢ ClientFirstSent nonce bare)
    → ((signature : List ℕ) (keys : Option ClientKeys) → state ≢ ClientFinalSent signature keys)
    → is_complete state ≡ false → is_signature_verified state ≡ false → client ≡ fresh_client_struct
    → WritesClient client state
nothing_written client ClientInitial first final done unsigned same = same
nothing_written client (ClientFirstSent nonce bare) first final done unsigned same = absurd (first nonce bare refl)
nothing_written client (ClientFinalSent signature keys) first final done unsigned same =
    absurd (final signature keys refl)
nothing_written client (SignatureVerified keys) first final done unsigned same = absurd (cc)
nothing_written client (Complete keys) first final done unsigned same = absurd (cc)

pub waiting_written : {A : Type 0} (view : A → ClientKeys) (found : Option A) (state : ClientState)
    (answer : Option Struct) (signature : List ℕ) (keys : Option ClientKeys) → state ≡ ClientFinalSent signature keys
    → MatchOption found (answer_keys state ≡ None) (λ one. answer_keys state ≡ Some (view one))
    → IfSome answer (λ client. WritesClient client (ClientFinalSent signature (option_map view found)))
    → IfSome answer (λ client. WritesClient client state)
waiting_written view found state None signature keys is given held = held
waiting_written view found state (Some client) signature keys is given held =
    let same : keys ≡ option_map view found =
    sym (ap answer_keys is) ∙ found_keys view found (answer_keys state) given in
    let moved = is ∙ ap (ClientFinalSent signature) same in
    carried (WritesClient client) (ClientFinalSent signature (option_map view found)) state (sym moved) held

-- what the struct of a client takes
pub ruleset of_state = (
  first_sent,
  completed,
  verified,
  nothing_sent,
  never_too_long,
  first_written,
  completed_written,
  verified_written,
  nothing_written,
)
