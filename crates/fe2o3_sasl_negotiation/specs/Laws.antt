-- What holds for every division of a connection's bytes into calls.
use Rattle.std.specs.Prelude.{◌≡◌, ◌≢◌, ◌⊎◌, ℕ, Option, List, [], ◌∷◌, ◌++◌, take, drop}
use Rattle.fe2o3_sasl_negotiation.specs.declared.progress.Expected.{Expected}
use Rattle.fe2o3_sasl_negotiation.specs.declared.progress.Progress.TheVariants.{InProgress}
use Rattle.fe2o3_sasl_negotiation.specs.ClientNegotiation.{ClientSideAnswers}
use Rattle.fe2o3_sasl_negotiation.specs.Framing.{IsPart}
use Rattle.fe2o3_sasl_negotiation.specs.Negotiations.{Side, SideOutput, Receiving, Receives}

-- a call: how many of the bytes that are left it is passed, and a nonce
pub record Call : Type 0 where
  pub handed : ℕ
  pub nonce : List ℕ

-- calls over a stream, each passed any number of the bytes that the calls before it left: what they send, the side after
-- them, and the bytes that are left in the end
abbrev pub Calls : {S : Type 0} → Receiving S → Side S → List Call → List ℕ → List ℕ → Side S → List ℕ → Type 0
Calls OneCall side [] stream sent last rest = (sent ≡ []) × (last ≡ side) × (rest ≡ stream)
Calls {S} OneCall side (call ∷ calls) stream sent last rest =
    (taken : ℕ) × (first : List ℕ) × (next : Side S) × (later : List ℕ)
    × OneCall side (take call.handed stream) call.nonce taken first next
    × Calls OneCall next calls (drop taken stream) later last rest × (sent ≡ first ++ later)

-- less than a unit has arrived, and is kept; or the side has ended, and nothing has arrived
abbrev pub Stops : {S : Type 0} → Side S → List ℕ → List ℕ → Side S → Type 0
Stops side bytes sent last = (sent ≡ [])
    × (((side.progress ≡ InProgress) × IsPart side.expected side.limit (side.held ++ bytes)
    × (last ≡ record side { held = side.held ++ bytes }))
    ⊎ ((side.progress ≢ InProgress) × (bytes ≡ []) × (last ≡ side)))

-- what is done with the bytes as a whole, unit by unit, each with its nonce: what is sent, and the side after them
abbrev pub Negotiates : {S : Type 0} → (Expected → S → List ℕ → List ℕ → SideOutput → S → Type 0) → Side S → List (List ℕ)
    → List ℕ → List ℕ → Side S → Type 0
Negotiates Answers side [] bytes sent last = Stops side bytes sent last
Negotiates {S} Answers side (nonce ∷ nonces) bytes sent last =
    (taken : ℕ) × (first : List ℕ) × (next : Side S) × (behind : List ℕ) × (side.progress ≡ InProgress)
    × ¬ IsPart side.expected side.limit (side.held ++ bytes) × Receives Answers side bytes nonce taken first next
    × Negotiates Answers next nonces (drop taken bytes) behind last × (sent ≡ first ++ behind)

-- the nonces of some of these calls, in order
abbrev pub NoncesOf : List Call → List (List ℕ) → Type 0
NoncesOf [] nonces = nonces ≡ []
NoncesOf (call ∷ calls) nonces = NoncesOf calls nonces
    ⊎ ((others : List (List ℕ)) × (nonces ≡ call.nonce ∷ others) × NoncesOf calls others)

-- however a stream is divided into calls, they do with the bytes that they take what is done with them as a whole, each
-- unit with the nonce of a call, in order: the cut does not matter. Which call that is, the contract of one call says
abbrev pub CutsDoNotMatter : {S : Type 0} → (Expected → S → List ℕ → List ℕ → SideOutput → S → Type 0) → Type 0
CutsDoNotMatter {S} Answers = (side last : Side S) (calls : List Call) (stream sent rest : List ℕ)
    → IsPart side.expected side.limit side.held → Calls (Receives Answers) side calls stream sent last rest
    → (taken : List ℕ) × (nonces : List (List ℕ)) × (stream ≡ taken ++ rest)
    × Negotiates Answers side nonces taken sent last × NoncesOf calls nonces

-- the division does not matter for each client; `laws::cuts` says it of a server for every acceptor
abbrev pub ClientCutsDoNotMatter : Type 0
ClientCutsDoNotMatter = (hostname : Option (List ℕ)) → CutsDoNotMatter (ClientSideAnswers hostname)
