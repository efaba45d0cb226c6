-- What a side that accepts extended headers does over a stream (AMQP 1.0, part 2, section 2.3.1). Each law is the contract
-- of a clause of `laws::extended_headers`.
use Rattle.std.specs.Prelude.{◌≡◌, ◌⊎◌, ℕ, ◌≤◌, true, Option, List, [], ◌∷◌, ◌++◌, length, flat_map}
use Rattle.fe2o3_sasl_wire.specs.SaslFrames.{IsBytes}
use Rattle.fe2o3_sasl_negotiation.specs.declared.progress.CloseReason.TheVariants.{FrameSize}
use Rattle.fe2o3_sasl_negotiation.specs.declared.progress.Expected.{Expected}
use Rattle.fe2o3_sasl_negotiation.specs.declared.progress.Progress.TheVariants.{Failed}
use Rattle.fe2o3_sasl_negotiation.specs.ClientNegotiation.{ClientSideAnswers}
use Rattle.fe2o3_sasl_negotiation.specs.Connections.{fresh}
use Rattle.fe2o3_sasl_negotiation.specs.Framing.{framed, unextended}
use Rattle.fe2o3_sasl_negotiation.specs.Laws.{Call, Calls}
use Rattle.fe2o3_sasl_negotiation.specs.Negotiations.{Side, SideOutput, Reading, Receives}

-- a unit, and what is read of it: a header as received (part 2, section 2.2), and a frame without its extended header
abbrev pub IsReadAs : List ℕ → List ℕ → Type 0
IsReadAs unit read = ((length unit ≡ 8) × (read ≡ unit))
    ⊎ ((body : List ℕ) × (unit ≡ framed body) × (read ≡ framed (unextended body)))

-- units, and what is read of each, in order
abbrev pub AreReadAs : List (List ℕ) → List (List ℕ) → Type 0
AreReadAs [] [] = Unit {0}
AreReadAs (unit ∷ units) (read ∷ reads) = IsReadAs unit read × AreReadAs units reads
AreReadAs units reads = ⊥

-- the bytes of these units, in order
abbrev pub stream_of : List (List ℕ) → List ℕ
stream_of units = flat_map (λ (unit : List ℕ). unit) units

-- calls with the nonces of these calls, in order
abbrev pub HaveNonces : List Call → List Call → Type 0
HaveNonces [] [] = Unit {0}
HaveNonces (call ∷ calls) (other ∷ others) = (other.nonce ≡ call.nonce) × HaveNonces calls others
HaveNonces calls others = ⊥

-- the bytes that a side has taken and not answered: those that it holds, or the size for which it has closed
abbrev pub AreUnanswered : {S : Type 0} → Side S → List ℕ → Type 0
AreUnanswered last tail = (tail ≡ last.held) ⊎ ((last.progress ≡ Failed FrameSize) × (length tail ≡ 4))

-- calls to a new side that accepts extended headers take units, of which each is answered, and bytes that are not
-- answered. As many calls with the same nonces do the same to a side that does not accept them, over the stream with what
-- is read in the place of each unit: they send the same bytes and leave the same side. Only a part of a unit, which the
-- first side holds, is left of the second stream
abbrev pub ExtendedHeadersAreIgnored : {S : Type 0} → (Expected → S → List ℕ → List ℕ → SideOutput → S → Type 0) → Type 0
ExtendedHeadersAreIgnored {S} Answers = (limit : ℕ) (state : S) (calls : List Call) (stream sent rest : List ℕ)
    (last : Side S) → IsBytes stream → limit ≤ 512
    → Calls (Receives (Reading true Answers)) (fresh limit state) calls stream sent last rest
    → (units reads : List (List ℕ)) × (tail : List ℕ) × (others : List Call) × AreReadAs units reads
    × HaveNonces calls others × AreUnanswered last tail × (stream ≡ stream_of units ++ (tail ++ rest))
    × Calls (Receives Answers) (fresh limit state) others (stream_of reads ++ (tail ++ rest)) sent
    (record last { held = [] }) (last.held ++ rest)

-- and so for every client, of any hostname
abbrev pub ClientsIgnoreExtendedHeaders : Type 0
ClientsIgnoreExtendedHeaders = (hostname : Option (List ℕ)) → ExtendedHeadersAreIgnored (ClientSideAnswers hostname)
