-- Worked examples of texts for which a call never runs out of memory, since each is rejected before the call allocates.
-- The law is `laws::texts_without_memory`.
use Rattle.std.specs.Prelude.{ℕ, List, [], ◌∷◌, ◌++◌, Option, codes}
use Rattle.fe2o3_scram.specs.declared.hmac.ScramVersion.{ScramVersion}
use Rattle.fe2o3_scram.specs.declared.scram_messages.channel_binding_flag.ChannelBindingFlag.TheVariants.{NotSupported}
use Rattle.fe2o3_scram.specs.declared.scram_messages.server_rules.ServerRules.{ServerRules}
use Rattle.fe2o3_scram.specs.ClientFinal.{client_final_of, without_proof}
use Rattle.fe2o3_scram.specs.ClientKeys.{ClientKeys}
use Rattle.fe2o3_scram.specs.Credentials.{Record, serving}
use Rattle.fe2o3_scram.specs.RecordLines.{ReachesUser}
use Rattle.fe2o3_scram.specs.RecordText.{ReachesValues}
use Rattle.fe2o3_scram.specs.ScramClient.{ClientFinalSent, ReachesSaltIn, ReachesVerifierIn}
use Rattle.fe2o3_scram.specs.ScramServer.{ServerFirstSent, ReachesBase64In}
use Rattle.fe2o3_scram.specs.ServerFirst.{ServerChallenge, ReachesChallenge}
use Rattle.fe2o3_scram.specs.ChannelBinding.{own_header}

-- a server-final message that is an error (RFC 5802, section 7), to a client that has answered
abbrev pub ErrorsAllocateNothing : Type 0
ErrorsAllocateNothing = (signature : List ℕ) (keys : Option ClientKeys)
    → ¬ ReachesVerifierIn (ClientFinalSent signature keys) (codes "e=invalid-proof")

-- a server-first message, to a client that has answered one already (RFC 5802, section 5)
abbrev pub AnsweredClientsAllocateNothing : Type 0
AnsweredClientsAllocateNothing = (signature text : List ℕ) (keys : Option ClientKeys)
    → ¬ ReachesSaltIn (ClientFinalSent signature keys) text

-- a client-first message without escapes, of an unknown user (RFC 5802, section 5.1)
abbrev pub UnknownUsersAllocateNothing : Type 0
UnknownUsersAllocateNothing = (version : ScramVersion) (rules : ServerRules)
    → ¬ ReachesChallenge (serving rules (record { version = version; records = [] })) (codes "n,,n=user,r=abc")

-- the challenge with the nonce abc, to any user
abbrev pub challenge_abc : List ℕ → List ℕ → List ℕ → ServerChallenge
challenge_abc user bare first =
    record { user = user; header = own_header NotSupported; bare = bare; first = first; nonce = codes "abc" }

-- a client-final message with the nonce of another exchange (RFC 5802, section 5.1)
abbrev pub OtherNoncesAllocateNothing : Type 0
OtherNoncesAllocateNothing = (rules : ServerRules) (stored : Record) (user bare first : List ℕ)
    → ¬ ReachesBase64In (ServerFirstSent (challenge_abc user bare first) stored) rules
    (client_final_of (without_proof (codes "abd")) [])

-- a client-final message without a channel binding (RFC 5802, section 7)
abbrev pub MissingBindingsAllocateNothing : Type 0
MissingBindingsAllocateNothing = (rules : ServerRules) (stored : Record) (user bare first : List ℕ)
    → ¬ ReachesBase64In (ServerFirstSent (challenge_abc user bare first) stored) rules (codes "r=abc,p=AA==")

-- a record of an unknown mechanism (RFC 5803, section 2)
abbrev pub UnknownMechanismsAllocateNothing : Type 0
UnknownMechanismsAllocateNothing = ¬ ReachesValues (codes "SCRAM-MD5$1:AA==$AA==:AA==")

-- a line whose name has a comma (RFC 5802, section 5.1)
abbrev pub CommasAllocateNothing : Type 0
CommasAllocateNothing = ¬ ReachesUser (codes "a,b SCRAM-SHA-1$1:AA==$AA==:AA==" ++ (10 ∷ []))
