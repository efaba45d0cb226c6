-- Profiles that ask to act for another identity than their user (RFC 4422, section 2).
use Rattle.std.specs.Prelude.{ℕ, List, Some, false}
use Rattle.fe2o3_scram.specs.ScramClient.{acting_for}
use Rattle.fe2o3_scram.specs.Texts.{Without}
use Rattle.fe2o3_sasl_core.specs.PlainWords.{ArePlainWords}
use Rattle.fe2o3_sasl_core.specs.Profiles.{Profile, ScramProfile, PlainProfile, AnonymousProfile, ExternalProfile, MessageProfile, AnonymousMessage, ExternalMessage, PolicyProfile}

-- a profile names identities: that of PLAIN only if its words can be in a message (RFC 4616, section 2), and that of
-- ANONYMOUS none (RFC 4505)
abbrev pub NamesIdentities : Profile → Type 0
NamesIdentities (PlainProfile identity user password) = ArePlainWords user password
NamesIdentities AnonymousProfile = ⊥
NamesIdentities (MessageProfile AnonymousMessage message is_due) = ⊥
NamesIdentities profile = Unit {0}

-- a profile can ask to act for this identity, which has no zero byte (RFC 4422, section 3.4.1)
abbrev pub CanActFor : Profile → List ℕ → Type 0
CanActFor profile identity = Without 0 identity × NamesIdentities profile

-- the profile that asks to act for this identity: SCRAM in its header, and the others in their message; and a client by a policy
-- by the profile that it will select. The empty identity is the user's own
abbrev pub acting_profile : Profile → List ℕ → Profile
acting_profile (ScramProfile client) identity = ScramProfile (acting_for client (Some identity))
acting_profile (PlainProfile other user password) identity = PlainProfile identity user password
acting_profile ExternalProfile identity = MessageProfile ExternalMessage identity false
acting_profile (MessageProfile ExternalMessage message is_due) identity = MessageProfile ExternalMessage identity false
acting_profile (PolicyProfile selection) identity = PolicyProfile (record selection { acts_for = Some identity })
acting_profile profile identity = profile
