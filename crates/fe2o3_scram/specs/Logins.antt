-- The meaning of an accepted message, in the words of the headline (RFC 5802, section 5). Each law is the contract of a
-- clause of `laws::accepted_messages`.
use Rattle.std.specs.Prelude.{◌≡◌, ℕ, Bool, Option, List, Ok}
use Rattle.fe2o3_scram.specs.ActingRights.{Rights}
use Rattle.fe2o3_scram.specs.ClientFinal.{ClientFinal, ReadsClientFinal}
use Rattle.fe2o3_scram.specs.ClientKeys.{ClientKeys}
use Rattle.fe2o3_scram.specs.Credentials.{Record}
use Rattle.fe2o3_scram.specs.declared.hmac.ScramVersion.{ScramVersion}
use Rattle.fe2o3_scram.specs.declared.scram_messages.server_rules.ServerRules.{ServerRules}
use Rattle.fe2o3_scram.specs.ScramClient.{ClientSide, ClientState, ClientFinalSent, VerifiesIn, is_strict_client}
use Rattle.fe2o3_scram.specs.ScramServer.{ServerState, ServerFirstSent, ServerFinalSent, ConcludesFrom, server_against}
use Rattle.fe2o3_scram.specs.ServerFinal.{ReadsServerFinal}
use Rattle.fe2o3_scram.specs.ServerFirst.{ServerChallenge}

-- the text logs this user in, for this identity or for itself: a challenge to this user is open, and the text is a
-- client-final message to it that passes every test; the last are that its proof meets the stored key of the
-- challenge's record, and that the user may act for the identity that the challenge names
pub record TextLogsIn (version : ScramVersion) (rules : ServerRules) (rights : Rights) (state : ServerState)
    (text user : List ℕ) (acts_for : Option (List ℕ)) : Type 0 where
  pub challenge : ServerChallenge
  pub stored : Record
  pub final : ClientFinal
  pub opened : state ≡ ServerFirstSent challenge stored
  pub named : user ≡ challenge.user
  pub identity : acts_for ≡ challenge.header.acts_for
  pub reads : ReadsClientFinal (server_against version rules rights challenge stored) text (Ok final)

-- a server accepts only a text that logs a user in, and then names that user and the identity that it acts for
abbrev pub AcceptedTextsLogIn : Type 0
AcceptedTextsLogIn = (state next : ServerState) (version : ScramVersion) (rules : ServerRules) (rights : Rights)
    (text : List ℕ) (answer : Option (List ℕ)) → ConcludesFrom state version rules rights text (Ok answer) next
    → (user : List ℕ) × (acts_for : Option (List ℕ)) × TextLogsIn version rules rights state text user acts_for
    × (next ≡ ServerFinalSent user acts_for)

-- the text shows the signature that a client waits for: the client has answered a challenge, and the first part of the
-- text is the signature of that answer
pub record IsSigned (strict : Bool) (state : ClientState) (text : List ℕ) : Type 0 where
  pub signature : List ℕ
  pub keys : Option ClientKeys
  pub waits : state ≡ ClientFinalSent signature keys
  pub reads : ReadsServerFinal strict signature text (Ok tt)

-- a client accepts only a text that shows the signature that it waits for
abbrev pub VerifiedTextsAreSigned : Type 0
VerifiedTextsAreSigned = (side next : ClientSide) (text : List ℕ) → VerifiesIn side.state side text (Ok tt) next
    → IsSigned (is_strict_client side) side.state text
