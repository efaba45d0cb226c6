-- An attacker cannot make a client that has a channel skip channel binding, and nobody in the middle of two channels
-- logs in by its proof (RFC 5802, section 6). Each law is a clause of `laws::bound_channels`. None needs an option of
-- either side: a client that has a channel tests the parts after the count in any case (`needs_strict`).
use Rattle.std.specs.Prelude.{ℕ, List, ◌≡◌, ◌≢◌, ◌++◌, Some, T, codes, is_some, ◌||◌}
use Rattle.fe2o3_scram.specs.Agreement.{AcceptedTexts, ClientKnows, Collide, ServerKnows, TextsAgree, Verified, client_auth_message, keys_known, server_auth_message}
use Rattle.fe2o3_scram.specs.ChannelBinding.{AcceptsFlag, ClientHeader, HoldsHeaderBytes, cbind_data, cbind_input, data_bytes, data_of_kind, header_of, is_strict}
use Rattle.fe2o3_scram.specs.ClientKeys.{AreSized}
use Rattle.fe2o3_scram.specs.Credentials.{Provider}
use Rattle.fe2o3_scram.specs.declared.channel_binding.ChannelBinding.{ChannelBinding}
use Rattle.fe2o3_scram.specs.declared.channel_binding.ChannelBindings.{ChannelBindings}
use Rattle.fe2o3_scram.specs.declared.channel_binding.ChannelData.{ChannelData}
use Rattle.fe2o3_scram.specs.declared.scram_messages.client_channel.ClientChannel.{ClientChannel}
use Rattle.fe2o3_scram.specs.declared.scram_messages.client_channel.ClientChannel.TheVariants.{Absent, NotOffered, Bound}
use Rattle.fe2o3_scram.specs.declared.scram_messages.channel_binding_flag.ChannelBindingFlag.TheVariants.{ClientSupports}
use Rattle.fe2o3_scram.specs.declared.scram_messages.server_rules.ServerRules.{ServerRules}
use Rattle.fe2o3_scram.specs.Hmac.{digest, hmac_of}
use Rattle.fe2o3_scram.specs.Keys.{auth_message, client_proof, recovered_client_key}
use Rattle.fe2o3_scram.specs.Laws.{HoldsBytes}
use Rattle.fe2o3_scram.specs.ScramClient.{ClientSide, header_in}
use Rattle.fe2o3_scram.specs.Texts.{Part, base64_text}

-- the server binds this channel: it has its data of this kind
pub record ServerBinds (provider : Provider) (binding : ChannelBinding) : Type 0 where
  pub channels : ChannelBindings
  pub known : ChannelData
  pub binds : provider.rules.channels ≡ Some channels
  pub kind : data_of_kind channels binding.kind ≡ Some known
  pub same : data_bytes known ≡ data_bytes binding.cbind_data

-- the client binds its channel, and the server the same: of one kind, with the same data
abbrev pub BindOne : ClientChannel → Provider → Type 0
BindOne channel provider = (binding : ChannelBinding) × (channel ≡ Bound binding) × ServerBinds provider binding

-- both sides bind one channel
abbrev pub BindOneChannel : ClientSide → Provider → Type 0
BindOneChannel side provider = BindOne side.channel provider

-- equal AuthMessages of a client that has a channel, whatever mechanisms its server seemed to offer, and of a server that takes
-- no `y,,` mean that both bind one channel
abbrev pub EqualTextsBindOneChannel : Type 0
EqualTextsBindOneChannel = (side : ClientSide) (provider : Provider) (own text its init response : List ℕ)
    (client : ClientKnows side own text) (server : ServerKnows provider its init response)
    → side.channel ≢ Absent → ¬ AcceptsFlag provider.rules ClientSupports
    → HoldsBytes (server.client.user, server.stored) → HoldsHeaderBytes (header_in side)
    → client_auth_message client ≡ server_auth_message server → BindOneChannel side provider

-- a client of another library, of which nothing is known but that the text before its proof begins with the header that it
-- meant and the data of its channel (RFC 5802, section 7): if it has a channel, the server rejects what is no extension in
-- the place of one and takes no `y,,`, equal AuthMessages mean that both bind one channel
abbrev pub ForeignClientsBindOneChannel : Type 0
ForeignClientsBindOneChannel = (header : ClientHeader) (bare text without : List ℕ) (provider : Provider)
    (its init response : List ℕ) (server : ServerKnows provider its init response)
    → header.channel ≢ Absent → ¬ AcceptsFlag provider.rules ClientSupports → T (is_strict provider.rules)
    → HoldsBytes (server.client.user, server.stored) → HoldsHeaderBytes header
    → Part without 0 (codes "c=" ++ base64_text (cbind_input header))
    → auth_message bare text without ≡ server_auth_message server → BindOne header.channel provider

-- a server that is set to reject what is no extension, or binds a channel, is such a server
abbrev pub SetServersReject : Type 0
SetServersReject = (rules : ServerRules) → T (rules.reject_misplaced || is_some rules.channels) → T (is_strict rules)

-- a server of another library, of which nothing is known but that the text before the proof begins with the header and the
-- data that it expects (RFC 5802, section 7): if the client has a channel, equal AuthMessages mean that these are the
-- client's
abbrev pub ForeignServersExpectThis : Type 0
ForeignServersExpectThis = (side : ClientSide) (own text : List ℕ) (client : ClientKnows side own text)
    (expected : ClientHeader) (bare first without : List ℕ)
    → side.channel ≢ Absent → HoldsHeaderBytes (header_in side) → HoldsHeaderBytes expected
    → Part without 0 (codes "c=" ++ base64_text (cbind_input expected))
    → client_auth_message client ≡ auth_message bare first without
    → (header_of (header_in side) ≡ header_of expected) × (cbind_data side.channel ≡ cbind_data expected.channel)

-- a client that says `y,,` and such a server never have one AuthMessage
abbrev pub UnofferedTextsDiffer : Type 0
UnofferedTextsDiffer = (side : ClientSide) (provider : Provider) (own text its init response : List ℕ)
    (client : ClientKnows side own text) (server : ServerKnows provider its init response)
    → side.channel ≡ NotOffered → ¬ AcceptsFlag provider.rules ClientSupports
    → HoldsBytes (server.client.user, server.stored) → HoldsHeaderBytes (header_in side)
    → client_auth_message client ≢ server_auth_message server

-- a client that has a channel, whatever mechanisms its server seemed to offer, verified the message by which a server
-- accepted that takes no `y,,`: if their AuthMessages are equal, both bind one channel, and otherwise these collide
abbrev pub VerifiedTextsBindOneChannel : Type 0
VerifiedTextsBindOneChannel = (side : ClientSide) (provider : Provider)
    (own text last its init response verifier : List ℕ)
    → side.channel ≢ Absent → ¬ AcceptsFlag provider.rules ClientSupports
    → Verified side own text last → AcceptedTexts provider its init response verifier → Part last 0 verifier
    → (client : ClientKnows side own text) × (server : ServerKnows provider its init response)
    × (HoldsBytes (server.client.user, server.stored) → HoldsHeaderBytes (header_in side)
    → (client_auth_message client ≡ server_auth_message server → BindOneChannel side provider)
    × (client_auth_message client ≢ server_auth_message server → Collide client server))

-- the proof that the client showed (RFC 5802, section 3)
abbrev pub proof_known : {side : ClientSide} {own text : List ℕ} → ClientKnows side own text → List ℕ
proof_known client =
    client_proof (keys_known client).version (keys_known client).client_key (client_auth_message client)

-- the ClientKey that the server recovered from the proof that it accepted (RFC 5802, section 3)
abbrev pub recovered_known : {provider : Provider} {its init response : List ℕ}
    → ServerKnows provider its init response → List ℕ
recovered_known {provider} server =
    recovered_client_key provider.version server.stored.stored_key server.final.proof (server_auth_message server)

-- what a proof means that both sides have: if their AuthMessages are equal, they agree; in any case these share one HMAC
-- value under the stored key, unless the client's key and the one that the server recovered are two with one digest
pub record ProofAgrees {side : ClientSide} {provider : Provider} {own text its init response : List ℕ}
    (client : ClientKnows side own text) (server : ServerKnows provider its init response) : Type 0 where
  pub version : (keys_known client).version ≡ provider.version
  pub agrees : client_auth_message client ≡ server_auth_message server → TextsAgree client server
  pub macs : (keys_known client).client_key ≡ recovered_known server
      → hmac_of provider.version server.stored.stored_key (client_auth_message client)
      ≡ hmac_of provider.version server.stored.stored_key (server_auth_message server)
  pub hashes : digest provider.version (keys_known client).client_key
      ≡ digest provider.version (recovered_known server)

-- a server accepted the proof that a client showed, by the key of the server's record, whether the client sees the
-- server's last message or not
abbrev pub ShownTextsAgree : Type 0
ShownTextsAgree = (side : ClientSide) (provider : Provider) (own text its init response verifier : List ℕ)
    (client : ClientKnows side own text) → AcceptedTexts provider its init response verifier
    → (server : ServerKnows provider its init response)
    × (HoldsBytes (server.client.user, server.stored) → AreSized (keys_known client)
    → digest (keys_known client).version (keys_known client).client_key ≡ server.stored.stored_key
    → proof_known client ≡ server.final.proof → ProofAgrees client server)

-- for a client that has a channel and a server that takes no `y,,`: if their AuthMessages are equal, both bind one
-- channel. So someone who has a channel to each of them cannot log in by the client's proof
abbrev pub ShownTextsBindOneChannel : Type 0
ShownTextsBindOneChannel = (side : ClientSide) (provider : Provider) (own text its init response verifier : List ℕ)
    (client : ClientKnows side own text)
    → side.channel ≢ Absent → ¬ AcceptsFlag provider.rules ClientSupports
    → AcceptedTexts provider its init response verifier
    → (server : ServerKnows provider its init response)
    × (HoldsBytes (server.client.user, server.stored) → HoldsHeaderBytes (header_in side) → AreSized (keys_known client)
    → digest (keys_known client).version (keys_known client).client_key ≡ server.stored.stored_key
    → proof_known client ≡ server.final.proof → ProofAgrees client server
    × (client_auth_message client ≡ server_auth_message server → BindOneChannel side provider))
