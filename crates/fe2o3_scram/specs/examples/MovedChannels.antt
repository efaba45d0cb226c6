-- What someone on the way can do to two sides of which neither is strict, by public values alone: the client receives the
-- server's message followed by the two attributes that the server wants to read, and the server receives these two before
-- the client's own answer. So a client that has a channel is strict, and reads no such message. The laws are
-- `laws::bound_channels`.
use Rattle.std.specs.Prelude.{ℕ, List, [], ◌∷◌, ◌≡◌, ◌≢◌, ◌≤◌, ◌<◌, ◌^◌, Bool, Ok, false}
use Rattle.std.specs.Str.{IsUtf8}
use Rattle.base64.specs.GeneralPurpose.{IsBytes}
use Rattle.fe2o3_scram.specs.ChannelBinding.{ClientHeader, HoldsHeaderBytes}
use Rattle.fe2o3_scram.specs.ClientFinal.{ReadsFinalText, client_final_of, without_proof_with}
use Rattle.fe2o3_scram.specs.ClientSecret.{Password, Secret, no_limit, up_to}
use Rattle.fe2o3_scram.specs.Credentials.{Record}
use Rattle.fe2o3_scram.specs.declared.client_secret.IterationLimits.{IterationLimits}
use Rattle.fe2o3_scram.specs.declared.scram_messages.client_channel.ClientChannel.TheVariants.{Absent}
use Rattle.fe2o3_scram.specs.Keys.{auth_message}
use Rattle.fe2o3_scram.specs.Passwords.{PasswordText, IsNormal}
use Rattle.fe2o3_scram.specs.ServerFirst.{Client, ReadsServerFirst, ServerFirst, client_of, server_first_of}
use Rattle.fe2o3_scram.specs.Texts.{NoComma, StartsWith, joined}

-- the server's message as the client receives it
abbrev pub moved_first : List ℕ → ClientHeader → List ℕ → List ℕ
moved_first first theirs both = joined (first ∷ without_proof_with theirs both ∷ [])

-- the text before the proof as the server receives it
abbrev pub moved_without : ClientHeader → ClientHeader → List ℕ → List ℕ
moved_without ours theirs both = joined (without_proof_with theirs both ∷ without_proof_with ours both ∷ [])

-- a client that is not strict, whatever its header says; of this library only one without a channel and without an identity is
-- such a client
abbrev pub lax_client : PasswordText → List ℕ → ClientHeader → Client
lax_client password own ours = record {
  nonce = own;
  secret = Password password;
  limits = up_to no_limit;
  header = ours;
  strict = false;
  grammar = false;
}

-- the client reads the one as the server's own, a server that is not strict reads the other with the channel that it
-- expects, whatever the client's is, and both have one AuthMessage
pub record Passes (password : PasswordText) (own both bare : List ℕ) (ours theirs : ClientHeader) (proof : List ℕ)
    (stored : Record) : Type 0 where
  pub client : ReadsServerFirst (lax_client password own ours) (moved_first (server_first_of both stored) theirs both)
      (Ok (record { nonce = both; salt = stored.salt; count = stored.count }))
  pub server : ReadsFinalText theirs false both (client_final_of (moved_without ours theirs both) proof)
      (Ok (record { without = moved_without ours theirs both; proof = proof }))
  pub one : auth_message bare (moved_first (server_first_of both stored) theirs both) (without_proof_with ours both)
      ≡ auth_message bare (server_first_of both stored) (moved_without ours theirs both)

-- of every two headers, whatever they are, these texts pass
abbrev pub MovedChannelsPass : Type 0
MovedChannelsPass = (password : PasswordText) (own both bare : List ℕ) (ours theirs : ClientHeader) (proof : List ℕ)
    (stored : Record) → IsNormal password → StartsWith both own → NoComma both → IsUtf8 both
    → HoldsHeaderBytes theirs → IsBytes proof → IsBytes stored.salt → 1 ≤ stored.count → stored.count < 2 ^ 32
    → Passes password own both bare ours theirs proof stored

-- a client that has a channel, bound or not, whatever else it is, never takes such a message for its server's
abbrev pub MovedFirstsAreRefused : Type 0
MovedFirstsAreRefused = (secret : Secret) (limits : IterationLimits) (strict : Bool) (own both : List ℕ)
    (ours theirs : ClientHeader) (stored : Record) (first : ServerFirst) → ours.channel ≢ Absent → NoComma both
    → stored.count < 2 ^ 32
    → ¬ ReadsServerFirst (client_of own secret limits ours strict)
    (moved_first (server_first_of both stored) theirs both) (Ok first)
