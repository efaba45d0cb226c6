-- How long a client's answer is: its message, by the length of the challenge and by what the login says, and its signature.
use Rattle.std.proofs.Common.{true, false, rules, arith, refl, inl, inr, ap, ◌∙◌, ◌≡◌, ◌≤◌, ◌+◌, ◌*◌, ◌++◌, ◌∷◌, ◌⊎◌, [], ℕ, List, length}
use Rattle.std.specs.Prelude.{Bool, Option, Some, Ok, codes, slice_get, bit_xor, ◌==◌, if◌then◌else◌}
use Rattle.std.specs.List.{zip}
use Rattle.base64.proofs.ReadLemmas.{take-shorter}
use Rattle.std.proofs.lemmas.List.{length-append, length-map}
use Rattle.std.proofs.lemmas.Slice.Zip.{length-zip}
use Rattle.fe2o3_scram.specs.declared.scram_messages.client_channel.ClientChannel.{ClientChannel}
use Rattle.fe2o3_scram.specs.declared.scram_messages.client_channel.ClientChannel.TheVariants.{Absent, NotOffered, Bound}
use Rattle.fe2o3_scram.specs.declared.scram_messages.channel_binding_flag.ChannelBindingFlag.TheVariants.{Required}
use Rattle.fe2o3_scram.specs.declared.channel_binding.ChannelKind.{ChannelKind}
use Rattle.fe2o3_scram.specs.declared.channel_binding.ChannelKind.TheVariants.{TlsUnique, TlsServerEndPoint, TlsExporter}
use Rattle.fe2o3_scram.specs.ChannelBinding.{authzid_text, cbind_data, cbind_input, data_bytes, flag_of, flag_text, ClientHeader}
use Rattle.fe2o3_scram.specs.Escape.{escaped, escaped_byte}
use Rattle.fe2o3_scram.specs.declared.hmac.ScramVersion.{ScramVersion}
use Rattle.fe2o3_scram.specs.ClientFinal.{Answer, client_final_of, keys_for, without_proof_with}
use Rattle.fe2o3_scram.specs.ClientKeys.{ClientKeys}
use Rattle.fe2o3_scram.specs.Hmac.{exclusive_or}
use Rattle.fe2o3_scram.specs.Keys.{client_proof, client_signature, server_signature, stored_key, auth_message}
use Rattle.fe2o3_scram.specs.ScramClient.{AnswersIn, ClientSide, ClientState, ClientInitial, ClientFirstSent, ClientFinalSent, SignatureVerified, Complete, header_in, identity_named}
use Rattle.fe2o3_scram.specs.ServerFirst.{Client, NamesServerFirst, ReadsServerFirst, ServerFirst}
use Rattle.fe2o3_scram.specs.Texts.{Part, base64_text, joined}
use Rattle.sasl_c.specs.declared.login.Login.{Login}
use Rattle.sasl_c.specs.Client.{answer_more, CanBeNamed, IsChannelOf, IsHeaderOf}
use Rattle.sasl_c.specs.Channels.{channel_more, identity_more}
use Rattle.sasl_c.proofs.TextLemmas.{short, short_text, text_length}
use Rattle.fe2o3_scram.proofs.lemmas.hashes.DigestLemmas.{length-hmac_of}

-- a proof has at most 64 bytes
short_proof : (version : ScramVersion) (key auth : List ℕ) → length (client_proof version key auth) ≤ 64
unfolding exclusive_or
short_proof version key auth =
    let signature = client_signature version (stored_key version key) auth in
    omega (
      arith,
      length-map (zip key signature) (λ (pair : ℕ × ℕ). bit_xor pair.0 pair.1),
      length-zip key signature,
      short version (length signature) (length-hmac_of version _ auth),
    )

-- a part is no longer than its text
first_short : (part : List ℕ) (others : List (List ℕ)) → length part ≤ length (joined (part ∷ others))
first_short part [] = omega arith
first_short part (other ∷ others) = omega (arith, length-append part (44 ∷ joined (other ∷ others)))

part_short : (text part : List ℕ) → Part text 0 part → length part ≤ length text
part_short text part held = go held.0 held.1.whole held.2 where
  go : (parts : List (List ℕ)) → joined parts ≡ text → slice_get parts 0 ≡ Some part → length part ≤ length text
  go [] whole at = absurd (cc)
  go (first ∷ others) whole at = omega (arith, ap length whole, first_short first others, same) where
    same : length part ≡ length first
    same = search rules

-- an identity takes three bytes for each of its own at most
escape_fits : (comma equals : Bool) (byte : ℕ)
    → length (if comma then codes "=2C" else (if equals then codes "=3D" else byte ∷ [])) ≤ 3
escape_fits true equals byte = omega arith
escape_fits false true byte = omega arith
escape_fits false false byte = omega arith

escaped_fits : (name : List ℕ) → length (escaped name) ≤ 3 * length name
unfolding escaped
escaped_fits [] = omega arith
escaped_fits (byte ∷ name) = omega (
  arith,
  length-append (escaped_byte byte) (escaped name),
  escape_fits (byte == 44) (byte == 61) byte,
  escaped_fits name,
)

-- the first part of a client-final message, by the length of the header with the data of the channel
coded_fits : (header : ClientHeader) (k : ℕ) → length (cbind_input header) ≤ 3 * k
    → length (codes "c=" ++ base64_text (cbind_input header)) ≤ 4 * k + 2
coded_fits header k fits =
    let two : length (codes "c=") ≡ 2 = refl in
    omega (
      arith,
      fits,
      two,
      text_length (cbind_input header),
      length-append (codes "c=") (base64_text (cbind_input header)),
    )

-- the client-final message has at most 92 bytes more than the server-first message and its first part
short_answer : (version : ScramVersion) (header : ClientHeader) (key auth nonce text : List ℕ)
    → length nonce + 2 ≤ length text
    → length (client_final_of (without_proof_with header nonce) (client_proof version key auth))
    ≤ length text + length (codes "c=" ++ base64_text (cbind_input header)) + 92
short_answer version header key auth nonce text fits =
    let proof = client_proof version key auth in
    omega (
      arith,
      fits,
      length-append (codes "c=" ++ base64_text (cbind_input header)) (44 ∷ (codes "r=" ++ nonce)),
      length-append (without_proof_with header nonce) (44 ∷ (codes "p=" ++ base64_text proof)),
      short_text proof (short_proof version key auth),
    )

named : (client : Client) (text : List ℕ) (first : ServerFirst)
    → ReadsServerFirst client text (Ok first)
    → NamesServerFirst text first
unfolding ReadsServerFirst
named client text first held = held.1

-- what a client answers: a message of this length, and a signature that a struct can hold
pub answer_fits : (state : ClientState) (side next : ClientSide) (text message : List ℕ)
    → AnswersIn state side text (Ok message) next
    → (length message ≤ length text + length (codes "c=" ++ base64_text (cbind_input (header_in side))) + 92)
    × ((signature : List ℕ) × (keys : Option ClientKeys)
    × (next.state ≡ ClientFinalSent signature keys) × (length signature ≤ 64))
answer_fits (ClientFirstSent nonce bare) side next text message held =
    let first = held.1.0 in
    let names = named _ text first held.1.1 in
    let keys = keys_for side.version side.secret first in
    let without = without_proof_with (header_in side) first.nonce in
    let auth = auth_message bare text without in
    let fits = part_short text (codes "r=" ++ first.nonce) names.nonce in
    let said : message ≡ client_final_of without (client_proof keys.version keys.client_key auth) =
    held.2 ∙ ap (λ (answer : Answer). answer.message) held.1.2 in
    let kept : next.state ≡ ClientFinalSent (server_signature keys.version keys.server_key auth) (Some keys) =
    ap (λ (moved : ClientSide). moved.state) held.3
    ∙ ap (λ (answer : Answer). ClientFinalSent answer.signature (Some answer.keys)) held.1.2 in (
      rw said (short_answer keys.version (header_in side) keys.client_key auth first.nonce text (omega (arith, fits))),
      (
        server_signature keys.version keys.server_key auth,
        Some keys,
        kept,
        short keys.version _ (length-hmac_of keys.version keys.server_key auth),
      ),
    )
answer_fits ClientInitial side next text message held = absurd held
answer_fits (ClientFinalSent signature keys) side next text message held = absurd held
answer_fits (SignatureVerified keys) side next text message held = absurd held
answer_fits (Complete keys) side next text message held = absurd held

-- what a client of a login says of its channel in its header, with the data
abbrev said_of : ClientChannel → ℕ
said_of channel = length (flag_text (flag_of channel)) + length (cbind_data channel)

channel_fits : (login : Login) (channel : ClientChannel) → IsChannelOf login channel
    → ((channel_more login.channel_use ≡ 128) × (said_of channel ≤ 1))
    ⊎ ((channel_more login.channel_use ≡ 256) × (said_of channel ≤ 86))
channel_fits login Absent is = inl (ap channel_more is, omega arith)
channel_fits login NotOffered is = inl (ap channel_more is, omega arith)
channel_fits login (Bound binding) is = inr (ap channel_more is.0, omega (arith, few, short_flag binding.kind)) where
  short_flag : (kind : ChannelKind) → length (flag_text (Required kind)) ≤ 22
  short_flag TlsUnique = omega arith
  short_flag TlsServerEndPoint = omega arith
  short_flag TlsExporter = omega arith

  few : length (data_bytes binding.cbind_data) ≤ 64
  few = omega (arith, ap length is.2, is.4, take-shorter login.channel_data_len login.channel_data)

-- and of its identity
identity_fits : (name : List ℕ) (acts_for : Option (List ℕ)) → acts_for ≡ identity_named (Some name) → CanBeNamed name
    → ((identity_more name ≡ 0) × (length (authzid_text acts_for) ≡ 0))
    ⊎ ((identity_more name ≡ 1024) × (length (authzid_text acts_for) ≤ 770))
identity_fits [] acts_for same can = inl (refl, ap (λ (a : Option (List ℕ)). length (authzid_text a)) same)
identity_fits (byte ∷ name) acts_for same can =
    let two : length (codes "a=") ≡ 2 = refl in
    let is = ap (λ (a : Option (List ℕ)). length (authzid_text a)) same in
    let whole = length-append (codes "a=") (escaped (byte ∷ name)) in
    inr (refl, omega (arith, is, whole, two, escaped_fits (byte ∷ name), can.1))

-- the first part of the answer of a client of a login
pub binding_fits : (login : Login) (header : ClientHeader) → IsHeaderOf login header
    → length (codes "c=" ++ base64_text (cbind_input header)) + 92 ≤ answer_more login
binding_fits login header is = go (channel_fits login header.channel is.0)
    (identity_fits login.acts_for.now header.acts_for is.1 is.2) where
      one : length (codes ",") ≡ 1
      one = refl

      flag : List ℕ
      flag = flag_text (flag_of header.channel)

      named : List ℕ
      named = authzid_text header.acts_for

      whole : length (cbind_input header) ≡ said_of header.channel + length named + 2
      whole = omega (
        arith,
        one,
        length-append (flag ++ (codes "," ++ (named ++ codes ","))) (cbind_data header.channel),
        length-append flag (codes "," ++ (named ++ codes ",")),
        length-append (codes ",") (named ++ codes ","),
        length-append named (codes ","),
      )

      go : ((channel_more login.channel_use ≡ 128) × (said_of header.channel ≤ 1))
          ⊎ ((channel_more login.channel_use ≡ 256) × (said_of header.channel ≤ 86))
          → ((identity_more login.acts_for.now ≡ 0) × (length named ≡ 0))
          ⊎ ((identity_more login.acts_for.now ≡ 1024) × (length named ≤ 770))
          → length (codes "c=" ++ base64_text (cbind_input header)) + 92 ≤ answer_more login
      go (inl few) (inl none) = omega (arith, few.0, none.0, coded_fits header 1 (omega (arith, whole, few.1, none.1)))
      go (inl few) (inr some) = omega (arith, few.0, some.0, coded_fits header 258 (omega (arith, whole, few.1, some.1)))
      go (inr more) (inl none) = omega (arith, more.0, none.0, coded_fits header 30 (omega (arith, whole, more.1, none.1)))
      go (inr more) (inr some) = omega (arith, more.0, some.0, coded_fits header 286 (omega (arith, whole, more.1, some.1)))
