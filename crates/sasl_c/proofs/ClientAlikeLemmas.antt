-- Two clients of SCRAM that say the same of their channel and differ in the keys that they keep answer alike (RFC 5802,
-- section 5).
use Rattle.std.proofs.Common.{refl, ap, subst, ◌∙◌, ◌≡◌, ◌++◌, ◌∷◌, ℕ, List, []}
use Rattle.std.specs.Prelude.{Bool, ◌||◌, is_some, codes, Option, Some, Result, Ok, Err}
use Rattle.fe2o3_scram.specs.ChannelBinding.{ClientHeader, cbind_data, cbind_input, flag_of, has_channel, header_text, is_bound}
use Rattle.fe2o3_scram.specs.ClientFinal.{answer_by, answer_of, keys_for}
use Rattle.fe2o3_scram.specs.ClientKeys.{ClientKeys}
use Rattle.fe2o3_scram.specs.Readings.{Reads}
use Rattle.fe2o3_scram.specs.ScramClient.{AnswersIn, ChecksSignatureIn, ClientSide, ClientState, ClientInitial, ClientFirstSent, ClientFinalSent, SignatureVerified, Complete, ConcludesIn, VerifiesIn, is_unsigned}
use Rattle.fe2o3_scram.specs.ServerFinal.{ReadsServerFinal}
use Rattle.fe2o3_scram.specs.ServerFirst.{Client, NamesServerFirst, ReadsServerFirst, ServerFirst, client_of, server_first_tests}
use Rattle.fe2o3_scram.specs.Texts.{base64_text, joined}
use Rattle.fe2o3_scram.specs.declared.scram_messages.channel_binding_flag.ChannelBindingFlag.{ChannelBindingFlag}
use Rattle.fe2o3_scram.specs.declared.scram_messages.client_channel.ClientChannel.{ClientChannel}
use Rattle.fe2o3_scram.specs.declared.scram_messages.error.ScramErrorKind.{ScramErrorKind}

-- a client with another channel and in another state
abbrev pub made : ClientSide → ClientChannel → ClientState → ClientSide
made side channel state = record {
  user = side.user;
  secret = side.secret;
  version = side.version;
  limits = side.limits;
  channel = channel;
  acts_for = side.acts_for;
  strict = side.strict;
  signature_by_challenge = side.signature_by_challenge;
  state = state;
}

-- a state that keeps these keys, if it keeps any
abbrev pub rekeyed : Option ClientKeys → ClientState → ClientState
rekeyed keys ClientInitial = ClientInitial
rekeyed keys (ClientFirstSent nonce bare) = ClientFirstSent nonce bare
rekeyed keys (ClientFinalSent signature own) = ClientFinalSent signature keys
rekeyed keys (SignatureVerified own) = SignatureVerified keys
rekeyed keys (Complete own) = Complete keys

pub one_unsigned : (keys : Option ClientKeys) (state : ClientState) → is_unsigned (rekeyed keys state) ≡ is_unsigned state
one_unsigned keys ClientInitial = refl
one_unsigned keys (ClientFirstSent nonce bare) = refl
one_unsigned keys (ClientFinalSent signature own) = refl
one_unsigned keys (SignatureVerified own) = refl
one_unsigned keys (Complete own) = refl

-- this holds of the keys of a state and of others
abbrev pub Follows : (Option ClientKeys → Option ClientKeys → Type 0) → Option ClientKeys → ClientState → Type 0
Follows Same keys ClientInitial = Unit {0}
Follows Same keys (ClientFirstSent nonce bare) = Unit {0}
Follows Same keys (ClientFinalSent signature own) = Same own keys
Follows Same keys (SignatureVerified own) = Same own keys
Follows Same keys (Complete own) = Same own keys

-- two channels say the same
pub record SameChannel (channel other : ClientChannel) : Type 0 where
  pub flag : flag_of other ≡ flag_of channel
  pub bytes : cbind_data other ≡ cbind_data channel
  pub binds : is_bound other ≡ is_bound channel
  pub has : has_channel other ≡ has_channel channel

-- a client with the other channel and other keys is this one after a step, and the client with the channel takes it too
abbrev pub Moved : (Option ClientKeys → Option ClientKeys → Type 0) → ClientSide → ClientChannel → ClientChannel
    → (ClientSide → Type 0) → ClientSide → Type 0
Moved Same side channel other Step after = (keys : Option ClientKeys) × (state : ClientState)
    × (after ≡ made side other (rekeyed keys state)) × Follows Same keys state × Step (made side channel state)

module _ (Same : Option ClientKeys → Option ClientKeys → Type 0) (same : (keys : Option ClientKeys) → Same keys keys)
    (side : ClientSide) (channel other : ClientChannel) (alike : SameChannel channel other) where
  header : ClientChannel → ClientHeader
  header channel = record { channel = channel; acts_for = side.acts_for }

  reader : ClientChannel → List ℕ → Client
  unfolding header
  reader channel nonce = client_of nonce side.secret side.limits (header channel) side.strict

  inputs : cbind_input (header other) ≡ cbind_input (header channel)
  unfolding header
  inputs =
      ap (λ (f : ChannelBindingFlag). header_text (record { flag = f; acts_for = side.acts_for }) ++ cbind_data other) alike.flag
      ∙ ap (λ (d : List ℕ). header_text (record { flag = flag_of channel; acts_for = side.acts_for }) ++ d) alike.bytes

  answers_so : (bare text : List ℕ) (first : ServerFirst)
      → answer_of side.version side.secret (header other) bare text first
      ≡ answer_of side.version side.secret (header channel) bare text first
  answers_so bare text first = ap (λ (input : List ℕ). answer_by (keys_for side.version side.secret first) bare text
      (joined ((codes "c=" ++ base64_text input) ∷ (codes "r=" ++ first.nonce) ∷ []))) inputs

  reads_first : (nonce text : List ℕ) (answer : Result ServerFirst ScramErrorKind)
      → ReadsServerFirst (reader other nonce) text answer → ReadsServerFirst (reader channel nonce) text answer
  unfolding ReadsServerFirst reader header
  reads_first nonce text answer is = subst (λ (has : Bool). Reads (server_first_tests (record {
    nonce = nonce;
    secret = side.secret;
    limits = side.limits;
    header = header channel;
    strict = (has || is_some side.acts_for) || side.strict;
    grammar = side.strict;
  }) text) (NamesServerFirst text) answer) alike.has is

  reads_final : (signature text : List ℕ) (answer : Result (Unit {0}) ScramErrorKind)
      → ReadsServerFinal ((has_channel other || is_some side.acts_for) || side.strict) signature text answer
      → ReadsServerFinal ((has_channel channel || is_some side.acts_for) || side.strict) signature text answer
  reads_final signature text answer is =
      subst (λ (has : Bool). ReadsServerFinal ((has || is_some side.acts_for) || side.strict) signature text answer) alike.has is

  -- a server-first message
  pub answers : (keys : Option ClientKeys) (state : ClientState) (text : List ℕ) (answer : Result (List ℕ) ScramErrorKind)
      (after : ClientSide) → Follows Same keys state
      → AnswersIn (rekeyed keys state) (made side other (rekeyed keys state)) text answer after
      → Moved Same side channel other (λ next. AnswersIn state (made side channel state) text answer next) after
  unfolding reader header
  answers keys (ClientFirstSent nonce bare) text (Ok message) after follows (answer, (first, reads, is), said, next) = (
    Some answer.keys,
    ClientFinalSent answer.signature (Some answer.keys),
    next,
    same (Some answer.keys),
    (answer, (first, reads_first nonce text (Ok first) reads, is ∙ answers_so bare text first), said, refl),
  )
  answers keys (ClientFirstSent nonce bare) text (Err fault) after follows (reads, next) =
      (keys, ClientFirstSent nonce bare, next, tt, (reads_first nonce text (Err fault) reads, refl))
  answers keys ClientInitial text (Ok message) after follows is = absurd is
  answers keys (ClientFinalSent signature own) text (Ok message) after follows is = absurd is
  answers keys (SignatureVerified own) text (Ok message) after follows is = absurd is
  answers keys (Complete own) text (Ok message) after follows is = absurd is
  answers keys ClientInitial text (Err fault) after follows is = (keys, ClientInitial, is.1, tt, (is.0, refl))
  answers keys (ClientFinalSent signature own) text (Err fault) after follows is =
      (keys, ClientFinalSent signature own, is.1, follows, (is.0, refl))
  answers keys (SignatureVerified own) text (Err fault) after follows is =
      (keys, SignatureVerified own, is.1, follows, (is.0, refl))
  answers keys (Complete own) text (Err fault) after follows is = (keys, Complete own, is.1, follows, (is.0, refl))

  -- a server-final message in an outcome
  pub verifies : (keys : Option ClientKeys) (state : ClientState) (text : List ℕ) (answer : Result (Unit {0}) ScramErrorKind)
      (after : ClientSide) → Follows Same keys state
      → VerifiesIn (rekeyed keys state) (made side other (rekeyed keys state)) text answer after
      → Moved Same side channel other (λ next. VerifiesIn state (made side channel state) text answer next) after
  verifies keys (ClientFinalSent signature own) text (Ok verified) after follows is =
      (keys, Complete own, is.1, follows, (reads_final signature text (Ok verified) is.0, refl))
  verifies keys (ClientFinalSent signature own) text (Err fault) after follows is =
      (keys, ClientFinalSent signature own, is.1, follows, (reads_final signature text (Err fault) is.0, refl))
  verifies keys ClientInitial text (Ok verified) after follows is = absurd is
  verifies keys (ClientFirstSent nonce bare) text (Ok verified) after follows is = absurd is
  verifies keys (SignatureVerified own) text (Ok verified) after follows is = absurd is
  verifies keys (Complete own) text (Ok verified) after follows is = absurd is
  verifies keys ClientInitial text (Err fault) after follows is = (keys, ClientInitial, is.1, tt, (is.0, refl))
  verifies keys (ClientFirstSent nonce bare) text (Err fault) after follows is =
      (keys, ClientFirstSent nonce bare, is.1, tt, (is.0, refl))
  verifies keys (SignatureVerified own) text (Err fault) after follows is =
      (keys, SignatureVerified own, is.1, follows, (is.0, refl))
  verifies keys (Complete own) text (Err fault) after follows is = (keys, Complete own, is.1, follows, (is.0, refl))

  -- and in a challenge (RFC 4422, section 5)
  pub checks : (keys : Option ClientKeys) (state : ClientState) (text : List ℕ) (answer : Result (Unit {0}) ScramErrorKind)
      (after : ClientSide) → Follows Same keys state
      → ChecksSignatureIn (rekeyed keys state) (made side other (rekeyed keys state)) text answer after
      → Moved Same side channel other (λ next. ChecksSignatureIn state (made side channel state) text answer next) after
  checks keys (ClientFinalSent signature own) text (Ok verified) after follows is =
      (keys, SignatureVerified own, is.1, follows, (reads_final signature text (Ok verified) is.0, refl))
  checks keys (ClientFinalSent signature own) text (Err fault) after follows is =
      (keys, ClientFinalSent signature own, is.1, follows, (reads_final signature text (Err fault) is.0, refl))
  checks keys ClientInitial text (Ok verified) after follows is = absurd is
  checks keys (ClientFirstSent nonce bare) text (Ok verified) after follows is = absurd is
  checks keys (SignatureVerified own) text (Ok verified) after follows is = absurd is
  checks keys (Complete own) text (Ok verified) after follows is = absurd is
  checks keys ClientInitial text (Err fault) after follows is = (keys, ClientInitial, is.1, tt, (is.0, refl))
  checks keys (ClientFirstSent nonce bare) text (Err fault) after follows is =
      (keys, ClientFirstSent nonce bare, is.1, tt, (is.0, refl))
  checks keys (SignatureVerified own) text (Err fault) after follows is =
      (keys, SignatureVerified own, is.1, follows, (is.0, refl))
  checks keys (Complete own) text (Err fault) after follows is = (keys, Complete own, is.1, follows, (is.0, refl))

  -- an outcome without data
  pub concludes : (keys : Option ClientKeys) (state : ClientState) (answer : Result (Unit {0}) ScramErrorKind)
      (after : ClientSide) → Follows Same keys state
      → ConcludesIn (rekeyed keys state) (made side other (rekeyed keys state)) answer after
      → Moved Same side channel other (λ next. ConcludesIn state (made side channel state) answer next) after
  concludes keys (SignatureVerified own) (Ok verified) after follows is = (keys, Complete own, is, follows, refl)
  concludes keys (SignatureVerified own) (Err fault) after follows is = absurd is
  concludes keys ClientInitial (Ok verified) after follows is = absurd is
  concludes keys (ClientFirstSent nonce bare) (Ok verified) after follows is = absurd is
  concludes keys (ClientFinalSent signature own) (Ok verified) after follows is = absurd is
  concludes keys (Complete own) (Ok verified) after follows is = absurd is
  concludes keys ClientInitial (Err fault) after follows is = (keys, ClientInitial, is.1, tt, (is.0, refl))
  concludes keys (ClientFirstSent nonce bare) (Err fault) after follows is =
      (keys, ClientFirstSent nonce bare, is.1, tt, (is.0, refl))
  concludes keys (ClientFinalSent signature own) (Err fault) after follows is =
      (keys, ClientFinalSent signature own, is.1, follows, (is.0, refl))
  concludes keys (Complete own) (Err fault) after follows is = (keys, Complete own, is.1, follows, (is.0, refl))
