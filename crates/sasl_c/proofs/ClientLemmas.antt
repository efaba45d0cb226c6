-- That what a client answers has room, and what the structs of a client show of it.
use Rattle.std.proofs.Common.{true, false, arith, refl, sym, inl, inr, ap, ◌≢◌, ◌∙◌, ◌≡◌, ◌≤◌, ◌<◌, ◌+◌, ◌⊎◌, [], ℕ, List, length, take}
use Rattle.std.proofs.Math.Dec.{eqb}
use Rattle.std.proofs.lemmas.Bool.{cases_lt}
use Rattle.std.proofs.lemmas.Bool.Decides.{eqb_tells}
use Rattle.fe2o3_scram.specs.Readings.{IsFirst, NoneHolds}
use Rattle.fe2o3_scram.proofs.lemmas.messages.TestListLemmas.{first_or_none}
use Rattle.std.specs.Prelude.{Option, Some, None, Result, Ok, Err, IfOk, IfErr, ◌||◌}
use Rattle.fe2o3_scram.specs.ChannelBinding.{ClientHeader, needs_strict}
use Rattle.fe2o3_scram.specs.declared.hmac.ScramVersion.{ScramVersion}
use Rattle.fe2o3_scram.specs.declared.hmac.ScramVersion.TheVariants as versions
use Rattle.fe2o3_scram.specs.ClientFinal.{Answer}
use Rattle.fe2o3_scram.specs.ClientFirst.{client_first_bare}
use Rattle.fe2o3_scram.specs.ClientKeys.{ClientKeys}
use Rattle.fe2o3_scram.specs.ClientSecret.{Secret}
use Rattle.fe2o3_scram.specs.ScramClient.{AnswersIn, VerifiesIn, ClientSide, ClientState, ClientInitial, ClientFirstSent, ClientFinalSent, SignatureVerified, Complete, ChecksSignatureIn, ConcludesIn, with_state, header_in, identity_named}
use Rattle.fe2o3_scram.specs.ServerFirst.{Client, client_of}
use Rattle.fe2o3_scram.specs.ServerFinal.{ReadsServerFinal}
use Rattle.fe2o3_scram.specs.ServerFirstAnswers.{AnswersServerFirst}
use Rattle.fe2o3_scram.specs.declared.client_secret.IterationLimits.{IterationLimits}
use Rattle.fe2o3_scram.specs.Texts.{base64_text}
use Rattle.fe2o3_scram.specs.declared.scram_messages.error.ScramErrorKind.{ScramErrorKind}
use Rattle.fe2o3_scram.specs.declared.scram_messages.error.ScramErrorKind.TheVariants.{IllegalClientState, Utf8Error, OutOfMemory as NoMemory}
use Rattle.std.specs.Str.{IsUtf8}
use Rattle.sasl_c.specs.declared.status.Status.{Status}
use Rattle.sasl_c.specs.declared.status.Status.TheVariants as statuses
use Rattle.sasl_c.specs.declared.login.Login.{Login}
use Rattle.sasl_c.specs.declared.client.ScramClient.{ScramClient as Struct}
use Rattle.sasl_c.specs.Client.{answer_more, AnswersByMessage, AwaitsSignature, Verifies, HasSecret, Holds, IsAnswer, IsClientOf, IsHeaderOf, IsTestedLogin, IsNoLogin, IsNoSecret, IsReached, IsSecretOf, IsSide, IsState, IsVerifyStatus, NotAnswered, Responds, WritesClient, complete_struct, header_tests, name_tests, is_set}
use Rattle.sasl_c.specs.declared.keys.ScramKeys.{ScramKeys as KeysStruct}
use Rattle.sasl_c.specs.Keys.{shown_keys}
use Rattle.sasl_c.specs.Records.{IsVersion}
use Rattle.sasl_c.proofs.ChannelLemmas.{some_channel}
use Rattle.sasl_c.proofs.LoginLemmas.{can_be_named, no_secrets}
use Rattle.sasl_c.proofs.StatusLemmas.{carried}
use Rattle.sasl_c.specs.Status.{client_status}
use Rattle.sasl_c.proofs.ClientRoomLemmas.{answer_fits, binding_fits}

-- the client is of the same login in another state
pub moved_login : (login : Login) (side : ClientSide) (state : ClientState) → IsClientOf login side
    → IsClientOf login (with_state side state)
moved_login login side state is = record {
  version = is.version;
  user = is.user;
  secret = is.secret;
  least = is.least;
  most = is.most;
  header = is.header;
  strict = is.strict;
  signed = is.signed;
}

-- and after an answer
pub answering_login : (login : Login) (state : ClientState) (side next : ClientSide) (text message : List ℕ)
    → AnswersIn state side text (Ok message) next → IsClientOf login side → IsClientOf login next
answering_login login (ClientFirstSent nonce bare) side next text message held is =
    rw held.3 (moved_login login side _ is)
answering_login login ClientInitial side next text message held is = absurd held
answering_login login (ClientFinalSent signature keys) side next text message held is = absurd held
answering_login login (SignatureVerified keys) side next text message held is = absurd held
answering_login login (Complete keys) side next text message held is = absurd held

-- a client of a login that has sent its client-first message, as its struct shows it
abbrev limits_of : Login → IterationLimits
limits_of login = record { min_iterations = login.min_iterations; max_iterations = login.max_iterations }

abbrev first_side : Login → Struct → ScramVersion → Secret → ClientHeader → ClientSide
first_side login before version secret header = record {
  user = login.username.now;
  secret = secret;
  version = version;
  limits = limits_of login;
  channel = header.channel;
  acts_for = header.acts_for;
  strict = is_set login.strict;
  signature_by_challenge = is_set login.signature_by_challenge;
  state =
      ClientFirstSent (base64_text before.nonce) (client_first_bare login.username.now (base64_text before.nonce));
}

is_first_side : (login : Login) (before : Struct) (version : ScramVersion) (secret : Secret) (header : ClientHeader)
    → IsVersion login.version version → IsSecretOf login secret → IsHeaderOf login header → before.state ≡ 1
    → IsSide login before (first_side login before version secret header)
is_first_side login before version secret header known has binds sent = (
  record {
    version = known;
    user = refl;
    secret = has;
    least = refl;
    most = refl;
    header = binds;
    strict = refl;
    signed = refl;
  },
  (sent, refl, refl),
)

-- what such a client knows
abbrev client_by : Login → Secret → ClientHeader → List ℕ → Client
client_by login secret header nonce = client_of nonce secret (limits_of login) header (is_set login.strict)

-- what is held against a text is what that client holds
as_sent : (login : Login) (before : Struct) (version : ScramVersion) (secret : Secret) (header : ClientHeader)
    (nonce bare text : List ℕ)
    (answer : Result Answer ScramErrorKind) → nonce ≡ base64_text before.nonce
    → bare ≡ client_first_bare login.username.now nonce
    → AnswersServerFirst version (client_by login secret header nonce) bare text answer
    → AnswersServerFirst version (client_by login secret header (base64_text before.nonce))
    (client_first_bare login.username.now (base64_text before.nonce)) text answer
as_sent login before version secret header nonce bare text answer spelled first held =
    let user = login.username.now in
    let whole = first ∙ ap (client_first_bare user) spelled in
    carried (λ given. AnswersServerFirst version (client_by login secret header (base64_text before.nonce)) given text
    answer) bare (client_first_bare user (base64_text before.nonce)) whole
    (carried (λ given. AnswersServerFirst version (client_by login secret header given) bare text answer) nonce
    (base64_text before.nonce) spelled held)

-- what it answers by a secret, and what it rejects
pub answered_by : (login : Login) (before : Struct) (version : ScramVersion) (secret : Secret) (header : ClientHeader)
    (nonce bare text : List ℕ)
    (answer : Answer) → IsVersion login.version version → IsSecretOf login secret → IsHeaderOf login header
    → before.state ≡ 1
    → nonce ≡ base64_text before.nonce → bare ≡ client_first_bare login.username.now nonce
    → AnswersServerFirst version
    (client_of nonce secret (record { min_iterations = login.min_iterations; max_iterations = login.max_iterations })
    header (is_set login.strict)) bare text (Ok answer)
    → IsAnswer login before text answer
unfolding AnswersByMessage
answered_by login before version secret header nonce bare text answer known has binds sent spelled first held =
    let side = first_side login before version secret header in (
      with_state side (ClientFinalSent answer.signature (Some answer.keys)),
      (
        side,
        is_first_side login before version secret header known has binds sent,
        (answer, as_sent login before version secret header nonce bare text (Ok answer) spelled first held, refl, refl),
      ),
      refl,
    )

pub refused_by : (login : Login) (before : Struct) (version : ScramVersion) (secret : Secret) (header : ClientHeader)
    (nonce bare text : List ℕ)
    (why : ScramErrorKind) (status : Status) → IsVersion login.version version → IsSecretOf login secret
    → IsHeaderOf login header
    → before.state ≡ 1 → nonce ≡ base64_text before.nonce → bare ≡ client_first_bare login.username.now nonce
    → (why ≢ NoMemory → AnswersServerFirst version
    (client_of nonce secret (record { min_iterations = login.min_iterations; max_iterations = login.max_iterations })
    header (is_set login.strict)) bare text (Err why)) → status ≡ client_status why → status ≢ statuses.OutOfMemory
    → NotAnswered login before text status
unfolding NotAnswered
refused_by login before version secret header nonce bare text why status known has binds sent spelled first held gives other =
    let told : why ≢ NoMemory = λ same. other (gives ∙ ap client_status same) in
    let refuses = as_sent login before version secret header nonce bare text (Err why) spelled first (held told) in
    let side = first_side login before version secret header in
    inr (why, gives, (side, is_first_side login before version secret header known has binds sent, (refuses, refl)))

-- a client that has sent another message last
not_due_in : (user : List ℕ) (before : Struct) (state : ClientState) (side : ClientSide) (text : List ℕ)
    → IsState user before state → before.state ≢ 1 → AnswersIn state side text (Err IllegalClientState) side
not_due_in user before ClientInitial side text is other = (refl, refl)
not_due_in user before (ClientFirstSent nonce bare) side text is other = absurd (other is.0)
not_due_in user before (ClientFinalSent signature keys) side text is other = (refl, refl)
not_due_in user before (SignatureVerified keys) side text is other = (refl, refl)
not_due_in user before (Complete keys) side text is other = (refl, refl)

-- ---- that a login has a client, whatever its struct is

known_of : (number : ℕ) → ((number ≡ 1) ⊎ (number ≢ 1)) → ((number ≡ 256) ⊎ (number ≢ 256))
    → ((number ≡ 512) ⊎ (number ≢ 512))
    → ((version : ScramVersion) × IsVersion number version) ⊎ ((version : ScramVersion) → ¬ IsVersion number version)
known_of number (inl one) second third = inl (versions.Sha1, sym one)
known_of number (inr first) (inl two) third = inl (versions.Sha256, sym two)
known_of number (inr first) (inr second) (inl three) = inl (versions.Sha512, sym three)
known_of number (inr first) (inr second) (inr third) = inr none where
  none : (version : ScramVersion) → ¬ IsVersion number version
  none versions.Sha1 is = first (sym is)
  none versions.Sha256 is = second (sym is)
  none versions.Sha512 is = third (sym is)

equal_or : (a b : ℕ) → (a ≡ b) ⊎ (a ≢ b)
equal_or a b = told (eqb_tells a b) where
  told : ((eqb a b ≡ true) × (a ≡ b)) ⊎ ((eqb a b ≡ false) × (a ≢ b)) → (a ≡ b) ⊎ (a ≢ b)
  told (inl (is, same)) = inl same
  told (inr (is, other)) = inr other

held_by : (kept : KeysStruct)
    → ((version : ScramVersion) × IsVersion kept.version version) ⊎ ((version : ScramVersion)
    → ¬ IsVersion kept.version version) → (128 < kept.salt_len) ⊎ (kept.salt_len ≤ 128)
    → (keys : Option ClientKeys) × Holds kept keys
held_by kept (inl (version, is)) (inr few) = (Some (shown_keys version kept), inl (is, few, refl))
held_by kept (inl (version, is)) (inl wide) = (None, λ keys shows. absurd (omega (arith, wide, shows.1)))
held_by kept (inr none) length = (None, λ keys shows. none keys.version shows.0)

holds : (kept : KeysStruct) → (keys : Option ClientKeys) × Holds kept keys
holds kept = held_by kept (known_of kept.version (equal_or kept.version 1) (equal_or kept.version 256)
    (equal_or kept.version 512)) (cases_lt 128 kept.salt_len)

-- the state of a struct that has not sent its client-first message last
state_of : (user : List ℕ) (before : Struct) → before.state ≢ 1 → (before.state ≡ 2) ⊎ (before.state ≢ 2)
    → (before.state ≡ 4) ⊎ (before.state ≢ 4) → (64 < before.signature_len) ⊎ (before.signature_len ≤ 64)
    → (state : ClientState) × IsState user before state
state_of user before other (inl two) verified (inr few) =
    let keys = holds before.keys in
    (ClientFinalSent (take before.signature_len before.signature) keys.0, (two, few, refl, keys.1))
state_of user before other (inl two) verified (inl wide) =
    (ClientInitial, (other, (λ four. absurd (omega (arith, two, four))), λ is. wide))
state_of user before other (inr none) (inl four) length =
    let keys = holds before.keys in (SignatureVerified keys.0, (four, keys.1))
state_of user before other (inr none) (inr unsigned) length = (ClientInitial, (other, unsigned, λ is. absurd (none is)))

state_by : (user : List ℕ) (before : Struct) → before.state ≢ 1 → (state : ClientState) × IsState user before state
state_by user before other = state_of user before other (equal_or before.state 2) (equal_or before.state 4)
    (cases_lt 64 before.signature_len)

-- a client of the login in this state
abbrev side_with : Login → ScramVersion → Secret → ClientHeader → ClientState → ClientSide
side_with login version secret header state = record {
  user = login.username.now;
  secret = secret;
  version = version;
  limits = limits_of login;
  channel = header.channel;
  acts_for = header.acts_for;
  strict = is_set login.strict;
  signature_by_challenge = is_set login.signature_by_challenge;
  state = state;
}

is_side_with : (login : Login) (before : Struct) (version : ScramVersion) (secret : Secret) (header : ClientHeader)
    (state : ClientState) → IsVersion login.version version → IsSecretOf login secret → IsHeaderOf login header
    → IsState login.username.now before state → IsSide login before (side_with login version secret header state)
is_side_with login before version secret header state known has binds is = (
  record {
    version = known;
    user = refl;
    secret = has;
    least = refl;
    most = refl;
    header = binds;
    strict = refl;
    signed = refl;
  },
  is,
)

secret_of_login : (login : Login) → HasSecret login → (secret : Secret) × IsSecretOf login secret
unfolding HasSecret
secret_of_login login held = held.0

-- a tested login has a header
header_of_login : (login : Login) → NoneHolds (name_tests login) → (header : ClientHeader) × IsHeaderOf login header
header_of_login login none =
    let name = login.acts_for.now in
    let channel = some_channel login.channel_use login.channel_kind login.channel_data_len login.channel_data
    none.1.1.1.1.1 in
    let can = can_be_named name none.1.1.1.0 none.1.1.1.1.0 in
    (record { channel = channel.0; acts_for = identity_named (Some name) }, (channel.1, refl, can))

pub not_due : (login : Login) (before : Struct) (text : List ℕ) (version : ScramVersion)
    → IsVersion login.version version → IsTestedLogin login → before.state ≢ 1
    → NotAnswered login before text (statuses.Client IllegalClientState)
unfolding NotAnswered
not_due login before text version known is other =
    let secret = secret_of_login login is.1 in
    let state = state_by login.username.now before other in
    let header = header_of_login login is.0 in
    let side = side_with login version secret.0 header.0 state.0 in
    inr (
      IllegalClientState,
      refl,
      (
        side,
        is_side_with login before version secret.0 header.0 state.0 known secret.1 header.1 state.1,
        not_due_in login.username.now before state.0 side text state.1 other,
      ),
    )

-- the message is within the bound
pub answer_has_room : (login : Login) (before : Struct) (text message signature : List ℕ) (keys : ClientKeys)
    → (next : ClientSide) × AnswersByMessage login before text message next
    × (next.state ≡ ClientFinalSent signature (Some keys))
    → length message ≤ length text + answer_more login
unfolding AnswersByMessage
answer_has_room login before text message signature keys held =
    let given = held.1.0 in
    omega (
      arith,
      (answer_fits given.state given held.0 text message held.1.2).0,
      binding_fits login (header_in given) held.1.1.0.header,
    )

-- the struct of a client that waits is that of the client after the answer
pub responds : (login : Login) (before after : Struct) (text message signature : List ℕ) (keys : ClientKeys)
    → (next : ClientSide) × AnswersByMessage login before text message next
    × (next.state ≡ ClientFinalSent signature (Some keys))
    → ((user : List ℕ) → IsState user after (ClientFinalSent signature (Some keys)))
    → WritesClient after (ClientFinalSent signature (Some keys)) → IsTestedLogin login
    → Responds login text before after (Ok message)
unfolding Responds AnswersByMessage
responds login before after text message signature keys held waits written tested =
    let next = held.0 in
    let given = held.1.0 in
    let state = carried (IsState next.user after) (ClientFinalSent signature (Some keys)) next.state (sym held.2)
    (waits next.user) in
    let is = answering_login login given.state given next text message held.1.2 held.1.1.0 in
    let writes = carried (WritesClient after) (ClientFinalSent signature (Some keys)) next.state (sym held.2) written in
    (next, held.1, (is, state), writes, tested)

-- other errors
pub no_text : (login : Login) (before : Struct) (text : List ℕ) → ¬ IsUtf8 text
    → Responds login text before before (Err (statuses.Client Utf8Error))
unfolding Responds
no_text login before text wrong = inl (refl, wrong)

pub no_login : (login : Login) (before : Struct) (text : List ℕ) (status : Status) → IsNoLogin login status
    → NotAnswered login before text status
unfolding NotAnswered
no_login login before text status wrong = inl wrong

pub not_answered : (login : Login) (before : Struct) (text : List ℕ) (status : Status) → IsUtf8 text
    → NotAnswered login before text status → Responds login text before before (Err status)
unfolding Responds
not_answered login before text status utf8 wrong = inr (utf8, wrong)

-- a client that has answered always waits for a signature that has room
pub always_waits : (login : Login) (before : Struct) (text message signature : List ℕ) (keys : ClientKeys)
    → (next : ClientSide) × AnswersByMessage login before text message next
    × (next.state ≡ ClientFinalSent signature (Some keys))
    → 64 < length signature → Responds login text before before (Err statuses.TooLong)
unfolding AnswersByMessage
always_waits login before text message signature keys held long =
    let given = held.1.0 in
    let fits = answer_fits given.state given held.0 text message held.1.2 in
    let moved = sym fits.1.2 ∙ held.2 in
    let few = carried (IsReached []) (ClientFinalSent fits.1.0 fits.1.1) (ClientFinalSent signature (Some keys)) moved
    fits.1.3 in
    absurd (omega (arith, few, long))

-- ---- whether the server is authenticated

pub verifying_login : (login : Login) (state : ClientState) (side next : ClientSide) (text : List ℕ)
    → VerifiesIn state side text (Ok tt) next → IsClientOf login side → IsClientOf login next
verifying_login login (ClientFinalSent signature keys) side next text held is =
    rw held.1 (moved_login login side _ is)
verifying_login login ClientInitial side next text held is = absurd held
verifying_login login (ClientFirstSent nonce bare) side next text held is = absurd held
verifying_login login (SignatureVerified keys) side next text held is = absurd held
verifying_login login (Complete keys) side next text held is = absurd held

-- and after a signature in a challenge
pub signing_login : (login : Login) (state : ClientState) (side next : ClientSide) (text : List ℕ)
    (verified : Unit {0}) → ChecksSignatureIn state side text (Ok verified) next → IsClientOf login side
    → IsClientOf login next
signing_login login (ClientFinalSent signature keys) side next text verified held is =
    rw held.1 (moved_login login side _ is)
signing_login login ClientInitial side next text verified held is = absurd held
signing_login login (ClientFirstSent nonce bare) side next text verified held is = absurd held
signing_login login (SignatureVerified keys) side next text verified held is = absurd held
signing_login login (Complete keys) side next text verified held is = absurd held

-- and after the outcome without data
pub concluding_login : (login : Login) (state : ClientState) (side next : ClientSide) (verified : Unit {0})
    → ConcludesIn state side (Ok verified) next → IsClientOf login side → IsClientOf login next
concluding_login login (SignatureVerified keys) side next verified held is =
    rw held (moved_login login side _ is)
concluding_login login ClientInitial side next verified held is = absurd held
concluding_login login (ClientFirstSent nonce bare) side next verified held is = absurd held
concluding_login login (ClientFinalSent signature keys) side next verified held is = absurd held
concluding_login login (Complete keys) side next verified held is = absurd held

done_state : (user other : List ℕ) (before after : Struct) (state : ClientState) (side next : ClientSide)
    (text : List ℕ) → IsState user before state → VerifiesIn state side text (Ok tt) next → after.state ≡ 3
    → after.keys ≡ before.keys → IsState other after next.state
done_state user other before after (ClientFinalSent signature keys) side next text is held done same =
    let moved : next.state ≡ Complete keys = ap (λ (last : ClientSide). last.state) held.1 in
    let kept : Holds after.keys keys = carried (λ given. Holds given keys) before.keys after.keys (sym same) is.3 in
    carried (IsState other after) (Complete keys) next.state (sym moved) (done, kept)
done_state user other before after ClientInitial side next text is held done same = absurd held
done_state user other before after (ClientFirstSent nonce bare) side next text is held done same = absurd held
done_state user other before after (SignatureVerified keys) side next text is held done same = absurd held
done_state user other before after (Complete keys) side next text is held done same = absurd held

pub verifies : (login : Login) (before after : Struct) (side next : ClientSide) (text : List ℕ) (verified : Unit {0})
    → IsSide login before side → VerifiesIn side.state side text (Ok verified) next
    → after ≡ complete_struct before.keys → IsTestedLogin login → Verifies login text before after (Ok tt)
unfolding Verifies
verifies login before after side next text verified is held written tested = (
  side,
  next,
  is,
  held,
  (
    verifying_login login side.state side next text held is.0,
    done_state side.user next.user before after side.state side next text is.1 held
        (ap (λ (client : Struct). client.state) written) (ap (λ (client : Struct). client.keys) written),
  ),
  written,
  tested,
)

pub server_verified : (login : Login) (before after : Struct) (text signature : List ℕ) (version : ScramVersion)
    (header : ClientHeader) (verified : Unit {0}) → IsVersion login.version version → IsTestedLogin login
    → IsHeaderOf login header → AwaitsSignature before → signature ≡ take before.signature_len before.signature
    → ReadsServerFinal (needs_strict header || is_set login.strict) signature text (Ok verified)
    → after ≡ complete_struct before.keys → Verifies login text before after (Ok tt)
server_verified login before after text signature version header verified known is binds waits same reads written =
    let secret = secret_of_login login is.1 in
    let keys = holds before.keys in
    let side = side_with login version secret.0 header (ClientFinalSent signature keys.0) in
    verifies login before after side (with_state side (Complete keys.0)) text verified
    (is_side_with login before version secret.0 header (ClientFinalSent signature keys.0) known secret.1 binds
    (waits.0, waits.1, same, keys.1))
    (reads, refl)
    written is

-- a status other than that of failed memory is of another error
verify_memory : (text : List ℕ) (why : ScramErrorKind) (status : Status) → IsVerifyStatus text why status
    → status ≢ statuses.OutOfMemory → why ≢ NoMemory
verify_memory text why status is other same =
    other (carried (λ (kind : ScramErrorKind). IsVerifyStatus text kind status) why NoMemory same is)

-- the header of a tested login is one
pub tested_header : (login : Login) (status : Status) → IsTestedLogin login → IsFirst (header_tests login) status → ⊥
tested_header login status is first = first_or_none (header_tests login) status first is.0.1.1

pub unverified : (login : Login) (before : Struct) (text signature : List ℕ) (version : ScramVersion)
    (header : ClientHeader) (why : ScramErrorKind) (status : Status) → IsVersion login.version version
    → IsTestedLogin login → IsHeaderOf login header → AwaitsSignature before
    → signature ≡ take before.signature_len before.signature
    → (why ≢ NoMemory → ReadsServerFinal (needs_strict header || is_set login.strict) signature text (Err why))
    → IsVerifyStatus text why status
    → Verifies login text before before (Err status)
unfolding Verifies
unverified login before text signature version header why status known is binds waits same held gives = (
  refl,
  λ other.
      let told : why ≢ NoMemory = verify_memory text why status gives other in
      let secret = secret_of_login login is.1 in
      let keys = holds before.keys in
      let side = side_with login version secret.0 header (ClientFinalSent signature keys.0) in
      inr (
        why,
        gives,
        (
          side,
          is_side_with login before version secret.0 header (ClientFinalSent signature keys.0) known secret.1 binds
              (waits.0, waits.1, same, keys.1),
          (held told, refl),
        ),
      ),
)

-- a client that waits for no signature
not_waiting_in : (user : List ℕ) (before : Struct) (state : ClientState) (side : ClientSide) (text : List ℕ)
    → IsState user before state → ¬ AwaitsSignature before → VerifiesIn state side text (Err IllegalClientState) side
not_waiting_in user before ClientInitial side text is other = (refl, refl)
not_waiting_in user before (ClientFirstSent nonce bare) side text is other = (refl, refl)
not_waiting_in user before (ClientFinalSent signature keys) side text is other = absurd (other (is.0, is.1))
not_waiting_in user before (SignatureVerified keys) side text is other = (refl, refl)
not_waiting_in user before (Complete keys) side text is other = (refl, refl)

any_state : (user : List ℕ) (before : Struct) → (before.state ≡ 1) ⊎ (before.state ≢ 1)
    → (state : ClientState) × IsState user before state
any_state user before (inl one) =
    (ClientFirstSent (base64_text before.nonce) (client_first_bare user (base64_text before.nonce)), (one, refl, refl))
any_state user before (inr other) = state_by user before other

pub not_waiting : (login : Login) (before : Struct) (text : List ℕ) (version : ScramVersion)
    → IsVersion login.version version → IsTestedLogin login → ¬ AwaitsSignature before
    → Verifies login text before before (Err (statuses.Client IllegalClientState))
unfolding Verifies
not_waiting login before text version known is other = (
  refl,
  λ memory.
      let secret = secret_of_login login is.1 in
      let state = any_state login.username.now before (equal_or before.state 1) in
      let header = header_of_login login is.0 in
      let side = side_with login version secret.0 header.0 state.0 in
      inr (
        IllegalClientState,
        refl,
        (
          side,
          is_side_with login before version secret.0 header.0 state.0 known secret.1 header.1 state.1,
          not_waiting_in login.username.now before state.0 side text state.1 other,
        ),
      ),
)

pub no_verification : (login : Login) (before : Struct) (text : List ℕ) (status : Status) → IsNoLogin login status
    → Verifies login text before before (Err status)
unfolding Verifies
no_verification login before text status wrong = (refl, λ other. inl wrong)

pub ruleset verifying = (server_verified, unverified, not_waiting, no_verification)

-- what the client's answer takes
-- why a client whose login has a version and a user has no secret
pub unanswered : (login : Login) (before : Struct) (text : List ℕ) (known : ScramVersion) (status : Status)
    → IsVersion login.version known → NoneHolds (name_tests login) → IsNoSecret login status
    → NotAnswered login before text status
unfolding NotAnswered
unanswered login before text known status is none wrong = inl (inr (none, wrong))

-- what holds of an answer of a call
pub mapped_ok : {A F : Type 0} (P Q : A → Type 0) (result : Result A F) → IfOk result P → ((a : A) → P a → Q a)
    → IfOk result Q
mapped_ok P Q (Ok a) held map = map a held
mapped_ok P Q (Err fault) held map = held

pub mapped_err : {A F : Type 0} (P Q : F → Type 0) (result : Result A F) → IfErr result P
    → ((fault : F) → P fault → Q fault) → IfErr result Q
mapped_err P Q (Ok a) held map = held
mapped_err P Q (Err fault) held map = map fault held

pub ruleset secrets = (unanswered, no_secrets)

pub ruleset answers = (answered_by, refused_by, no_login)

pub ruleset not_dues = (no_login, not_due)

pub ruleset sent = (responds, always_waits, answer_has_room, no_text, not_answered)
