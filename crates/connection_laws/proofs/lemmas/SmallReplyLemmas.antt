-- No reply of an unaltered login is too large, by the lengths of its texts.
use Rattle.std.proofs.Common.{◌≡◌, ◌≢◌, ◌⊎◌, ◌≤◌, ◌<◌, ◌+◌, ◌^◌, ℕ, Bool, true, false, Option, Some, None, List, [], ◌∷◌, ◌++◌, codes, length, if◌then◌else◌, nat_lt, refl, sym, ap, ◌∙◌, subst, arith, inl, inr, Result, Ok}
use Rattle.std.specs.Prelude.{slice_get, replicate}
use Rattle.std.specs.Fmt.{decimal}
use Rattle.std.proofs.lemmas.Fmt.{length-decimal-le}
use Rattle.std.proofs.lemmas.List.{length-append, length-replicate}
use Rattle.std.proofs.lemmas.Option.{same_Some}
use Rattle.base64.specs.Rfc4648.{encode_symbols, padding_len, unpadded_len}
use Rattle.base64.proofs.RoundTrip.{length-encode_symbols}
use Rattle.fe2o3_sasl_wire.specs.declared.amqp_types.SaslCode.TheVariants as outcomes
use Rattle.fe2o3_sasl_wire.specs.declared.sasl_frames.error.Error.{Error}
use Rattle.fe2o3_sasl_wire.specs.declared.sasl_frames.error.Error.TheVariants as faults
use Rattle.fe2o3_sasl_wire.specs.declared.sasl_frames.forms.Form.TheVariants.{ThirtyTwo}
use Rattle.fe2o3_sasl_wire.specs.SaslFrames.{SaslFrame, canonical, descriptor_of, list_body}
use Rattle.fe2o3_sasl_wire.specs.SaslFrames as frames
use Rattle.fe2o3_sasl_wire.specs.private.Writing.{canonical_list, count_of, items_of}
use Rattle.fe2o3_scram.specs.declared.hmac.ScramVersion.{ScramVersion}
use Rattle.fe2o3_scram.specs.declared.hmac.ScramVersion.TheVariants.{Sha1, Sha256, Sha512}
use Rattle.fe2o3_scram.specs.declared.scram_messages.error.ScramErrorKind.{ScramErrorKind}
use Rattle.fe2o3_scram.specs.declared.scram_messages.error.ScramErrorKind.TheVariants as kinds
use Rattle.fe2o3_scram.specs.declared.channel_binding.ChannelKind.{ChannelKind}
use Rattle.fe2o3_scram.specs.declared.channel_binding.ChannelKind.TheVariants.{TlsUnique, TlsServerEndPoint, TlsExporter}
use Rattle.fe2o3_scram.specs.declared.scram_messages.client_channel.ClientChannel.{ClientChannel}
use Rattle.fe2o3_scram.specs.declared.scram_messages.client_channel.ClientChannel.TheVariants.{Absent, NotOffered, Bound}
use Rattle.fe2o3_scram.specs.declared.scram_messages.channel_binding_flag.ChannelBindingFlag.TheVariants.{Required}
use Rattle.fe2o3_scram.specs.ChannelBinding.{cbind_input, flag_of, header_text, is_bound, kind_name, mechanism_of, header_of, flag_text, ClientHeader, Gs2Header, authzid_text}
use Rattle.fe2o3_scram.specs.ClientFinal.{ClientFinal, Server, client_final_of, without_proof_with}
use Rattle.fe2o3_scram.specs.ServerFinal.{server_final_of}
use Rattle.fe2o3_scram.specs.ClientFirst.{client_first_bare, client_first_with}
use Rattle.fe2o3_scram.specs.ClientKeys.{ClientKeys, keys_of}
use Rattle.fe2o3_scram.specs.Credentials.{Provider}
use Rattle.fe2o3_scram.specs.Exchanges.{Exchange, first_in, nonce_in}
use Rattle.fe2o3_scram.specs.Escape.{escaped}
use Rattle.fe2o3_scram.specs.Grammar.{is_nonce}
use Rattle.fe2o3_scram.specs.Hmac.{mechanism_name, digest_len}
use Rattle.fe2o3_scram.proofs.lemmas.texts.GrammarLemmas.{is_nonce-base64_text}
use Rattle.fe2o3_scram.specs.Keys.{auth_message, client_key, client_proof, client_signature, stored_key}
use Rattle.fe2o3_scram.specs.Pbkdf2Hi.{salted_of}
use Rattle.fe2o3_scram.specs.Texts.{alphabet, base64_text}
use Rattle.fe2o3_scram.proofs.lemmas.hashes.DigestLemmas.{length-hmac_of}
use Rattle.fe2o3_scram.proofs.lemmas.messages.ExchangeLemmas.{length-exclusive_or}
use Rattle.fe2o3_sasl_core.specs.Bodies.{SpellsBody, carried}
use Rattle.fe2o3_sasl_core.specs.ClientHistory.{Answering, answer_at, ReadsChallenge, ClientAnswers, ClientAllocates, ClientHistory, IsDue, OpenAnswer, VerifiedAnswer}
use Rattle.fe2o3_sasl_core.specs.Events.{Given, Login, login_mechanism, ServerSays, Challenged, Concluded, Failed, ClientSays, Started, Answered, Reported, Refused, scram_fault, login_header}
use Rattle.fe2o3_sasl_core.specs.ServerHistory.{Challenging, Accepted, FitsAsInit, Open, ServerAnswers, ServerAllocates, ServerHistory, first_message, final_message, server_at}
use Rattle.fe2o3_sasl_core.proofs.lemmas.frames.SpellingLemmas.{one_spelling}
use Rattle.fe2o3_sasl_core.proofs.lemmas.histories.OneServerHistoryLemmas.{one_fits}
use Rattle.fe2o3_sasl_core.proofs.lemmas.unaltered.UnalteredReplyLemmas.{NoneMaySign, one_answering}
use Rattle.fe2o3_sasl_negotiation.specs.FrameSizes.{CanBeSent, bytes_for, bytes_for_channel}
use Rattle.fe2o3_sasl_negotiation.proofs.lemmas.FrameSizeLemmas.{inits_fit, outcomes_fit}
use Rattle.connection_laws.specs.Unaltered.{FitsFrames, IsNonce}
use Rattle.fe2o3_sasl_core.specs.declared.sasl_profile.error.ProfileError.TheVariants.{NotImplemented, Frame, OutOfMemory}

-- ---- lengths of texts

pub text_length : (bytes : List ℕ)
    → length (base64_text bytes) ≡ unpadded_len (length bytes) + padding_len (length bytes)
unfolding base64_text
text_length bytes =
    let whole = length-append (encode_symbols alphabet bytes) (replicate (padding_len (length bytes)) 61) in
    omega (
      arith,
      whole,
      length-encode_symbols alphabet bytes,
      length-replicate {A = ℕ} (padding_len (length bytes)) 61,
    )

-- 32 bytes are written in 44
-- a nonce is written with printable characters
pub nonce_is_printable : (nonce : List ℕ) → IsNonce nonce → is_nonce (base64_text nonce) ≡ true
nonce_is_printable nonce is = is_nonce-base64_text nonce is.0 (omega (arith, is.1))

pub nonce_length : (nonce : List ℕ) → length nonce ≡ 32 → length (base64_text nonce) ≡ 44
nonce_length nonce long = omega (arith, long, text_length nonce)

-- 64 bytes in 88
digest_text : (bytes : List ℕ) → length bytes ≤ 64 → length (base64_text bytes) ≤ 88
digest_text bytes few = omega (arith, few, text_length bytes)

short_digest : (version : ScramVersion) (n : ℕ) → n ≡ digest_len version → n ≤ 64
short_digest Sha1 n long = omega (arith, long)
short_digest Sha256 n long = omega (arith, long)
short_digest Sha512 n long = omega (arith, long)

-- a challenge of two nonces of 44 bytes, a salt of at most 285 bytes and a count of 32 bits
pub first_length : (x : Exchange) → length x.client_nonce ≡ 44 → length x.server_nonce ≡ 44 → length x.salt ≤ 285
    → x.count < 2 ^ 32 → length (first_in x) ≤ 487
first_length x mine theirs few small = omega (
  arith,
  mine,
  theirs,
  few,
  length-append (codes "r=" ++ nonce_in x) (codes ",s=" ++ (base64_text x.salt ++ (codes ",i=" ++ decimal x.count))),
  length-append x.client_nonce x.server_nonce,
  length-append (base64_text x.salt) (codes ",i=" ++ decimal x.count),
  text_length x.salt,
  length-decimal-le 10 x.count (omega arith) (omega (arith, small)) (omega (arith, small)),
)

-- a proof by the keys of a record
pub proof_length : (keys : ClientKeys) (version : ScramVersion) (password salt auth : List ℕ) (count : ℕ)
    → keys ≡ keys_of version password salt count → length (client_proof keys.version keys.client_key auth) ≤ 64
proof_length keys version password salt auth count same =
    subst (λ (k : ClientKeys). length (client_proof k.version k.client_key auth) ≤ 64) (sym same)
    (short_digest version (length (client_proof version key auth)) (length-exclusive_or key mac (own ∙ sym other) ∙ own))
  where
    key : List ℕ
    key = client_key version (salted_of version password salt count)

    mac : List ℕ
    mac = client_signature version (stored_key version key) auth

    own : length key ≡ digest_len version
    own = length-hmac_of version _ _

    other : length mac ≡ digest_len version
    other = length-hmac_of version _ _

-- a channel binding of at most 88 bytes
binding_length : (header : ClientHeader) → length (cbind_input header) ≤ 88
    → length (base64_text (cbind_input header)) ≤ 120
binding_length header few = omega (arith, few, text_length (cbind_input header))

-- a response of such a channel binding, two nonces of 44 bytes and a proof of at most 64
pub response_length : (header : ClientHeader) (nonce proof : List ℕ) → length (cbind_input header) ≤ 88
    → length nonce ≡ 88 → length proof ≤ 64 → length (client_final_of (without_proof_with header nonce) proof) ≤ 487
response_length header nonce proof short long few = omega (
  arith,
  long,
  length-append (without_proof_with header nonce) (44 ∷ (codes "p=" ++ base64_text proof)),
  length-append (codes "c=" ++ base64_text (cbind_input header)) (44 ∷ (codes "r=" ++ nonce)),
  binding_length header short,
  digest_text proof few,
)

-- a server-final message
pub final_text_length : (server : Server) (final : ClientFinal) → length (server_final_of server final) ≤ 485
final_text_length server final = omega (
  arith,
  digest_text _ (short_digest server.version _
      (length-hmac_of server.version server.stored.server_key (auth_message server.bare server.first final.without))),
)

final_length : (provider : Provider) (accepted : Accepted) → length (final_message provider accepted) ≤ 485
final_length provider accepted = final_text_length (server_at provider accepted.challenge) accepted.final

-- ---- bodies

-- the list of one mechanism of SCRAM is sent
pub names_fit : (version : ScramVersion) (bound : Bool) → CanBeSent (frames.Mechanisms (mechanism_of version bound ∷ []))
unfolding canonical
names_fit Sha1 false = (_, refl, omega arith)
names_fit Sha256 false = (_, refl, omega arith)
names_fit Sha512 false = (_, refl, omega arith)
names_fit Sha1 true = (_, refl, omega arith)
names_fit Sha256 true = (_, refl, omega arith)
names_fit Sha512 true = (_, refl, omega arith)

-- a mechanism and a GS2 header
short_mechanism : (version : ScramVersion) → length (mechanism_name version) ≤ 13
short_mechanism Sha1 = omega arith
short_mechanism Sha256 = omega arith
short_mechanism Sha512 = omega arith

-- a header has two commas beside its flag and its identity
length-header : (header : Gs2Header) → length (header_text header)
    ≡ length (flag_text header.flag) + length (authzid_text header.acts_for) + 2
length-header header = omega (
  arith,
  length-append (flag_text header.flag) (codes "," ++ (authzid_text header.acts_for ++ codes ",")),
  length-append (authzid_text header.acts_for) (codes ","),
)

length-flag : (kind : ChannelKind) → length (flag_text (Required kind)) ≡ length (kind_name kind) + 2
length-flag TlsUnique = refl
length-flag TlsServerEndPoint = refl
length-flag TlsExporter = refl

-- a mechanism and its flag have at most 14 bytes, and those that the channel needs
start_flag : (version : ScramVersion) (channel : ClientChannel)
    → length (mechanism_of version (is_bound channel)) + length (flag_text (flag_of channel)) ≤ bytes_for_channel channel + 14
start_flag version Absent = omega (arith, short_mechanism version)
start_flag version NotOffered = omega (arith, short_mechanism version)
start_flag version (Bound binding) = omega (
  arith,
  short_mechanism version,
  length-append (mechanism_name version) (codes "-PLUS"),
  length-flag binding.kind,
)

-- a mechanism and its header have at most 16 bytes, and those that the header needs
start_length : (version : ScramVersion) (header : ClientHeader)
    → length (mechanism_of version (is_bound header.channel)) + length (header_text (header_of header)) ≤ bytes_for header + 16
start_length version header = omega (arith, start_flag version header.channel, length-header (header_of header))

-- a client-first message without its header adds five bytes to its name and its nonce
bare_length : (user nonce : List ℕ) → length (client_first_bare user nonce) ≡ length (escaped user) + length nonce + 5
bare_length user nonce = omega (
  arith,
  length-append (codes "n=" ++ escaped user) (44 ∷ (codes "r=" ++ nonce)),
  length-append (codes "n=") (escaped user),
  length-append (codes "r=") nonce,
)

-- the init of a login whose texts fit is sent, with a nonce of 32 bytes
pub login_init_fits : (login : Login) (salt nonce : List ℕ) → FitsFrames login salt → length nonce ≡ 32
    → CanBeSent (frames.Init (login_mechanism login)
    (Some (client_first_with (header_of (login_header login)) login.user (base64_text nonce))) login.hostname)
login_init_fits login salt nonce fits long =
    inits_fit (login_mechanism login) (Some (client_first_with (header_of (login_header login)) login.user (base64_text nonce)))
    login.hostname (omega (
      arith,
      fits.names,
      start_length login.version (login_header login),
      length-append (header_text (header_of (login_header login))) (client_first_bare login.user (base64_text nonce)),
      bare_length login.user (base64_text nonce),
      nonce_length nonce long,
    ))

-- a body of a frame that is sent has at most 512 bytes with its size
pub fits_as : (frame : SaslFrame) (body : List ℕ) → CanBeSent frame → canonical frame ≡ Some body
    → length body + 4 ≤ 512
fits_as frame body sent is =
    let same : sent.0 ≡ body = same_Some sent.0 body (sym sent.1 ∙ is) in
    subst (λ (l : List ℕ). length l + 4 ≤ 512) same sent.2

some_long : (whole body : List ℕ) (b : Bool) → 4 ≤ length whole → (if b then Some whole else None) ≡ Some body
    → 4 ≤ length body
some_long whole body true long is = subst (λ (l : List ℕ). 4 ≤ length l) (same_Some whole body is) long
some_long whole body false long is = absurd (cc)

-- and at least eight
pub long_enough : (frame : SaslFrame) (body : List ℕ) → canonical frame ≡ Some body → 4 ≤ length body
unfolding canonical
long_enough frame body is = some_long
    (2 ∷ 1 ∷ 0 ∷ 0 ∷ 0 ∷ 0x53 ∷ (descriptor_of frame).0 ∷ canonical_list (count_of frame) (items_of frame)) body
    (nat_lt (length (list_body ThirtyTwo (count_of frame) (items_of frame))) (2 ^ 32)) (omega arith) is

-- ---- replies

-- a reply that carries a frame with a body is not too large
carried_is_small : {A : Type 0} (too_large : A) (wraps : List ℕ → A) (written : Option (List ℕ)) (body : List ℕ)
    (says : A) → ((other : List ℕ) → wraps other ≢ too_large) → written ≡ Some body
    → says ≡ carried too_large wraps written → says ≢ too_large
carried_is_small too_large wraps written body says apart is made large =
    apart body (sym (made ∙ ap (λ (w : Option (List ℕ)). carried too_large wraps w) is) ∙ large)

client_memory : (says : ClientSays) → says ≡ Refused OutOfMemory → says ≢ Refused (Frame faults.TooLarge)
client_memory says memory large = cc

server_memory : (says : ServerSays) → says ≡ Failed faults.OutOfMemory → says ≢ Failed faults.TooLarge
server_memory says memory large = cc

scram_is_small : (kind : ScramErrorKind) → Refused (scram_fault kind) ≢ Refused (Frame faults.TooLarge)
scram_is_small kinds.Utf8Error large = cc
scram_is_small kinds.InsufficientParts large = cc
scram_is_small kinds.ExtensionNotSupported large = cc
scram_is_small kinds.NonceNotFound large = cc
scram_is_small kinds.ClientNonceMismatch large = cc
scram_is_small kinds.SaltNotFound large = cc
scram_is_small kinds.Base64DecodeError large = cc
scram_is_small kinds.IterationCountNotFound large = cc
scram_is_small kinds.IterationCountParseError large = cc
scram_is_small kinds.IterationCountTooSmall large = cc
scram_is_small kinds.IterationCountTooLarge large = cc
scram_is_small kinds.MisplacedAttribute large = cc
scram_is_small kinds.NormalizeError large = cc
scram_is_small kinds.StaleKeys large = cc
scram_is_small kinds.HmacErrorInvalidLength large = cc
scram_is_small kinds.XorLengthMismatch large = cc
scram_is_small kinds.IllegalClientState large = cc
scram_is_small kinds.ServerSignatureMismatch large = cc
scram_is_small kinds.OutOfMemory large = cc

module _ (login : Login) (events : List Given) (replies : List ClientSays) (k : ℕ) (event : Given) (says : ClientSays)
    (history : ClientHistory login events replies) (at : slice_get events k ≡ Some event)
    (said : slice_get replies k ≡ Some says) where
  abbrev ClientRow : Result SaslFrame Error → Type 0
  ClientRow spelled = (ClientAllocates login spelled × (says ≡ Refused OutOfMemory))
      ⊎ ClientAnswers login (IsDue events replies k) (OpenAnswer login events replies k)
      (VerifiedAnswer login events replies k) event spelled says

  client_row : (frame : SaslFrame) → SpellsBody event.body (Ok frame) → ClientRow (Ok frame)
  client_row frame spells =
      let row = history.each k event says at said in
      subst (λ (spelled : Result SaslFrame Error). ClientRow spelled)
      (one_spelling event.body row.0 (Ok frame) row.1 spells) row.2

  pub start_is_small : SpellsBody event.body (Ok (frames.Mechanisms (login_mechanism login ∷ [])))
      → CanBeSent (frames.Init (login_mechanism login)
      (Some (client_first_with (header_of (login_header login)) login.user (base64_text event.nonce))) login.hostname)
      → says ≢ Refused (Frame faults.TooLarge)
  start_is_small spells sent large = go (client_row (frames.Mechanisms (login_mechanism login ∷ [])) spells)
    where
      none : says ≢ Refused NotImplemented
      none is = cc

      go : ClientRow (Ok (frames.Mechanisms (login_mechanism login ∷ []))) → ⊥
      go (inl wants) = client_memory says wants.1 large
      go (inr (inl row)) = carried_is_small (Refused (Frame faults.TooLarge)) (λ (b : List ℕ). Started b) _ sent.0 says
          (λ b same. cc) sent.1 row.1 large
      go (inr (inr row)) = none row.1

  pub answer_is_small : (text : List ℕ) (answer : Answering) → SpellsBody event.body (Ok (frames.Challenge text))
      → NoneMaySign login events replies k → ((nonce : List ℕ) → IsDue events replies k nonce → nonce ≡ answer.nonce)
      → ReadsChallenge login (IsDue events replies k) text (Ok answer)
      → CanBeSent (frames.Response (answer_at login answer).message) → says ≢ Refused (Frame faults.TooLarge)
  answer_is_small text answer spells none one reads sent large = go (client_row (frames.Challenge text) spells)
    where
      go : ClientRow (Ok (frames.Challenge text)) → ⊥
      go (inl wants) = client_memory says wants.1 large
      go (inr (inl row)) = none row.0.0 row.0.1
      go (inr (inr (inl row))) = none row.1.0 row.1.1
      go (inr (inr (inr (unsigned, inl row)))) = carried_is_small (Refused (Frame faults.TooLarge)) (λ (b : List ℕ). Answered b)
          (canonical (frames.Response (answer_at login row.0).message)) sent.0 says (λ b same. cc)
          (ap (λ (a : Answering). canonical (frames.Response (answer_at login a).message))
          (one_answering login (IsDue events replies k) text answer row.0 one reads row.1) ∙ sent.1) row.2 large
      go (inr (inr (inr (unsigned, inr row)))) = scram_is_small row.0 (sym row.2 ∙ large)

  pub report_is_small : (text : List ℕ) → SpellsBody event.body (Ok (frames.Outcome outcomes.Ok (Some text)))
      → says ≢ Refused (Frame faults.TooLarge)
  report_is_small text spells large = go (client_row (frames.Outcome outcomes.Ok (Some text)) spells)
    where
      reported : says ≢ Reported outcomes.Ok (Some text)
      reported is = cc

      go : ClientRow (Ok (frames.Outcome outcomes.Ok (Some text))) → ⊥
      go (inl wants) = client_memory says wants.1 large
      go (inr (inl row)) = reported row.1
      go (inr (inr row)) = scram_is_small row.0 (sym row.2 ∙ large)

module _ (provider : Provider) (events : List Given) (replies : List ServerSays) (k : ℕ) (event : Given)
    (says : ServerSays) (history : ServerHistory provider events replies) (at : slice_get events k ≡ Some event)
    (said : slice_get replies k ≡ Some says) where
  abbrev pub ServerRow : Result SaslFrame Error → Type 0
  ServerRow spelled = (ServerAllocates spelled × (says ≡ Failed faults.OutOfMemory))
      ⊎ ServerAnswers provider (Open provider events replies k) event spelled says

  pub server_row : (frame : SaslFrame) → SpellsBody event.body (Ok frame) → ServerRow (Ok frame)
  server_row frame spells =
      let row = history.each k event says at said in
      subst (λ (spelled : Result SaslFrame Error). ServerRow spelled)
      (one_spelling event.body row.0 (Ok frame) row.1 spells) row.2

  pub challenge_is_small : (mechanism text : List ℕ) (hostname : Option (List ℕ)) (challenge : Challenging)
      → SpellsBody event.body (Ok (frames.Init mechanism (Some text) hostname))
      → FitsAsInit provider event (frames.Init mechanism (Some text) hostname) challenge
      → CanBeSent (frames.Challenge (first_message challenge)) → says ≢ Failed faults.TooLarge
  challenge_is_small mechanism text hostname challenge spells fits sent large =
      go (server_row (frames.Init mechanism (Some text) hostname) spells)
    where
      go : ServerRow (Ok (frames.Init mechanism (Some text) hostname)) → ⊥
      go (inl wants) = server_memory says wants.1 large
      go (inr (inl row)) = carried_is_small (Failed faults.TooLarge) (λ (b : List ℕ). Challenged b)
          (canonical (frames.Challenge (first_message row.0))) sent.0 says (λ b same. cc)
          (ap (λ (c : Challenging). canonical (frames.Challenge (first_message c)))
          (one_fits provider event (frames.Init mechanism (Some text) hostname) row.0 challenge row.1 fits) ∙ sent.1)
          row.2 large
      go (inr (inr row)) = row.0 challenge fits

  pub ok_is_small : (text : List ℕ) → SpellsBody event.body (Ok (frames.Response text)) → says ≢ Failed faults.TooLarge
  ok_is_small text spells large = go (server_row (frames.Response text) spells)
    where
      go : ServerRow (Ok (frames.Response text)) → ⊥
      go (inl wants) = server_memory says wants.1 large
      go (inr (inl row)) =
          let sent = outcomes_fit outcomes.Ok (Some (final_message provider row.0)) (final_length provider row.0) in
          carried_is_small (Failed faults.TooLarge) (λ (b : List ℕ). Concluded outcomes.Ok b) _ sent.0 says
          (λ b same. cc) sent.1 row.2 large
      go (inr (inr row)) =
          let sent = outcomes_fit outcomes.Auth None (omega arith) in
          carried_is_small (Failed faults.TooLarge) (λ (b : List ℕ). Concluded outcomes.Auth b) _ sent.0 says
          (λ b same. cc) sent.1 row.1 large

-- the outcome of an accepted response is sent
pub ok_fits : (provider : Provider) (accepted : Accepted)
    → CanBeSent (frames.Outcome outcomes.Ok (Some (final_message provider accepted)))
ok_fits provider accepted =
    outcomes_fit outcomes.Ok (Some (final_message provider accepted)) (final_length provider accepted)
