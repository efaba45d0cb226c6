-- What the login of a SCRAM client says of a server of all mechanisms: `clients_agree_with_servers`, `clients_agree_on_all`,
-- `clients_bind_channels_of_servers`.
use Rattle.std.proofs.Common.{◌≡◌, ◌≢◌, ◌⊎◌, ◌∙◌, ℕ, Bool, Some, List, ap, codes, sym, subst, inl, inr}
use Rattle.fe2o3_scram.specs.BoundChannels.{BindOne}
use Rattle.fe2o3_scram.specs.ChannelBinding.{Gs2Header, expected_header, is_strict, needs_strict}
use Rattle.fe2o3_scram.specs.Extensions.{HasAttributeFrom}
use Rattle.fe2o3_scram.specs.Hmac.{hmac_of}
use Rattle.fe2o3_scram.specs.Texts.{HasBase64, NoComma, Part}
use Rattle.fe2o3_scram.specs.declared.channel_binding.ChannelBindings.{ChannelBindings}
use Rattle.fe2o3_scram.specs.declared.hmac.ScramVersion.{ScramVersion}
use Rattle.fe2o3_scram.specs.declared.scram_messages.client_channel.ClientChannel.TheVariants.{Absent}
use Rattle.fe2o3_scram.proofs.lemmas.messages.AgreementLemmas.{ServerHas, one_signature, same_login}
use Rattle.fe2o3_scram.proofs.lemmas.messages.BoundChannelLemmas.{one_channel}
use Rattle.fe2o3_scram.proofs.lemmas.messages.ClientFinalLemmas.{names_client_final}
use Rattle.fe2o3_scram.proofs.lemmas.messages.OneValueLemmas.{names_client_first}
use Rattle.fe2o3_scram.proofs.lemmas.messages.StrictSideLemmas.{none_after_count, none_after_nonce, none_before_proof, strict_of_channel, strict_or}
use Rattle.fe2o3_scram.proofs.lemmas.texts.Base64Lemmas.{no_comma-base64_text}
use Rattle.fe2o3_sasl_core.specs.ClientHistory.{Answering, AnswersAt, answer_at, client_at}
use Rattle.fe2o3_sasl_core.specs.Events.{IsLogin, Login, login_header}
use Rattle.fe2o3_sasl_core.specs.Headline.{VerifierAgrees}
use Rattle.fe2o3_sasl_core.specs.Laws.{HoldsRecords}
use Rattle.fe2o3_sasl_core.specs.ServerHistory.{Accepted, final_message, server_at}
use Rattle.fe2o3_sasl_core.specs.Servers.{ServerSettings, rules_by, sasl_machine}
use Rattle.fe2o3_sasl_core.specs.TwoSides.{Agree, MessagesCollide, NoneMisplacedIn, ReportedAnswer, client_message, keys_at, server_message}
use Rattle.fe2o3_sasl_core.proofs.lemmas.histories.ReportedOkLemmas.{signature_of_ok}
use Rattle.fe2o3_sasl_core.proofs.lemmas.machines.OfferedScramLemmas.{offered_scrams_keep_channels}
use Rattle.fe2o3_sasl_core.proofs.lemmas.two_sides.EqualMessageLemmas.{is_answering}
use Rattle.fe2o3_sasl_core.proofs.lemmas.two_sides.MeetingSidesLemmas.{Met, agree}
use Rattle.fe2o3_sasl_core.proofs.lemmas.two_sides.ReportedAnswerLemmas.{one_verifier_text, signed_position}
use Rattle.fe2o3_sasl.proofs.lemmas.two_sides.VerdictLemmas.{same_or_not}
use Rattle.fe2o3_sasl_negotiation.proofs.lemmas.LoginLemmas.{scram_clients_report}
use Rattle.connection_laws.specs.ConnectionLogins.{new_server}
use Rattle.connection_laws.specs.Pairs.{BindOneOrCollide, ClientOf, ReportsLast}
use Rattle.connection_laws.specs.ServerPairs.{AcceptsScram, AgreeOnAll, ClientsAgreeOnAll, ClientsAgreeWithServers, ClientsBindChannelsOfServers, OneRejectsMisplaced, pair_of, scram_of}
use Rattle.connection_laws.specs.Servers.{ServerBy}
use Rattle.connection_laws.proofs.lemmas.PairLemmas.{reports_last}

module _ (login : Login) (settings : ServerSettings) (version : ScramVersion) (plus : Bool) (client : ClientOf login)
    (server : ServerBy sasl_machine (new_server settings)) (accepted : Accepted)
    (accepts : AcceptsScram settings version plus server.connection.events accepted) where
  -- what the server has of the messages
  pub server_has : ServerHas version (rules_by plus settings.rules) settings.rights accepted.challenge.client
      accepted.challenge.nonce accepted.challenge.stored accepted.final
  server_has = record {
    init = accepts.first;
    response = accepts.final;
    plain = subst NoComma (sym accepts.nonce) (no_comma-base64_text accepts.init.nonce);
    first = names_client_first (rules_by plus settings.rules) accepts.first accepted.challenge.client accepts.reads;
    names = names_client_final (server_at (scram_of settings version plus) accepted.challenge) accepts.final accepted.final
        accepts.meets;
  }

  -- equal AuthMessages mean one login
  pub meets : (k : ℕ) (answer : Answering) → HoldsRecords (scram_of settings version plus)
      → AnswersAt login client.connection.events client.connection.replies k answer
      → (keys_at login answer).version ≡ version → Met (pair_of client server version plus) answer accepted
  meets k answer records answers one = record {
    version = one;
    same = λ same.
        let kept = records accepted.challenge.client.user accepted.challenge.stored accepts.known in
        same_login (login_header login) (rules_by plus settings.rules) login.user answer.nonce answer.text answer.first
        version accepted.challenge.client accepted.challenge.nonce accepted.challenge.stored accepted.final
        (kept.count, kept.salt, kept.stored_key, kept.server_key)
        (is_answering login client.connection.events client.connection.replies k answer answers) server_has same;
  }

  -- the server has no attribute in the place of an extension, where it rejects them
  none_misplaced : (k : ℕ) (answer : Answering)
      → AnswersAt login client.connection.events client.connection.replies k answer
      → OneRejectsMisplaced login (scram_of settings version plus) → NoneMisplacedIn answer accepted
  none_misplaced k answer answers (inl strict) =
      inl (subst (λ (text : List ℕ). ¬ HasAttributeFrom 3 text) (sym answers.4.1)
      (none_after_count (client_at login answer.nonce) answers.1 answer.first strict answers.4.3))
  none_misplaced k answer answers (inr strict) = inr (
    none_after_nonce (rules_by plus settings.rules) accepts.first accepted.challenge.client strict accepts.reads,
    none_before_proof (server_at (scram_of settings version plus) accepted.challenge) accepts.final accepted.final
        (strict_or (needs_strict (expected_header (rules_by plus settings.rules).channels accepted.challenge.client.header))
        (is_strict (rules_by plus settings.rules)) strict) accepts.meets,
  )

  -- ---- the verifier that the client took

  -- an answer that the client reported on its signature, whose position is k
  abbrev Signed : ℕ → ℕ → Answering → Type 0
  Signed m k answer = ReportedAnswer login client.connection.events client.connection.replies m answer
      × AnswersAt login client.connection.events client.connection.replies k answer
      × ((keys_at login answer).version ≡ version)
      × (hmac_of (keys_at login answer).version (keys_at login answer).server_key (client_message login answer)
      ≡ hmac_of (keys_at login answer).version accepted.challenge.stored.server_key (server_message accepted))

  signed : (m : ℕ) (text : List ℕ) → ReportsLast client m text
      → Part text 0 (final_message (scram_of settings version plus) accepted)
      → (k : ℕ) × (answer : Answering) × Signed m k answer
  signed m text last part =
      let events = client.connection.events in
      let replies = client.connection.replies in
      let logs = scram_clients_report login client.limit client.pieces client.taken client.sent client.last
      client.connection in
      let stands = signature_of_ok login events replies m last.more logs.history last.reported in
      let answer = stands.0 in
      let one = one_verifier_text events replies m last.more stands.1 text stands.3 last.verifier in
      let signs = subst (λ (z : List ℕ). HasBase64 z 0 (codes "v=") (answer_at login answer).signature) one stands.4 in
      let keys = keys_at login answer in
      let its_key = accepted.challenge.stored.server_key in
      let values = one_signature keys.version version keys.server_key its_key (client_message login answer)
      (server_message accepted) text signs part in
      let place = signed_position login events replies m last.more answer stands.2 in (
        place.0,
        answer,
        (
          (last.more, last.reported, stands.2),
          place.2,
          values.0,
          values.1 ∙ ap (λ (of : ScramVersion). hmac_of of its_key (server_message accepted)) (sym values.0),
        ),
      )

  collides : (m k : ℕ) (answer : Answering) → Signed m k answer → client_message login answer ≢ server_message accepted
      → MessagesCollide (pair_of client server version plus) answer accepted (keys_at login answer).server_key
      accepted.challenge.stored.server_key
  collides m k answer is differ = record { version = is.2; differ = differ; one = is.3 }

  agrees : (m k : ℕ) (answer : Answering) → HoldsRecords (scram_of settings version plus) → Signed m k answer
      → client_message login answer ≡ server_message accepted
      → Agree login (scram_of settings version plus) answer accepted
  agrees m k answer records is same =
      agree (pair_of client server version plus) answer accepted (meets k answer records is.1 is.2) same

  verifier_agrees : (m k : ℕ) (answer : Answering) → HoldsRecords (scram_of settings version plus) → Signed m k answer
      → VerifierAgrees (pair_of client server version plus) m accepted
  verifier_agrees m k answer records is = record {
    answer = answer;
    opened = is.0;
    agrees = agrees m k answer records is;
    collides = collides m k answer is;
  }

  -- ---- all of it

  all_of : (k : ℕ) (answer : Answering) → IsLogin login
      → AnswersAt login client.connection.events client.connection.replies k answer
      → OneRejectsMisplaced login (scram_of settings version plus)
      → Agree login (scram_of settings version plus) answer accepted
      → AgreeOnAll login (scram_of settings version plus) answer accepted
  all_of k answer is answers rejects agrees =
      let apart = none_misplaced k answer answers rejects in
      record {
        version = agrees.version;
        header = agrees.header is.channel apart;
        channel = agrees.channel is.channel apart;
        user = agrees.user;
        nonce = agrees.nonce;
        full_nonce = agrees.full_nonce (inr apart);
        salt = agrees.salt (inr apart);
        count = agrees.count (inr apart);
      }

  on_all : (m k : ℕ) (answer : Answering) → IsLogin login → HoldsRecords (scram_of settings version plus)
      → Signed m k answer → OneRejectsMisplaced login (scram_of settings version plus)
      → AgreeOnAll login (scram_of settings version plus) answer accepted
      ⊎ MessagesCollide (pair_of client server version plus) answer accepted (keys_at login answer).server_key
      accepted.challenge.stored.server_key
  on_all m k answer is records signs rejects =
      go (same_or_not (client_message login answer) (server_message accepted))
    where
      go : (client_message login answer ≡ server_message accepted) ⊎ (client_message login answer ≢ server_message accepted)
          → AgreeOnAll login (scram_of settings version plus) answer accepted
          ⊎ MessagesCollide (pair_of client server version plus) answer accepted (keys_at login answer).server_key
          accepted.challenge.stored.server_key
      go (inl same) = inl (all_of k answer is signs.1 rejects (agrees m k answer records signs same))
      go (inr differ) = inr (collides m k answer signs differ)

  -- ---- two channels

  pub bind_one : (k : ℕ) (answer : Answering) (channels : ChannelBindings) → IsLogin login
      → AnswersAt login client.connection.events client.connection.replies k answer → login.channel ≢ Absent
      → settings.rules.channels ≡ Some channels → Agree login (scram_of settings version plus) answer accepted
      → BindOne login.channel (scram_of settings version plus)
  bind_one k answer channels is answers has known agrees =
      let rules = rules_by plus settings.rules in
      let all = all_of k answer is answers (inl (strict_of_channel (login_header login) login.strict has)) agrees in
      let found = one_channel login.channel rules.channels rules.accept_cbind_flag_y accepted.challenge.client.header.flag
      has (offered_scrams_keep_channels plus settings.rules channels known).1
      (ap (λ (header : Gs2Header). header.flag) all.header) server_has.first.header.0 all.channel in (
        found.0,
        found.1,
        record {
          channels = found.2.0;
          known = found.2.1;
          binds = found.2.2;
          kind = found.2.3;
          same = found.2.4;
        },
      )

  bind_or_collide : (m k : ℕ) (answer : Answering) (channels : ChannelBindings) → IsLogin login
      → HoldsRecords (scram_of settings version plus) → Signed m k answer → login.channel ≢ Absent
      → settings.rules.channels ≡ Some channels
      → BindOneOrCollide (pair_of client server version plus) answer accepted
  bind_or_collide m k answer channels is records signs has known =
      go (same_or_not (client_message login answer) (server_message accepted))
    where
      go : (client_message login answer ≡ server_message accepted) ⊎ (client_message login answer ≢ server_message accepted)
          → BindOneOrCollide (pair_of client server version plus) answer accepted
      go (inl same) = inl (bind_one k answer channels is signs.1 has known (agrees m k answer records signs same))
      go (inr differ) = inr (collides m k answer signs differ)

-- ---- the laws

pub clients_agree_with_servers : ClientsAgreeWithServers
clients_agree_with_servers login settings version plus client server records logged =
    let last = reports_last login client logged in (
      last.0,
      last.1,
      last.2,
      λ accepted accepts part. let (k, answer, is) =
          signed login settings version plus client server accepted accepts last.0 last.1 last.2 part in
          verifier_agrees login settings version plus client server accepted accepts last.0 k answer records is,
    )

pub clients_agree_on_all : ClientsAgreeOnAll
clients_agree_on_all login settings version plus client server is records rejects logged =
    let last = reports_last login client logged in (
      last.0,
      last.1,
      last.2,
      λ accepted accepts part. let (k, answer, signs) =
          signed login settings version plus client server accepted accepts last.0 last.1 last.2 part in (
            answer,
            signs.0,
            on_all login settings version plus client server accepted accepts last.0 k answer is records signs rejects,
          ),
    )

pub clients_bind_channels_of_servers : ClientsBindChannelsOfServers
clients_bind_channels_of_servers login settings version plus channels client server is records has known logged =
    let last = reports_last login client logged in (
      last.0,
      last.1,
      last.2,
      λ accepted accepts part. let (k, answer, signs) =
          signed login settings version plus client server accepted accepts last.0 last.1 last.2 part in (
            answer,
            signs.0,
            bind_or_collide login settings version plus client server accepted accepts last.0 k answer channels is records
                signs has known,
          ),
    )
