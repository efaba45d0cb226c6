-- What a proof says that a SCRAM client showed and a server of all mechanisms accepted: `proofs_at_servers_are_judged`,
-- `proofs_at_servers_bind_channels`.
use Rattle.std.proofs.Common.{◌≡◌, ◌≢◌, ◌∙◌, ℕ, Bool, Some, ap, length, sym}
use Rattle.fe2o3_scram.specs.BoundChannels.{BindOne}
use Rattle.fe2o3_scram.specs.Hmac.{digest_len, hmac_of}
use Rattle.fe2o3_scram.specs.Keys.{stored_key}
use Rattle.fe2o3_scram.specs.declared.channel_binding.ChannelBindings.{ChannelBindings}
use Rattle.fe2o3_scram.specs.declared.hmac.ScramVersion.{ScramVersion}
use Rattle.fe2o3_scram.specs.declared.scram_messages.client_channel.ClientChannel.TheVariants.{Absent}
use Rattle.fe2o3_scram.proofs.lemmas.hashes.DigestLemmas.{length-hmac_of}
use Rattle.fe2o3_scram.proofs.lemmas.messages.AgreementLemmas.{sized_version}
use Rattle.fe2o3_scram.proofs.lemmas.messages.ExchangeLemmas.{length-exclusive_or}
use Rattle.fe2o3_sasl_core.specs.ClientHistory.{Answering}
use Rattle.fe2o3_sasl_core.specs.Events.{IsLogin, IsSecret, Login}
use Rattle.fe2o3_sasl_core.specs.Laws.{HoldsRecords}
use Rattle.fe2o3_sasl_core.specs.ServerHistory.{Accepted}
use Rattle.fe2o3_sasl_core.specs.Servers.{ServerSettings, sasl_machine}
use Rattle.fe2o3_sasl_core.specs.TwoSides.{client_message, keys_at}
use Rattle.fe2o3_sasl_core.specs.Verdicts.{Agreed, JudgesProof, OtherKey, SameHash, SameMac, Verdict}
use Rattle.fe2o3_sasl_core.proofs.lemmas.two_sides.MeetingSidesLemmas.{sized_at}
use Rattle.fe2o3_sasl.proofs.lemmas.two_sides.VerdictLemmas.{proof_judged}
use Rattle.connection_laws.specs.ConnectionLogins.{new_server}
use Rattle.connection_laws.specs.Pairs.{ClientOf, IfAgreed}
use Rattle.connection_laws.specs.ServerPairs.{AcceptsScram, ProofsAtServersAreJudged, ProofsAtServersBindChannels, ShowsProof, pair_of, scram_of}
use Rattle.connection_laws.specs.Servers.{ServerBy}
use Rattle.connection_laws.proofs.lemmas.ServerPairLemmas.{bind_one, meets, server_has}

module _ (login : Login) (settings : ServerSettings) (version : ScramVersion) (plus : Bool) (client : ClientOf login)
    (server : ServerBy sasl_machine (new_server settings)) (accepted : Accepted)
    (accepts : AcceptsScram settings version plus server.connection.events accepted) where
  -- a proof that was shown has the length of either side's digest
  shown_version : (k : ℕ) (answer : Answering) → IsSecret login.secret → ShowsProof client k answer accepted
      → (keys_at login answer).version ≡ version
  shown_version k answer held shows =
      let own = (keys_at login answer).version in
      let key = (keys_at login answer).client_key in
      let pad = hmac_of own (stored_key own key) (client_message login answer) in
      let long : length key ≡ digest_len own = (sized_at login answer held).0 in
      let wide : length pad ≡ digest_len own = length-hmac_of own (stored_key own key) (client_message login answer) in
      let sized = (server_has login settings version plus client server accepted accepts).names.sized in
      sized_version own version
      (sym long ∙ (sym (length-exclusive_or key pad (long ∙ sym wide)) ∙ (ap length shows.one ∙ sized)))

  judged : (k : ℕ) (answer : Answering) → IsSecret login.secret → HoldsRecords (scram_of settings version plus)
      → ShowsProof client k answer accepted
      → (verdict : Verdict) × JudgesProof (pair_of client server version plus) answer accepted verdict
  judged k answer held records shows = proof_judged (pair_of client server version plus) answer accepted (record {
    met = meets login settings version plus client server accepted accepts k answer records shows.answers
        (shown_version k answer held shows);
    sized = sized_at login answer held;
    one = shows.one;
    meets = (server_has login settings version plus client server accepted accepts).names.accepted.0;
  })

  agreed_bind : (k : ℕ) (answer : Answering) (channels : ChannelBindings) → IsLogin login → login.channel ≢ Absent
      → settings.rules.channels ≡ Some channels → ShowsProof client k answer accepted → (verdict : Verdict)
      → JudgesProof (pair_of client server version plus) answer accepted verdict
      → IfAgreed (BindOne login.channel (scram_of settings version plus)) verdict
  agreed_bind k answer channels is has known shows (Agreed user nonce parameters) judges =
      bind_one login settings version plus client server accepted accepts k answer channels is shows.answers has known
      judges.1.1
  agreed_bind k answer channels is has known shows (SameMac client_key client_text server_key server_text) judges = tt
  agreed_bind k answer channels is has known shows (SameHash client_key recovered) judges = tt
  agreed_bind k answer channels is has known shows OtherKey judges = tt

pub proofs_at_servers_are_judged : ProofsAtServersAreJudged
proofs_at_servers_are_judged login settings version plus client server accepted held records accepts k answer shows =
    judged login settings version plus client server accepted accepts k answer held records shows

pub proofs_at_servers_bind_channels : ProofsAtServersBindChannels
proofs_at_servers_bind_channels login settings version plus channels client server accepted is held records has known
    accepts k answer shows =
    let (verdict, judges) = judged login settings version plus client server accepted accepts k answer held records shows in (
      verdict,
      judges,
      agreed_bind login settings version plus client server accepted accepts k answer channels is has known shows verdict
          judges,
    )
