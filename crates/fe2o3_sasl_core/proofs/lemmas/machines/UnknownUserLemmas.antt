-- An unknown user of a server with mock authentication is answered as a user whose record is the mock record.
use Rattle.std.proofs.Common.{◌≡◌, ℕ, true, false, List, ◌++◌, Option, None, Some, refl, sym, ap, ◌∙◌, subst, get_or, drop, eq-eqb}
use Rattle.std.proofs.lemmas.Option.{same_Some}
use Rattle.std.specs.Prelude.{nat_eq, codes}
use Rattle.fe2o3_sasl_wire.specs.SaslFrames as frames
use Rattle.fe2o3_sasl_wire.specs.SaslFrames.{SaslFrame}
use Rattle.fe2o3_scram.specs.declared.scram_messages.server_rules.ServerRules.{ServerRules}
use Rattle.fe2o3_scram.specs.declared.hmac.ScramVersion.{ScramVersion}
use Rattle.fe2o3_scram.specs.declared.hmac.ScramVersion.TheVariants.{Sha1, Sha256, Sha512}
use Rattle.fe2o3_scram.specs.ActingRights.{Rights}
use Rattle.fe2o3_scram.specs.ClientFinal.{ReadsClientFinal, recovered_key}
use Rattle.fe2o3_scram.specs.Credentials.{Record, Provider, Store}
use Rattle.fe2o3_scram.specs.Hmac.{digest, mechanism_name}
use Rattle.fe2o3_scram.specs.MockSettings.{MockSettings, mock_record, mocking, stored_or}
use Rattle.fe2o3_scram.specs.ScramServer.{ServerState}
use Rattle.fe2o3_scram.proofs.lemmas.providers.MockLemmas.{mock_alike}
use Rattle.fe2o3_sasl_core.specs.AnyMechanismLaws.{Machine}
use Rattle.fe2o3_sasl_core.specs.Costs.{acceptor_hmacs}
use Rattle.fe2o3_sasl_core.specs.Events.{Given}
use Rattle.fe2o3_sasl_core.specs.SaslAcceptor.{Acceptor, ScramAcceptor, acceptor_machine}
use Rattle.fe2o3_sasl_core.specs.ServerHistory.{Accepted, Challenging, FitsAsInit, FitsAsResponse, server_at}
use Rattle.fe2o3_sasl_core.specs.UnknownUsers.{GivesAlike, GivesReplies, SaltTextsDiffer, UnknownCostsAsMock, UnknownIsMock, MockRecordIsMet, mock_server, with_mock, without_user}

-- both servers are one: each name has one record at both
one_server : (rules : ServerRules) (rights : Rights) (mock : MockSettings) (store : Store) (name : List ℕ)
    (state : ServerState)
    → mock_server rules rights mock (without_user store name) state
    ≡ mock_server rules rights mock (with_mock store mock name) state
one_server rules rights mock store name state = λ i. ScramAcceptor (record {
  version = store.version;
  records = λ user. mock_alike mock store.records name user i;
  look_up_cost = 3;
  rules = rules;
  rights = rights;
}) state

-- one state gives one list of replies
one_gives : {S : Type 0} (machine : Machine S) (state other : S) → state ≡ other → GivesAlike machine state other
one_gives {S} machine state other same events replies = (
  subst (λ (at : S). GivesReplies machine at events replies) same,
  subst (λ (at : S). GivesReplies machine at events replies) (sym same),
)

pub unknown_is_mock : UnknownIsMock
unknown_is_mock rules rights mock store name state =
    one_gives acceptor_machine (mock_server rules rights mock (without_user store name) state)
    (mock_server rules rights mock (with_mock store mock name) state) (one_server rules rights mock store name state)

pub unknown_costs_as_mock : UnknownCostsAsMock
unknown_costs_as_mock rules rights mock store name state frame n =
    let same = one_server rules rights mock store name state in (
      subst (λ (at : Acceptor). acceptor_hmacs at frame n) same,
      subst (λ (at : Acceptor). acceptor_hmacs at frame n) (sym same),
    )

-- ---- the proof of an unknown user

-- the record of an unknown user is the mock record
unknown_stored : (provider : Provider) (mock : MockSettings) (user : List ℕ) (stored : Record)
    → stored_or (Some (mock_record mock user)) (provider.records user) ≡ Some stored → provider.records user ≡ None
    → stored ≡ mock_record mock user
unknown_stored provider mock user stored is none =
    same_Some stored (mock_record mock user)
    (sym is ∙ ap (λ (found : Option Record). stored_or (Some (mock_record mock user)) found) none)

challenge_stored : (provider : Provider) (mock : MockSettings) (event : Given) (frame : SaslFrame) (challenge : Challenging)
    → provider.records challenge.client.user ≡ None → FitsAsInit (mocking (Some mock) provider) event frame challenge
    → challenge.stored ≡ mock_record mock challenge.client.user
challenge_stored provider mock event (frames.Init mechanism (Some text) hostname) challenge none fits =
    unknown_stored provider mock challenge.client.user challenge.stored fits.2 none
challenge_stored provider mock event (frames.Init mechanism None hostname) challenge none fits = absurd fits
challenge_stored provider mock event (frames.Response text) challenge none fits = absurd fits
challenge_stored provider mock event (frames.Mechanisms list) challenge none fits = absurd fits
challenge_stored provider mock event (frames.Challenge text) challenge none fits = absurd fits
challenge_stored provider mock event (frames.Outcome code more) challenge none fits = absurd fits

meets_stored : (provider : Provider) (IsOpen : Challenging → Type 0) (frame : SaslFrame) (accepted : Accepted)
    → FitsAsResponse provider IsOpen frame accepted
    → IsOpen accepted.challenge
    × (digest provider.version (recovered_key (server_at provider accepted.challenge) accepted.final)
    ≡ accepted.challenge.stored.stored_key)
unfolding ReadsClientFinal
meets_stored provider IsOpen (frames.Response text) accepted (opened, reads) = (opened, reads.2.0)
meets_stored provider IsOpen (frames.Init mechanism response hostname) accepted fits = absurd fits
meets_stored provider IsOpen (frames.Mechanisms list) accepted fits = absurd fits
meets_stored provider IsOpen (frames.Challenge text) accepted fits = absurd fits
meets_stored provider IsOpen (frames.Outcome code more) accepted fits = absurd fits

pub mock_record_is_met : MockRecordIsMet
mock_record_is_met provider mock events replies n accepted (event, frame, at, spells, fits) none =
    let met = meets_stored (mocking (Some mock) provider) _ frame accepted fits in
    let opening = met.0.2 in
    met.1
    ∙ ap (λ (stored : Record). stored.stored_key)
    (challenge_stored provider mock opening.0 opening.1 accepted.challenge none opening.4)

-- ---- the texts of salts

-- the text whose HMAC value is the salt of a mock record
salt_text : ScramVersion → List ℕ → List ℕ
salt_text version name = codes "Salt:" ++ (mechanism_name version ++ (codes ":" ++ name))

apart : (m n : ℕ) → nat_eq m n ≡ false → m ≡ n → ⊥
apart m n not_one is =
    let yes : nat_eq m n ≡ true = eq-eqb m n is in
    cc

one_salt_text : (version other : ScramVersion) (name other_name : List ℕ)
    → salt_text version name ≡ salt_text other other_name → (version ≡ other) × (name ≡ other_name)
unfolding salt_text
one_salt_text Sha1 Sha1 name other_name is = (refl, ap (drop 17) is)
one_salt_text Sha256 Sha256 name other_name is = (refl, ap (drop 19) is)
one_salt_text Sha512 Sha512 name other_name is = (refl, ap (drop 19) is)
one_salt_text Sha1 Sha256 name other_name is = absurd (apart 49 50 refl (ap (λ (text : List ℕ). get_or text 15 0) is))
one_salt_text Sha1 Sha512 name other_name is = absurd (apart 49 53 refl (ap (λ (text : List ℕ). get_or text 15 0) is))
one_salt_text Sha256 Sha1 name other_name is = absurd (apart 50 49 refl (ap (λ (text : List ℕ). get_or text 15 0) is))
one_salt_text Sha256 Sha512 name other_name is = absurd (apart 50 53 refl (ap (λ (text : List ℕ). get_or text 15 0) is))
one_salt_text Sha512 Sha1 name other_name is = absurd (apart 53 49 refl (ap (λ (text : List ℕ). get_or text 15 0) is))
one_salt_text Sha512 Sha256 name other_name is = absurd (apart 53 50 refl (ap (λ (text : List ℕ). get_or text 15 0) is))

pub salt_texts_differ : SaltTextsDiffer
unfolding salt_text
salt_texts_differ = (salt_text, λ mock name. refl, one_salt_text)
