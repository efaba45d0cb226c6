-- Where a client and a server meet: one version, and one login where the AuthMessages are equal.
use Rattle.std.proofs.Common.{◌≡◌, ℕ, Bool, true, false, List, length, subst, sym, ap, ◌∙◌, codes, inl, inr}
use Rattle.fe2o3_scram.specs.declared.hmac.ScramVersion.{ScramVersion}
use Rattle.fe2o3_sasl_core.specs.ClientHistory.{Answering, answer_at}
use Rattle.std.specs.Prelude.{if◌then◌else◌}
use Rattle.fe2o3_scram.specs.ClientFinal.{fit, keys_for}
use Rattle.fe2o3_scram.specs.ClientKeys.{AreSized, ClientKeys, keys_of}
use Rattle.fe2o3_scram.specs.ClientSecret.{Secret, Password, Keys, Both}
use Rattle.fe2o3_scram.specs.Passwords.{password_bytes}
use Rattle.fe2o3_scram.specs.ServerFirst.{ServerFirst}
use Rattle.fe2o3_sasl_core.specs.Events.{IsRecord, IsSecret, Login}
use Rattle.fe2o3_scram.specs.Hmac.{digest_len, hmac_of}
use Rattle.fe2o3_sasl_core.specs.Laws.{AreMatched, MatchEqually, EqualMessagesAgree, NoShortExtensions}
use Rattle.fe2o3_scram.specs.Keys.{stored_key}
use Rattle.fe2o3_sasl_core.specs.ServerHistory.{Accepted}
use Rattle.fe2o3_sasl_core.specs.TwoSides.{Sides, Histories, SignedAnswer, ReportedAnswer, Takes, Shows, Agree, client_message, server_message, keys_at}
use Rattle.fe2o3_scram.specs.Texts.{HasBase64}
use Rattle.fe2o3_scram.proofs.lemmas.hashes.DigestLemmas.{length-hmac_of}
use Rattle.fe2o3_scram.proofs.lemmas.messages.AgreementLemmas.{one_signature, sized_version}
use Rattle.fe2o3_scram.proofs.lemmas.messages.ExchangeLemmas.{length-exclusive_or}
use Rattle.fe2o3_sasl_core.proofs.lemmas.histories.ReportedOkLemmas.{signature_of_ok}
use Rattle.fe2o3_sasl_core.proofs.lemmas.two_sides.EqualMessageLemmas.{SameMessages, same_messages, is_accepted}
use Rattle.fe2o3_sasl_core.proofs.lemmas.two_sides.ReportedAnswerLemmas.{one_reported_answer, one_verifier_text, signed_position}

-- the keys of an answer are as long as a digest, where those of the secret are
pub sized_at : (login : Login) (answer : Answering) → IsSecret login.secret → AreSized (keys_at login answer)
sized_at login answer = sized login.version login.secret answer.first
  where
    of_password : (version : ScramVersion) (password : List ℕ) (first : ServerFirst)
        → AreSized (keys_of version password first.salt first.count)
    of_password version password first =
        (length-hmac_of version _ (codes "Client Key"), length-hmac_of version _ (codes "Server Key"))

    either : (keys other : ClientKeys) → AreSized keys → AreSized other → (own : Bool)
        → AreSized (if own then keys else other)
    either keys other is too true = is
    either keys other is too false = too

    sized : (version : ScramVersion) (secret : Secret) (first : ServerFirst) → IsSecret secret
        → AreSized (keys_for version secret first)
    sized version (Password password) first is = of_password version (password_bytes password) first
    sized version (Keys keys) first is = is
    sized version (Both password keys) first is =
        either keys (keys_of version (password_bytes password) first.salt first.count) is
        (of_password version (password_bytes password) first)
        (fit keys first)

-- the signature that the client waited for is the one that the server gave
abbrev OneSignature : Sides → Answering → Accepted → Type 0
OneSignature sides answer accepted =
    let version = (keys_at sides.login answer).version in
    (version ≡ sides.provider.version)
    × (hmac_of version (keys_at sides.login answer).server_key (client_message sides.login answer)
    ≡ hmac_of version accepted.challenge.stored.server_key (server_message accepted))

pub taken_signature : (sides : Sides) (m n : ℕ) (accepted : Accepted) → Histories sides
    → (takes : Takes sides m n accepted) → (answer : Answering)
    × SignedAnswer sides.login sides.client_events sides.client_replies m takes.more answer
    × OneSignature sides answer accepted
taken_signature sides m n accepted histories takes =
    let stands = signature_of_ok sides.login sides.client_events sides.client_replies m takes.more histories.client
    takes.reported in
    let text = one_verifier_text sides.client_events sides.client_replies m takes.more stands.1 takes.text stands.3
    takes.verifier in
    let signs = subst (λ (z : List ℕ). HasBase64 z 0 (codes "v=") (answer_at sides.login stands.0).signature) text
    stands.4 in
    let keys = keys_at sides.login stands.0 in
    let its_key = accepted.challenge.stored.server_key in
    let signed = one_signature keys.version sides.provider.version keys.server_key its_key
    (client_message sides.login stands.0) (server_message accepted) takes.text signs takes.one in (
      stands.0,
      stands.2,
      (
        signed.0,
        signed.1 ∙ ap (λ (of : ScramVersion). hmac_of of its_key (server_message accepted)) (sym signed.0),
      ),
    )

-- it is that of the answer on which the client reported Ok
signature_at : (sides : Sides) (m n : ℕ) (answer : Answering) (accepted : Accepted) → Histories sides
    → Takes sides m n accepted → ReportedAnswer sides.login sides.client_events sides.client_replies m answer
    → OneSignature sides answer accepted
signature_at sides m n answer accepted histories takes reported =
    let signed = taken_signature sides m n accepted histories takes in
    subst (λ (other : Answering). OneSignature sides other accepted)
    (one_reported_answer sides.login sides.client_events sides.client_replies m signed.0 answer
    (takes.more, takes.reported, signed.1) reported) signed.2

-- a proof that was shown has the length of either side's digest
pub shown_version : (sides : Sides) (k n : ℕ) (answer : Answering) (accepted : Accepted) → IsSecret sides.login.secret
    → Shows sides k n answer accepted → (keys_at sides.login answer).version ≡ sides.provider.version
shown_version sides k n answer accepted held shows =
    let version = (keys_at sides.login answer).version in
    let key = (keys_at sides.login answer).client_key in
    let pad = hmac_of version (stored_key version key) (client_message sides.login answer) in
    let long : length key ≡ digest_len version = (sized_at sides.login answer held).0 in
    let wide : length pad ≡ digest_len version = length-hmac_of version (stored_key version key)
    (client_message sides.login answer) in
    let sized = (is_accepted sides.provider sides.server_events sides.server_replies n accepted
    shows.ok.accepts).names.sized in
    sized_version version sides.provider.version
    (sym long ∙ (sym (length-exclusive_or key pad (long ∙ sym wide)) ∙ (ap length shows.one ∙ sized)))

-- what a meeting says
pub record Met (sides : Sides) (answer : Answering) (accepted : Accepted) : Type 0 where
  pub version : (keys_at sides.login answer).version ≡ sides.provider.version
  pub same : client_message sides.login answer ≡ server_message accepted
      → SameMessages sides.login sides.provider answer accepted

-- where the client took the verifier
pub met_taken : (sides : Sides) (m n : ℕ) (answer : Answering) (accepted : Accepted) → Histories sides
    → IsRecord accepted.challenge.stored → Takes sides m n accepted
    → ReportedAnswer sides.login sides.client_events sides.client_replies m answer → Met sides answer accepted
met_taken sides m n answer accepted histories kept takes reported =
    let place = signed_position sides.login sides.client_events sides.client_replies m reported.0 answer reported.2 in
    record {
      version = (signature_at sides m n answer accepted histories takes reported).0;
      same = same_messages sides place.0 n answer accepted kept place.2 takes.ok.accepts;
    }

-- and where it showed the proof
pub met_shown : (sides : Sides) (k n : ℕ) (answer : Answering) (accepted : Accepted) → IsSecret sides.login.secret
    → IsRecord accepted.challenge.stored → Shows sides k n answer accepted → Met sides answer accepted
met_shown sides k n answer accepted held kept shows = record {
  version = shown_version sides k n answer accepted held shows;
  same = same_messages sides k n answer accepted kept shows.answers shows.ok.accepts;
}

met : (sides : Sides) (answer : Answering) (accepted : Accepted) → MatchEqually sides answer accepted
    → Met sides answer accepted
met sides answer accepted is = go is.matched
  where
    go : AreMatched sides answer accepted → Met sides answer accepted
    go (inl taken) = met_taken sides taken.0 taken.1 answer accepted is.histories is.held taken.2 taken.3
    go (inr shown) = met_shown sides shown.0 shown.1 answer accepted is.secret is.held shown.2

-- both sides mean one login
pub agree : (sides : Sides) (answer : Answering) (accepted : Accepted) → Met sides answer accepted
    → client_message sides.login answer ≡ server_message accepted → Agree sides.login sides.provider answer accepted
agree sides answer accepted is same =
    let messages = is.same same in
    record {
      version = is.version;
      header = messages.header;
      channel = messages.channel;
      user = messages.user;
      nonce = messages.nonce;
      full_nonce = messages.full_nonce;
      salt = messages.salt;
      count = messages.count;
    }

pub equal_messages_agree : EqualMessagesAgree
equal_messages_agree sides answer accepted is =
    agree sides answer accepted (met sides answer accepted is) is.same

pub no_short_extensions : NoShortExtensions
no_short_extensions sides answer accepted is =
    let messages = (met sides answer accepted is).same is.same in
    (messages.not_three, messages.not_four)
