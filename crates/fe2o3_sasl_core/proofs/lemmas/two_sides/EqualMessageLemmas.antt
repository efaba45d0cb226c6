-- What equal AuthMessages of two sides say: they have the values of an exchange, of which `AgreementLemmas` says it.
use Rattle.std.proofs.Common.{◌≡◌, ℕ, Some, None, List, sym, subst}
use Rattle.fe2o3_sasl_wire.specs.SaslFrames as frames
use Rattle.fe2o3_sasl_wire.specs.SaslFrames.{SaslFrame}
use Rattle.fe2o3_scram.specs.Texts.{base64_text, NoComma}
use Rattle.fe2o3_scram.specs.ClientFirst.{NamesClientFirst}
use Rattle.fe2o3_sasl_core.specs.ClientHistory.{Answering, AnswersAt, client_at}
use Rattle.fe2o3_scram.specs.Credentials.{Provider}
use Rattle.fe2o3_sasl_core.specs.Events.{Given, Login, IsRecord, ServerSays, ClientSays, login_header}
use Rattle.fe2o3_scram.specs.ServerFirst.{NamesServerFirst}
use Rattle.fe2o3_sasl_core.specs.ServerHistory.{Challenging, Accepted, FitsAsInit, FitsAsResponse, Open, AcceptsAt, server_at}
use Rattle.fe2o3_sasl_core.specs.TwoSides.{Sides, client_message, server_message}
use Rattle.fe2o3_scram.proofs.lemmas.messages.AgreementLemmas.{ClientHas, SameLogin, ServerHas, same_login}
use Rattle.fe2o3_scram.proofs.lemmas.messages.OneValueLemmas.{names_client_first, names_server_first}
use Rattle.fe2o3_scram.proofs.lemmas.messages.ClientFinalLemmas.{NamesAcceptedFinal, names_client_final}
use Rattle.fe2o3_scram.proofs.lemmas.texts.Base64Lemmas.{no_comma-base64_text}

-- an answer as the client makes it
pub is_answering : (login : Login) (events : List Given) (replies : List ClientSays) (k : ℕ) (answer : Answering)
    → AnswersAt login events replies k answer → ClientHas answer.nonce answer.text answer.first
is_answering login events replies k answer is =
    let due = is.4.2 in
    record {
      plain = subst NoComma (sym due.2.2) (no_comma-base64_text due.2.0.nonce);
      names =
          subst (λ (text : List ℕ). NamesServerFirst text answer.first) (sym is.4.1)
          (names_server_first (client_at login answer.nonce) is.1 answer.first is.4.3);
    }

-- a challenge as the server makes it
pub record IsChallenging (provider : Provider) (event : Given) (challenge : Challenging) : Type 0 where
  pub text : List ℕ
  pub names : NamesClientFirst provider.rules text challenge.client
  pub known : provider.records challenge.client.user ≡ Some challenge.stored
  pub nonce : challenge.nonce ≡ base64_text event.nonce

pub is_challenging : (provider : Provider) (event : Given) (frame : SaslFrame) (challenge : Challenging)
    → FitsAsInit provider event frame challenge → IsChallenging provider event challenge
is_challenging provider event (frames.Mechanisms names) challenge fits = absurd fits
is_challenging provider event (frames.Challenge text) challenge fits = absurd fits
is_challenging provider event (frames.Response text) challenge fits = absurd fits
is_challenging provider event (frames.Outcome code more) challenge fits = absurd fits
is_challenging provider event (frames.Init mechanism None hostname) challenge fits = absurd fits
is_challenging provider event (frames.Init mechanism (Some text) hostname) challenge fits =
    record {
      text = text;
      names = names_client_first provider.rules text challenge.client fits.1;
      known = fits.2;
      nonce = fits.3;
    }

-- what fits as response answers the challenge that is open, and names its values
pub fits_open : (provider : Provider) (IsOpen : Challenging → Type 0) (frame : SaslFrame) (accepted : Accepted)
    → FitsAsResponse provider IsOpen frame accepted
    → IsOpen accepted.challenge × ((text : List ℕ) × NamesAcceptedFinal
    (server_at provider accepted.challenge) text accepted.final)
fits_open provider IsOpen (frames.Mechanisms names) accepted fits = absurd fits
fits_open provider IsOpen (frames.Challenge text) accepted fits = absurd fits
fits_open provider IsOpen (frames.Outcome code more) accepted fits = absurd fits
fits_open provider IsOpen (frames.Init mechanism response hostname) accepted fits = absurd fits
fits_open provider IsOpen (frames.Response text) accepted fits =
    (fits.0, (text, names_client_final (server_at provider accepted.challenge) text accepted.final fits.1))

-- its challenge is open there
pub accepts_open : (provider : Provider) (events : List Given) (replies : List ServerSays) (n : ℕ) (accepted : Accepted)
    → AcceptsAt provider events replies n accepted → Open provider events replies n accepted.challenge
accepts_open provider events replies n accepted is =
    (fits_open provider (Open provider events replies n) is.1 accepted is.4).0

-- a response as the server accepts it
pub is_accepted : (provider : Provider) (events : List Given) (replies : List ServerSays) (n : ℕ) (accepted : Accepted)
    → AcceptsAt provider events replies n accepted → let challenge = accepted.challenge in
    ServerHas provider.version provider.rules provider.rights challenge.client challenge.nonce challenge.stored accepted.final
is_accepted provider events replies n accepted is =
    let fits = fits_open provider (Open provider events replies n) is.1 accepted is.4 in
    let at = fits.0.2 in
    let challenge = is_challenging provider at.0 at.1 accepted.challenge at.4 in
    record {
      init = challenge.text;
      response = fits.1.0;
      plain = subst NoComma (sym challenge.nonce) (no_comma-base64_text at.0.nonce);
      first = challenge.names;
      names = fits.1.1;
    }

-- equal AuthMessages of an answer and of what was accepted mean one login
abbrev pub SameMessages : Login → Provider → Answering → Accepted → Type 0
SameMessages login provider answer accepted =
    SameLogin (login_header login) provider.rules login.user answer.nonce answer.text answer.first
    accepted.challenge.client accepted.challenge.nonce accepted.challenge.stored accepted.final.without

pub same_messages : (sides : Sides) (k n : ℕ) (answer : Answering) (accepted : Accepted)
    → IsRecord accepted.challenge.stored
    → AnswersAt sides.login sides.client_events sides.client_replies k answer
    → AcceptsAt sides.provider sides.server_events sides.server_replies n accepted
    → client_message sides.login answer ≡ server_message accepted
    → SameMessages sides.login sides.provider answer accepted
same_messages sides k n answer accepted kept answers accepts same =
    let challenge = accepted.challenge in
    same_login (login_header sides.login) sides.provider.rules sides.login.user answer.nonce answer.text answer.first
    sides.provider.version challenge.client
    challenge.nonce challenge.stored accepted.final (kept.count, kept.salt, kept.stored_key, kept.server_key)
    (is_answering sides.login sides.client_events sides.client_replies k answer answers)
    (is_accepted sides.provider sides.server_events sides.server_replies n accepted accepts) same
