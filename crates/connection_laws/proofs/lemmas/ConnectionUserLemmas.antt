-- What the login of a connection says of its user: `acting_users_have_rights`, `scram_users_meet_records`.
use Rattle.std.proofs.Common.{◌≡◌, ◌∙◌, ℕ, Bool, true, Option, Some, None, List, ◌∷◌, ap, sym, subst, refl}
use Rattle.std.proofs.lemmas.Option.{same_Some}
use Rattle.fe2o3_scram.specs.ActingRights.{may_act}
use Rattle.fe2o3_scram.specs.ServerFirst.{OpenExchange, challenge_of}
use Rattle.fe2o3_scram.specs.Texts.{base64_text}
use Rattle.fe2o3_scram.specs.declared.hmac.ScramVersion.{ScramVersion}
use Rattle.fe2o3_scram.proofs.lemmas.messages.ClientFinalLemmas.{NamesAcceptedFinal, names_client_final}
use Rattle.fe2o3_sasl_core.specs.Servers.{ServerLogin, ServerSettings, acting_of_login, exchange_login, exchange_server, logged_in_at, provider_by, user_of_login}
use Rattle.fe2o3_sasl_core.specs.declared.mechanism.Mechanism.{Mechanism}
use Rattle.fe2o3_sasl_core.specs.declared.mechanism.Mechanism.TheVariants as mechanisms
use Rattle.connection_laws.specs.ConnectionLogins.{ActingUsersHaveRights, AreMessages, MessagesLogIn, ScramMessages, ScramUser, ScramUsersMeetRecords, confirmation}
use Rattle.connection_laws.proofs.lemmas.ConnectionLoginLemmas.{of_login}

-- ---- SCRAM

module _ (settings : ServerSettings) (version : ScramVersion) (plus : Bool) (nonce : List ℕ) (messages : List (List ℕ))
    (login : ServerLogin) (scram : ScramMessages settings version plus nonce messages login) where
  pub scram_user : ScramUser settings version plus nonce scram.first scram.final login
  scram_user =
      let (client, stored, reads, known, made) = scram.begins.0 in
      let provider = provider_by settings version plus in
      let user : scram.opened.1.challenge.user ≡ client.user = λ i. (made i).user in
      let kept : scram.opened.1.stored ≡ stored =
      same_Some scram.opened.1.stored stored
      (sym scram.begins.2 ∙ (ap (λ (name : List ℕ). provider.records name) user ∙ known)) in
      let exchange : scram.opened.1
      ≡ record { challenge = challenge_of client (base64_text nonce) stored; stored = stored } =
      λ i. record { challenge = made i; stored = kept i } in
      let (message, (sent, finals, is)) = scram.meets in
      let names = subst (λ (e : OpenExchange). NamesAcceptedFinal (exchange_server settings version plus e) scram.final sent)
      exchange (names_client_final (exchange_server settings version plus scram.opened.1) scram.final sent finals) in
      let whose = scram.made ∙ ap (λ (e : OpenExchange). exchange_login version plus e) exchange in
      record {
        client = client;
        stored = stored;
        sent = sent;
        reads = reads;
        known = known;
        names = record { binding = names.binding; nonce = names.nonce; proof = names.proof };
        meets = names.accepted.0;
        right = names.accepted.1;
        user = ap (λ (l : ServerLogin). l.user) whose;
        acts_for = ap (λ (l : ServerLogin). l.acts_for) whose;
      }

-- the messages of a login of SCRAM, and what they say
abbrev SaysUser : ServerSettings → ScramVersion → Bool → List ℕ → Option (List ℕ) → List (List ℕ) → ServerLogin → Type 0
SaysUser settings version plus nonce response texts login = (first : List ℕ) × (final : List ℕ)
    × AreMessages settings.extra.initial_response response texts
    (first ∷ final ∷ confirmation settings.extra.signature)
    × ScramUser settings version plus nonce first final login

says_user : (settings : ServerSettings) (version : ScramVersion) (plus : Bool) (nonce : List ℕ) (mechanism : Mechanism)
    (response : Option (List ℕ)) (texts : List (List ℕ)) (login : ServerLogin)
    → MessagesLogIn settings mechanism nonce response texts login → login.mechanism ≡ mechanisms.Scram version plus
    → SaysUser settings version plus nonce response texts login
says_user settings version plus nonce mechanisms.Anonymous response texts login completes is =
    let no = sym (ap (λ (l : ServerLogin). l.mechanism) completes.1) ∙ is in absurd (cc)
says_user settings version plus nonce mechanisms.External response texts login completes is =
    let no = sym (ap (λ (l : ServerLogin). l.mechanism) completes.1.1) ∙ is in absurd (cc)
says_user settings version plus nonce mechanisms.Plain response texts login completes is =
    let no = sym (ap (λ (l : ServerLogin). l.mechanism) completes.2.2) ∙ is in absurd (cc)
says_user settings version plus nonce (mechanisms.Scram own bound) response texts login (messages, are, scram) is =
    let one : mechanisms.Scram own bound ≡ mechanisms.Scram version plus = sym (ap (λ
    (l : ServerLogin). l.mechanism) scram.made) ∙ is in
    let hash : own ≡ version = cc in
    let kind : bound ≡ plus = cc in
    let says = scram_user settings own bound nonce messages login scram in (
      scram.first,
      scram.final,
      subst (λ (all : List (List ℕ)). AreMessages settings.extra.initial_response response texts all) scram.all are,
      subst (λ (p : Bool). ScramUser settings version p nonce scram.first scram.final login) kind
          (subst (λ (v : ScramVersion). ScramUser settings v bound nonce scram.first scram.final login) hash says),
    )

pub scram_users_meet_records : ScramUsersMeetRecords
scram_users_meet_records settings server login version plus some is =
    let logs = of_login settings server login some in
    let (first, final, are, says) = says_user settings version plus logs.init.nonce logs.mechanism logs.response logs.texts login
    logs.completes is in
    record { logs = logs; first = first; final = final; messages = are; says = says }

-- ---- rights

-- a user of this login has the right to its identity
abbrev HasRight : ServerSettings → ServerLogin → List ℕ → Type 0
HasRight settings login identity =
    (user : List ℕ) × (login.user ≡ Some user) × (may_act settings.rights user (Some identity) ≡ true)

has_right : (settings : ServerSettings) (login : ServerLogin) (user identity : List ℕ) (asked : Option (List ℕ))
    → login.user ≡ Some user → login.acts_for ≡ asked → may_act settings.rights user asked ≡ true
    → login.acts_for ≡ Some identity → HasRight settings login identity
has_right settings login user identity asked who whom right is = (
  user,
  who,
  subst (λ (named : Option (List ℕ)). may_act settings.rights user named ≡ true) (sym whom ∙ is) right,
)

rights_of : (settings : ServerSettings) (nonce : List ℕ) (mechanism : Mechanism) (response : Option (List ℕ))
    (texts : List (List ℕ)) (login : ServerLogin) (identity : List ℕ)
    → MessagesLogIn settings mechanism nonce response texts login → login.acts_for ≡ Some identity
    → HasRight settings login identity
rights_of settings nonce mechanisms.Anonymous response texts login identity completes is =
    let no = sym (ap (λ (l : ServerLogin). l.acts_for) completes.1) ∙ is in absurd (cc)
rights_of settings nonce mechanisms.External response texts login identity completes is =
    let no = sym (ap (λ (l : ServerLogin). l.acts_for) completes.1.1) ∙ is in absurd (cc)
rights_of settings nonce mechanisms.Plain response texts login identity (text, are, (parts, lets_in, made)) is =
    has_right settings login parts.user identity _ (ap (λ (l : ServerLogin). l.user) made)
    (ap (λ (l : ServerLogin). l.acts_for) made) lets_in.2.1 is
rights_of settings nonce (mechanisms.Scram version plus) response texts login identity (messages, are, scram) is =
    let says = scram_user settings version plus nonce messages login scram in
    has_right settings login says.client.user identity says.client.header.acts_for says.user says.acts_for says.right is

pub acting_users_have_rights : ActingUsersHaveRights
acting_users_have_rights settings server identity acting = go (logged_in_at server.last.state.stage) refl acting
  where
    go : (found : Option ServerLogin) → logged_in_at server.last.state.stage ≡ found
        → acting_of_login found ≡ Some identity
        → (user : List ℕ) × (user_of_login (logged_in_at server.last.state.stage) ≡ Some user)
        × (may_act settings.rights user (Some identity) ≡ true)
    go None none is = absurd (cc)
    go (Some login) some is =
        let logs = of_login settings server login some in
        let (user, who, right) = rights_of settings logs.init.nonce logs.mechanism logs.response logs.texts login identity
        logs.completes is in
        (user, ap user_of_login some ∙ who, right)
