-- Calls that are passed what one store has of each user are calls of one side: `calls_with_one_store`.
use Rattle.std.proofs.Common.{refl, sym, ap, subst, inl, inr, ◌∙◌, ◌≡◌, ◌↔◌, ◌++◌, ◌∷◌, ℕ, List, []}
use Rattle.std.specs.Prelude.{Bool, true, false, not, is_some, ◌&&◌, ◌||◌, if◌then◌else◌, nat_eq, Option, Some, None, Ok, drop, option_map, take}
use Rattle.std.specs.Cmp.Lexicographic.{pointwise, same_text}
use Rattle.fe2o3_sasl_wire.specs.SaslFrames as frames
use Rattle.fe2o3_sasl_wire.specs.SaslFrames.{SaslFrame}
use Rattle.fe2o3_scram.specs.ActingRights.{Rights, may_act}
use Rattle.fe2o3_scram.specs.ChannelBinding.{is_required, mechanism_of}
use Rattle.fe2o3_scram.specs.Credentials.{Record, VersionedRecord, record_at}
use Rattle.fe2o3_scram.specs.Mixed.{MultiRecords, provider_for}
use Rattle.fe2o3_scram.specs.MockSettings.{mock_record, stored_or}
use Rattle.fe2o3_scram.specs.Passwords.{PasswordText}
use Rattle.fe2o3_scram.specs.ServerFirst.{OpenExchange, ServerChallenge}
use Rattle.fe2o3_scram.specs.declared.hmac.ScramVersion.{ScramVersion}
use Rattle.fe2o3_sasl_core.specs.Bodies.{SpellsBody}
use Rattle.fe2o3_sasl_core.specs.LoginAttempts.{ClaimIn, ClaimsUser}
use Rattle.fe2o3_sasl_core.specs.MockChoices.{MockChoice, mock_for}
use Rattle.fe2o3_sasl_core.specs.PlainServer.{IsTaken, MeetsUser, PlainParts, SpellsPlain, TestedPassword}
use Rattle.fe2o3_sasl_core.specs.SavedServers.{IsRestored, exchange_now, kept_stage, or_no_record, record_now, restored_stage}
use Rattle.fe2o3_sasl_core.specs.Mechanisms.{mechanism_symbol}
use Rattle.fe2o3_sasl_core.specs.Servers.{ExchangeOpen, NotStarted, ResponseAsked, ServerAt, ServerSettings, ServerStage, asked_among, has_hash, is_asked_by, is_offered_by, offer_order, provider_by, rules_by}
use Rattle.fe2o3_sasl_core.specs.declared.server.options.Mechanisms.{Mechanisms}
use Rattle.fe2o3_sasl_core.specs.declared.mechanism.Mechanism.{Mechanism}
use Rattle.fe2o3_sasl_core.specs.declared.mechanism.Mechanism.TheVariants as mechanisms
use Rattle.fe2o3_sasl_core.proofs.lemmas.machines.ClaimLemmas.{claims_what_servers_read}
use Rattle.fe2o3_sasl_negotiation.specs.Connections.{fresh}
use Rattle.fe2o3_sasl_negotiation.specs.Framing.{IsWhole, body_read, size_of, unextended, unit_read, unit_size}
use Rattle.fe2o3_sasl_negotiation.specs.Negotiations.{Completes, IsInTurn, Side}
use Rattle.fe2o3_sasl_negotiation.specs.declared.progress.Expected.{Expected}
use Rattle.fe2o3_sasl_negotiation.specs.declared.progress.Expected.TheVariants.{Frame}
use Rattle.fe2o3_sasl_negotiation.specs.declared.progress.FrameKind.{FrameKind}
use Rattle.fe2o3_sasl_negotiation.specs.declared.progress.FrameKind.TheVariants as turns
use Rattle.fe2o3_sasl_negotiation.specs.declared.progress.Progress.TheVariants.{InProgress}
use Rattle.fe2o3_sasl_negotiation.proofs.lemmas.UnitLemmas.{body_of-framed}
use Rattle.sasl_c.specs.declared.sasl_server.SaslServerConfig.{SaslServerConfig as Config}
use Rattle.sasl_c.specs.declared.sasl_server.SaslServer.{SaslServer as Struct}
use Rattle.sasl_c.specs.declared.server.ScramServer.{ScramServer as ScramStruct}
use Rattle.sasl_c.specs.Acting.{rights_for}
use Rattle.sasl_c.specs.Connection.{IsSideOf, Keeps, accepts_extended}
use Rattle.sasl_c.specs.Peeks.{AnySide}
use Rattle.sasl_c.specs.Rejections.{Logged}
use Rattle.sasl_c.specs.SaslServer.{FrameNames, IsServer, Named, ShowRecords, ShowsSide, mock_of, plain_version_for, read_by}
use Rattle.sasl_c.specs.Server.{ShowsStage}
use Rattle.sasl_c.specs.ServerCalls.{AreStoreSettings, CallsWithOneStoreConnect, CarriesText, CompletesPlain, HasStoredUser, OneConfiguration, RecordsOfOneStore, StoredUsersAreHad, server_with}
use Rattle.sasl_c.proofs.CallLemmas.{IsAlike, IsOfSide, calls_connect, goes_on, is_first, restores_of, same_side, settings_of, shows_going, stored_now}
use Rattle.sasl_c.proofs.CallSettingLemmas.{one_records, over_base}
use Rattle.sasl_c.proofs.CallLooksLemmas.{Looks}
use Rattle.sasl_c.proofs.CallStageLemmas.{FrameAlike, InitAlike, ResponseAlike, over}
use Rattle.sasl_c.proofs.ServerReplyLemmas.{restored_so}

-- ---- what a name asks for

both_true : (one other : Bool) → (one && other) ≡ true → (one ≡ true) × (other ≡ true)
both_true true other is = (refl, is)
both_true false other is = absurd (cc)

module _ (settings : ServerSettings) (name : List ℕ) (mechanism : Mechanism) where
  abbrev IsOffered : Type 0
  IsOffered = (name ≡ mechanism_symbol mechanism) × (is_offered_by settings mechanism ≡ true)

  asked_of : (first : Mechanism) (rest : Option Mechanism) (is : Bool) → is_asked_by settings name first ≡ is
      → (if is then Some first else rest) ≡ Some mechanism → (rest ≡ Some mechanism → IsOffered) → IsOffered
  asked_of first rest true asks same later =
      let one : first ≡ mechanism = cc in
      let both = both_true (is_offered_by settings first) (pointwise nat_eq name (mechanism_symbol first)) asks in
      subst (λ (w : Mechanism). (name ≡ mechanism_symbol w) × (is_offered_by settings w ≡ true)) one
      (same_text name (mechanism_symbol first) (sym both.1), both.0)
  asked_of first rest false asks same later = later same

  asked_offers : (order : List Mechanism) → asked_among settings name order ≡ Some mechanism → IsOffered
  asked_offers [] same = absurd (cc)
  asked_offers (first ∷ others) same =
      asked_of first (asked_among settings name others) _ refl same (asked_offers others)

-- SCRAM with -PLUS is offered only with a channel
plus_of : (plus : Bool) (settings : ServerSettings) (version : ScramVersion)
    → is_offered_by settings (mechanisms.Scram version plus) ≡ true → is_some (rules_by plus settings.rules).channels ≡ plus
plus_of true settings version is =
    (both_true (has_hash settings.mechanisms version) (not true || is_some settings.rules.channels) is).1
plus_of false settings version is = refl

module _ (settings : ServerSettings) (records : MultiRecords) (rights : Rights) (mock : Option MockChoice)
    (plain : ScramVersion) where
  abbrev passed : ServerSettings
  passed = over records rights mock plain settings

  -- both settings have the same of this user, for the texts that are said
  record Agrees (Says : List ℕ → Type 0) (user : List ℕ) : Type 0 where
    scram : (version : ScramVersion) (plus : Bool) → is_offered_by settings (mechanisms.Scram version plus) ≡ true
        → (provider_by passed version plus).records user ≡ (provider_by settings version plus).records user
    plain_meets : (text : List ℕ) (parts : PlainParts) (password : PasswordText) → Says text → SpellsPlain parts text
        → is_offered_by settings mechanisms.Plain ≡ true → TestedPassword settings.plain_passwords parts.password password
        → MeetsUser (provider_for plain records) user password
        ↔ MeetsUser (provider_for settings.plain_version settings.records) user password
    may : (acts_for : Option (List ℕ)) → may_act rights user acts_for ≡ may_act settings.rights user acts_for

  abbrev Init : Mechanism → Option (List ℕ) → Type 0
  Init mechanism response = InitAlike settings records rights mock plain mechanism response

  init_alike : (Says : List ℕ → Type 0) (mechanism : Mechanism) (name text : List ℕ) → Says text
      → name ≡ mechanism_symbol mechanism
      → is_offered_by settings mechanism ≡ true → ((user : List ℕ) → ClaimsUser name text user → Agrees Says user)
      → Init mechanism (Some text)
  init_alike Says (mechanisms.Scram version plus) name text says same offers claims = λ client reads.
      let rules = rules_by plus settings.rules in
      let claim = claims_what_servers_read version rules text client reads in
      let own : mechanism_of version (is_some rules.channels) ≡ name =
      ap (mechanism_of version) (plus_of plus settings version offers) ∙ sym same in
      (claims client.user (subst (λ (n : List ℕ). ClaimsUser n text client.user) own claim)).scram version plus offers
  init_alike Says mechanisms.Plain name text says same offers claims = λ parts. (
    λ lets. let agrees = named parts lets.0 lets.1 in (
      lets.0,
      lets.1,
      (
        (lets.2.0.0, lets.2.0.1, (agrees.plain_meets text parts lets.2.0.0 says lets.0 offers lets.2.0.1).0 lets.2.0.2),
        sym (agrees.may _) ∙ lets.2.1,
      ),
    ),
    λ lets. let agrees = named parts lets.0 lets.1 in (
      lets.0,
      lets.1,
      (
        (lets.2.0.0, lets.2.0.1, (agrees.plain_meets text parts lets.2.0.0 says lets.0 offers lets.2.0.1).1 lets.2.0.2),
        agrees.may _ ∙ lets.2.1,
      ),
    ),
  )
    where
      named : (parts : PlainParts) → SpellsPlain parts text → IsTaken settings.rules.accept_authzid parts
          → Agrees Says parts.user
      named parts spells taken =
          claims parts.user (inr (same, (parts, spells, (tt, taken.1, taken.2, taken.3), refl)))
  init_alike Says mechanisms.Anonymous name text says same offers claims = tt
  init_alike Says mechanisms.External name text says same offers claims = tt

  response_init : (Says : List ℕ → Type 0) (mechanism : Mechanism) (name : List ℕ) (response : Option (List ℕ))
      → ((text : List ℕ) → response ≡ Some text → Says text) → name ≡ mechanism_symbol mechanism
      → is_offered_by settings mechanism ≡ true
      → ((user : List ℕ) → ClaimIn name response (Some user) → Agrees Says user) → Init mechanism response
  response_init Says mechanism name (Some text) says same offers claims =
      init_alike Says mechanism name text (says text refl) same offers claims
  response_init Says (mechanisms.Scram version plus) name None says same offers claims = tt
  response_init Says mechanisms.Plain name None says same offers claims = tt
  response_init Says mechanisms.Anonymous name None says same offers claims = tt
  response_init Says mechanisms.External name None says same offers claims = tt

  offered_so : (mechanism : Mechanism) (nonce : List ℕ) (is : Bool)
      → (if is then ResponseAsked mechanism nonce else NotStarted) ≡ ResponseAsked mechanism nonce → is ≡ true
  offered_so mechanism nonce true same = refl
  offered_so mechanism nonce false same = absurd (cc)

  offered : (mechanism : Mechanism) (nonce : List ℕ) → IsRestored settings (ResponseAsked mechanism nonce)
      → is_offered_by settings mechanism ≡ true
  unfolding IsRestored
  offered mechanism nonce was = offered_so mechanism nonce (is_offered_by settings mechanism) was

  -- the record of a user is one
  one_record : (Says : List ℕ → Type 0) (version : ScramVersion) (plus : Bool) (user : List ℕ)
      → is_offered_by settings (mechanisms.Scram version plus) ≡ true → Agrees Says user
      → record_now passed version plus user ≡ record_now settings version plus user
  one_record Says version plus user offers agrees = ap or_no_record (agrees.scram version plus offers)

  opened_so : (version : ScramVersion) (plus binds : Bool) (exchange now : OpenExchange) (is : Bool)
      → (if is then ExchangeOpen version binds now else NotStarted) ≡ ExchangeOpen version plus exchange → is ≡ true
  opened_so version plus binds exchange now true same = refl
  opened_so version plus binds exchange now false same = absurd (cc)

  opened : (version : ScramVersion) (plus : Bool) (exchange : OpenExchange)
      → IsRestored settings (ExchangeOpen version plus exchange)
      → is_offered_by settings (mechanisms.Scram version (is_required exchange.challenge.header.flag)) ≡ true
  unfolding IsRestored
  opened version plus exchange was = opened_so version plus (is_required exchange.challenge.header.flag) exchange
      (exchange_now settings version exchange.challenge)
      (is_offered_by settings (mechanisms.Scram version (is_required exchange.challenge.header.flag))) was

  response_alike : (scram : ScramStruct) (stage other : ServerStage) (text : List ℕ) → Looks stage other
      → IsRestored settings stage → IsRestored passed other → ShowsStage scram (kept_stage stage)
      → ((user : List ℕ) → FrameNames scram turns.Response (frames.Response text) user
      → Agrees (CarriesText (frames.Response text)) user)
      → ResponseAlike settings records rights mock plain stage other text
  response_alike scram (ResponseAsked mechanism nonce) other text looks was is shows names =
      init_alike (CarriesText (frames.Response text)) mechanism (mechanism_symbol mechanism) text refl refl
      (offered mechanism nonce was)
      (λ user claims. names user (inr (mechanism, nonce, shows, claims)))
  response_alike scram (ExchangeOpen version plus exchange) (ExchangeOpen other_version other_plus other) text looks was is
      shows names =
      let challenge = exchange.challenge in
      let agrees = names challenge.user (inl (challenge, shows.1, refl)) in (
        stored_now passed other_version other_plus other is
            ∙ (ap (λ (v : ScramVersion). record_now passed v (is_required other.challenge.header.flag) other.challenge.user)
            looks.0
            ∙ (ap (λ (c : ServerChallenge). record_now passed version (is_required c.header.flag) c.user) looks.2
            ∙ (one_record (CarriesText (frames.Response text)) version (is_required challenge.header.flag) challenge.user
            (opened version plus exchange was) agrees
            ∙ sym (stored_now settings version plus exchange was)))),
        agrees.may challenge.header.acts_for,
      )
  response_alike scram stage other text looks was is shows names = tt

  carried_so : (name text : List ℕ) (response hostname : Option (List ℕ)) → response ≡ Some text
      → CarriesText (frames.Init name response hostname) text
  carried_so name text None hostname said = absurd (cc)
  carried_so name text (Some own) hostname said = let one : text ≡ own = cc in one

  frame_alike : (scram : ScramStruct) (turn : FrameKind) (stage other : ServerStage) (frame : SaslFrame)
      → IsInTurn turn frame → Looks stage other → IsRestored settings stage → IsRestored passed other
      → ShowsStage scram (kept_stage stage) → ((user : List ℕ) → FrameNames scram turn frame user
      → Agrees (CarriesText frame) user)
      → FrameAlike settings records rights mock plain stage other frame
  frame_alike scram turns.Init stage other (frames.Init name response hostname) in_turn looks was is shows names =
      λ mechanism asks. let offers = asked_offers settings name mechanism offer_order asks in
      response_init (CarriesText (frames.Init name response hostname)) mechanism name response
      (λ text said. carried_so name text response hostname said) offers.0 offers.1 names
  frame_alike scram turns.Response stage other (frames.Response text) in_turn looks was is shows names =
      response_alike scram stage other text looks was is shows names
  frame_alike scram turns.Mechanisms stage other (frames.Init name response hostname) in_turn looks was is shows names =
      absurd in_turn
  frame_alike scram turns.Challenge stage other (frames.Init name response hostname) in_turn looks was is shows names =
      absurd in_turn
  frame_alike scram turns.Response stage other (frames.Init name response hostname) in_turn looks was is shows names =
      absurd in_turn
  frame_alike scram turns.Outcome stage other (frames.Init name response hostname) in_turn looks was is shows names =
      absurd in_turn
  frame_alike scram turns.SignatureChallenge stage other (frames.Init name response hostname) in_turn looks was is shows
      names = absurd in_turn
  frame_alike scram turns.Mechanisms stage other (frames.Response text) in_turn looks was is shows names = absurd in_turn
  frame_alike scram turns.Init stage other (frames.Response text) in_turn looks was is shows names = absurd in_turn
  frame_alike scram turns.Challenge stage other (frames.Response text) in_turn looks was is shows names = absurd in_turn
  frame_alike scram turns.Outcome stage other (frames.Response text) in_turn looks was is shows names = absurd in_turn
  frame_alike scram turns.SignatureChallenge stage other (frames.Response text) in_turn looks was is shows names =
      absurd in_turn
  frame_alike scram turn stage other (frames.Mechanisms offers) in_turn looks was is shows names = tt
  frame_alike scram turn stage other (frames.Challenge text) in_turn looks was is shows names = tt
  frame_alike scram turn stage other (frames.Outcome code more) in_turn looks was is shows names = tt

-- ---- what is named

-- the body that is read
read_so : (accepts : Bool) (turn : FrameKind) (come : List ℕ)
    → drop 4 (unit_read accepts (Frame turn) (take (size_of come) come)) ≡ body_read accepts (drop 4 (take (size_of come) come))
read_so false turn come = refl
read_so true turn come = body_of-framed (unextended (drop 4 (take (size_of come) come)))

frame_completes : (before : Struct) (other : Side Logged) (bytes : List ℕ) (turn : FrameKind) (frame : SaslFrame)
    → Keeps before.connection other.progress other.expected other.held → other.limit ≡ 512 → other.progress ≡ InProgress
    → other.expected ≡ Frame turn → IsWhole other.expected other.limit (other.held ++ bytes)
    → SpellsBody (drop 4 (unit_read (accepts_extended before.connection) other.expected
    (take (unit_size other.expected (other.held ++ bytes)) (other.held ++ bytes)))) (Ok frame)
    → (side : AnySide) × (body : List ℕ) × IsSideOf before.connection side × Completes side bytes turn body
    × SpellsBody (read_by before body) (Ok frame)
frame_completes before other bytes turn frame keeps limit wants due whole spells =
    let come = other.held ++ bytes in
    let accepts = accepts_extended before.connection in
    let side : AnySide = record {
      progress = other.progress;
      expected = other.expected;
      limit = other.limit;
      held = other.held;
      state = tt;
    } in
    let read = subst (λ (e : Expected). SpellsBody (drop 4 (unit_read accepts e (take (unit_size e come) come))) (Ok frame)) due
    spells in (
      side,
      drop 4 (take (size_of come) come),
      (keeps, limit),
      (wants, due, subst (λ (e : Expected). IsWhole e other.limit come) due whole, refl),
      subst (λ (b : List ℕ). SpellsBody b (Ok frame)) (read_so accepts turn come) read,
    )

named_by : (before : Struct) (bytes user : List ℕ) (turn : FrameKind) (frame : SaslFrame)
    → (side : AnySide) × (body : List ℕ) × IsSideOf before.connection side × Completes side bytes turn body
    × SpellsBody (read_by before body) (Ok frame)
    → FrameNames before.scram turn frame user → Named before bytes user
unfolding Named
named_by before bytes user turn frame (side, body, is, done, spells) names =
    (side, turn, body, is, done, (frame, spells, names))

plain_by : (before : Struct) (bytes text : List ℕ) (turn : FrameKind) (frame : SaslFrame) (parts : PlainParts)
    → (side : AnySide) × (body : List ℕ) × IsSideOf before.connection side × Completes side bytes turn body
    × SpellsBody (read_by before body) (Ok frame)
    → CarriesText frame text → SpellsPlain parts text → CompletesPlain before bytes parts
plain_by before bytes text turn frame parts (side, body, is, done, spells) carries parted =
    (side, turn, body, is, done, (frame, text, spells, carries, parted))

keeps_of : (config : Config) (before : Struct) (other : Side Logged) → IsServer config before other
    → Keeps before.connection other.progress other.expected other.held × (other.limit ≡ 512)
unfolding IsServer ShowsSide
keeps_of config before other is = (is.0.0, is.1)

-- ---- the law

-- what a configuration has of a user agrees with what the store has
agrees_so : (Says : List ℕ → Type 0) (settings : ServerSettings) (before : Struct) (bytes : List ℕ) (config : Config)
    (user : List ℕ) (records : MultiRecords) (rights : Rights) (plain : ScramVersion)
    → ((text : List ℕ) (parts : PlainParts) → Says text → SpellsPlain parts text → CompletesPlain before bytes parts)
    → ShowRecords config.username.now config.records.now records
    → rights ≡ rights_for config.username.now config.identities.now → plain ≡ plain_version_for settings.mechanisms records
    → HasStoredUser settings before bytes config user → Agrees settings records rights (mock_of config) plain Says user
agrees_so Says settings before bytes config user records rights plain done shows right first has = record {
  scram = λ version plus offers. has.scram records version plus shows offers;
  plain_meets = λ text parts password says spells offers tested.
      subst (λ (v : ScramVersion). MeetsUser (provider_for v records) user password
      ↔ MeetsUser (provider_for settings.plain_version settings.records) user password) (sym first)
      (has.plain records parts password shows offers (done text parts says spells) tested);
  may = λ acts_for. ap (λ (r : Rights). may_act r user acts_for)
      (right ∙ ap (λ (u : List ℕ). rights_for u config.identities.now) has.username) ∙ has.rights acts_for;
}

-- settings with a store's
over_store : (own settings : ServerSettings) (records : MultiRecords) (rights : Rights) (mock : Option MockChoice)
    (plain : ScramVersion) → settings ≡ over settings.records settings.rights settings.mock settings.plain_version own
    → over records rights mock plain own ≡ over records rights mock plain settings
over_store own settings records rights mock plain same = sym (ap (over records rights mock plain) same)

one_store : (base : Config) (settings : ServerSettings) → AreStoreSettings base settings → (accepts : Bool) (config : Config)
    (before : Struct) (bytes : List ℕ) (side : Side ServerAt) (other : Side Logged)
    → OneConfiguration base config × RecordsOfOneStore settings before bytes config
    → IsOfSide accepts settings before side → IsServer config before other → other.progress ≡ InProgress
    → IsAlike accepts settings side other bytes
one_store base settings (own, are, same) accepts config before bytes side other passes of is wants =
    let meant = over_base base config own other.state.server.settings passes.0 are
    (settings_of accepts settings config before other is wants) in
    let now = meant.6 ∙ over_store own settings meant.0 meant.1 (mock_of config) meant.2 same in
    let hash = meant.5 ∙ ap (λ (s : ServerSettings). plain_version_for s.mechanisms meant.0) (sym same) in
    let one = same_side accepts settings config before side other of is wants in
    let going = goes_on accepts settings before side other one wants in
    let has = of.goes going in
    let restores = restores_of accepts settings config before other is wants in
    let again = restored_so (over meant.0 meant.1 (mock_of config) meant.2 settings) other.state.server.stage restores.0
    (restores.3 ∙ ap (λ (s : ServerSettings). restored_stage s restores.0) now) in
    let keeps = keeps_of config before other is in
    let shown = shows_going before.scram side.progress (kept_stage side.state.stage) going of.stands.login in (
      meant.0,
      meant.1,
      mock_of config,
      meant.2,
      now,
      λ looks turn frame due whole spells in_turn.
          let done = frame_completes before other bytes turn frame keeps.0 keeps.1 wants due whole
          (subst (λ (b : Bool). SpellsBody (drop 4 (unit_read b other.expected
          (take (unit_size other.expected (other.held ++ bytes)) (other.held ++ bytes)))) (Ok frame))
          (sym of.stands.extended) spells) in
          frame_alike settings meant.0 meant.1 (mock_of config) meant.2 before.scram turn side.state.stage
          other.state.server.stage frame in_turn
          looks has.2 again shown (λ user names. agrees_so (CarriesText frame) settings before bytes config user meant.0 meant.1
          meant.2 (λ text parts says parted. plain_by before bytes text turn frame parts done says parted) meant.3 meant.4
          hash (passes.1 user (named_by before bytes user turn frame done names))),
    )

pub calls_with_one_store : CallsWithOneStoreConnect
calls_with_one_store base settings before last calls stream sent rest are is over =
    let accepts = accepts_extended before.connection in
    let all = calls_connect accepts settings
    (λ server bytes passed. OneConfiguration base passed × RecordsOfOneStore settings server bytes passed)
    (λ passed server bytes side other passes of serves wants. one_store base settings are accepts passed server bytes side
    other passes of serves wants) before last (fresh 512 (server_with settings)) calls stream sent rest
    (is_first settings before is) over in
    (all.0, all.1, all.2.stands)

-- ---- a user whom the store has

stored_with : (settings : ServerSettings) (mock : Option MockChoice) (records : MultiRecords) (version : ScramVersion)
    (plus : Bool) (user : List ℕ) → settings.mock ≡ mock
    → record_at (provider_for version records).records user ≡ record_at (provider_for version settings.records).records user
    → (provider_by (record settings { records = records; mock = mock }) version plus).records user
    ≡ (provider_by settings version plus).records user
stored_with settings mock records version plus user one same =
    let made = λ (m : Option MockChoice). option_map (λ m. mock_record m user) (option_map (mock_for version) m) in
    ap (stored_or (made mock)) same
    ∙ ap (λ (m : Option MockChoice). stored_or (made m) (record_at (provider_for version settings.records).records user))
    (sym one)

-- the first record is of this hash
abbrev BeginsWith : ScramVersion → MultiRecords → Type 0
BeginsWith hash records = (first : List ℕ × VersionedRecord) (others : MultiRecords) → records ≡ first ∷ others
    → first.1.version ≡ hash

-- where no record is, no password meets one
meets_by : (mechanisms : Mechanisms) (hash : ScramVersion) (records stored : MultiRecords) (user : List ℕ)
    (password : PasswordText) → BeginsWith hash records
    → record_at (provider_for hash records).records user ≡ record_at (provider_for hash stored).records user
    → MeetsUser (provider_for (plain_version_for mechanisms records) records) user password
    ↔ MeetsUser (provider_for hash stored) user password
meets_by mechanisms hash [] stored user password begins same =
    ((λ meets. no_record meets.0 meets.1), λ meets. no_record meets.0 (same ∙ meets.1))
  where
    no_record : {A : Type 0} (stored : Record) → None ≡ Some stored → A
    no_record stored wrong = absurd (cc)
meets_by mechanisms hash (first ∷ others) stored user password begins same =
    subst (λ (v : ScramVersion). MeetsUser (provider_for v (first ∷ others)) user password
    ↔ MeetsUser (provider_for hash stored) user password) (sym (begins first others refl)) (
      (λ meets. (meets.0, sym same ∙ meets.1, meets.2)),
      λ meets. (meets.0, same ∙ meets.1, meets.2),
    )

pub stored_users_are_had : StoredUsersAreHad
stored_users_are_had settings server bytes config user records mock named shows alike begins may = record {
  username = named;
  scram = λ others version plus has offers. let one = one_of others has in
      stored_with settings (mock_of config) others version plus user mock
      (ap (λ (r : MultiRecords). record_at (provider_for version r).records user) one ∙ alike version);
  plain = λ others parts password has offers done tested. let one = one_of others has in
      subst (λ (r : MultiRecords). MeetsUser (provider_for (plain_version_for settings.mechanisms r) r) user password
      ↔ MeetsUser (provider_for settings.plain_version settings.records) user password) (sym one)
      (meets_by settings.mechanisms settings.plain_version records settings.records user password (begins offers)
      (alike settings.plain_version));
  rights = may;
}
  where
    one_of : (others : MultiRecords) → ShowRecords config.username.now config.records.now others → others ≡ records
    one_of others has = one_records config.username.now config.records.now others records has shows
