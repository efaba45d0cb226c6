-- Calls over one struct are calls of one side: `calls_with_one_user`.
use Rattle.std.proofs.Common.{arith, refl, sym, ap, subst, inl, inr, ◌∙◌, ◌≡◌, ◌⊎◌, ◌∷◌, ℕ, List, []}
use Rattle.std.specs.Prelude.{Bool, true, false, if◌then◌else◌, Option, Some, None, take, drop, replicate}
use Rattle.fe2o3_scram.specs.ActingRights.{Rights}
use Rattle.fe2o3_scram.specs.Mixed.{MultiRecords}
use Rattle.fe2o3_scram.specs.ChannelBinding.{is_required}
use Rattle.fe2o3_scram.specs.ServerFirst.{OpenExchange, ServerChallenge}
use Rattle.fe2o3_sasl_wire.specs.SaslFrames as frames
use Rattle.fe2o3_sasl_wire.specs.SaslFrames.{SaslFrame}
use Rattle.fe2o3_scram.specs.declared.hmac.ScramVersion.{ScramVersion}
use Rattle.fe2o3_sasl_core.specs.MockChoices.{MockChoice}
use Rattle.fe2o3_sasl_core.specs.SavedServers.{IsRestored, KeptStage, KeptNothing, challenge_mechanism, exchange_now, kept_stage, record_now, restored_stage}
use Rattle.fe2o3_sasl_core.specs.Servers.{ExchangeOpen, NotStarted, ResponseAsked, is_offered_by, ServerAt, ServerSettings, ServerStage, sasl_machine}
use Rattle.fe2o3_sasl_core.specs.declared.mechanism.Mechanism.{Mechanism}
use Rattle.fe2o3_sasl_core.specs.declared.mechanism.Mechanism.TheVariants as mechanisms
use Rattle.fe2o3_sasl_negotiation.specs.Connections.{fresh}
use Rattle.fe2o3_sasl_negotiation.specs.Laws.{Calls}
use Rattle.fe2o3_sasl_negotiation.specs.Negotiations.{Reading, ReceivesAt, Side}
use Rattle.fe2o3_sasl_negotiation.specs.ServerNegotiation.{ServerSideAnswers}
use Rattle.fe2o3_sasl_negotiation.specs.declared.progress.Expected.{Expected}
use Rattle.fe2o3_sasl_negotiation.specs.declared.progress.Expected.TheVariants.{Header}
use Rattle.fe2o3_sasl_negotiation.specs.declared.progress.Progress.{Progress}
use Rattle.fe2o3_sasl_negotiation.specs.declared.progress.Progress.TheVariants.{InProgress, Authenticated, Failed}
use Rattle.sasl_c.specs.declared.connection.Connection.{Connection}
use Rattle.sasl_c.specs.declared.sasl_server.SaslServerConfig.{SaslServerConfig as Config}
use Rattle.sasl_c.specs.declared.sasl_server.SaslServer.{SaslServer as Struct}
use Rattle.sasl_c.specs.declared.server.ScramServer.{ScramServer as ScramStruct}
use Rattle.sasl_c.specs.Client.{flag_number, is_set}
use Rattle.sasl_c.specs.Connection.{Keeps, accepts_extended}
use Rattle.sasl_c.specs.Rejections.{Logged, server_machine, server_names}
use Rattle.sasl_c.specs.SaslServer.{AreSettings, IsServer, Received, RestoresStage, ServerIsReached, ServerTakes, ShowsProgress, ShowsSide, ShowsState, side_struct, state_struct}
use Rattle.sasl_c.specs.Server.{ShowsStage, stage_struct}
use Rattle.sasl_c.specs.ServerCalls.{CallsOverStruct, CallsWithOneUserConnect, IsZero, OneConfiguration, SameUser, StandsFor, StructCall, ZerosAreFresh, answered_calls, offer_of, server_with, where_answered}
use Rattle.sasl_c.proofs.CallSettingLemmas.{of_base}
use Rattle.sasl_c.proofs.CallShownLemmas.{restored_looks, shown_alike, written_alike}
use Rattle.sasl_c.proofs.CallSideLemmas.{CallAlike, at, call_answered}
use Rattle.sasl_c.proofs.CallLooksLemmas.{Looks}
use Rattle.sasl_c.proofs.CallStageLemmas.{FrameAlike, InitAlike, IsOut, ResponseAlike, over}
use Rattle.sasl_c.proofs.ExchangeLemmas.{keeps_nothing}
use Rattle.sasl_c.proofs.SaslClientLemmas.{one_due}
use Rattle.sasl_c.proofs.ServerReplyLemmas.{kept_by, restored_so}

-- ---- the side that a struct is of

-- a struct that waits is of a side that waits
pub waits : (connection : Connection) (stands : Progress) (expected : Expected) (held : List ℕ)
    → Keeps connection stands expected held → connection.progress ≡ 0 → stands ≡ InProgress
waits connection InProgress expected held keeps zero = refl
waits connection Authenticated expected held keeps zero =
    let one : connection.progress ≡ 1 = keeps.progress in absurd (omega (arith, zero, one))
waits connection (Failed why) expected held keeps zero =
    let two : connection.progress ≡ 2 = keeps.progress.0 in absurd (omega (arith, zero, two))

pub waiting : (connection : Connection) (stands : Progress) (expected : Expected) (held : List ℕ)
    → Keeps connection stands expected held → stands ≡ InProgress → Keeps connection InProgress expected held
waiting connection stands expected held keeps same =
    subst (λ (s : Progress). Keeps connection s expected held) same keeps

pub side_of : {S : Type 0} → Progress → Expected → ℕ → List ℕ → S → Side S
side_of stands expected limit held state =
    record { progress = stands; expected = expected; limit = limit; held = held; state = state }

pub side_so : {S : Type 0} (side : Side S) → side ≡ side_of side.progress side.expected side.limit side.held side.state
unfolding side_of
side_so side = refl

pub one_side : {S : Type 0} (side : Side S) (stands : Progress) (expected : Expected) (limit : ℕ) (held : List ℕ)
    → side.progress ≡ stands → side.expected ≡ expected → side.limit ≡ limit → side.held ≡ held
    → side ≡ side_of stands expected limit held side.state
one_side side stands expected limit held p e l h = side_so side ∙ by p e l h
  where
    by : side.progress ≡ stands → side.expected ≡ expected → side.limit ≡ limit → side.held ≡ held
        → side_of side.progress side.expected side.limit side.held side.state
        ≡ side_of stands expected limit held side.state
    by p e l h = cc

at_so : (side : Side Logged) (server : ServerAt)
    → at side server ≡ side_of side.progress side.expected side.limit side.held server
unfolding side_of
at_so side server = refl

-- ---- a struct and the side of its connection

-- a struct of this side of a connection with these settings
pub record IsOfSide (accepts : Bool) (settings : ServerSettings) (server : Struct) (side : Side ServerAt) : Type 0 where
  pub stands : StandsFor accepts server side
  pub own : side.state.settings ≡ settings
  pub goes : side.progress ≡ InProgress
      → (server.scram ≡ stage_struct (kept_stage side.state.stage))
      × (IsOut settings settings.records settings.rights settings.mock settings.plain_version side.state.stage)
      × IsRestored settings side.state.stage

pub shows_going : (scram : ScramStruct) (stands : Progress) (stage : KeptStage) → stands ≡ InProgress
    → ShowsProgress scram stands stage → ShowsStage scram stage
shows_going scram stands stage same shows = subst (λ (s : Progress). ShowsProgress scram s stage) same shows

pub flag_again : (accepts : Bool) → is_set (flag_number accepts) ≡ accepts
flag_again true = refl
flag_again false = refl

-- what a struct shows that was written for a server which goes on
shows_written : (settings : ServerSettings) (scram : ScramStruct) (stage : ServerStage) (kept : KeptStage)
    → ShowsStage scram kept → stage ≡ restored_stage settings kept → scram ≡ stage_struct (kept_stage stage)
    → ShowsStage scram (kept_stage stage)
shows_written settings scram stage kept shows same written = by (kept_by settings stage kept same)
  where
    by : (stage ≡ NotStarted) ⊎ (kept ≡ kept_stage stage) → ShowsStage scram (kept_stage stage)
    by (inl new) = keeps_nothing scram (kept_stage stage) (ap kept_stage new)
        (ap (λ (s : ScramStruct). s.state) (written ∙ ap (λ (s : ServerStage). stage_struct (kept_stage s)) new))
    by (inr is) = subst (ShowsStage scram) is shows

-- the struct after a call
shows_next : (scram : ScramStruct) (stands : Progress) (other : Logged) (stage : ServerStage)
    → ShowsState scram stands other → scram ≡ state_struct stands other → Looks stage other.server.stage
    → ShowsProgress scram stands (kept_stage stage)
shows_next scram InProgress other stage (kept, unfinished, shows, same) written looks =
    shown_alike scram stage other.server.stage looks
    (shows_written other.server.settings scram other.server.stage kept shows same written)
shows_next scram Authenticated other stage shows written looks = shown_alike scram stage other.server.stage looks shows
shows_next scram (Failed why) other stage shows written looks = shows

written_next : (scram : ScramStruct) (stands : Progress) (other : Logged) (stage : ServerStage) → stands ≡ InProgress
    → scram ≡ state_struct stands other → Looks stage other.server.stage → scram ≡ stage_struct (kept_stage stage)
written_next scram stands other stage goes written looks =
    subst (λ (s : Progress). scram ≡ state_struct s other) goes written ∙ written_alike stage other.server.stage looks

module _ (accepts : Bool) (settings : ServerSettings) where
  -- what is to be known of a call: the settings that it is passed, and that the frame that it completes is answered alike
  abbrev pub IsAlike : Side ServerAt → Side Logged → List ℕ → Type 0
  IsAlike side other bytes = (records : MultiRecords) × (rights : Rights) × (mock : Option MockChoice) × (plain : ScramVersion)
      × (other.state.server.settings ≡ over records rights mock plain settings)
      × (Looks side.state.stage other.state.server.stage
      → CallAlike settings records rights mock plain accepts other side.state bytes)

  next_of : (config : Config) (after : Struct) (next : Side Logged) (server : ServerAt) → IsServer config after next
      → after ≡ side_struct accepts next → server.settings ≡ settings → Looks server.stage next.state.server.stage
      → IsRestored settings server.stage
      → (next.progress ≡ InProgress
      → IsOut settings settings.records settings.rights settings.mock settings.plain_version server.stage)
      → IsOfSide accepts settings after (at next server)
  unfolding IsServer ShowsSide
  next_of config after next server is written own looks restored out = record {
    stands = record {
      extended = ap (λ (s : Struct). accepts_extended s.connection) written ∙ flag_again accepts;
      keeps = is.0.0;
      limit = is.1;
      login = shows_next after.scram next.progress next.state server.stage is.0.1
          (ap (λ (s : Struct). s.scram) written) looks;
    };
    own = own;
    goes = λ goes. (
      written_next after.scram next.progress next.state server.stage goes (ap (λ (s : Struct). s.scram) written) looks,
      out goes,
      restored,
    );
  }

  -- the side of a call is the side of the connection with another server
  pub same_side : (config : Config) (before : Struct) (side : Side ServerAt) (other : Side Logged)
      → IsOfSide accepts settings before side → IsServer config before other → other.progress ≡ InProgress
      → side ≡ at other side.state
  unfolding IsServer ShowsSide
  same_side config before side other of is wants =
      let keeps = waiting before.connection other.progress other.expected other.held is.0.0 wants in
      let mine = waits before.connection side.progress side.expected side.held of.stands.keeps keeps.progress in
      let own = waiting before.connection side.progress side.expected side.held of.stands.keeps mine in
      one_side side other.progress other.expected other.limit other.held (mine ∙ sym wants)
      (one_due side.expected other.expected (own.expected ∙ sym keeps.expected)) (of.stands.limit ∙ sym is.1)
      (own.held ∙ sym keeps.held)
      ∙ sym (at_so other side.state)

  pub restores_of : (config : Config) (before : Struct) (other : Side Logged) → IsServer config before other
      → other.progress ≡ InProgress → RestoresStage before.scram other.state.server
  unfolding IsServer ShowsSide
  restores_of config before other is wants =
      subst (λ (s : Progress). ShowsState before.scram s other.state) wants is.0.1

  pub settings_of : (config : Config) (before : Struct) (other : Side Logged) → IsServer config before other
      → other.progress ≡ InProgress → AreSettings config other.state.server.settings
  unfolding IsServer
  settings_of config before other is wants =
      (subst (λ (s : Progress). ServerIsReached config s other.state) wants is.2).0

  pub goes_on : (before : Struct) (side : Side ServerAt) (other : Side Logged) → side ≡ at other side.state
      → other.progress ≡ InProgress → side.progress ≡ InProgress
  goes_on before side other same wants = ap (λ (s : Side ServerAt). s.progress) same ∙ wants

  looks_of : (config : Config) (before : Struct) (side : Side ServerAt) (other : Side Logged)
      → IsOfSide accepts settings before side → IsServer config before other → other.progress ≡ InProgress
      → (records : MultiRecords) (rights : Rights) (mock : Option MockChoice) (plain : ScramVersion)
      → other.state.server.settings ≡ over records rights mock plain settings
      → Looks side.state.stage other.state.server.stage
  looks_of config before side other of is wants records rights mock plain meant =
      let going = goes_on before side other (same_side config before side other of is wants) wants in
      let has = of.goes going in
      let restores = restores_of config before other is wants in
      restored_looks settings records rights mock plain before.scram side.state.stage other.state.server.stage restores.0 has.1
      has.2 has.0 (shows_going before.scram side.progress (kept_stage side.state.stage) going of.stands.login) restores.2
      (restores.3 ∙ ap (λ (s : ServerSettings). restored_stage s restores.0) meant)

  -- a call is one of the connection's side
  pub call_step : (config : Config) (before after : Struct) (bytes nonce : List ℕ) (taken : ℕ) (sent : List ℕ)
      (side : Side ServerAt) → IsOfSide accepts settings before side
      → ((other : Side Logged) → IsServer config before other → other.progress ≡ InProgress → IsAlike side other bytes)
      → Received config bytes nonce before after taken sent
      → (next : Side ServerAt) × ServerTakes accepts offer_of sasl_machine side bytes nonce taken sent next
      × IsOfSide accepts settings after next
  unfolding Received
  call_step config before after bytes nonce taken sent side of alike
      (none, (other, next, is, wants, takes, serves, written)) =
      let meets = alike other is wants in
      let looks = looks_of config before side other of is wants meets.0 meets.1 meets.2 meets.3 meets.4 in
      let same = same_side config before side other of is wants in
      let has = of.goes (goes_on before side other same wants) in
      let mine = subst (λ (b : Bool). ServerTakes b server_names server_machine other bytes nonce taken sent next)
      of.stands.extended takes in
      let at_wait = subst (λ (s : Progress). ReceivesAt s (Reading accepts (ServerSideAnswers server_names server_machine))
      other bytes nonce taken sent next) wants mine in
      let step = call_answered settings meets.0 meets.1 meets.2 meets.3 accepts other next side.state bytes nonce taken sent
      (record { own = of.own; looks = looks; restored = has.2 }) meets.4 has.1 (meets.5 looks) at_wait in
      let received = subst (λ (s : Progress). ReceivesAt s (Reading accepts (ServerSideAnswers offer_of sasl_machine))
      (at other side.state) bytes nonce taken sent (at next step.0)) (sym wants) step.1 in (
        at next step.0,
        subst (λ (s : Side ServerAt). ServerTakes accepts offer_of sasl_machine s bytes nonce taken sent (at next step.0))
            (sym same) received,
        next_of config after next step.0 serves
            (written ∙ ap (λ (b : Bool). side_struct b next) of.stands.extended) step.2.0.own step.2.0.looks step.2.0.restored
            step.2.1,
      )

  -- ---- all calls

  pub calls_connect : (MayPass : Struct → List ℕ → Config → Type 0)
      → ((config : Config) (before : Struct) (bytes : List ℕ) (side : Side ServerAt) (other : Side Logged)
      → MayPass before bytes config → IsOfSide accepts settings before side → IsServer config before other
      → other.progress ≡ InProgress → IsAlike side other bytes)
      → (before last : Struct) (side : Side ServerAt) (calls : List StructCall) (stream sent rest : List ℕ)
      → IsOfSide accepts settings before side → CallsOverStruct MayPass before calls stream sent last rest
      → (end : Side ServerAt)
      × Calls (ServerTakes accepts offer_of sasl_machine) side (answered_calls calls) stream sent end rest
      × IsOfSide accepts settings last end
  calls_connect MayPass alike before last side [] stream sent rest of (none, same, all) =
      (side, (none, refl, all), subst (λ (s : Struct). IsOfSide accepts settings s side) (sym same) of)
  calls_connect MayPass alike before last side (call ∷ calls) stream sent rest of
      (inl (is, (after, taken, first, later, passes, received, more, all))) =
      let bytes = take call.handed stream in
      let step = call_step call.config before after bytes call.nonce taken first side of
      (λ other serves wants. alike call.config before bytes side other passes of serves wants) received in
      let rests = calls_connect MayPass alike after last step.0 calls (drop taken stream) later rest step.2 more in (
        rests.0,
        subst (λ (b : Bool). Calls (ServerTakes accepts offer_of sasl_machine) side (where_answered b call (answered_calls calls))
            stream sent rests.0 rest) (sym is) (taken, first, step.0, later, step.1, rests.1, all),
        rests.2,
      )
  calls_connect MayPass alike before last side (call ∷ calls) stream sent rest of (inr (is, more)) =
      let rests = calls_connect MayPass alike before last side calls stream sent rest of more in (
        rests.0,
        subst (λ (b : Bool). Calls (ServerTakes accepts offer_of sasl_machine) side (where_answered b call (answered_calls calls))
            stream sent rests.0 rest) (sym is) rests.1,
        rests.2,
      )

-- ---- the first struct

zero_connection : ℕ → Connection
zero_connection extended = record {
  progress = 0;
  why = 0;
  expected = 0;
  held_len = 0;
  held = replicate 512 0;
  extended_headers = extended;
}

keeps_zero : (extended : ℕ) → Keeps (zero_connection extended) InProgress Header []
unfolding zero_connection
keeps_zero extended = record { progress = refl; expected = refl; len = omega arith; held = refl }

-- a connection of zeros is one that has received nothing
pub keeps_zeros : (connection : Connection) → connection ≡ record {
  progress = 0;
  why = 0;
  expected = 0;
  held_len = 0;
  held = replicate 512 0;
  extended_headers = connection.extended_headers;
} → Keeps connection InProgress Header []
unfolding zero_connection
keeps_zeros connection is = subst (λ (c : Connection). Keeps c InProgress Header []) (sym is)
    (keeps_zero connection.extended_headers)

keeps_first : (server : Struct) → IsZero server → Keeps server.connection InProgress Header []
keeps_first server is = keeps_zeros server.connection is.0

shows_first : (server : Struct) → IsZero server → ShowsStage server.scram KeptNothing
shows_first server is =
    keeps_nothing server.scram KeptNothing refl (ap (λ (s : ScramStruct). s.state) is.1)

nothing_restored : (settings : ServerSettings) → IsRestored settings NotStarted
unfolding IsRestored
nothing_restored settings = refl

pub is_first : (settings : ServerSettings) (server : Struct) → IsZero server
    → IsOfSide (accepts_extended server.connection) settings server (fresh 512 (server_with settings))
is_first settings server is = record {
  stands = record {
    extended = refl;
    keeps = keeps_first server is;
    limit = refl;
    login = shows_first server is;
  };
  own = refl;
  goes = λ _. (is.1, refl, nothing_restored settings);
}

pub zeros_are_fresh : ZerosAreFresh
unfolding IsServer ShowsSide
zeros_are_fresh config settings server are is =
    ((keeps_first server is, (KeptNothing, tt, shows_first server is, refl)), refl, (are, refl))

-- ---- one user

stored_where : (version : ScramVersion) (plus binds : Bool) (exchange now : OpenExchange) (is : Bool)
    → (if is then ExchangeOpen version binds now else NotStarted) ≡ ExchangeOpen version plus exchange
    → exchange.stored ≡ now.stored
stored_where version plus binds exchange now true same =
    let one : now ≡ exchange = cc in sym (ap (λ (e : OpenExchange). e.stored) one)
stored_where version plus binds exchange now false same = absurd (cc)

-- the record of an exchange that is restored
pub stored_now : (settings : ServerSettings) (version : ScramVersion) (plus : Bool) (exchange : OpenExchange)
    → IsRestored settings (ExchangeOpen version plus exchange)
    → exchange.stored ≡ record_now settings version (is_required exchange.challenge.header.flag) exchange.challenge.user
unfolding IsRestored
stored_now settings version plus exchange is = stored_where version plus (is_required exchange.challenge.header.flag) exchange
    (exchange_now settings version exchange.challenge)
    (is_offered_by settings (challenge_mechanism version exchange.challenge)) is

module _ (settings : ServerSettings) where
  one_init : (mechanism : Mechanism) (response : Option (List ℕ))
      → InitAlike settings settings.records settings.rights settings.mock settings.plain_version mechanism response
  one_init (mechanisms.Scram version plus) (Some text) = λ client reads. refl
  one_init (mechanisms.Scram version plus) None = tt
  one_init mechanisms.Plain (Some text) = λ parts. ((λ lets. lets), λ lets. lets)
  one_init mechanisms.Plain None = tt
  one_init mechanisms.Anonymous response = tt
  one_init mechanisms.External response = tt

  one_response : (stage other : ServerStage) (text : List ℕ) → Looks stage other → IsRestored settings stage
      → IsRestored settings other
      → ResponseAlike settings settings.records settings.rights settings.mock settings.plain_version stage other text
  one_response (ResponseAsked mechanism nonce) other text looks was is = one_init mechanism (Some text)
  one_response (ExchangeOpen version plus exchange) (ExchangeOpen other_version other_plus other) text looks was is = (
    stored_now settings other_version other_plus other is
        ∙ (ap (λ (v : ScramVersion). record_now settings v (is_required other.challenge.header.flag) other.challenge.user) looks.0
        ∙ (ap (λ (c : ServerChallenge). record_now settings version (is_required c.header.flag) c.user) looks.2
        ∙ sym (stored_now settings version plus exchange was))),
    refl,
  )
  one_response stage other text looks was is = tt

  one_frame : (stage other : ServerStage) (frame : SaslFrame) → Looks stage other → IsRestored settings stage
      → IsRestored settings other
      → FrameAlike settings settings.records settings.rights settings.mock settings.plain_version stage other frame
  one_frame stage other (frames.Init name response hostname) looks was is = λ mechanism asked. one_init mechanism response
  one_frame stage other (frames.Response text) looks was is = one_response stage other text looks was is
  one_frame stage other (frames.Mechanisms names) looks was is = tt
  one_frame stage other (frames.Challenge text) looks was is = tt
  one_frame stage other (frames.Outcome code more) looks was is = tt

  -- calls of one user are alike
  one_user : (base : Config) → AreSettings base settings → (accepts : Bool) (config : Config) (before : Struct)
      (bytes : List ℕ) (side : Side ServerAt) (other : Side Logged)
      → OneConfiguration base config × SameUser base config → IsOfSide accepts settings before side
      → IsServer config before other → other.progress ≡ InProgress → IsAlike accepts settings side other bytes
  one_user base are accepts config before bytes side other passes of is wants =
      let same = of_base base config settings other.state.server.settings passes.0 passes.1 are
      (settings_of accepts settings config before other is wants) in
      let one = same_side accepts settings config before side other of is wants in
      let has = of.goes (goes_on accepts settings before side other one wants) in
      let restores = restores_of accepts settings config before other is wants in
      let again = restored_so settings other.state.server.stage restores.0
      (restores.3 ∙ ap (λ (s : ServerSettings). restored_stage s restores.0) same) in (
        settings.records,
        settings.rights,
        settings.mock,
        settings.plain_version,
        same,
        λ looks turn frame due whole spells in_turn. one_frame side.state.stage other.state.server.stage frame looks has.2 again,
      )

pub calls_with_one_user : CallsWithOneUserConnect
calls_with_one_user config settings before last calls stream sent rest are is over =
    let accepts = accepts_extended before.connection in
    let all = calls_connect accepts settings (λ server bytes passed. OneConfiguration config passed × SameUser config passed)
    (λ passed server bytes side other passes of serves wants. one_user settings config are accepts passed server bytes side
    other passes of serves wants) before last (fresh 512 (server_with settings)) calls stream sent rest
    (is_first settings before is) over in
    (all.0, all.1, all.2.stands)
