-- What a call makes of a server's side of a connection (AMQP 1.0, part 5, section 5.3.2).
use Rattle.std.proofs.Common.{arith, Bool, refl, sym, ap, inl, inr, ◌∙◌, ◌≡◌, ◌≢◌, ◌≤◌, ◌⊎◌, ◌∷◌, ◌++◌, ℕ, List, [], length, IsTrue}
use Rattle.std.specs.Prelude.{true, false, Option, Some, None, Ok, Err, drop}
use Rattle.std.proofs.lemmas.List.{length-append}
use Rattle.fe2o3_sasl_wire.specs.declared.amqp_types.SaslCode.TheVariants as outcomes
use Rattle.fe2o3_sasl_wire.specs.declared.sasl_frames.error.Error.TheVariants as faults
use Rattle.fe2o3_scram.specs.Readings.{IsFirst, NoneHolds}
use Rattle.fe2o3_sasl_core.specs.Events.{Given, ServerSays, Challenged, Concluded, Failed}
use Rattle.fe2o3_sasl_core.specs.Servers.{ServerSettings, offers_any}
use Rattle.fe2o3_sasl_negotiation.specs.Sides.{ServerConnectionSide, extended_in}
use Rattle.fe2o3_sasl_negotiation.specs.declared.snapshot.Snapshot.{Snapshot}
use Rattle.fe2o3_sasl_negotiation.specs.declared.progress.CloseReason.{CloseReason}
use Rattle.fe2o3_sasl_negotiation.specs.declared.progress.CloseReason.TheVariants.{ProtocolHeaderMismatch, ReplyTooLarge}
use Rattle.fe2o3_sasl_negotiation.specs.declared.progress.Expected.{Expected}
use Rattle.fe2o3_sasl_negotiation.specs.declared.progress.Expected.TheVariants.{Header, Frame}
use Rattle.fe2o3_sasl_negotiation.specs.declared.progress.Progress.{Progress}
use Rattle.fe2o3_sasl_negotiation.specs.declared.progress.Progress.TheVariants.{InProgress, Authenticated}
use Rattle.fe2o3_sasl_negotiation.specs.declared.progress.FrameKind.{FrameKind}
use Rattle.fe2o3_sasl_negotiation.specs.declared.progress.FrameKind.TheVariants as turns
use Rattle.fe2o3_sasl_negotiation.specs.Framing.{IsPart, framed, sasl_header}
use Rattle.fe2o3_sasl_negotiation.specs.Negotiations.{Reading, Side, SideOutput, Sends, ReceivesAt, closes}
use Rattle.fe2o3_sasl_negotiation.specs.ServerNegotiation.{Offers, ServerOutputs, ServerSideAnswers, behind_header, offer_body}
use Rattle.fe2o3_sasl_negotiation.specs.Snapshot.{server_fits, server_due, IsKept, IsServerKept, NamesNone, side_of}
use Rattle.fe2o3_sasl_negotiation.proofs.lemmas.UnitLemmas.{length-framed}
use Rattle.sasl_c.specs.declared.connection.Connection.{Connection}
use Rattle.sasl_c.specs.declared.sasl_server.SaslServerConfig.{SaslServerConfig as Config}
use Rattle.sasl_c.specs.declared.sasl_server.SaslServer.{SaslServer as Struct}
use Rattle.sasl_c.specs.declared.status.Status.{Status}
use Rattle.sasl_c.specs.declared.status.Status.TheVariants as statuses
use Rattle.sasl_c.specs.Connection.{Keeps, KeepsNoPart, accepts_extended, side_tests, KeepsNoPartOf}
use Rattle.sasl_c.specs.Rejections.{Logged, server_machine, server_names, state_of}
use Rattle.sasl_c.specs.SaslServer.{AreSettings, HasNone, IsNoConfig, IsNoServer, IsServer, NotReceived, Received, RestoresStage, ServerIsReached, ServerTakes, ShowsBy, ShowsSide, ShowsState, config_tests, side_in, side_struct, struct_by}
use Rattle.sasl_c.proofs.CallSettingLemmas.{of_base}
use Rattle.sasl_c.proofs.ClientReplyLemmas.{answers_read, part_short}
use Rattle.sasl_c.proofs.SaslClientLemmas.{one_due, tests_without_memory}
use Rattle.sasl_c.proofs.SaslServerLemmas.{Served, Shown, goes_so, is_server, no_server, serves_so, writes_side, written_for}
use Rattle.sasl_c.proofs.ServerReplyLemmas.{Goes, Serves, gives_goes, gives_serves}
use Rattle.sasl_c.proofs.StatusLemmas.{carried}

-- ---- what is behind an answer: a server of the configuration, and at most 520 bytes sent (part 5, section 5.3.1)

record Fine (config : Config) (answer : SideOutput) (next : Logged) : Type 0 where
  serves : Serves config next
  short : length answer.sent ≤ 520
  goes : answer.progress ≡ InProgress → Goes next

fine_so : (config : Config) (answer other : SideOutput) (next : Logged) → answer ≡ other → Serves config next
    → length other.sent ≤ 520 → (other.progress ≡ InProgress → Goes next) → Fine config answer next
fine_so config answer other next same serves short goes = carried (λ (a : SideOutput). Fine config a next) other answer
    (sym same) (record { serves = serves; short = short; goes = goes })

closes_fine : (config : Config) (answer : SideOutput) (next : Logged) (why : CloseReason) (expected : Expected)
    → Serves config next → answer ≡ closes why expected → Fine config answer next
closes_fine config answer next why expected serves same =
    fine_so config answer (closes why expected) next same serves (omega arith) (λ goes. absurd (cc))

sends_fine : (config : Config) (answer : SideOutput) (next : Logged) (body : List ℕ) (progress : Progress)
    (expected : Expected) → Serves config next → Sends body progress expected answer
    → (progress ≡ InProgress → Goes next) → Fine config answer next
sends_fine config answer next body progress expected serves (inl (fits, same)) goes =
    fine_so config answer (record { sent = framed body; progress = progress; expected = expected }) next same serves
    (omega (arith, fits, length-framed body)) goes
sends_fine config answer next body progress expected serves (inr (long, same)) goes =
    closes_fine config answer next ReplyTooLarge expected serves same

concluded_fine : (config : Config) (answer : SideOutput) (next : Logged) (body : List ℕ) (progress : Progress)
    (expected : Expected) → Serves config next → Sends body progress expected answer → progress ≢ InProgress
    → Fine config answer next
concluded_fine config answer next body progress expected serves sends ends =
    sends_fine config answer next body progress expected serves sends (λ goes. absurd (ends goes))

-- behind a header
first_short : (first : SideOutput) (offer : Option (List ℕ)) → Offers offer first → length first.sent ≤ 512
first_short first None same =
    carried (λ (a : SideOutput). length a.sent ≤ 512) (closes ReplyTooLarge Header) first (sym same) (omega arith)
first_short first (Some body) (inl (fits, same)) = carried (λ (a : SideOutput). length a.sent ≤ 512)
    (record { sent = framed body; progress = InProgress; expected = Frame turns.Init }) first (sym same)
    (omega (arith, fits, length-framed body))
first_short first (Some body) (inr (long, same)) = carried (λ (a : SideOutput). length a.sent ≤ 512)
    (closes ReplyTooLarge (Frame turns.Init)) first (sym same) (omega arith)

header_fine : (config : Config) (answer first : SideOutput) (next : Logged) → answer ≡ behind_header first
    → Serves config next → Goes next → length first.sent ≤ 512 → Fine config answer next
header_fine config answer first next same serves goes short =
    let eight : length sasl_header ≡ 8 = refl in
    fine_so config answer (behind_header first) next same serves
    (omega (arith, short, eight, length-append sasl_header first.sent)) (λ going. goes)

says_fine : (config : Config) (says : ServerSays) (turn : FrameKind) (answer : SideOutput) (next : Logged)
    → Serves config next → ServerOutputs says turn answer → ((body : List ℕ) → says ≡ Challenged body → Goes next)
    → Fine config answer next
says_fine config (Challenged body) turn answer next serves sends goes =
    sends_fine config answer next body InProgress (Frame turns.Response) serves sends (λ going. goes body refl)
says_fine config (Concluded outcomes.Ok body) turn answer next serves sends goes =
    concluded_fine config answer next body Authenticated (Frame turn) serves sends (λ going. absurd (cc))
says_fine config (Concluded outcomes.Auth body) turn answer next serves sends goes =
    concluded_fine config answer next body _ (Frame turn) serves sends (λ going. absurd (cc))
says_fine config (Concluded outcomes.Sys body) turn answer next serves sends goes =
    concluded_fine config answer next body _ (Frame turn) serves sends (λ going. absurd (cc))
says_fine config (Concluded outcomes.SysPerm body) turn answer next serves sends goes =
    concluded_fine config answer next body _ (Frame turn) serves sends (λ going. absurd (cc))
says_fine config (Concluded outcomes.SysTemp body) turn answer next serves sends goes =
    concluded_fine config answer next body _ (Frame turn) serves sends (λ going. absurd (cc))
says_fine config (Failed faults.OutOfMemory) turn answer next serves never goes = absurd never
says_fine config (Failed faults.DecodeError) turn answer next serves same goes =
    closes_fine config answer next _ _ serves same
says_fine config (Failed faults.NotImplemented) turn answer next serves same goes =
    closes_fine config answer next _ _ serves same
says_fine config (Failed faults.TooLarge) turn answer next serves same goes =
    closes_fine config answer next _ _ serves same

answers_fine : (config : Config) (expected : Expected) (server next : Logged) (nonce unit : List ℕ)
    (answer : SideOutput) → Serves config server → Goes server
    → ServerSideAnswers server_names server_machine expected server nonce unit answer next → Fine config answer next
answers_fine config Header server next nonce unit answer serves goes (inl (other, same), kept) =
    header_fine config answer (closes (ProtocolHeaderMismatch _) Header) next same
    (carried (Serves config) server next (sym kept) serves) (carried Goes server next (sym kept) goes) (omega arith)
answers_fine config Header server next nonce unit answer serves goes (inr (is, (first, offers, same)), kept) =
    header_fine config answer first next same (carried (Serves config) server next (sym kept) serves)
    (carried Goes server next (sym kept) goes) (first_short first (offer_body (server_names server)) offers)
answers_fine config (Frame turn) server next nonce unit answer serves goes (Err fault, spells, unread) =
    closes_fine config answer next _ _ (carried (Serves config) server next (sym unread.1) serves) unread.0
answers_fine config (Frame turn) server next nonce unit answer serves goes (Ok frame, spells, inl out) =
    closes_fine config answer next _ _ (carried (Serves config) server next (sym out.2) serves) out.1
answers_fine config (Frame turn) server next nonce unit answer serves goes
    (Ok frame, spells, inr (in_turn, (says, (spelled, is, gives), said))) =
    let event : Given = record { body = drop 4 unit; nonce = nonce } in
    says_fine config says turn answer next (gives_serves config server next event spelled says serves gives) said
    (λ body challenged. gives_goes server next event spelled says body goes challenged gives)

-- ---- a call

-- what is behind it
record BehindCall (config : Config) (next : Side Logged) (sent : List ℕ) : Type 0 where
  serves : Serves config next.state
  limit : next.limit ≡ 512
  held : length next.held ≤ 512
  short : length sent ≤ 520
  goes : next.progress ≡ InProgress → Goes next.state

behind : (config : Config) (next other : Side Logged) (sent more : List ℕ) → next ≡ other → sent ≡ more
    → Serves config other.state → other.limit ≡ 512 → length other.held ≤ 512 → length more ≤ 520
    → (other.progress ≡ InProgress → Goes other.state) → BehindCall config next sent
behind config next other sent more same is serves limit held short goes =
    carried (λ given. BehindCall config given sent) other next (sym same) (record {
      serves = serves;
      limit = limit;
      held = held;
      short = carried (λ (s : List ℕ). length s ≤ 520) more sent (sym is) short;
      goes = goes;
    })

wanting_behind : (config : Config) (accepts : Bool) (side next : Side Logged) (bytes nonce : List ℕ) (taken : ℕ)
    (sent : List ℕ)
    → ReceivesAt InProgress (Reading accepts (ServerSideAnswers server_names server_machine)) side bytes nonce taken sent next
    → side.progress ≡ InProgress → side.limit ≡ 512 → Serves config side.state → Goes side.state
    → BehindCall config next sent
wanting_behind config accepts side next bytes nonce taken sent (inl (part, waits)) wants limit serves goes =
    behind config next _ sent [] waits.2 waits.1 serves limit
    (part_short side.expected (side.held ++ bytes)
    (carried (λ n. IsPart side.expected n (side.held ++ bytes)) side.limit 512 limit part)) (omega arith) (λ going. goes)
wanting_behind config accepts side next bytes nonce taken sent (inr (inl (refused, ends))) wants limit serves goes =
    behind config next _ sent [] ends.2 ends.1 serves limit (omega arith) (omega arith) (λ going. goes)
wanting_behind config accepts side next bytes nonce taken sent (inr (inr (answer, state, whole, answers, ends))) wants
    limit serves goes =
    let reads = answers_read (ServerSideAnswers server_names server_machine) accepts side.expected side.state state nonce _
    answer answers in
    let fine = answers_fine config side.expected side.state state nonce reads.0 answer serves goes reads.1 in
    behind config next _ sent answer.sent ends.2 ends.1 fine.serves limit (omega arith) fine.short fine.goes

-- the server that a struct restores
serves_by : (config : Config) (before : Struct) (side : Side Logged) → IsServer config before side
    → side.progress ≡ InProgress → Serves config side.state
unfolding IsServer ShowsSide
serves_by config before side is wants = serves_so config before.scram side.state
    (carried (λ (s : Progress). ServerIsReached config s side.state) side.progress InProgress wants is.2).0
    (carried (λ (s : Progress). ShowsState before.scram s side.state) side.progress InProgress wants is.0.1)

goes_by : (config : Config) (before : Struct) (side : Side Logged) → IsServer config before side
    → side.progress ≡ InProgress → Goes side.state
unfolding IsServer ShowsSide
goes_by config before side is wants = goes_so before.scram side.state
    (carried (λ (s : Progress). ServerIsReached config s side.state) side.progress InProgress wants is.2).1
    (carried (λ (s : Progress). ShowsState before.scram s side.state) side.progress InProgress wants is.0.1)

limit_of : (config : Config) (before : Struct) (side : Side Logged) → IsServer config before side → side.limit ≡ 512
unfolding IsServer
limit_of config before side is = is.1

receives_behind : (config : Config) (before : Struct) (accepts : Bool) (side next : Side Logged) (bytes nonce : List ℕ)
    (taken : ℕ) (sent : List ℕ) → IsServer config before side → side.progress ≡ InProgress
    → ServerTakes accepts server_names server_machine side bytes nonce taken sent next → BehindCall config next sent
receives_behind config before accepts side next bytes nonce taken sent is wants held =
    wanting_behind config accepts side next bytes nonce taken sent
    (carried (λ s. ReceivesAt s (Reading accepts (ServerSideAnswers server_names server_machine)) side bytes nonce taken
    sent next) side.progress InProgress wants held) wants (limit_of config before side is)
    (serves_by config before side is wants) (goes_by config before side is wants)

pub behind_serves : (config : Config) (before : Struct) (accepts : Bool) (side next : Side Logged)
    (bytes nonce : List ℕ) (taken : ℕ) (sent : List ℕ) → IsServer config before side → side.progress ≡ InProgress
    → ServerTakes accepts server_names server_machine side bytes nonce taken sent next → Serves config next.state
behind_serves config before accepts side next bytes nonce taken sent is wants held =
    (receives_behind config before accepts side next bytes nonce taken sent is wants held).serves

pub behind_goes : (config : Config) (before : Struct) (accepts : Bool) (side next : Side Logged)
    (bytes nonce : List ℕ) (taken : ℕ) (sent : List ℕ) → IsServer config before side → side.progress ≡ InProgress
    → ServerTakes accepts server_names server_machine side bytes nonce taken sent next → next.progress ≡ InProgress
    → Goes next.state
behind_goes config before accepts side next bytes nonce taken sent is wants held =
    (receives_behind config before accepts side next bytes nonce taken sent is wants held).goes

pub behind_limit : (config : Config) (before : Struct) (accepts : Bool) (side next : Side Logged) (bytes nonce : List ℕ)
    (taken : ℕ) (sent : List ℕ) → IsServer config before side → side.progress ≡ InProgress
    → ServerTakes accepts server_names server_machine side bytes nonce taken sent next → next.limit ≡ 512
behind_limit config before accepts side next bytes nonce taken sent is wants held =
    (receives_behind config before accepts side next bytes nonce taken sent is wants held).limit

pub behind_held : (config : Config) (before : Struct) (accepts : Bool) (side next : Side Logged) (bytes nonce : List ℕ)
    (taken : ℕ) (sent : List ℕ) → IsServer config before side → side.progress ≡ InProgress
    → ServerTakes accepts server_names server_machine side bytes nonce taken sent next → length next.held ≤ 512
behind_held config before accepts side next bytes nonce taken sent is wants held =
    (receives_behind config before accepts side next bytes nonce taken sent is wants held).held

pub behind_short : (config : Config) (before : Struct) (accepts : Bool) (side next : Side Logged) (bytes nonce : List ℕ)
    (taken : ℕ) (sent : List ℕ) → IsServer config before side → side.progress ≡ InProgress
    → ServerTakes accepts server_names server_machine side bytes nonce taken sent next → length sent ≤ 520
behind_short config before accepts side next bytes nonce taken sent is wants held =
    (receives_behind config before accepts side next bytes nonce taken sent is wants held).short

-- ---- the structs of a call

-- the side that was taken up
pub taken_up : (config : Config) (before : Struct) (kept : Snapshot) (state : Logged)
    → Keeps before.connection kept.progress kept.expected kept.held.now → kept.progress ≡ InProgress → kept.limit ≡ 512
    → ServerIsReached config InProgress state → ShowsState before.scram InProgress state
    → IsServer config before (side_of kept state)
unfolding IsServer ShowsSide
taken_up config before kept state keeps wants limit comes shows = (
  (keeps, carried (λ (s : Progress). ShowsState before.scram s state) InProgress kept.progress (sym wants) shows),
  limit,
  carried (λ (s : Progress). ServerIsReached config s state) InProgress kept.progress (sym wants) comes,
)

pub received : (config : Config) (bytes nonce : List ℕ) (before after : Struct) (side next : Side Logged) (taken : ℕ)
    (sent : List ℕ) → ((status : Status) → ¬ IsNoServer config before status) → IsServer config before side
    → side.progress ≡ InProgress
    → ServerTakes (accepts_extended before.connection) server_names server_machine side bytes nonce taken sent next
    → IsServer config after next
    → after ≡ side_struct (accepts_extended before.connection) next → Received config bytes nonce before after taken sent
unfolding Received
received config bytes nonce before after side next taken sent none is wants held then written =
    (none, (side, next, is, wants, held, then, written))

pub too_long : (config : Config) (bytes nonce : List ℕ) (before : Struct) (side next : Side Logged) (taken : ℕ)
    (sent : List ℕ) → IsServer config before side → side.progress ≡ InProgress
    → ServerTakes (accepts_extended before.connection) server_names server_machine side bytes nonce taken sent next
    → ((other : Struct) → ¬ IsServer config other next)
    → NotReceived config bytes nonce before statuses.TooLong
unfolding NotReceived
too_long config bytes nonce before side next taken sent is wants held none =
    inr (refl, (side, next, taken, sent, is, wants, held, none))

-- none of the tests of the struct holds
pub none_holds : (connection : Connection) (kept : Snapshot) → Keeps connection kept.progress kept.expected kept.held.now
    → kept.progress ≡ InProgress → NoneHolds (side_tests connection)
none_holds connection kept keeps wants =
    let stands = carried (λ s. Keeps connection s kept.expected kept.held.now) kept.progress InProgress wants keeps in
    ((λ ended. ended stands.progress), ((λ nothing. nothing kept.expected kept.held.now stands), tt))

-- what a call that is out of memory takes
pub ruleset without_memory = (none_holds, tests_without_memory)

pub keeps_no_part : (connection : Connection) (kept : Snapshot) → Keeps connection kept.progress kept.expected kept.held.now
    → kept.progress ≡ InProgress → kept.limit ≡ 512 → ¬ IsKept kept → KeepsNoPart connection
keeps_no_part connection kept keeps wants limit wrong = λ expected held other part.
    let stands = carried (λ s. Keeps connection s kept.expected kept.held.now) kept.progress InProgress wants keeps in
    let one = one_due expected kept.expected (other.expected ∙ sym keeps.expected) in
    let same : held ≡ kept.held.now = other.held ∙ sym stands.held in
    let less : IsPart kept.expected 512 held = carried (λ d. IsPart d 512 held) expected kept.expected one part in
    let come : IsPart kept.expected 512 kept.held.now = carried (λ h. IsPart kept.expected 512 h) held kept.held.now same less in
    wrong (
      omega (arith, limit),
      carried (λ n. IsPart kept.expected n kept.held.now) 512 kept.limit (sym limit) come,
    )

-- no server keeps what the struct does, where no server has these values
pub keeps_no_server : (connection : Connection) (kept : Snapshot)
    → Keeps connection kept.progress kept.expected kept.held.now → kept.progress ≡ InProgress → kept.limit ≡ 512
    → NamesNone kept → ¬ IsServerKept kept → KeepsNoPartOf server_due connection
keeps_no_server connection kept keeps wants limit mock wrong = λ expected held other unit part.
    let one = one_due expected kept.expected (other.expected ∙ sym keeps.expected) in
    keeps_no_part connection kept keeps wants limit
    (λ holds. wrong (
      holds,
      carried (λ (s : Progress). IsTrue (server_fits s kept.expected)) InProgress kept.progress (sym wants)
          (carried (λ (d : Expected). IsTrue (server_due d)) expected kept.expected one unit),
      (λ ended. absurd (ended wants)),
      λ _. mock,
    )) expected held other part

pub no_connection : (config : Config) (bytes nonce : List ℕ) (before : Struct) (status : Status)
    → IsFirst (side_tests before.connection) status → NotReceived config bytes nonce before status
unfolding NotReceived IsNoServer
no_connection config bytes nonce before status wrong = inl (inl wrong)

pub no_config : (config : Config) (bytes nonce : List ℕ) (before : Struct) (kept : Snapshot) (status : Status)
    → Keeps before.connection kept.progress kept.expected kept.held.now → kept.progress ≡ InProgress → IsNoConfig config status
    → NotReceived config bytes nonce before status
unfolding NotReceived IsNoServer
no_config config bytes nonce before kept status keeps wants wrong =
    inl (inr (none_holds before.connection kept keeps wants, inl wrong))

pub not_kept : (config : Config) (bytes nonce : List ℕ) (before : Struct) (kept : Snapshot) (state : Logged)
    (status : Status) → Keeps before.connection kept.progress kept.expected kept.held.now → kept.progress ≡ InProgress
    → kept.limit ≡ 512 → NamesNone kept → ServerIsReached config InProgress state
    → ((why : Status) → ¬ IsNoConfig config why) → (status ≡ statuses.InvalidSnapshot) × ¬ IsServerKept kept
    → NotReceived config bytes nonce before status
unfolding NotReceived IsNoServer
not_kept config bytes nonce before kept state status keeps wants limit mock comes fine (is, wrong) = inl (inr (
  none_holds before.connection kept keeps wants,
  inr (is, keeps_no_server before.connection kept keeps wants limit mock wrong, (state.server.settings, comes.0), fine),
))

-- ---- a call that is answered has no fault

none_first : (tests : List (Status × Type 0)) (status : Status) → NoneHolds tests → ¬ IsFirst tests status
none_first [] status none first = first
none_first (test ∷ tests) status none (inl wrong) = none.0 wrong.0
none_first (test ∷ tests) status none (inr (not, first)) = none_first tests status none.1 first

-- a configuration has one server, by its settings
one_setting : (config : Config) (settings other : ServerSettings) → AreSettings config settings
    → AreSettings config other → other ≡ settings
one_setting config settings other are too = of_base config config settings other (record {
  mechanisms = refl;
  flags = refl;
  iterations = refl;
  mock = refl;
  external = refl;
  channels = refl;
  authzid = refl;
}) (record { username = refl; records = refl; identities = refl }) are too

is_config : (config : Config) (settings : ServerSettings) → AreSettings config settings → offers_any settings ≡ true
    → NoneHolds (config_tests config) → (status : Status) → ¬ IsNoConfig config status
unfolding IsNoConfig
is_config config settings are offers none status (inl first) = none_first (config_tests config) status none first
is_config config settings are offers none status (inr (tests, is, (other, too, nothing))) =
    let never : false ≡ true = sym nothing ∙ (ap offers_any (one_setting config settings other are too) ∙ offers) in
    absurd (cc)

is_no_fault : (config : Config) (before : Struct) (kept : Snapshot)
    → Keeps before.connection kept.progress kept.expected kept.held.now → kept.progress ≡ InProgress → kept.limit ≡ 512
    → ((why : Status) → ¬ IsNoConfig config why) → IsServerKept kept → (status : Status)
    → ¬ IsNoServer config before status
unfolding IsNoServer
is_no_fault config before kept keeps wants limit fine is status (inl first) =
    none_first (side_tests before.connection) status (none_holds before.connection kept keeps wants) first
is_no_fault config before kept keeps wants limit fine is status (inr (none, inl wrong)) = fine status wrong
is_no_fault config before kept keeps wants limit fine is status (inr (none, inr (same, none_kept, reached, others))) =
    none_kept kept.expected kept.held.now
    (carried (λ (s : Progress). Keeps before.connection s kept.expected kept.held.now) kept.progress InProgress wants keeps)
    (carried (λ (s : Progress). IsTrue (server_fits s kept.expected)) kept.progress InProgress wants is.1)
    (carried (λ n. IsPart kept.expected n kept.held.now) kept.limit 512 limit is.0.1)

-- what comes of a side that was taken up
module _ (config : Config) (bytes nonce : List ℕ) (before : Struct) (kept : Snapshot) (state : Logged)
    (keeps : Keeps before.connection kept.progress kept.expected kept.held.now) (wants : kept.progress ≡ InProgress)
    (limit : kept.limit ≡ 512) (extended : kept.extended_headers ≡ accepts_extended before.connection)
    (settings : ServerSettings) (meant : state.server.settings ≡ settings) (are : AreSettings config settings)
    (offers : offers_any settings ≡ true) (tested : NoneHolds (config_tests config)) (quiet : state.rejection ≡ None)
    (restores : RestoresStage before.scram state.server) where
  abbrev taken_side : Side Logged
  taken_side = side_of kept state

  reached : ServerIsReached config InProgress state
  reached = (carried (AreSettings config) settings state.server.settings (sym meant) are, quiet)

  is : IsServer config before taken_side
  is = taken_up config before kept state keeps wants limit reached restores

  is_fine : (why : Status) → ¬ IsNoConfig config why
  is_fine = is_config config settings are offers tested

  -- a side that it can be behind these bytes
  abbrev Follows : ℕ → List ℕ → ServerConnectionSide Served → Type 0
  Follows taken sent next =
      ServerTakes kept.extended_headers server_names server_machine taken_side bytes nonce taken sent (side_in next)

  -- what it takes by the struct
  takes : (taken : ℕ) (sent : List ℕ) (next : ServerConnectionSide Served) → Follows taken sent next
      → ServerTakes (accepts_extended before.connection) server_names server_machine taken_side bytes nonce taken sent
      (side_in next)
  takes taken sent next held =
      carried (λ (b : Bool). ServerTakes b server_names server_machine taken_side bytes nonce taken sent (side_in next))
      kept.extended_headers (accepts_extended before.connection) extended held

  -- a side after these bytes, and the structs that are written for it
  abbrev Answered : Struct → ℕ → List ℕ → Type 0
  Answered after taken sent = (next : ServerConnectionSide Served) × Follows taken sent next
      × (extended_in next ≡ kept.extended_headers) × ShowsBy state_of Shown after next
      × (after ≡ struct_by state_of written_for next)

  pub answered : (after : Struct) (taken : ℕ) (sent : List ℕ) (made_taken : ℕ) (made_sent : List ℕ)
      → made_taken ≡ taken → made_sent ≡ sent → IsServerKept kept → Answered after taken sent
      → Received config bytes nonce before after made_taken made_sent
  answered after taken sent made_taken made_sent as_many same is_kept (next, held, flag, shows, written) =
      carried (λ (n : ℕ). Received config bytes nonce before after n made_sent) taken made_taken (sym as_many)
      (carried (Received config bytes nonce before after taken) sent made_sent (sym same)
      (received config bytes nonce before after taken_side (side_in next) taken sent
      (is_no_fault config before kept keeps wants limit is_fine is_kept) is wants (takes taken sent next held)
      (is_server config after next shows
      (behind_serves config before kept.extended_headers taken_side (side_in next) bytes nonce taken sent is wants held)
      (behind_goes config before kept.extended_headers taken_side (side_in next) bytes nonce taken sent is wants held)
      (behind_limit config before kept.extended_headers taken_side (side_in next) bytes nonce taken sent is wants held))
      (carried (λ (b : Bool). after ≡ side_struct b (side_in next)) (extended_in next) (accepts_extended before.connection)
      (flag ∙ extended) (writes_side after next written))))

  pub short_answer : (after : Struct) (taken : ℕ) (sent : List ℕ) (made_taken : ℕ) (made_sent : List ℕ)
      → made_taken ≡ taken → made_sent ≡ sent → Answered after taken sent → length made_sent ≤ 520
  short_answer after taken sent made_taken made_sent as_many same (next, held, flag, shows, written) =
      carried (λ (s : List ℕ). length s ≤ 520) sent made_sent (sym same)
      (behind_short config before kept.extended_headers taken_side (side_in next) bytes nonce taken sent is wants held)

  pub unanswered : (status : Status) → NamesNone kept → ((status ≡ statuses.InvalidSnapshot) × ¬ IsServerKept kept)
      ⊎ ((status ≡ statuses.TooLong) × ((next : ServerConnectionSide Served) × (taken : ℕ) × (sent : List ℕ)
      × Follows taken sent next × HasNone state_of Shown next)) → NotReceived config bytes nonce before status
  unanswered status mock (inl wrong) =
      not_kept config bytes nonce before kept state status keeps wants limit mock reached is_fine wrong
  unanswered status mock (inr (same, (next, taken, sent, held, none))) =
      carried (NotReceived config bytes nonce before) statuses.TooLong status (sym same)
      (too_long config bytes nonce before taken_side (side_in next) taken sent is wants (takes taken sent next held)
      (no_server config next none
      (behind_held config before kept.extended_headers taken_side (side_in next) bytes nonce taken sent is wants held)))
