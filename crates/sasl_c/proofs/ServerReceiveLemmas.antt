-- That the name of a user whom bytes claim fits into the room of a call, and what a call that needs no records writes.
use Rattle.std.proofs.Common.{arith, ap, Bool, true, false, inl, inr, ◌≡◌, ◌-◌, ◌<◌, ◌≤◌, ◌⊎◌, ◌++◌, ◌∷◌, ℕ, List, [], length}
use Rattle.std.specs.Prelude.{Some, None, slice_get, drop, take, codes, Result, Ok, Err}
use Rattle.std.specs.List.{join_with_byte}
use Rattle.std.proofs.lemmas.List.{length-append, length-drop, length-take, length-take-le}
use Rattle.fe2o3_sasl_wire.specs.SaslFrames as frames
use Rattle.fe2o3_sasl_wire.specs.SaslFrames.{Begins, Binary, Field, SaslFrame, Spells, SpellsItems, SpellsList, SpellsVariable, Symbol, Text, list_body, number, optional}
use Rattle.fe2o3_scram.specs.ChannelBinding.{header_text}
use Rattle.fe2o3_scram.specs.ClientFirst.{ClientFirst, NamesClientFirst, ReadsClientFirst}
use Rattle.fe2o3_scram.specs.Escape.{escaped, escaped_byte}
use Rattle.fe2o3_scram.specs.ServerFirst.{ServerChallenge}
use Rattle.fe2o3_scram.specs.Texts.{Part}
use Rattle.fe2o3_scram.specs.declared.scram_messages.server_rules.ServerRules.{ServerRules}
use Rattle.fe2o3_scram.proofs.lemmas.texts.EscapingLemmas.{by_cases, escaped-cons}
use Rattle.fe2o3_sasl_core.specs.LoginAttempts.{ClaimsUser}
use Rattle.fe2o3_sasl_negotiation.specs.declared.progress.FrameKind.{FrameKind}
use Rattle.fe2o3_sasl_negotiation.specs.declared.progress.FrameKind.TheVariants as turns
use Rattle.fe2o3_sasl_negotiation.specs.Framing.{body_read, size_of}
use Rattle.fe2o3_sasl_negotiation.specs.Negotiations.{Completes, Side}
use Rattle.fe2o3_sasl_negotiation.proofs.lemmas.ExtendedLemmas.{unextended_is_no_longer}
use Rattle.sasl_c.specs.declared.sasl_server.SaslServerConfig.{SaslServerConfig as Config}
use Rattle.sasl_c.specs.declared.sasl_server.SaslServer.{SaslServer as Struct}
use Rattle.sasl_c.specs.declared.server.ScramServer.{ScramServer as ScramStruct}
use Rattle.sasl_c.specs.declared.status.Status.{Status}
use Rattle.sasl_c.specs.declared.status.Status.TheVariants as statuses
use Rattle.sasl_c.specs.declared.status.WriteError.{WriteError}
use Rattle.sasl_c.specs.declared.status.WriteError.TheVariants.{RoomTooSmall, Other}
use Rattle.sasl_c.specs.Client.{is_set}
use Rattle.sasl_c.specs.Connection.{accepts_extended}
use Rattle.sasl_c.specs.SaslServer.{FrameNames, Named, NotNamed, ReceivesAsServer}
use Rattle.sasl_c.specs.Server.{IsOpen}
use Rattle.sasl_c.specs.ServerReceive.{NeedsNoRecords, NeedsRecords, ReceivesOrAsks}
use Rattle.sasl_c.specs.Status.{AsksText, FillsWithin, Room, with_written}

-- ---- a claim is no longer than its text

some_byte : (b : ℕ) → 1 ≤ length (escaped_byte b)
some_byte b = by_cases b (λ (text : List ℕ). 1 ≤ length text) (λ is. omega arith) (λ is. omega arith)
    (λ no_comma no_equals. omega arith)

-- a name is no longer than it is with escapes (RFC 5802, section 5.1)
short_name : (name : List ℕ) → length name ≤ length (escaped name)
short_name [] = omega arith
short_name (b ∷ name) =
    let all = ap length (escaped-cons b name) in
    omega (arith, all, length-append (escaped_byte b) (escaped name), some_byte b, short_name name)

-- the first part of a text is no longer than it
short_first : (parts : List (List ℕ)) (part : List ℕ) → slice_get parts 0 ≡ Some part
    → length part ≤ length (join_with_byte 44 parts)
short_first [] part is = absurd (cc)
short_first (first ∷ []) part is = let same : first ≡ part = cc in omega (arith, ap length same)
short_first (first ∷ next ∷ more) part is =
    let same : first ≡ part = cc in
    omega (arith, ap length same, length-append first (44 ∷ join_with_byte 44 (next ∷ more)))

short_part : (text part : List ℕ) → Part text 0 part → length part ≤ length text
short_part text part (parts, are, is) = omega (arith, short_first parts part is, ap length are.whole)

short_user : (rules : ServerRules) (text : List ℕ) (first : ClientFirst) → NamesClientFirst rules text first
    → length first.user ≤ length text
short_user rules text first names =
    let part = short_part first.bare (codes "n=" ++ escaped first.user) names.user in
    let bare = ap length names.bare in
    omega (
      arith,
      part,
      bare,
      length-append (codes "n=") (escaped first.user),
      short_name first.user,
      length-append (header_text first.header) first.bare,
    )

read_user : (rules : ServerRules) (text : List ℕ) (first : ClientFirst) → ReadsClientFirst rules text (Ok first)
    → length first.user ≤ length text
unfolding ReadsClientFirst
read_user rules text first reads = short_user rules text first reads.1

-- the user whom an initial response claims (RFC 5802, section 7; RFC 4616, section 2)
short_claim : (mechanism text name : List ℕ) → ClaimsUser mechanism text name → length name ≤ length text
short_claim mechanism text name (inl (version, plus, is, (accept, first, reads, same))) =
    omega (arith, ap length same, read_user _ text first reads)
short_claim mechanism text name (inr (is, (parts, spells, taken, same))) =
    let all = ap length spells.4 in
    omega (
      arith,
      ap length same,
      all,
      length-append parts.identity (0 ∷ (parts.user ++ 0 ∷ parts.password)),
      length-append parts.user (0 ∷ parts.password),
    )

-- ---- a text is no longer than the body that spells it (AMQP 1.0, part 1, sections 1.2 and 1.6)

short_variable : (short long : ℕ) (bytes b : List ℕ) → SpellsVariable short long bytes b → length bytes ≤ length b
short_variable short long bytes b is =
    let all = ap length is.whole in omega (arith, all, length-append (number is.form (length bytes)) bytes)

short_field : (text : List ℕ) (fields : List Field) (count : ℕ) (items : List ℕ)
    → SpellsItems (Binary text ∷ fields) count items → length text ≤ length items
short_field text fields count items (inl (absent, zero, empty)) = absurd (let null = absent.0 in cc)
short_field text fields count items (inr (before, item, others, next, same, spells, rest)) =
    omega (arith, ap length same, length-append item others, short_variable 0xa0 0xb0 text item spells)

short_second : (mechanism text : List ℕ) (fields : List Field) (count : ℕ) (items : List ℕ)
    → SpellsItems (Symbol mechanism ∷ Binary text ∷ fields) count items → length text ≤ length items
short_second mechanism text fields count items (inl (absent, zero, empty)) = absurd (let null = absent.0 in cc)
short_second mechanism text fields count items (inr (before, item, others, next, same, spells, rest)) =
    omega (arith, ap length same, length-append item others, short_field text fields before others rest)

short_list : (count : ℕ) (items b : List ℕ) → SpellsList count items b → length items ≤ length b
short_list count items b (inl (zero, empty, is)) = omega (arith, ap length empty)
short_list count items b (inr sized) =
    let all = ap length sized.whole in
    let body = list_body sized.form count items in
    omega (
      arith,
      all,
      length-append (number sized.form (length body)) body,
      length-append (number sized.form count) items,
    )

short_items : (frame : SaslFrame) (b : List ℕ) (is : Spells frame b) → length is.items ≤ length b
short_items frame b is =
    let all = ap length is.whole in
    omega (arith, all, length-append is.descriptor is.fields, short_list is.count is.items is.fields is.listed)

short_begin : (body : List ℕ) (frame : SaslFrame) (n : ℕ) → Begins body frame n → length (take n body) ≤ length body
short_begin body frame n begins = omega (arith, length-take-le n body begins.within, begins.within)

-- ---- a frame that names a user

short_challenge : (scram : ScramStruct) (challenge : ServerChallenge) → IsOpen scram challenge
    → length challenge.user ≤ 256
short_challenge scram challenge opens =
    let same = ap (λ (c : ServerChallenge). length c.user) opens.2 in
    omega (arith, same, length-take scram.user_len scram.user, opens.1.0)

short_named : (scram : ScramStruct) (turn : FrameKind) (frame : SaslFrame) (body name : List ℕ) (n : ℕ)
    → Begins body frame n → length body ≤ 508 → FrameNames scram turn frame name → length name ≤ 512
short_named scram turns.Init (frames.Init mechanism (Some text) hostname) body name n begins few names =
    omega (
      arith,
      few,
      short_claim mechanism text name names,
      short_second mechanism text (optional Text hostname ∷ []) begins.spelled.count begins.spelled.items begins.spelled.each,
      short_items _ (take n body) begins.spelled,
      short_begin body _ n begins,
    )
short_named scram turns.Init (frames.Init mechanism None hostname) body name n begins few names = absurd (cc)
short_named scram turns.Init (frames.Mechanisms offered) body name n begins few names = absurd names
short_named scram turns.Init (frames.Challenge text) body name n begins few names = absurd names
short_named scram turns.Init (frames.Response text) body name n begins few names = absurd names
short_named scram turns.Init (frames.Outcome code more) body name n begins few names = absurd names
short_named scram turns.Response (frames.Response text) body name n begins few (inl (challenge, opens, same)) =
    omega (arith, ap length same, short_challenge scram challenge opens)
short_named scram turns.Response (frames.Response text) body name n begins few (inr (mechanism, nonce, asked, claims)) =
    omega (
      arith,
      few,
      short_claim _ text name claims,
      short_field text [] begins.spelled.count begins.spelled.items begins.spelled.each,
      short_items _ (take n body) begins.spelled,
      short_begin body _ n begins,
    )
short_named scram turns.Response (frames.Mechanisms offered) body name n begins few names = absurd names
short_named scram turns.Response (frames.Init mechanism response hostname) body name n begins few names = absurd names
short_named scram turns.Response (frames.Challenge text) body name n begins few names = absurd names
short_named scram turns.Response (frames.Outcome code more) body name n begins few names = absurd names
short_named scram turns.Mechanisms frame body name n begins few names = absurd names
short_named scram turns.Challenge frame body name n begins few names = absurd names
short_named scram turns.Outcome frame body name n begins few names = absurd names
short_named scram turns.SignatureChallenge frame body name n begins few names = absurd names

-- the body of a frame of at most 512 bytes (part 5, section 5.3.1)
short_body : {S : Type 0} (side : Side S) (bytes : List ℕ) (turn : FrameKind) (body : List ℕ) → side.limit ≡ 512
    → Completes side bytes turn body → (accepts : Bool) → length (body_read accepts body) ≤ 508
short_body side bytes turn body limit done accepts = go accepts
  where
    come : List ℕ
    come = side.held ++ bytes

    unit : length (take (size_of come) come) ≡ size_of come
    unit = length-take-le (size_of come) come done.2.1

    long : 8 ≤ size_of come
    long = done.2.0.0

    few : size_of come ≤ 512
    few = let most = done.2.0.1 in omega (arith, most, limit)

    rest : length body ≡ length (drop 4 (take (size_of come) come))
    rest = ap length done.3

    less : length (drop 4 (take (size_of come) come)) ≡ length (take (size_of come) come) - 4
    less = length-drop 4 (take (size_of come) come)

    go : (accepts : Bool) → length (body_read accepts body) ≤ 508
    go false = let u = unit in let f = few in let r = rest in let l = less in omega (arith, u, f, r, l)
    go true = let u = unit in let f = few in let r = rest in let l = less in let e = long in
        let no_longer = unextended_is_no_longer body (omega (arith, u, e, r, l)) in
        omega (arith, u, f, r, l, no_longer.1)

-- the name of a user fits into the room of a call
pub name_fits : (server : Struct) (bytes name : List ℕ) → Named server bytes name → length name ≤ 512
unfolding Named
name_fits server bytes name (side, turn, body, of, done, (frame, (n, begins), names)) =
    short_named server.scram turn frame _ name n begins
    (short_body side bytes turn body of.1 done (accepts_extended server.connection)) names

-- ---- what a call needs

pub looked_up : (config : Config) (server : Struct) (bytes : List ℕ) → is_set config.looked_up ≡ true
    → NeedsNoRecords config server bytes
unfolding NeedsNoRecords
looked_up config server bytes is = inl is

pub claims_none : (config : Config) (server : Struct) (bytes : List ℕ) (why : Status) → NotNamed server bytes why
    → NeedsNoRecords config server bytes
unfolding NeedsNoRecords
claims_none config server bytes why none = inr (why, none)

pub ruleset needed = (looked_up, claims_none, name_fits)

-- ---- what a call writes

module _ (config : Config) (bytes nonce : List ℕ) (before after : Struct) (taken : ℕ) (room left : Room) where
  abbrev Writes : Result (Unit {0}) WriteError → Type 0
  Writes = ReceivesOrAsks config bytes nonce before after taken room left

  pub too_small : left.bytes ≡ room.bytes → length room.bytes < 520 → left.len ≡ 520 → Writes (Err RoomTooSmall)
  unfolding ReceivesOrAsks
  too_small stays less says = inl (stays, less, says)

  pub out_of_memory : (status : Status) → status ≡ statuses.OutOfMemory → left.bytes ≡ room.bytes
      → 520 ≤ length room.bytes → left.len ≡ room.len → Writes (Err (Other status))
  unfolding ReceivesOrAsks
  out_of_memory status memory stays fits len = inl (stays, fits, len, λ other. absurd (other memory))

  pub asked : (name : List ℕ) → NeedsRecords config before bytes name → length name ≤ 512 → 520 ≤ length room.bytes
      → left.bytes ≡ with_written name room.bytes → left.len ≡ length name → (why : WriteError)
      → why ≡ Other statuses.NeedsRecords → Writes (Err why)
  unfolding ReceivesOrAsks
  asked name needs short fits bytes_are len why is = inr (name, needs, ap Err is, fits, bytes_are, len, short)

  pub known : NeedsNoRecords config before bytes → (answer : Result (Unit {0}) WriteError)
      → FillsWithin 520 (ReceivesAsServer config bytes nonce before after taken) room left answer → Writes answer
  unfolding ReceivesOrAsks
  known needs (Ok done) fills = inl (fills.0, (needs, fills.1), fills.2, fills.3, fills.4)
  known needs (Err RoomTooSmall) fills = inl fills
  known needs (Err (Other status)) fills = inl (fills.0, fills.1, fills.2, λ other. (needs, fills.3 other))

-- memory is requested for the frame that bytes complete, or for what a call makes of it
pub asks_later : (P Q : Type 0) (answer : Result (Unit {0}) WriteError) → AsksText Q answer → AsksText (P ⊎ Q) answer
asks_later P Q (Ok done) asks = tt
asks_later P Q (Err why) asks = λ memory. inr (asks memory)

pub ruleset receives = (too_small, out_of_memory, asked, known, asks_later)
