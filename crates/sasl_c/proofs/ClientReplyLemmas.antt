-- What a call sends for a client, and the side after it (AMQP 1.0, part 5, section 5.3.1).
use Rattle.std.proofs.Common.{arith, refl, sym, ap, inl, inr, ◌∙◌, ◌≡◌, ◌≤◌, ◌<◌, ◌⊎◌, ◌+◌, ◌++◌, ℕ, List, [], length}
use Rattle.std.specs.Prelude.{Option, Bool, true, false, Ok, Err}
use Rattle.std.proofs.lemmas.Bool.{cases_lt}
use Rattle.fe2o3_sasl_wire.specs.declared.amqp_types.SaslCode.TheVariants as outcomes
use Rattle.fe2o3_sasl_core.specs.Events.{ClientSays, Started, Answered, Reported, Refused}
use Rattle.fe2o3_sasl_core.specs.Profiles.{Profile, accepts_signature_by_challenge}
use Rattle.fe2o3_sasl_negotiation.specs.declared.progress.Expected.{Expected}
use Rattle.fe2o3_sasl_negotiation.specs.declared.progress.Expected.TheVariants.{Header, Frame}
use Rattle.fe2o3_sasl_negotiation.specs.declared.progress.Progress.{Progress}
use Rattle.fe2o3_sasl_negotiation.specs.declared.progress.Progress.TheVariants.{InProgress}
use Rattle.fe2o3_sasl_negotiation.specs.declared.progress.FrameKind.{FrameKind}
use Rattle.fe2o3_sasl_negotiation.specs.declared.progress.FrameKind.TheVariants as turns
use Rattle.fe2o3_sasl_negotiation.specs.ClientNegotiation.{ClientSideAnswers, ClientOutputs}
use Rattle.fe2o3_sasl_negotiation.specs.Framing.{IsPart, unit_read}
use Rattle.fe2o3_sasl_negotiation.specs.Negotiations.{Reading, Side, SideOutput, Sends, ReceivesAt}
use Rattle.fe2o3_sasl_negotiation.proofs.lemmas.UnitLemmas.{length-framed}
use Rattle.sasl_c.specs.declared.sasl_client.SaslClient.{SaslClient as Struct}
use Rattle.sasl_c.specs.declared.sasl_client.SaslLogin.{SaslLogin as Login}
use Rattle.sasl_c.specs.SaslClient.{ClientTakes, ProfileIsReached, IsClient}
use Rattle.sasl_c.proofs.StatusLemmas.{carried}
use Rattle.fe2o3_sasl_core.specs.declared.sasl_profile.error.ProfileError.TheVariants.{NotImplemented, Scram, StaleKeys, Frame as FrameFault, OutOfMemory}
use Rattle.sasl_c.proofs.ClientReachLemmas.{answers_comes, profile_comes}

-- ---- an answer has 512 bytes at most (part 5, section 5.3.1)

abbrev Short : SideOutput → Type 0
Short answer = length answer.sent ≤ 512

silent_short : (answer other : SideOutput) → answer ≡ other → other.sent ≡ [] → Short answer
silent_short answer other same nothing =
    let sent : length answer.sent ≡ 0 = ap (λ (a : SideOutput). length a.sent) same ∙ ap length nothing in
    omega (arith, sent)

sends_short : (body : List ℕ) (progress : Progress) (expected : Expected) (answer : SideOutput)
    → Sends body progress expected answer
    → Short answer
sends_short body progress expected answer (inr (long, same)) = silent_short answer _ same refl
sends_short body progress expected answer (inl (fits, same)) =
    let sent : length answer.sent ≡ length body + 4 = ap (λ (a : SideOutput). length a.sent) same ∙ length-framed body in
    omega (arith, sent, fits)

says_short : (signs : Bool) (says : ClientSays) (turn : FrameKind) (answer : SideOutput) → ClientOutputs signs says turn answer
    → Short answer
says_short signs (Started body) turns.Mechanisms answer sends = sends_short body _ _ answer sends
says_short signs (Started body) turns.Init answer same = silent_short answer _ same refl
says_short signs (Started body) turns.Challenge answer same = silent_short answer _ same refl
says_short signs (Started body) turns.Response answer same = silent_short answer _ same refl
says_short signs (Started body) turns.Outcome answer same = silent_short answer _ same refl
says_short signs (Started body) turns.SignatureChallenge answer same = silent_short answer _ same refl
says_short signs (Answered body) turns.Challenge answer sends = sends_short body _ _ answer sends
says_short signs (Answered body) turns.SignatureChallenge answer sends = sends_short body _ _ answer sends
says_short signs (Answered body) turns.Mechanisms answer same = silent_short answer _ same refl
says_short signs (Answered body) turns.Init answer same = silent_short answer _ same refl
says_short signs (Answered body) turns.Response answer same = silent_short answer _ same refl
says_short signs (Answered body) turns.Outcome answer same = silent_short answer _ same refl
says_short signs (Reported outcomes.Ok more) turn answer same = silent_short answer _ same refl
says_short signs (Reported outcomes.Auth more) turn answer same = silent_short answer _ same refl
says_short signs (Reported outcomes.Sys more) turn answer same = silent_short answer _ same refl
says_short signs (Reported outcomes.SysPerm more) turn answer same = silent_short answer _ same refl
says_short signs (Reported outcomes.SysTemp more) turn answer same = silent_short answer _ same refl
says_short signs (Refused OutOfMemory) turn answer never = absurd never
says_short signs (Refused NotImplemented) turn answer refused = silent_short answer _ refused refl
says_short signs (Refused (Scram kind)) turn answer refused = silent_short answer _ refused refl
says_short signs (Refused StaleKeys) turn answer refused = silent_short answer _ refused refl
says_short signs (Refused (FrameFault fault)) turn answer refused = silent_short answer _ refused refl

answers_short : (hostname : Option (List ℕ)) (expected : Expected) (profile next : Profile) (nonce unit : List ℕ)
    (answer : SideOutput) → ClientSideAnswers hostname expected profile nonce unit answer next → Short answer
answers_short hostname Header profile next nonce unit answer (inl other, kept) = silent_short answer _ other.1 refl
answers_short hostname Header profile next nonce unit answer (inr is, kept) = silent_short answer _ is.1 refl
answers_short hostname (Frame turn) profile next nonce unit answer (Err fault, spells, unread) =
    silent_short answer _ unread.0 refl
answers_short hostname (Frame turn) profile next nonce unit answer (Ok frame, spells, inl out) =
    silent_short answer _ out.1 refl
answers_short hostname (Frame turn) profile next nonce unit answer
    (Ok frame, spells, inr (in_turn, (says, steps, said))) =
    says_short (accepts_signature_by_challenge profile) says turn answer said

-- ---- a call

-- what a side answers to a unit, it answers to what it reads of the unit
pub answers_read : {S : Type 0} (Answers : Expected → S → List ℕ → List ℕ → SideOutput → S → Type 0) (accepts : Bool)
    (expected : Expected) (state next : S) (nonce unit : List ℕ) (answer : SideOutput)
    → Reading accepts Answers expected state nonce unit answer next
    → (read : List ℕ) × Answers expected state nonce read answer next
answers_read Answers false expected state next nonce unit answer is = (unit, is)
answers_read Answers true expected state next nonce unit answer is = (unit_read true expected unit, is)

-- what has come of a unit
pub part_short : (expected : Expected) (come : List ℕ) → IsPart expected 512 come → length come ≤ 512
part_short Header come part = omega (arith, part)
part_short (Frame turn) come part = go (cases_lt (length come) 4)
  where
    go : (length come < 4) ⊎ (4 ≤ length come) → length come ≤ 512
    go (inl few) = omega (arith, few)
    go (inr four) = omega (arith, (part four).0.1, (part four).1)

-- what is reached after a call of this login
record Behind (login : Login) (next : Side Profile) (sent : List ℕ) : Type 0 where
  comes : ProfileIsReached login next.state
  limit : next.limit ≡ 512
  held : length next.held ≤ 512
  short : length sent ≤ 512

behind : (login : Login) (next other : Side Profile) (sent more : List ℕ) → next ≡ other → sent ≡ more
    → ProfileIsReached login other.state → other.limit ≡ 512 → length other.held ≤ 512 → length more ≤ 512
    → Behind login next sent
behind login next other sent more same is comes limit held short =
    carried (λ given. Behind login given sent) other next (sym same) (record {
      comes = comes;
      limit = limit;
      held = held;
      short = carried (λ (s : List ℕ). length s ≤ 512) more sent (sym is) short;
    })

wanting_behind : (login : Login) (accepts : Bool) (hostname : Option (List ℕ)) (side next : Side Profile)
    (bytes nonce : List ℕ) (taken : ℕ) (sent : List ℕ)
    → ReceivesAt InProgress (Reading accepts (ClientSideAnswers hostname)) side bytes nonce taken sent next
    → side.limit ≡ 512 → ProfileIsReached login side.state → Behind login next sent
wanting_behind login accepts hostname side next bytes nonce taken sent (inl (part, waits)) limit comes =
    behind login next _ sent [] waits.2 waits.1 comes limit
    (part_short side.expected (side.held ++ bytes)
    (carried (λ n. IsPart side.expected n (side.held ++ bytes)) side.limit 512 limit part)) (omega arith)
wanting_behind login accepts hostname side next bytes nonce taken sent (inr (inl (refused, ends))) limit comes =
    behind login next _ sent [] ends.2 ends.1 comes limit (omega arith) (omega arith)
wanting_behind login accepts hostname side next bytes nonce taken sent (inr (inr (answer, state, whole, answers, ends)))
    limit comes =
    let reads = answers_read (ClientSideAnswers hostname) accepts side.expected side.state state nonce _ answer answers in
    behind login next _ sent answer.sent ends.2 ends.1
    (answers_comes login hostname side.expected side.state state nonce reads.0 answer reads.1 comes) limit (omega arith)
    (answers_short hostname side.expected side.state state nonce reads.0 answer reads.1)

receives_behind : (login : Login) (accepts : Bool) (hostname : Option (List ℕ)) (side next : Side Profile)
    (bytes nonce : List ℕ) (taken : ℕ) (sent : List ℕ) → side.progress ≡ InProgress
    → ClientTakes accepts hostname side bytes nonce taken sent next → side.limit ≡ 512
    → ProfileIsReached login side.state → Behind login next sent
receives_behind login accepts hostname side next bytes nonce taken sent wanting is limit comes =
    wanting_behind login accepts hostname side next bytes nonce taken sent
    (carried (λ s. ReceivesAt s (Reading accepts (ClientSideAnswers hostname)) side bytes nonce taken sent next)
    side.progress InProgress wanting is) limit comes

-- what the side after a call is, and what is sent
pub behind_all : (login : Login) (before : Struct) (accepts : Bool) (hostname : Option (List ℕ)) (side next : Side Profile)
    (bytes nonce old items : List ℕ) (taken : ℕ) → IsClient login before side → side.progress ≡ InProgress → old ≡ []
    → (sent : List ℕ) × (items ≡ old ++ sent) × ClientTakes accepts hostname side bytes nonce taken sent next
    → ClientTakes accepts hostname side bytes nonce taken items next × ProfileIsReached login next.state
    × (next.limit ≡ 512) × (length next.held ≤ 512) × (length items ≤ 512)
behind_all login before accepts hostname side next bytes nonce old items taken is wanting empty (sent, all, held) =
    let same : items ≡ sent = all ∙ ap (λ (o : List ℕ). o ++ sent) empty in
    let whole = carried (λ s. ClientTakes accepts hostname side bytes nonce taken s next) sent items (sym same) held in
    let last = receives_behind login accepts hostname side next bytes nonce taken items wanting whole is.0.1
    (profile_comes login before.scram side.state is.1) in
    (whole, last.comes, last.limit, last.held, last.short)
