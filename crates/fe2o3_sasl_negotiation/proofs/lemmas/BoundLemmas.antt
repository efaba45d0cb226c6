-- What a side of a connection sends and holds, by a budget of bytes, and what a client sends.
use Rattle.std.proofs.Common.{◌≡◌, ◌≢◌, ◌⊎◌, ℕ, Bool, true, false, ◌+◌, ◌*◌, ◌<◌, ◌≤◌, Option, List, [], ◌∷◌, ◌++◌, length, drop, refl, sym, ap, ◌∙◌, subst, inl, inr, arith, length-append, Ok, Err}
use Rattle.std.proofs.lemmas.Bool.{cases_lt}
use Rattle.fe2o3_sasl_wire.specs.declared.amqp_types.SaslCode.TheVariants as outcomes
use Rattle.fe2o3_sasl_core.specs.Events.{ClientSays, Started, Answered, Reported, Refused}
use Rattle.fe2o3_sasl_core.specs.Profiles.{Profile, accepts_signature_by_challenge}
use Rattle.fe2o3_sasl_negotiation.specs.declared.progress.CloseReason.{CloseReason}
use Rattle.fe2o3_sasl_negotiation.specs.declared.progress.Expected.{Expected}
use Rattle.fe2o3_sasl_negotiation.specs.declared.progress.Expected.TheVariants.{Header, Frame}
use Rattle.fe2o3_sasl_negotiation.specs.declared.progress.Progress.{Progress}
use Rattle.fe2o3_sasl_negotiation.specs.declared.progress.Progress.TheVariants.{InProgress, Authenticated, Failed as HasFailed}
use Rattle.fe2o3_sasl_negotiation.specs.declared.progress.FrameKind.{FrameKind}
use Rattle.fe2o3_sasl_negotiation.specs.declared.progress.FrameKind.TheVariants as turns
use Rattle.fe2o3_sasl_negotiation.specs.ClientNegotiation as of_client
use Rattle.fe2o3_sasl_negotiation.specs.Connections.{fresh}
use Rattle.fe2o3_sasl_negotiation.specs.CostLaws.{Bounded, client_frames, ClientsAreBounded}
use Rattle.fe2o3_sasl_negotiation.specs.Framing.{IsPart}
use Rattle.fe2o3_sasl_negotiation.specs.Laws.{Call, Calls, Negotiates}
use Rattle.fe2o3_sasl_negotiation.specs.Negotiations.{Side, SideOutput, Receives, Sends, closes}
use Rattle.fe2o3_sasl_negotiation.proofs.lemmas.CutLemmas.{nothing_is_part, EndsUnit, unit_of_call, cuts_do_not_matter}
use Rattle.fe2o3_sasl_negotiation.proofs.lemmas.SignatureFlagLemmas.{flag_stays}
use Rattle.fe2o3_sasl_negotiation.proofs.lemmas.UnitLemmas.{length-framed}
use Rattle.fe2o3_sasl_core.specs.declared.sasl_profile.error.ProfileError.TheVariants.{NotImplemented, Scram, StaleKeys, Frame as FrameFault, OutOfMemory}

-- an answer sends no more than is left to it, and leaves to what is expected after it what is left of that
abbrev pub Keeps : (Expected → ℕ) → ℕ → SideOutput → Type 0
Keeps budget most answer = (length answer.sent ≤ most)
    × (answer.progress ≡ InProgress → length answer.sent + budget answer.expected ≤ most)

-- nothing is sent, and the side closes or has logged in
silent : (budget : Expected → ℕ) (most : ℕ) (answer other : SideOutput) → answer ≡ other → other.sent ≡ []
    → other.progress ≢ InProgress → Keeps budget most answer
silent budget most answer other same nothing ended =
    let sent : length answer.sent ≡ 0 = ap (λ (a : SideOutput). length a.sent) same ∙ ap length nothing in (
      omega (arith, sent),
      λ wants. absurd (ended (sym (ap (λ (a : SideOutput). a.progress) same) ∙ wants)),
    )

pub closed : (why : CloseReason) → HasFailed why ≢ InProgress
closed why same = cc

pub logged_in : Authenticated ≢ InProgress
logged_in same = cc

pub closes_keeps : {why : CloseReason} {expected : Expected} (budget : Expected → ℕ) (most : ℕ) (answer : SideOutput)
    → answer ≡ closes why expected → Keeps budget most answer
closes_keeps {why} {expected} budget most answer same = silent budget most answer (closes why expected) same refl (closed why)

-- a body is sent in a frame of at most 512 bytes, and 512 less are left for what is expected after it
pub sends_keeps : (budget : Expected → ℕ) (most : ℕ) (body : List ℕ) (progress : Progress) (expected : Expected)
    (answer : SideOutput)
    → 512 ≤ most → (progress ≡ InProgress → 512 + budget expected ≤ most) → Sends body progress expected answer
    → Keeps budget most answer
sends_keeps budget most body progress expected answer room left (inr (long, same)) = closes_keeps budget most answer same
sends_keeps budget most body progress expected answer room left (inl (fits, same)) =
    let sent : length answer.sent ≡ length body + 4 =
    ap (λ (a : SideOutput). length a.sent) same ∙ length-framed body in (
      omega (arith, sent, fits, room),
      λ wants. let rest = left (sym (ap (λ (a : SideOutput). a.progress) same) ∙ wants) in
          let behind : budget answer.expected ≡ budget expected = ap (λ (a : SideOutput). budget a.expected) same in
          omega (arith, sent, fits, rest, behind),
    )

module _ {S : Type 0} (Answers : Expected → S → List ℕ → List ℕ → SideOutput → S → Type 0) (budget : S → Expected → ℕ)
    (keeps : (expected : Expected) (state next : S) (nonce unit : List ℕ) (answer : SideOutput)
    → Answers expected state nonce unit answer next → Keeps (budget next) (budget state expected) answer) where
  -- a side at its end sends nothing
  ended_is_silent : (side last : Side S) (nonces : List (List ℕ)) (bytes sent : List ℕ) → side.progress ≢ InProgress
      → Negotiates Answers side nonces bytes sent last → sent ≡ []
  ended_is_silent side last [] bytes sent ended stops = stops.0
  ended_is_silent side last (nonce ∷ nonces) bytes sent ended
      (taken, first, next, behind, wants, no_part, receives, more, all) = absurd (ended wants)

  -- what is after an answer
  behind_answer_sent : (answer : SideOutput) (next last : Side S) (nonces : List (List ℕ)) (bytes behind : List ℕ)
      (most : ℕ)
      → next.progress ≡ answer.progress → Keeps (budget next.state) most answer
      → (next.progress ≡ InProgress → length behind ≤ budget next.state answer.expected)
      → Negotiates Answers next nonces bytes behind last → length answer.sent + length behind ≤ most
  behind_answer_sent answer next last nonces bytes behind most stands kept others made = go answer.progress refl
    where
      ends : answer.progress ≢ InProgress → length answer.sent + length behind ≤ most
      ends ended =
          let none : length behind ≡ 0 = ap length (ended_is_silent next last nonces bytes behind
          (λ wants. ended (sym stands ∙ wants)) made) in
          let within = kept.0 in
          omega (arith, none, within)

      go : (progress : Progress) → answer.progress ≡ progress → length answer.sent + length behind ≤ most
      go InProgress is =
          let rest = others (stands ∙ is) in
          let all = kept.1 is in
          omega (arith, rest, all)
      go Authenticated is = ends (λ wants. logged_in (sym is ∙ wants))
      go (HasFailed why) is = ends (λ wants. closed why (sym is ∙ wants))

  sent_within : (nonces : List (List ℕ)) (side last : Side S) (bytes sent : List ℕ)
      → Negotiates Answers side nonces bytes sent last → length sent ≤ budget side.state side.expected
  sent_within [] side last bytes sent stops = let none = ap length stops.0 in omega (arith, none)
  sent_within (nonce ∷ nonces) side last bytes sent
      (taken, first, next, behind, wants, no_part, receives, more, all) =
      let total : length sent ≡ length first + length behind = ap length all ∙ length-append first behind in
      go total (sent_within nonces next last (drop taken bytes) behind more)
      (unit_of_call Answers side next bytes nonce first taken wants no_part receives)
    where
      go : length sent ≡ length first + length behind → length behind ≤ budget next.state next.expected
          → (n : ℕ) × EndsUnit Answers side (side.held ++ bytes) nonce n taken first next
          → length sent ≤ budget side.state side.expected
      go total others (n, inl refused) =
          let none = ap length refused.2.1 in
          let rest = ap length (ended_is_silent next last nonces (drop taken bytes) behind
          (λ wanting. closed _ (sym (ap (λ (s : Side S). s.progress) refused.2.2) ∙ wanting)) more) in
          omega (arith, total, none, rest)
      go total others (n, inr (answer, state, whole, same, answers, ends)) =
          let one = ap length ends.1 in
          let dues : next.expected ≡ answer.expected = ap (λ (s : Side S). s.expected) ends.2 in
          let moved : state ≡ next.state = sym (ap (λ (s : Side S). s.state) ends.2) in
          let both = behind_answer_sent answer next last nonces (drop taken bytes) behind
          (budget side.state side.expected) (ap (λ (s : Side S). s.progress) ends.2)
          (subst (λ (s : S). Keeps (budget s) (budget side.state side.expected) answer) moved
          (keeps side.expected side.state state nonce _ answer answers))
          (λ wanting. subst (λ (d : Expected). length behind ≤ budget next.state d) dues others) more in
          omega (arith, total, one, both)

  -- what is held is less than a unit, and the limit stays
  held_within : (nonces : List (List ℕ)) (side last : Side S) (bytes sent : List ℕ)
      → IsPart side.expected side.limit side.held → Negotiates Answers side nonces bytes sent last
      → IsPart last.expected last.limit last.held × (last.limit ≡ side.limit)
  held_within [] side last bytes sent part (nothing, inl stops) = (
    subst (λ (s : Side S). IsPart s.expected s.limit s.held) (sym stops.2) stops.1,
    ap (λ (s : Side S). s.limit) stops.2,
  )
  held_within [] side last bytes sent part (nothing, inr stops) = (
    subst (λ (s : Side S). IsPart s.expected s.limit s.held) (sym stops.2) part,
    ap (λ (s : Side S). s.limit) stops.2,
  )
  held_within (nonce ∷ nonces) side last bytes sent part
      (taken, first, next, behind, wants, no_part, receives, more, all) =
      go (λ empty. held_within nonces next last (drop taken bytes) behind empty more)
      (unit_of_call Answers side next bytes nonce first taken wants no_part receives)
    where
      go : (IsPart next.expected next.limit next.held → IsPart last.expected last.limit last.held × (last.limit ≡ next.limit))
          → (n : ℕ) × EndsUnit Answers side (side.held ++ bytes) nonce n taken first next
          → IsPart last.expected last.limit last.held × (last.limit ≡ side.limit)
      go others (n, inl refused) =
          let rest = others (subst (λ (s : Side S). IsPart s.expected s.limit s.held) (sym refused.2.2)
          (nothing_is_part side.expected side.limit)) in
          (rest.0, rest.1 ∙ ap (λ (s : Side S). s.limit) refused.2.2)
      go others (n, inr (answer, state, whole, same, answers, ends)) =
          let rest = others (subst (λ (s : Side S). IsPart s.expected s.limit s.held) (sym ends.2)
          (nothing_is_part answer.expected side.limit)) in
          (rest.0, rest.1 ∙ ap (λ (s : Side S). s.limit) ends.2)

  part_within : (expected : Expected) (limit : ℕ) (held : List ℕ) → IsPart expected limit held
      → (length held < 8) ⊎ (length held < limit)
  part_within Header limit held part = inl part
  part_within (Frame turn) limit held part = go (cases_lt (length held) 4)
    where
      go : (length held < 4) ⊎ (4 ≤ length held) → (length held < 8) ⊎ (length held < limit)
      go (inl few) = inl (omega (arith, few))
      go (inr four) =
          let most = (part four).0.1 in
          let short = (part four).1 in
          inr (omega (arith, most, short))

  pub bounded : (limit : ℕ) (state : S) (calls : List Call) (stream sent rest : List ℕ) (last : Side S)
      → Calls (Receives Answers) (fresh limit state) calls stream sent last rest
      → Bounded (budget state Header) limit sent last
  bounded limit state calls stream sent rest last made =
      let (taken, nonces, all, whole) = cuts_do_not_matter Answers (fresh limit state) last calls stream sent rest
      (nothing_is_part Header limit) made in
      let (part, same) = held_within nonces (fresh limit state) last taken sent (nothing_is_part Header limit) whole
      in (
        sent_within nonces (fresh limit state) last taken sent whole,
        subst (λ (n : ℕ). (length last.held < 8) ⊎ (length last.held < n)) same
            (part_within last.expected last.limit last.held part),
      )

-- ---- clients

-- the bytes that a client may send yet, by whether it accepts the server's signature in a challenge
abbrev client_budget : Bool → Expected → ℕ
client_budget signs Header = client_frames signs * 512
client_budget signs (Frame turns.Mechanisms) = client_frames signs * 512
client_budget true (Frame turns.Challenge) = 2 * 512
client_budget false (Frame turns.Challenge) = 512
client_budget signs (Frame turns.SignatureChallenge) = 512
client_budget signs (Frame turn) = 0

abbrev ClientKeeps : Bool → Expected → SideOutput → Type 0
ClientKeeps signs expected answer = Keeps (client_budget signs) (client_budget signs expected) answer

-- what is left after an init, and after a response to a challenge
client_starts : (signs : Bool) (body : List ℕ) (answer : SideOutput)
    → of_client.ClientOutputs signs (Started body) turns.Mechanisms answer
    → ClientKeeps signs (Frame turns.Mechanisms) answer
client_starts true body answer sends =
    sends_keeps (client_budget true) _ body InProgress (Frame turns.Challenge) answer
    (omega arith) (λ _. omega arith) sends
client_starts false body answer sends =
    sends_keeps (client_budget false) _ body InProgress (Frame turns.Challenge) answer
    (omega arith) (λ _. omega arith) sends

client_answers : (signs : Bool) (body : List ℕ) (answer : SideOutput)
    → of_client.ClientOutputs signs (Answered body) turns.Challenge answer
    → ClientKeeps signs (Frame turns.Challenge) answer
client_answers true body answer sends =
    sends_keeps (client_budget true) _ body InProgress (Frame turns.SignatureChallenge) answer
    (omega arith) (λ _. omega arith) sends
client_answers false body answer sends =
    sends_keeps (client_budget false) _ body InProgress (Frame turns.Outcome) answer
    (omega arith) (λ _. omega arith) sends

client_says : (signs : Bool) (says : ClientSays) (turn : FrameKind) (answer : SideOutput)
    → of_client.ClientOutputs signs says turn answer → ClientKeeps signs (Frame turn) answer
client_says signs (Started body) turns.Mechanisms answer sends = client_starts signs body answer sends
client_says signs (Started body) turns.Init answer same = closes_keeps (client_budget signs) _ answer same
client_says signs (Started body) turns.Challenge answer same = closes_keeps (client_budget signs) _ answer same
client_says signs (Started body) turns.Response answer same = closes_keeps (client_budget signs) _ answer same
client_says signs (Started body) turns.Outcome answer same = closes_keeps (client_budget signs) _ answer same
client_says signs (Started body) turns.SignatureChallenge answer same = closes_keeps (client_budget signs) _ answer same
client_says signs (Answered body) turns.Challenge answer sends = client_answers signs body answer sends
client_says signs (Answered body) turns.SignatureChallenge answer sends =
    sends_keeps (client_budget signs) _ body InProgress (Frame turns.Outcome) answer
    (omega arith) (λ _. omega arith) sends
client_says signs (Answered body) turns.Mechanisms answer same = closes_keeps (client_budget signs) _ answer same
client_says signs (Answered body) turns.Init answer same = closes_keeps (client_budget signs) _ answer same
client_says signs (Answered body) turns.Response answer same = closes_keeps (client_budget signs) _ answer same
client_says signs (Answered body) turns.Outcome answer same = closes_keeps (client_budget signs) _ answer same
client_says signs (Reported outcomes.Ok more) turn answer same =
    silent (client_budget signs) _ answer (record { sent = []; progress = Authenticated; expected = Frame turn }) same
    refl logged_in
client_says signs (Reported outcomes.Auth more) turn answer same = closes_keeps (client_budget signs) _ answer same
client_says signs (Reported outcomes.Sys more) turn answer same = closes_keeps (client_budget signs) _ answer same
client_says signs (Reported outcomes.SysPerm more) turn answer same = closes_keeps (client_budget signs) _ answer same
client_says signs (Reported outcomes.SysTemp more) turn answer same = closes_keeps (client_budget signs) _ answer same
client_says signs (Refused OutOfMemory) turn answer never = absurd never
client_says signs (Refused NotImplemented) turn answer refused = closes_keeps (client_budget signs) _ answer refused
client_says signs (Refused (Scram kind)) turn answer refused = closes_keeps (client_budget signs) _ answer refused
client_says signs (Refused StaleKeys) turn answer refused = closes_keeps (client_budget signs) _ answer refused
client_says signs (Refused (FrameFault fault)) turn answer refused = closes_keeps (client_budget signs) _ answer refused

-- the bytes that a client of this profile may send yet
abbrev profile_budget : Profile → Expected → ℕ
profile_budget profile expected = client_budget (accepts_signature_by_challenge profile) expected

client_keeps : (hostname : Option (List ℕ)) (expected : Expected) (profile next : Profile) (nonce unit : List ℕ)
    (answer : SideOutput) → of_client.ClientSideAnswers hostname expected profile nonce unit answer next
    → Keeps (profile_budget next) (profile_budget profile expected) answer
client_keeps hostname Header profile next nonce unit answer (inl (other, same), kept) =
    closes_keeps (profile_budget next) _ answer same
client_keeps hostname Header profile next nonce unit answer (inr (is, same), kept) =
    let sent : length answer.sent ≡ 0 = ap (λ (a : SideOutput). length a.sent) same in
    let behind : profile_budget next answer.expected ≡ client_frames (accepts_signature_by_challenge next) * 512 =
    ap (λ (a : SideOutput). profile_budget next a.expected) same in
    let frames : client_frames (accepts_signature_by_challenge next)
    ≡ client_frames (accepts_signature_by_challenge profile) =
    ap (λ (p : Profile). client_frames (accepts_signature_by_challenge p)) kept in
    (omega (arith, sent), λ _. omega (arith, sent, behind, frames))
client_keeps hostname (Frame turn) profile next nonce unit answer (Err fault, spells, unread) =
    closes_keeps (profile_budget next) _ answer unread.0
client_keeps hostname (Frame turn) profile next nonce unit answer (Ok frame, spells, inl out) =
    closes_keeps (profile_budget next) _ answer out.1
client_keeps hostname (Frame turn) profile next nonce unit answer
    (Ok frame, spells, inr (in_turn, (says, steps, said))) =
    subst (λ (signs : Bool). Keeps (client_budget signs) (profile_budget profile (Frame turn)) answer)
    (sym (flag_stays hostname profile (record { body = drop 4 unit; nonce = nonce }) says next steps))
    (client_says (accepts_signature_by_challenge profile) says turn answer said)

pub clients_are_bounded : ClientsAreBounded
clients_are_bounded hostname profile limit calls stream sent rest last made =
    bounded (of_client.ClientSideAnswers hostname) profile_budget (client_keeps hostname) limit profile calls stream
    sent rest last made
