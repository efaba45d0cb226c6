-- Every connection of a client is a run of its profile over the bodies of the server's frames.
use Rattle.std.proofs.Common.{◌≡◌, ℕ, Bool, ◌-◌, ◌<◌, Option, List, [], ◌++◌, length, take, drop, refl, sym, ap, ◌∙◌, subst, inl, inr, arith, Result}
use Rattle.std.proofs.lemmas.List.{length-take-le, take_all}
use Rattle.bytes.proofs.Ranges.{take-append_past}
use Rattle.fe2o3_sasl_wire.specs.declared.amqp_types.SaslCode.TheVariants as outcomes
use Rattle.fe2o3_sasl_wire.specs.declared.sasl_frames.error.Error.{Error}
use Rattle.fe2o3_sasl_wire.specs.SaslFrames.{SaslFrame, IsBytes}
use Rattle.fe2o3_sasl_core.specs.Bodies.{SpellsBody}
use Rattle.fe2o3_sasl_core.specs.Events.{Given, ClientSays, Started, Answered, Reported, Refused as ClientRefused}
use Rattle.fe2o3_sasl_core.specs.Profiles.{Profile, accepts_signature_by_challenge}
use Rattle.fe2o3_sasl_core.specs.Runs.{ProfileSteps}
use Rattle.fe2o3_sasl_negotiation.specs.declared.progress.CloseReason.TheVariants.{ProtocolHeaderMismatch}
use Rattle.fe2o3_sasl_negotiation.specs.declared.progress.Expected.TheVariants.{Frame}
use Rattle.fe2o3_sasl_negotiation.specs.declared.progress.Progress.{Progress}
use Rattle.fe2o3_sasl_negotiation.specs.declared.progress.Progress.TheVariants.{InProgress, Authenticated, Failed}
use Rattle.fe2o3_sasl_negotiation.specs.declared.progress.FrameKind.{FrameKind}
use Rattle.fe2o3_sasl_negotiation.specs.declared.progress.FrameKind.TheVariants as turns
use Rattle.fe2o3_sasl_negotiation.specs.ClientNegotiation.{ClientOpens, ClientOutputs, client_follows, ClientSideAnswers, ClientReceives}
use Rattle.fe2o3_sasl_negotiation.specs.Connections.{Piece, ClientConnection, ClientsConnect, fresh}
use Rattle.fe2o3_sasl_negotiation.specs.Negotiations.{AnswersTo, Side, SideOutput, Receives, ReceivesAt}
use Rattle.fe2o3_sasl_negotiation.specs.private.Pieces.{NextNonces}
use Rattle.fe2o3_sasl_negotiation.proofs.lemmas.ConnectionLemmas.{failed_is_not_in_progress, authenticated_is_not_in_progress, opened, negotiated_call, negotiated_more, rests_there, connected}
use Rattle.fe2o3_sasl_negotiation.proofs.lemmas.SignatureFlagLemmas.{flag_stays}
use Rattle.fe2o3_sasl_negotiation.proofs.lemmas.PieceLemmas.{IsChain}
use Rattle.fe2o3_sasl_negotiation.proofs.lemmas.KindLemmas.{progress_of, closes_waits_not, sends_goes_on}
use Rattle.fe2o3_sasl_core.specs.declared.sasl_profile.error.ProfileError.TheVariants.{NotImplemented, Scram, StaleKeys, Frame as FrameFault, OutOfMemory}

-- a reply that leaves a client waiting leaves it waiting for the turn that follows: an init, and a response
pub client_chain : (signs : Bool) → IsChain (ClientOutputs signs) (client_follows signs)
client_chain signs turns.Mechanisms (Started body) answer sends waits =
    sends_goes_on body (client_follows signs turns.Mechanisms) answer sends waits
client_chain signs turns.Init (Started body) answer is waits = absurd (closes_waits_not _ _ answer is waits)
client_chain signs turns.Challenge (Started body) answer is waits = absurd (closes_waits_not _ _ answer is waits)
client_chain signs turns.Response (Started body) answer is waits = absurd (closes_waits_not _ _ answer is waits)
client_chain signs turns.Outcome (Started body) answer is waits = absurd (closes_waits_not _ _ answer is waits)
client_chain signs turns.SignatureChallenge (Started body) answer is waits = absurd (closes_waits_not _ _ answer is waits)
client_chain signs turns.Mechanisms (Answered body) answer is waits = absurd (closes_waits_not _ _ answer is waits)
client_chain signs turns.Init (Answered body) answer is waits = absurd (closes_waits_not _ _ answer is waits)
client_chain signs turns.Challenge (Answered body) answer sends waits =
    sends_goes_on body (client_follows signs turns.Challenge) answer sends waits
client_chain signs turns.Response (Answered body) answer is waits = absurd (closes_waits_not _ _ answer is waits)
client_chain signs turns.Outcome (Answered body) answer is waits = absurd (closes_waits_not _ _ answer is waits)
client_chain signs turns.SignatureChallenge (Answered body) answer sends waits =
    sends_goes_on body (client_follows signs turns.SignatureChallenge) answer sends waits
client_chain signs turn (Reported outcomes.Ok more) answer is waits =
    absurd (authenticated_is_not_in_progress (sym (progress_of answer _ is) ∙ waits))
client_chain signs turn (Reported outcomes.Auth more) answer is waits = absurd (closes_waits_not _ _ answer is waits)
client_chain signs turn (Reported outcomes.Sys more) answer is waits = absurd (closes_waits_not _ _ answer is waits)
client_chain signs turn (Reported outcomes.SysPerm more) answer is waits = absurd (closes_waits_not _ _ answer is waits)
client_chain signs turn (Reported outcomes.SysTemp more) answer is waits = absurd (closes_waits_not _ _ answer is waits)
client_chain signs turn (ClientRefused OutOfMemory) answer never waits = absurd never
client_chain signs turn (ClientRefused NotImplemented) answer closed waits = absurd (closes_waits_not _ _ answer closed waits)
client_chain signs turn (ClientRefused (Scram fault)) answer closed waits = absurd (closes_waits_not _ _ answer closed waits)
client_chain signs turn (ClientRefused StaleKeys) answer closed waits = absurd (closes_waits_not _ _ answer closed waits)
client_chain signs turn (ClientRefused (FrameFault fault)) answer closed waits =
    absurd (closes_waits_not _ _ answer closed waits)

module _ (hostname : Option (List ℕ)) (limit : ℕ) (profile : Profile) (pieces : List Piece) where
  abbrev Is : List ℕ → List ℕ → Side Profile → Type 0
  Is taken sent last = ClientConnection (ProfileSteps hostname) limit profile pieces taken sent last

  abbrev signs : Bool
  signs = accepts_signature_by_challenge profile

  -- a profile that accepts the signature in a challenge, or does not, like the first
  abbrev Kept : Profile → Type 0
  Kept other = accepts_signature_by_challenge other ≡ signs

  keeps : (state next : Profile) (event : Given) (says : ClientSays) → Kept state → ProfileSteps hostname state event says next
      → Kept next
  keeps state next event says kept step = flag_stays hostname state event says next step ∙ kept

  asks : (turn : FrameKind) (state next : Profile) (nonce unit : List ℕ) (answer : SideOutput) → Kept state
      → ClientSideAnswers hostname (Frame turn) state nonce unit answer next
      → (spelled : Result SaslFrame Error) × SpellsBody (drop 4 unit) spelled
      × AnswersTo (λ (a : SideOutput) (s : Profile). (says : ClientSays)
      × ProfileSteps hostname state (record { body = drop 4 unit; nonce = nonce }) says s × ClientOutputs signs says turn a)
      turn state spelled answer next
  asks turn state next nonce unit answer kept answers =
      subst (λ (flag : Bool). (spelled : Result SaslFrame Error) × SpellsBody (drop 4 unit) spelled
      × AnswersTo (λ (a : SideOutput) (s : Profile). (says : ClientSays)
      × ProfileSteps hostname state (record { body = drop 4 unit; nonce = nonce }) says s × ClientOutputs flag says turn a)
      turn state spelled answer next) kept answers

  header_call : (taken bytes nonce first : List ℕ) (k : ℕ) (next : Side Profile) → length taken < 8
      → ReceivesAt InProgress (ClientSideAnswers hostname) (record (fresh limit profile) { held = taken }) bytes nonce k first
      next → Is (taken ++ take k bytes) first next
  header_call taken bytes nonce first k next few (inl (part, waits)) =
      let all : k ≡ length bytes = waits.0 in
      let is : take k bytes ≡ bytes = take_all k bytes (omega (arith, all)) in
      subst (λ (l : List ℕ). Is (taken ++ l) first next) (sym is) (inl (part, waits.1, waits.2))
  header_call taken bytes nonce first k next few (inr (inl refused)) = absurd refused.0
  header_call taken bytes nonce first k next few (inr (inr (answer, moved, whole, answers, ends))) =
      go answers.0
    where
      come : taken ++ take k bytes ≡ take 8 (taken ++ bytes)
      come = let all : k ≡ 8 - length taken = ends.0 in
          sym (take-append_past taken bytes k 8 (omega (arith, few, all)))

      go : ClientOpens (take 8 (taken ++ bytes)) answer → Is (taken ++ take k bytes) first next
      go (inl other) = inr (inl (
        (
          ap length come ∙ length-take-le 8 (taken ++ bytes) whole,
          (λ header. other.0 (sym come ∙ header)),
          ap (λ (s : Side Profile). s.progress) ends.2 ∙ progress_of answer _ other.1
              ∙ ap (λ (h : List ℕ). Failed (ProtocolHeaderMismatch h)) (sym come),
          ap (λ (s : Side Profile). s.state) ends.2 ∙ answers.1,
        ),
        ends.1 ∙ ap (λ (a : SideOutput). a.sent) other.1,
      ))
      go (inr opens) =
          let nothing : first ≡ [] = ends.1 ∙ ap (λ (a : SideOutput). a.sent) opens.1 in
          subst (λ (l : List ℕ). Is (taken ++ take k bytes) l next) (sym nothing)
          (inr (inr (opened (ClientSideAnswers hostname) (ProfileSteps hostname) (ClientOutputs signs) (client_follows signs)
          turns.Mechanisms Kept keeps (client_chain signs) asks limit profile pieces (taken ++ take k bytes) next
          (come ∙ opens.0)
          (ends.2 ∙ (ap (λ (a : SideOutput). record {
            progress = a.progress;
            expected = a.expected;
            limit = limit;
            held = [];
            state = moved;
          }) opens.1 ∙ ap (λ (p : Profile). record {
            progress = InProgress;
            expected = Frame turns.Mechanisms;
            limit = limit;
            held = [];
            state = p;
          }) answers.1)))))

  call_at : (progress : Progress) (taken sent : List ℕ) (side next : Side Profile) (bytes nonce first : List ℕ) (k : ℕ)
      → side.progress ≡ progress → Is taken sent side → IsBytes (taken ++ bytes)
      → NextNonces pieces (length taken) k nonce
      → ReceivesAt progress (ClientSideAnswers hostname) side bytes nonce k first next
      → Is (taken ++ take k bytes) (sent ++ first) next
  call_at Authenticated taken sent side next bytes nonce first k at is are_bytes nonces rests =
      rests_there Is taken sent bytes first k side next is rests
  call_at (Failed why) taken sent side next bytes nonce first k at is are_bytes nonces rests =
      rests_there Is taken sent bytes first k side next is rests
  call_at InProgress taken sent side next bytes nonce first k at (inl (few, nothing, same)) are_bytes nonces receives =
      subst (λ (l : List ℕ). Is (taken ++ take k bytes) (l ++ first) next) (sym nothing)
      (header_call taken bytes nonce first k next few
      (subst (λ (s : Side Profile). ReceivesAt InProgress (ClientSideAnswers hostname) s bytes nonce k first next) same receives))
  call_at InProgress taken sent side next bytes nonce first k at (inr (inl other)) are_bytes nonces receives =
      absurd (failed_is_not_in_progress (ProtocolHeaderMismatch taken) (sym other.0.2 ∙ at))
  call_at InProgress taken sent side next bytes nonce first k at (inr (inr negotiated)) are_bytes nonces receives =
      inr (inr (negotiated_call (ClientSideAnswers hostname) (ProfileSteps hostname) (ClientOutputs signs)
      (client_follows signs) turns.Mechanisms Kept keeps (client_chain signs) asks limit profile pieces taken sent side next
      bytes nonce first k refl negotiated at are_bytes nonces receives))

  pub client_call : (taken sent : List ℕ) (side next : Side Profile) (bytes nonce first : List ℕ) (k : ℕ)
      → Is taken sent side → IsBytes (taken ++ bytes) → NextNonces pieces (length taken) k nonce
      → Receives (ClientSideAnswers hostname) side bytes nonce k first next
      → Is (taken ++ take k bytes) (sent ++ first) next
  client_call taken sent side next bytes nonce first k is are_bytes nonces receives =
      call_at side.progress taken sent side next bytes nonce first k refl is are_bytes nonces receives

  pub client_fresh : Is [] [] (fresh limit profile)
  client_fresh = inl (omega arith, refl, refl)

  grows : (more : List Piece) (taken sent : List ℕ) (side : Side Profile) → Is taken sent side
      → ClientConnection (ProfileSteps hostname) limit profile (pieces ++ more) taken sent side
  grows more taken sent side (inl part) = inl part
  grows more taken sent side (inr (inl other)) = inr (inl other)
  grows more taken sent side (inr (inr negotiated)) =
      inr (inr (negotiated_more (ClientSideAnswers hostname) (ProfileSteps hostname) (ClientOutputs signs)
      (client_follows signs) turns.Mechanisms Kept keeps (client_chain signs) asks limit profile pieces more taken sent side
      negotiated))

pub clients_connect : ClientsConnect ProfileSteps ClientReceives
clients_connect hostname limit profile calls stream sent rest last are_bytes made =
    connected (ClientSideAnswers hostname)
    (λ pieces taken out side. ClientConnection (ProfileSteps hostname) limit profile pieces taken out side)
    (λ pieces taken out side next bytes nonce first k is fine nonces receives.
    client_call hostname limit profile pieces taken out side next bytes nonce first k is fine nonces receives)
    (λ pieces more taken out side is. grows hostname limit profile pieces more taken out side is)
    (fresh limit profile) last calls stream sent rest (client_fresh hostname limit profile []) are_bytes made
