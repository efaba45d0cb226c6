-- Every connection of a server is a run of its acceptor over the bodies of its frames.
use Rattle.std.proofs.Common.{◌≡◌, ◌≢◌, ℕ, ◌+◌, ◌-◌, ◌<◌, ◌≤◌, Option, Some, None, List, [], ◌++◌, length, take, refl, sym, ap, ◌∙◌, subst, inl, inr, append_assoc, arith}
use Rattle.std.proofs.lemmas.List.{append-nil, length-take-le, take_all}
use Rattle.bytes.proofs.Ranges.{take-append_past}
use Rattle.fe2o3_sasl_wire.specs.SaslFrames.{SaslFrame, IsBytes}
use Rattle.fe2o3_sasl_core.specs.Events.{Given, ServerSays}
use Rattle.fe2o3_sasl_core.specs.Runs.{AcceptorSteps}
use Rattle.fe2o3_sasl_negotiation.specs.declared.progress.CloseReason.TheVariants.{ProtocolHeaderMismatch, ReplyTooLarge}
use Rattle.fe2o3_sasl_negotiation.specs.declared.progress.Expected.{Expected}
use Rattle.fe2o3_sasl_negotiation.specs.declared.progress.Expected.TheVariants.{Header, Frame}
use Rattle.fe2o3_sasl_negotiation.specs.declared.progress.Progress.{Progress}
use Rattle.fe2o3_sasl_negotiation.specs.declared.progress.Progress.TheVariants.{InProgress, Authenticated, Failed as HasFailed}
use Rattle.fe2o3_sasl_negotiation.specs.declared.progress.FrameKind.{FrameKind}
use Rattle.fe2o3_sasl_negotiation.specs.declared.progress.FrameKind.TheVariants as turns
use Rattle.fe2o3_sasl_negotiation.specs.Connections.{Piece, OffersNone, ServerConnection, ServersConnect, fresh}
use Rattle.fe2o3_sasl_negotiation.specs.Framing.{sasl_header, framed}
use Rattle.fe2o3_sasl_negotiation.specs.Negotiations.{Side, SideOutput, Receives, ReceivesAt}
use Rattle.fe2o3_sasl_negotiation.specs.ServerNegotiation.{offer_body, Offers, ServerOpens, server_follows, ServerOutputs, ServerSideAnswers, ServerReceives}
use Rattle.fe2o3_sasl_negotiation.specs.private.Pieces.{NextNonces}
use Rattle.fe2o3_sasl_negotiation.proofs.lemmas.ChallengeLemmas.{waits_after_challenge}
use Rattle.fe2o3_sasl_negotiation.proofs.lemmas.ConnectionLemmas.{failed_is_not_in_progress, opened, negotiated_call, negotiated_more, rests_there, connected}
use Rattle.fe2o3_sasl_negotiation.proofs.lemmas.KindLemmas.{progress_of, sends_goes_on}
use Rattle.fe2o3_sasl_negotiation.proofs.lemmas.PieceLemmas.{IsChain}

-- a server waits for a response
server_chain : IsChain ServerOutputs server_follows
server_chain turn says answer said waits =
    let (body, is, sends) = waits_after_challenge says turn answer said waits in
    sends_goes_on body turns.Response answer sends waits

module _ {S : Type 0} (names : S → List (List ℕ)) (machine : S → List ℕ → SaslFrame → SaslFrame → S → Type 0)
    (limit : ℕ) (state : S) (pieces : List Piece) where
  abbrev Is : List ℕ → List ℕ → Side S → Type 0
  Is taken sent last = ServerConnection names machine limit state pieces taken sent last

  -- a server's state is of no kind that has to stay
  abbrev Any : S → Type 0
  Any at = Unit {0}

  any_stays : (one next : S) (event : Given) (says : ServerSays) → Any one → AcceptorSteps machine one event says next → Any next
  any_stays one next event says any steps = tt

  asks : (turn : FrameKind) (one next : S) (nonce unit : List ℕ) (answer : SideOutput) → Any one
      → ServerSideAnswers names machine (Frame turn) one nonce unit answer next
      → ServerSideAnswers names machine (Frame turn) one nonce unit answer next
  asks turn one next nonce unit answer any answers = answers

  -- ---- the header

  module _ (taken bytes first : List ℕ) (k : ℕ) (next : Side S) (answer : SideOutput) (moved : S)
      (come : taken ++ take k bytes ≡ take 8 (taken ++ bytes)) (whole : 8 ≤ length (taken ++ bytes))
      (kept : moved ≡ state) (sends : first ≡ answer.sent)
      (same : next ≡ record {
        progress = answer.progress;
        expected = answer.expected;
        limit = limit;
        held = [];
        state = moved;
      }) where
    state_is : next.state ≡ state
    state_is = ap (λ (s : Side S). s.state) same ∙ kept

    other_header : take 8 (taken ++ bytes) ≢ sasl_header
        → answer ≡ record {
          sent = sasl_header ++ [];
          progress = HasFailed (ProtocolHeaderMismatch (take 8 (taken ++ bytes)));
          expected = Header;
        }
        → Is (taken ++ take k bytes) first next
    other_header other is = inr (inl (
      (
        ap length come ∙ length-take-le 8 (taken ++ bytes) whole,
        (λ header. other (sym come ∙ header)),
        ap (λ (s : Side S). s.progress) same ∙ progress_of answer _ is
            ∙ ap (λ (h : List ℕ). HasFailed (ProtocolHeaderMismatch h)) (sym come),
        state_is,
      ),
      sends ∙ (ap (λ (a : SideOutput). a.sent) is ∙ append-nil sasl_header),
    ))

    -- no frame for the mechanisms
    offers_none : (expected : Expected) → take 8 (taken ++ bytes) ≡ sasl_header → OffersNone (names state)
        → answer ≡ record { sent = sasl_header ++ []; progress = HasFailed ReplyTooLarge; expected = expected }
        → Is (taken ++ take k bytes) first next
    offers_none expected header none is = inr (inr (inl (
      come ∙ header,
      none,
      sends ∙ (ap (λ (a : SideOutput). a.sent) is ∙ append-nil sasl_header),
      ap (λ (s : Side S). s.progress) same ∙ progress_of answer _ is,
      state_is,
    )))

    -- the mechanisms
    offers : (offer : Option (List ℕ)) (one : SideOutput) → offer_body (names state) ≡ offer
        → take 8 (taken ++ bytes) ≡ sasl_header → Offers offer one
        → answer ≡ record one { sent = sasl_header ++ one.sent } → Is (taken ++ take k bytes) first next
    offers None one is header closed all =
        offers_none Header header (λ body some. absurd (none body (sym is ∙ some)))
        (all ∙ ap (λ (a : SideOutput). record a { sent = sasl_header ++ a.sent }) closed)
      where
        none : (body : List ℕ) → None ≡ Some body → ⊥
        none body same = cc
    offers (Some body) one is header (inr (long, closed)) all =
        offers_none (Frame turns.Init) header
        (λ other some. let l = long in let e : body ≡ other = one_body other (sym is ∙ some) in
        subst (λ (b : List ℕ). 512 < length b + 4) e l)
        (all ∙ ap (λ (a : SideOutput). record a { sent = sasl_header ++ a.sent }) closed)
      where
        one_body : (other : List ℕ) → Some body ≡ Some other → body ≡ other
        one_body other same = cc
    offers (Some body) one is header (inl (fits, opens)) all =
        let here : answer ≡ record { sent = sasl_header ++ framed body; progress = InProgress; expected = Frame turns.Init } =
        all ∙ ap (λ (a : SideOutput). record a { sent = sasl_header ++ a.sent }) opens in
        inr (inr (inr (
          body,
          [],
          is,
          fits,
          sends ∙ (ap (λ (a : SideOutput). a.sent) here ∙ ap (λ l. sasl_header ++ l) (sym (append-nil (framed body)))),
          opened (ServerSideAnswers names machine) (AcceptorSteps machine) ServerOutputs server_follows turns.Init Any
              any_stays server_chain asks limit state pieces (taken ++ take k bytes) next (come ∙ header)
              (same ∙ (ap (λ (a : SideOutput). record {
                progress = a.progress;
                expected = a.expected;
                limit = limit;
                held = [];
                state = moved;
              }) here ∙ ap (λ (s : S). record {
                progress = InProgress;
                expected = Frame turns.Init;
                limit = limit;
                held = [];
                state = s;
              }) kept)),
        )))

  header_call : (taken bytes nonce first : List ℕ) (k : ℕ) (next : Side S) → length taken < 8
      → ReceivesAt InProgress (ServerSideAnswers names machine) (record (fresh limit state) { held = taken }) bytes nonce k first
      next → Is (taken ++ take k bytes) first next
  header_call taken bytes nonce first k next few (inl (part, waits)) =
      let all : k ≡ length bytes = waits.0 in
      let is : take k bytes ≡ bytes = take_all k bytes (omega (arith, all)) in
      subst (λ (l : List ℕ). Is (taken ++ l) first next) (sym is) (inl (part, waits.1, waits.2))
  header_call taken bytes nonce first k next few (inr (inl refused)) = absurd refused.0
  header_call taken bytes nonce first k next few (inr (inr (answer, moved, whole, answers, ends))) =
      go answers.0
    where
      come : taken ++ take k bytes ≡ take 8 (taken ++ bytes)
      come = let all : k ≡ 8 - length taken = ends.0 in
          sym (take-append_past taken bytes k 8 (omega (arith, few, all)))

      go : ServerOpens (names state) (take 8 (taken ++ bytes)) answer → Is (taken ++ take k bytes) first next
      go (inl other) =
          other_header taken bytes first k next answer moved come whole answers.1 ends.1 ends.2 other.0 other.1
      go (inr opens) =
          offers taken bytes first k next answer moved come whole answers.1 ends.1 ends.2 (offer_body (names state)) opens.1.0
          refl opens.0 opens.1.1 opens.1.2

  -- ---- a call

  call_at : (progress : Progress) (taken sent : List ℕ) (side next : Side S) (bytes nonce first : List ℕ) (k : ℕ)
      → side.progress ≡ progress → Is taken sent side → IsBytes (taken ++ bytes)
      → NextNonces pieces (length taken) k nonce
      → ReceivesAt progress (ServerSideAnswers names machine) side bytes nonce k first next
      → Is (taken ++ take k bytes) (sent ++ first) next
  call_at Authenticated taken sent side next bytes nonce first k at is are_bytes nonces rests =
      rests_there Is taken sent bytes first k side next is rests
  call_at (HasFailed why) taken sent side next bytes nonce first k at is are_bytes nonces rests =
      rests_there Is taken sent bytes first k side next is rests
  call_at InProgress taken sent side next bytes nonce first k at (inl (few, nothing, same)) are_bytes nonces receives =
      subst (λ (l : List ℕ). Is (taken ++ take k bytes) (l ++ first) next) (sym nothing)
      (header_call taken bytes nonce first k next few
      (subst (λ (s : Side S). ReceivesAt InProgress (ServerSideAnswers names machine) s bytes nonce k first next) same receives))
  call_at InProgress taken sent side next bytes nonce first k at (inr (inl other)) are_bytes nonces receives =
      absurd (failed_is_not_in_progress (ProtocolHeaderMismatch taken) (sym other.0.2 ∙ at))
  call_at InProgress taken sent side next bytes nonce first k at (inr (inr (inl none))) are_bytes nonces receives =
      absurd (failed_is_not_in_progress ReplyTooLarge (sym none.3 ∙ at))
  call_at InProgress taken sent side next bytes nonce first k at
      (inr (inr (inr (offer, out, is, fits, all, negotiated)))) are_bytes nonces receives =
      inr (inr (inr (
        offer,
        out ++ first,
        is,
        fits,
        ap (λ l. l ++ first) all ∙ (append_assoc sasl_header (framed offer ++ out) first
            ∙ ap (λ l. sasl_header ++ l) (append_assoc (framed offer) out first)),
        negotiated_call (ServerSideAnswers names machine) (AcceptorSteps machine) ServerOutputs server_follows turns.Init
            Any any_stays server_chain asks limit state pieces taken out side next bytes nonce first k tt negotiated at
            are_bytes nonces receives,
      )))

  pub server_call : (taken sent : List ℕ) (side next : Side S) (bytes nonce first : List ℕ) (k : ℕ) → Is taken sent side
      → IsBytes (taken ++ bytes) → NextNonces pieces (length taken) k nonce
      → Receives (ServerSideAnswers names machine) side bytes nonce k first next
      → Is (taken ++ take k bytes) (sent ++ first) next
  server_call taken sent side next bytes nonce first k is are_bytes nonces receives =
      call_at side.progress taken sent side next bytes nonce first k refl is are_bytes nonces receives

  pub server_fresh : Is [] [] (fresh limit state)
  server_fresh = inl (omega arith, refl, refl)

  grows : (more : List Piece) (taken sent : List ℕ) (side : Side S) → Is taken sent side
      → ServerConnection names machine limit state (pieces ++ more) taken sent side
  grows more taken sent side (inl part) = inl part
  grows more taken sent side (inr (inl other)) = inr (inl other)
  grows more taken sent side (inr (inr (inl none))) = inr (inr (inl none))
  grows more taken sent side (inr (inr (inr (offer, out, is, fits, all, negotiated)))) = inr (inr (inr (
    offer,
    out,
    is,
    fits,
    all,
    negotiated_more (ServerSideAnswers names machine) (AcceptorSteps machine) ServerOutputs server_follows turns.Init Any
        any_stays server_chain asks limit state pieces more taken out side negotiated,
  )))

pub servers_connect : {S : Type 0} (names : S → List (List ℕ)) (machine : S → List ℕ → SaslFrame → SaslFrame → S → Type 0)
    → ServersConnect names machine (ServerReceives names machine)
servers_connect names machine limit state calls stream sent rest last are_bytes made =
    connected (ServerSideAnswers names machine)
    (λ pieces taken out side. ServerConnection names machine limit state pieces taken out side)
    (λ pieces taken out side next bytes nonce first k is fine nonces receives.
    server_call names machine limit state pieces taken out side next bytes nonce first k is fine nonces receives)
    (λ pieces more taken out side is. grows names machine limit state pieces more taken out side is)
    (fresh limit state) last calls stream sent rest (server_fresh names machine limit state []) are_bytes made
