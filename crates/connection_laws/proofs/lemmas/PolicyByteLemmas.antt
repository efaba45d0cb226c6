-- What a client by a policy has taken, unit by unit.
use Rattle.std.proofs.Common.{◌≡◌, ◌≢◌, ◌⊎◌, ℕ, ◌+◌, false, Option, List, [], ◌∷◌, ◌++◌, length, take, drop, refl, sym, ◌∙◌, ap, subst, inl, inr, arith, Result, Ok}
use Rattle.std.proofs.lemmas.List.{append-nil, length-take-le, take-append-drop}
use Rattle.fe2o3_sasl_wire.specs.SaslFrames as frames
use Rattle.fe2o3_sasl_wire.specs.SaslFrames.{SaslFrame}
use Rattle.fe2o3_sasl_wire.specs.declared.sasl_frames.error.Error.{Error}
use Rattle.fe2o3_sasl_core.specs.Bodies.{SpellsBody}
use Rattle.fe2o3_sasl_core.specs.Events.{Given}
use Rattle.fe2o3_sasl_core.specs.ProfileMachine.{IsSelected}
use Rattle.fe2o3_sasl_core.specs.Profiles.{PolicyProfile, Profile, Selection, after_init}
use Rattle.fe2o3_sasl_core.specs.private.Writing.{is_by_policy}
use Rattle.fe2o3_sasl_negotiation.specs.ClientNegotiation.{ClientSideAnswers}
use Rattle.fe2o3_sasl_negotiation.specs.Connections.{LeftOver, Unanswered, fresh}
use Rattle.fe2o3_sasl_negotiation.specs.Framing.{Fits, IsWhole, framed, sasl_header, size_of}
use Rattle.fe2o3_sasl_negotiation.specs.Laws.{Call, Negotiates, NoncesOf}
use Rattle.fe2o3_sasl_negotiation.specs.Negotiations.{Ends, Receives, Side, SideOutput}
use Rattle.fe2o3_sasl_negotiation.specs.declared.progress.CloseReason.{CloseReason}
use Rattle.fe2o3_sasl_negotiation.specs.declared.progress.CloseReason.TheVariants.{FrameSize, ProtocolHeaderMismatch}
use Rattle.fe2o3_sasl_negotiation.specs.declared.progress.Expected.TheVariants.{Frame}
use Rattle.fe2o3_sasl_negotiation.specs.declared.progress.FrameKind.TheVariants as turns
use Rattle.fe2o3_sasl_negotiation.specs.declared.progress.Progress.TheVariants.{Authenticated, Failed, InProgress}
use Rattle.fe2o3_sasl_negotiation.proofs.lemmas.ConnectionLemmas.{authenticated_is_not_in_progress, closed_is_not_logged_in, failed_is_not_in_progress, first_body}
use Rattle.fe2o3_sasl_negotiation.proofs.lemmas.PolicyLawLemmas.{waiting}
use Rattle.fe2o3_sasl_negotiation.proofs.lemmas.SelectedProfileLemmas.{selected_ordinary}
use Rattle.fe2o3_sasl_negotiation.proofs.lemmas.UnitLemmas.{length-framed}
use Rattle.connection_laws.specs.PolicyClients.{IsChosen, IsUnselected, SelectsNoneOf}
use Rattle.connection_laws.proofs.lemmas.PolicyOfferLemmas.{Selects, SelectsNoneAt, Silent, policy_replies}
use Rattle.connection_laws.proofs.lemmas.ProfileKindLemmas.{call_kind, chosen_like}

-- ---- a client of a selected profile

pub ordinary_chosen : (profile : Profile) → is_by_policy profile ≡ false → IsChosen profile
ordinary_chosen (PolicyProfile selection) of = absurd (cc)
ordinary_chosen profile of = tt

begun_chosen : (profile : Profile) (nonce : List ℕ) → IsChosen profile → IsChosen (after_init profile nonce)
begun_chosen (PolicyProfile selection) nonce chosen = absurd chosen
begun_chosen profile nonce chosen = tt

units_chosen : (hostname : Option (List ℕ)) (nonces : List (List ℕ)) (side last : Side Profile) (bytes sent : List ℕ)
    → IsChosen side.state → Negotiates (ClientSideAnswers hostname) side nonces bytes sent last → IsChosen last.state
units_chosen hostname [] side last bytes sent chosen (nothing, inl stops) =
    subst (λ (s : Side Profile). IsChosen s.state) (sym stops.2) chosen
units_chosen hostname [] side last bytes sent chosen (nothing, inr stops) =
    subst (λ (s : Side Profile). IsChosen s.state) (sym stops.2) chosen
units_chosen hostname (nonce ∷ nonces) side last bytes sent chosen (k, first, next, later, wants, no_part, receives, more, all) =
    units_chosen hostname nonces next last (drop k bytes) later (chosen_like side.state next.state
    (call_kind hostname side next bytes nonce first k chosen receives) chosen) more

-- ---- a client that has ended

module _ (hostname : Option (List ℕ)) where
  -- it takes and sends nothing
  ended_units : (nonces : List (List ℕ)) (side last : Side Profile) (bytes sent : List ℕ) → side.progress ≢ InProgress
      → Negotiates (ClientSideAnswers hostname) side nonces bytes sent last
      → (bytes ≡ []) × (sent ≡ []) × (last ≡ side)
  ended_units [] side last bytes sent ended (nothing, inl stops) = absurd (ended stops.0)
  ended_units [] side last bytes sent ended (nothing, inr stops) = (stops.1, nothing, stops.2)
  ended_units (nonce ∷ nonces) side last bytes sent ended (k, first, next, later, wants, no_part, receives, more, all) =
      absurd (ended wants)

  -- a side that has closed after n bytes
  record Closed (why : CloseReason) (n : ℕ) (bytes sent : List ℕ) (next last : Side Profile) : Type 0 where
    pub all : bytes ≡ take n bytes
    pub silent : sent ≡ []
    pub progress : last.progress ≡ Failed why
    pub state : last.state ≡ next.state

  closed : (why : CloseReason) (n k : ℕ) (nonces : List (List ℕ)) (next last : Side Profile) (bytes sent first later : List ℕ)
      → k ≡ n → first ≡ [] → next.progress ≡ Failed why
      → Negotiates (ClientSideAnswers hostname) next nonces (drop k bytes) later last → sent ≡ first ++ later
      → Closed why n bytes sent next last
  closed why n k nonces next last bytes sent first later count nothing is more all =
      let (left, none, same) = ended_units nonces next last (drop k bytes) later
      (λ goes. failed_is_not_in_progress why (sym is ∙ goes)) more in record {
        all = sym (take-append-drop k bytes) ∙ (ap (λ l. take k bytes ++ l) left
            ∙ (append-nil (take k bytes) ∙ ap (λ m. take m bytes) count));
        silent = all ∙ (ap (λ l. l ++ later) nothing ∙ none);
        progress = ap (λ (s : Side Profile). s.progress) same ∙ is;
        state = ap (λ (s : Side Profile). s.state) same;
      }

-- ---- the nonces of some of these calls

no_nonces : (calls : List Call) → NoncesOf calls []
no_nonces [] = refl
no_nonces (call ∷ calls) = inl (no_nonces calls)

first_nonce : (calls : List Call) (nonce : List ℕ) (others : List (List ℕ)) → NoncesOf calls (nonce ∷ others)
    → NoncesOf calls (nonce ∷ [])
first_nonce [] nonce others is = absurd (cc)
first_nonce (call ∷ calls) nonce others (inl of) = inl (first_nonce calls nonce others of)
first_nonce (call ∷ calls) nonce others (inr (more, is, of)) =
    inr ([], head nonce call.nonce others more is, no_nonces calls)
  where
    head : (one other : List ℕ) (ones more : List (List ℕ)) → (one ∷ ones) ≡ (other ∷ more) → (one ∷ []) ≡ (other ∷ [])
    head one other ones more same = cc

later_nonces : (calls : List Call) (nonce : List ℕ) (others : List (List ℕ)) → NoncesOf calls (nonce ∷ others)
    → NoncesOf calls others
later_nonces [] nonce others is = absurd (cc)
later_nonces (call ∷ calls) nonce others (inl of) = inl (later_nonces calls nonce others of)
later_nonces (call ∷ calls) nonce others (inr (more, is, of)) =
    inl (subst (NoncesOf calls) (tail call.nonce nonce more others (sym is)) of)
  where
    tail : (one other : List ℕ) (ones more : List (List ℕ)) → (one ∷ ones) ≡ (other ∷ more) → ones ≡ more
    tail one other ones more same = cc

module _ (hostname : Option (List ℕ)) (selection : Selection) (limit : ℕ) where
  -- the first frame that was taken is an offer, from which the client has selected this profile
  pub record Offered (taken : List ℕ) (last : Side Profile) : Type 0 where
    pub tail : List ℕ
    pub carried : taken ≡ sasl_header ++ tail
    pub whole : IsWhole (Frame turns.Mechanisms) limit tail
    pub names : List (List ℕ)
    pub profile : Profile
    pub spells : SpellsBody (first_body tail) (Ok (frames.Mechanisms names))
    pub selected : IsSelected selection names profile
    pub chosen : IsChosen last.state

  -- the first frame after the header is its size and its body
  abbrev pub IsFramed : List ℕ → Type 0
  IsFramed taken = (tail : List ℕ) → taken ≡ sasl_header ++ tail → IsWhole (Frame turns.Mechanisms) limit tail
      → take (size_of tail) tail ≡ framed (first_body tail)

  -- what a client by the policy has taken and sent
  abbrev pub PolicyEnds : List Call → List ℕ → List ℕ → Side Profile → Type 0
  PolicyEnds calls taken sent last = ((sent ≡ []) × (last.progress ≢ Authenticated)
      × IsUnselected selection hostname limit calls taken last) ⊎ Offered taken last

  -- its body has an allowed size
  pub body_fits : (tail : List ℕ) → IsWhole (Frame turns.Mechanisms) limit tail
      → take (size_of tail) tail ≡ framed (first_body tail) → Fits limit (length (first_body tail) + 4)
  body_fits tail whole is = subst (Fits limit) (sym (length-take-le (size_of tail) tail whole.1)
      ∙ (ap length is ∙ length-framed (first_body tail))) whole.0

  -- ---- after the header

  module _ (calls : List Call) (taken tail : List ℕ) (carried : taken ≡ sasl_header ++ tail) (framed_so : IsFramed taken)
    where
      -- no offer was read, and the client has closed
      no_offer : (why : CloseReason) (n : ℕ) (sent : List ℕ) (next last : Side Profile)
          → Closed hostname why n tail sent next last → next.state ≡ PolicyProfile selection
          → LeftOver turns.Mechanisms limit tail (Failed why) → PolicyEnds calls taken sent last
      no_offer why n sent next last ends kept left = inl (
        ends.silent,
        (λ logged. closed_is_not_logged_in why (sym ends.progress ∙ logged)),
        inr (inr (inl (record {
          tail = tail;
          carried = carried;
          left = subst (LeftOver turns.Mechanisms limit tail) (sym ends.progress) left;
          state = ends.state ∙ kept;
          waits = λ going. absurd (failed_is_not_in_progress why (sym ends.progress ∙ going));
        }))),
      )

      list_ends : (nonces : List (List ℕ)) (sent : List ℕ) (last : Side Profile) → NoncesOf calls nonces
          → Negotiates (ClientSideAnswers hostname) (waiting limit [] (PolicyProfile selection)) nonces tail sent last
          → PolicyEnds calls taken sent last
      list_ends [] sent last of (nothing, inr (ended, none, is)) = absurd (ended refl)
      list_ends [] sent last of (nothing, inl (going, part, is)) =
          let progress = ap (λ (s : Side Profile). s.progress) is in inl (
            nothing,
            (λ logged. authenticated_is_not_in_progress (sym logged ∙ progress)),
            inr (inr (inl (record {
              tail = tail;
              carried = carried;
              left = inl (part, progress);
              state = ap (λ (s : Side Profile). s.state) is;
              waits = λ _. is;
            }))),
          )
      list_ends (nonce ∷ nonces) sent last of (k, first, next, later, wants, no_part, receives, more, all) = go receives
        where
          event : Given
          event = record { body = first_body tail; nonce = nonce }

          by : (answer : SideOutput) (after : Profile) → IsWhole (Frame turns.Mechanisms) limit tail
              → Ends (waiting limit [] (PolicyProfile selection)) (size_of tail) answer after k first next
              → Silent hostname selection event answer after ⊎ Selects hostname selection event answer after
              → PolicyEnds calls taken sent last
          by answer after whole done (inr selects) = inr (record {
            tail = tail;
            carried = carried;
            whole = whole;
            names = selects.names;
            profile = selects.profile;
            spells = selects.spells;
            selected = selects.selected;
            chosen = units_chosen hostname nonces next last (drop k tail) later
                (subst IsChosen (sym (ap (λ (n : Side Profile). n.state) done.2 ∙ selects.begun))
                (begun_chosen selects.profile nonce (ordinary_chosen selects.profile
                (selected_ordinary selection selects.names selects.profile selects.selected).0))) more;
          })
          by answer after whole done (inl (why, shut, kept, what)) = answered what
            where
              ends : Closed hostname why (size_of tail) tail sent next last
              ends = let count = done.0 in
                  closed hostname why (size_of tail) k nonces next last tail sent first later (omega (arith, count))
                  (done.1 ∙ ap (λ (a : SideOutput). a.sent) shut)
                  (ap (λ (n : Side Profile). n.progress) done.2 ∙ ap (λ (a : SideOutput). a.progress) shut) more all

              one : take (size_of tail) tail ≡ framed (first_body tail)
              one = framed_so tail carried whole

              state : next.state ≡ PolicyProfile selection
              state = ap (λ (n : Side Profile). n.state) done.2 ∙ kept

              fits : Fits limit (length (first_body tail) + 4)
              fits = body_fits tail whole one

              selects_none : (names : List (List ℕ)) → SelectsNoneAt hostname selection event answer after names why
                  → SelectsNoneOf selection hostname calls names (Failed why)
              selects_none names (inl (none, is)) = inl (none, ap (λ (w : CloseReason). Failed w) is)
              selects_none names (inr (profile, selected, none, is)) = inr (
                profile,
                selected,
                (nonce, first_nonce calls nonce nonces of, none),
                ap (λ (w : CloseReason). Failed w) is,
              )

              answered : ((spelled : Result SaslFrame Error) × SpellsBody (first_body tail) spelled
                  × Unanswered turns.Mechanisms spelled why)
                  ⊎ ((names : List (List ℕ)) × SpellsBody (first_body tail) (Ok (frames.Mechanisms names))
                  × SelectsNoneAt hostname selection event answer after names why) → PolicyEnds calls taken sent last
              answered (inl (spelled, spells, unanswered)) = no_offer why (size_of tail) sent next last ends state
                  (inr (inr (first_body tail, spelled, why, ends.all ∙ one, fits, spells, unanswered, refl)))
              answered (inr (names, spells, none)) = inl (
                ends.silent,
                (λ logged. closed_is_not_logged_in why (sym ends.progress ∙ logged)),
                inr (inr (inr (record {
                  names = names;
                  body = first_body tail;
                  fits = fits;
                  spells = spells;
                  carried = carried ∙ ap (λ l. sasl_header ++ l) (ends.all ∙ one);
                  closed = subst (SelectsNoneOf selection hostname calls names) (sym ends.progress) (selects_none names none);
                  state = ends.state ∙ state;
                }))),
              )

          go : Receives (ClientSideAnswers hostname) (waiting limit [] (PolicyProfile selection)) tail nonce k first next
              → PolicyEnds calls taken sent last
          go (inl (part, waits)) = absurd (no_part part)
          go (inr (inl (refused, (t, s, is)))) =
              let ends = closed hostname FrameSize 4 k nonces next last tail sent first later t s
              (ap (λ (n : Side Profile). n.progress) is) more all in
              no_offer FrameSize 4 sent next last ends (ap (λ (n : Side Profile). n.state) is)
              (inr (inl (ap length ends.all ∙ length-take-le 4 tail refused.0, refused.1, refl)))
          go (inr (inr (answer, after, whole, replies, done))) =
              by answer after whole done (policy_replies hostname selection event answer after replies)

  -- ---- from the first byte

  pub policy_ends : (calls : List Call) (nonces : List (List ℕ)) (taken sent : List ℕ) (last : Side Profile)
      → IsFramed taken → NoncesOf calls nonces
      → Negotiates (ClientSideAnswers hostname) (fresh limit (PolicyProfile selection)) nonces taken sent last
      → PolicyEnds calls taken sent last
  policy_ends calls [] taken sent last framed_so of (nothing, inr (ended, none, is)) = absurd (ended refl)
  policy_ends calls [] taken sent last framed_so of (nothing, inl (going, part, is)) = inl (
    nothing,
    (λ logged. authenticated_is_not_in_progress (sym logged ∙ ap (λ (s : Side Profile). s.progress) is)),
    inl (part, refl, is),
  )
  policy_ends calls (nonce ∷ nonces) taken sent last framed_so of
      (k, first, next, later, wants, no_part, receives, more, all) = go receives
    where
      go : Receives (ClientSideAnswers hostname) (fresh limit (PolicyProfile selection)) taken nonce k first next
          → PolicyEnds calls taken sent last
      go (inl (part, waits)) = absurd (no_part part)
      go (inr (inl (refused, ends))) = absurd refused
      go (inr (inr (answer, after, whole, (inl (other, shut), same), (t, s, is)))) =
          let why = ProtocolHeaderMismatch (take 8 taken) in
          let ends = closed hostname why 8 k nonces next last taken sent first later t
          (s ∙ ap (λ (a : SideOutput). a.sent) shut)
          (ap (λ (n : Side Profile). n.progress) is ∙ ap (λ (a : SideOutput). a.progress) shut) more all in inl (
            ends.silent,
            (λ logged. closed_is_not_logged_in why (sym ends.progress ∙ logged)),
            inr (inl (
              ap length ends.all ∙ length-take-le 8 taken whole,
              (λ header. other (sym ends.all ∙ header)),
              ends.progress ∙ ap (λ (h : List ℕ). Failed (ProtocolHeaderMismatch h)) (sym ends.all),
              ends.state ∙ (ap (λ (n : Side Profile). n.state) is ∙ same),
            )),
          )
      go (inr (inr (answer, after, whole, (inr (header, opens), same), (t, s, is)))) =
          let opened : next ≡ waiting limit [] (PolicyProfile selection) = is ∙ (λ i. record {
            progress = (opens i).progress;
            expected = (opens i).expected;
            limit = limit;
            held = [];
            state = same i;
          }) in
          subst (λ (l : List ℕ). PolicyEnds calls taken l last)
          (sym (all ∙ ap (λ l. l ++ later) (s ∙ ap (λ (a : SideOutput). a.sent) opens)))
          (list_ends calls taken (drop 8 taken) (sym (take-append-drop 8 taken) ∙ ap (λ l. l ++ drop 8 taken) header)
          framed_so nonces later last (later_nonces calls nonce nonces of)
          (subst (λ (n : ℕ). Negotiates (ClientSideAnswers hostname)
          (waiting limit [] (PolicyProfile selection)) nonces (drop n taken) later last) t
          (subst (λ (n : Side Profile). Negotiates (ClientSideAnswers hostname) n nonces (drop k taken) later last) opened more)))
