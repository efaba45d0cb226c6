-- Calls of a client by a policy, and those of a client of the profile that it selects: `selected_clients_act_as_profile`,
-- `selected_profiles_act_as_client`, `offered_clients_select` and `unselected_clients_send_nothing`.
use Rattle.std.proofs.Common.{◌≡◌, ◌≢◌, ℕ, ◌+◌, ◌<◌, ◌≤◌, ◌^◌, Option, List, [], ◌++◌, length, take, drop, refl, sym, ◌∙◌, ap, subst, inl, inr, arith, append_assoc, Ok}
use Rattle.std.proofs.lemmas.List.{append-nil, length-take-le, take_at, take-append-drop, drop_at}
use Rattle.fe2o3_sasl_wire.specs.SaslFrames as frames
use Rattle.fe2o3_sasl_wire.specs.SaslFrames.{IsBytes, SaslFrame}
use Rattle.fe2o3_sasl_wire.specs.declared.sasl_frames.error.Error.TheVariants.{TooLarge}
use Rattle.fe2o3_sasl_wire.proofs.lemmas.reading.StepLemmas.{IsBytes-take, IsBytes-drop}
use Rattle.fe2o3_sasl_core.specs.Bodies.{SpellsBody}
use Rattle.fe2o3_sasl_core.specs.ProfileMachine.{IsSelected}
use Rattle.fe2o3_sasl_core.specs.Profiles.{PolicyProfile, Profile, Selection}
use Rattle.fe2o3_sasl_core.specs.declared.sasl_profile.error.ProfileError.TheVariants.{Frame as FrameFault}
use Rattle.fe2o3_sasl_core.proofs.lemmas.frames.SpellingLemmas.{one_spelled_frame}
use Rattle.fe2o3_sasl_core.proofs.lemmas.machines.SelectionLemmas.{one_selected, selected_of_some}
use Rattle.fe2o3_sasl_negotiation.specs.ClientNegotiation.{ClientReceives, ClientSideAnswers}
use Rattle.fe2o3_sasl_negotiation.specs.Connections.{fresh}
use Rattle.fe2o3_sasl_negotiation.specs.Framing.{framed, sasl_header, size_of}
use Rattle.fe2o3_sasl_negotiation.specs.Laws.{Call, Calls}
use Rattle.fe2o3_sasl_negotiation.specs.Negotiations.{Side}
use Rattle.fe2o3_sasl_negotiation.specs.PolicyLaws.{side_in_state}
use Rattle.fe2o3_sasl_negotiation.specs.declared.progress.CloseReason.TheVariants.{Mechanism as ProfileRefused}
use Rattle.fe2o3_sasl_negotiation.specs.declared.progress.Expected.TheVariants.{Header}
use Rattle.fe2o3_sasl_negotiation.specs.declared.progress.FrameKind.TheVariants as turns
use Rattle.fe2o3_sasl_negotiation.specs.declared.progress.Progress.TheVariants.{Authenticated, Failed}
use Rattle.fe2o3_sasl_negotiation.proofs.lemmas.ConnectionLemmas.{first_body}
use Rattle.fe2o3_sasl_negotiation.proofs.lemmas.CutLemmas.{cuts_with_nonces, nothing_is_part}
use Rattle.fe2o3_sasl_negotiation.proofs.lemmas.FramingLemmas.{size_of-append}
use Rattle.fe2o3_sasl_negotiation.proofs.lemmas.PieceLemmas.{is_framed}
use Rattle.fe2o3_sasl_negotiation.proofs.lemmas.SelectedProfileLemmas.{selected_ordinary}
use Rattle.fe2o3_sasl_negotiation.proofs.lemmas.UnitLemmas.{body_of-framed, length-framed, size_of-framed}
use Rattle.connection_laws.specs.PolicyClients.{ActsAsSelected, EndAlike, HasNoInit, IsChosen, IsUnselected, OfferedClientsSelect, OneIsSelected, ReadsOffer, SelectedClientsActAsProfile, SelectedProfilesActAsClient, SelectsNoneOf, UnselectedClientsSendNothing}
use Rattle.connection_laws.proofs.lemmas.CutConnectionLemmas.{other_is_not, part_is_short}
use Rattle.connection_laws.proofs.lemmas.CutLemmas.{fits_small, no_frame_left}
use Rattle.connection_laws.proofs.lemmas.FramesLemmas.{one_frame, one_split, without_header}
use Rattle.connection_laws.proofs.lemmas.PolicyByteLemmas.{IsFramed, Offered, PolicyEnds, body_fits, ordinary_chosen, policy_ends}
use Rattle.connection_laws.proofs.lemmas.PolicyCallLemmas.{EndsLike, alike_calls, first_in, fresh_early}
use Rattle.connection_laws.proofs.lemmas.PolicyOfferLemmas.{policy_like_profile, profile_like_policy}
use Rattle.connection_laws.proofs.lemmas.ProfileKindLemmas.{calls_kind, chosen_like}

pub one_is_selected : OneIsSelected
one_is_selected selection names profile selected = (
  λ other is. one_selected selection names profile other selected is,
  selected_of_some selection names profile selected,
)

-- a client that has selected a profile is not by the policy
policy_is_not : {A : Type 0} (selection : Selection) (side : Side Profile) → side.state ≡ PolicyProfile selection
    → IsChosen side.state → A
policy_is_not selection side is chosen = absurd (subst IsChosen is chosen)

unselected_state : (selection : Selection) (hostname : Option (List ℕ)) (limit : ℕ) (calls : List Call) (taken : List ℕ)
    (last : Side Profile) → IsUnselected selection hostname limit calls taken last → last.state ≡ PolicyProfile selection
unselected_state selection hostname limit calls taken last (inl part) = ap (λ (s : Side Profile). s.state) part.2
unselected_state selection hostname limit calls taken last (inr (inl other)) = other.3
unselected_state selection hostname limit calls taken last (inr (inr (inl unread))) = unread.state
unselected_state selection hostname limit calls taken last (inr (inr (inr none))) = none.state

-- ---- the first frame

-- of bytes
bytes_framed : (hostname : Option (List ℕ)) (selection : Selection) (limit : ℕ) (taken : List ℕ) → IsBytes taken
    → IsFramed hostname selection limit taken
bytes_framed hostname selection limit taken are tail carried whole =
    let eight : 8 ≤ size_of tail = whole.0.0 in
    let count = length-take-le (size_of tail) tail whole.1 in
    let long : 4 ≤ length (take (size_of tail) tail) = omega (arith, eight, count) in
    is_framed limit (take (size_of tail) tail) (IsBytes-take (size_of tail) tail
    (subst (λ (l : List ℕ). IsBytes l) (ap (drop 8) carried ∙ drop_at sasl_header tail 8 refl) (IsBytes-drop 8 taken are)))
    (count ∙ (sym (ap size_of (take-append-drop (size_of tail) tail))
    ∙ size_of-append (take (size_of tail) tail) (drop (size_of tail) tail) long)) long

-- of an offer
offer_first : (tail body more : List ℕ) → length body + 4 < 2 ^ 32 → tail ≡ framed body ++ more
    → (take (size_of tail) tail ≡ framed body) × (first_body tail ≡ body)
offer_first tail body more small is =
    let unit : take (size_of tail) tail ≡ framed body = ap (take (size_of tail)) is
    ∙ take_at (framed body) more (size_of tail) (length-framed body ∙ sym (ap size_of is ∙ size_of-framed body more small)) in
    (unit, ap (drop 4) unit ∙ body_of-framed body)

-- what was taken begins with the offer
pub offer_front : (limit : ℕ) (stream rest : List ℕ) (names : List (List ℕ)) (offer : ReadsOffer limit stream rest names)
    (taken : List ℕ) → stream ≡ taken ++ rest → taken ≡ sasl_header ++ (framed offer.body ++ offer.more)
offer_front limit stream rest names offer taken all = (one_split taken rest
    (sasl_header ++ (framed offer.body ++ offer.more)) rest (sym all ∙ (offer.carried
    ∙ (ap (λ l. sasl_header ++ l) (sym (append_assoc (framed offer.body) offer.more rest))
    ∙ sym (append_assoc sasl_header (framed offer.body ++ offer.more) rest)))) refl).0

-- ---- a client that has selected a profile

module _ (selection : Selection) (hostname : Option (List ℕ)) (limit : ℕ) (calls : List Call) (stream sent rest : List ℕ)
    (last : Side Profile) (are : IsBytes stream)
    (made : Calls (ClientReceives hostname) (fresh limit (PolicyProfile selection)) calls stream sent last rest) where
  -- what was taken is bytes
  frames_are : (taken : List ℕ) → stream ≡ taken ++ rest → IsFramed hostname selection limit taken
  frames_are taken all = bytes_framed hostname selection limit taken (subst (λ (l : List ℕ). IsBytes l)
      (ap (take (length taken)) all ∙ take_at taken rest (length taken) refl) (IsBytes-take (length taken) stream are))

  ends : (taken : List ℕ) × (stream ≡ taken ++ rest) × PolicyEnds hostname selection limit calls taken sent last
  ends = let (taken, nonces, all, units, of) = cuts_with_nonces (ClientSideAnswers hostname)
      (fresh limit (PolicyProfile selection)) last calls stream sent rest (nothing_is_part Header limit) made in
      (taken, all, policy_ends hostname selection limit calls nonces taken sent last (frames_are taken all) of units)

  offered : (taken : List ℕ) → stream ≡ taken ++ rest → Offered hostname selection limit taken last
      → ActsAsSelected selection hostname limit calls stream sent rest last
  offered taken all offer = go (alike_calls hostname offer.profile (PolicyProfile selection) offer.profile (first_body offer.tail)
      (policy_like_profile hostname selection offer.names offer.profile (first_body offer.tail) offer.spells offer.selected)
      calls [] (fresh limit (PolicyProfile selection)) last stream sent rest (fresh_early limit (PolicyProfile selection))
      (ap (λ (l : List ℕ). first_body (drop 8 l)) tail_is ∙ (ap first_body (drop_at sasl_header (offer.tail ++ rest) 8 refl)
      ∙ first_in limit offer.tail rest offer.whole)) made)
    where
      tail_is : stream ≡ sasl_header ++ (offer.tail ++ rest)
      tail_is = all ∙ (ap (λ l. l ++ rest) offer.carried ∙ append_assoc sasl_header offer.tail rest)

      one : take (size_of offer.tail) offer.tail ≡ framed (first_body offer.tail)
      one = frames_are taken all offer.tail offer.carried offer.whole

      go : (end : Side Profile) × EndsLike (PolicyProfile selection) offer.profile last end
          × Calls (ClientReceives hostname) (fresh limit offer.profile) calls stream sent end rest
          → ActsAsSelected selection hostname limit calls stream sent rest last
      go (end, inr (kept, is), same) = policy_is_not selection last kept offer.chosen
      go (end, inl is, same) = record {
        names = offer.names;
        profile = offer.profile;
        offer = record {
          body = first_body offer.tail;
          more = drop (size_of offer.tail) offer.tail;
          fits = body_fits hostname selection limit offer.tail offer.whole one;
          spells = offer.spells;
          carried = tail_is ∙ ap (λ l. sasl_header ++ l)
              (ap (λ l. l ++ rest) (sym (take-append-drop (size_of offer.tail) offer.tail)
              ∙ ap (λ l. l ++ drop (size_of offer.tail) offer.tail) one)
              ∙ append_assoc (framed (first_body offer.tail)) (drop (size_of offer.tail) offer.tail) rest);
        };
        selected = offer.selected;
        made = subst (λ (s : Side Profile). Calls (ClientReceives hostname) (fresh limit offer.profile) calls stream sent s
            rest) is same;
      }

pub selected_clients_act_as_profile : SelectedClientsActAsProfile
selected_clients_act_as_profile selection hostname limit calls stream sent rest last are made chosen =
    go (ends selection hostname limit calls stream sent rest last are made)
  where
    go : (taken : List ℕ) × (stream ≡ taken ++ rest) × PolicyEnds hostname selection limit calls taken sent last
        → ActsAsSelected selection hostname limit calls stream sent rest last
    go (taken, all, inl (nothing, not, is)) =
        policy_is_not selection last (unselected_state selection hostname limit calls taken last is) chosen
    go (taken, all, inr offer) = offered selection hostname limit calls stream sent rest last are made taken all offer

pub unselected_clients_send_nothing : UnselectedClientsSendNothing
unselected_clients_send_nothing selection hostname limit calls stream sent rest last are made not_chosen =
    go (ends selection hostname limit calls stream sent rest last are made)
  where
    go : (taken : List ℕ) × (stream ≡ taken ++ rest) × PolicyEnds hostname selection limit calls taken sent last
        → (taken : List ℕ) × (stream ≡ taken ++ rest) × (sent ≡ []) × (last.progress ≢ Authenticated)
        × IsUnselected selection hostname limit calls taken last
    go (taken, all, inl (nothing, not, is)) = (taken, all, nothing, not, is)
    go (taken, all, inr offer) = absurd (not_chosen offer.chosen)

-- ---- where an offer was read

module _ (selection : Selection) (hostname : Option (List ℕ)) (limit : ℕ) (calls : List Call) (stream sent rest : List ℕ)
    (names : List (List ℕ)) (profile : Profile) (small : limit < 2 ^ 32) (offer : ReadsOffer limit stream rest names)
    (selected : IsSelected selection names profile) where
  is_small : length offer.body + 4 < 2 ^ 32
  is_small = fits_small limit small (length offer.body + 4) offer.fits

  -- the first frame of the stream is the offer
  first_is : first_body (drop 8 stream) ≡ offer.body
  first_is = (offer_first (drop 8 stream) offer.body (offer.more ++ rest) is_small (ap (drop 8) offer.carried
      ∙ drop_at sasl_header (framed offer.body ++ (offer.more ++ rest)) 8 refl)).1

  -- and so is that of what was taken
  front : (taken : List ℕ) → stream ≡ taken ++ rest → taken ≡ sasl_header ++ (framed offer.body ++ offer.more)
  front = offer_front limit stream rest names offer

  offer_framed : (taken : List ℕ) → stream ≡ taken ++ rest → IsFramed hostname selection limit taken
  offer_framed taken all tail carried whole =
      let first = offer_first tail offer.body offer.more is_small
      (without_header tail (framed offer.body ++ offer.more) (sym carried ∙ front taken all)) in
      first.0 ∙ ap framed (sym first.1)

  -- a client that has selected none has closed, because its init has no body
  too_large : (taken : List ℕ) (last : Side Profile) → stream ≡ taken ++ rest
      → IsUnselected selection hostname limit calls taken last
      → HasNoInit hostname calls profile × (last.progress ≡ Failed (ProfileRefused (FrameFault TooLarge)))
  too_large taken last all (inl part) =
      absurd (part_is_short limit (PolicyProfile selection) taken [] (framed offer.body ++ offer.more) last part
      (front taken all))
  too_large taken last all (inr (inl other)) =
      absurd (other_is_not (PolicyProfile selection) taken (framed offer.body ++ offer.more) last other (front taken all))
  too_large taken last all (inr (inr (inl unread))) =
      absurd (no_frame_left limit small turns.Mechanisms unread.tail offer.body offer.more last.progress unread.left
      (without_header unread.tail (framed offer.body ++ offer.more) (sym unread.carried ∙ front taken all)) offer.fits
      (frames.Mechanisms names, offer.spells, tt))
  too_large taken last all (inr (inr (inr none))) = go none.closed
    where
      bodies : offer.body ≡ none.body
      bodies = (one_frame offer.body offer.more none.body [] is_small (fits_small limit small (length none.body + 4) none.fits)
          (without_header (framed offer.body ++ offer.more) (framed none.body ++ []) (sym (front taken all) ∙ (none.carried
          ∙ ap (λ l. sasl_header ++ l) (sym (append-nil (framed none.body))))))).0

      names_of : (one other : List (List ℕ)) → ◌≡◌ {A = SaslFrame} (frames.Mechanisms one) (frames.Mechanisms other)
          → one ≡ other
      names_of one other same = cc

      same : names ≡ none.names
      same = names_of names none.names (one_spelled_frame none.body (frames.Mechanisms names) (frames.Mechanisms none.names)
          (subst (λ (b : List ℕ). SpellsBody b (Ok (frames.Mechanisms names))) bodies offer.spells) none.spells)

      again : IsSelected selection none.names profile
      again = subst (λ (n : List (List ℕ)). IsSelected selection n profile) same selected

      go : SelectsNoneOf selection hostname calls none.names last.progress
          → HasNoInit hostname calls profile × (last.progress ≡ Failed (ProfileRefused (FrameFault TooLarge)))
      go (inl (nothing, is)) = absurd (selected_of_some selection none.names profile again nothing)
      go (inr (other, is, no_init, closed)) =
          (subst (HasNoInit hostname calls) (one_selected selection none.names profile other again is) no_init, closed)

  -- how a client of the profile and one by the policy end
  ends_alike : (side last : Side Profile) → Calls (ClientReceives hostname) (fresh limit profile) calls stream sent side rest
      → Calls (ClientReceives hostname) (fresh limit (PolicyProfile selection)) calls stream sent last rest
      → EndsLike profile (PolicyProfile selection) side last → EndAlike selection hostname calls profile sent side last
  ends_alike side last made policy_made like =
      let (taken, nonces, all, units, of) = cuts_with_nonces (ClientSideAnswers hostname)
      (fresh limit (PolicyProfile selection)) last calls stream sent rest (nothing_is_part Header limit) policy_made in
      go taken all like (policy_ends hostname selection limit calls nonces taken sent last (offer_framed taken all) of units)
    where
      chosen : IsChosen side.state
      chosen =
          let first = ordinary_chosen profile (selected_ordinary selection names profile selected).0 in
          chosen_like profile side.state (calls_kind hostname calls (fresh limit profile) side stream sent rest first made)
          first

      go : (taken : List ℕ) → stream ≡ taken ++ rest → EndsLike profile (PolicyProfile selection) side last
          → PolicyEnds hostname selection limit calls taken sent last
          → EndAlike selection hostname calls profile sent side last
      go taken all (inl same) ends = inl (subst (λ (s : Side Profile). IsChosen s.state) (sym same) chosen, same)
      go taken all (inr (kept, is)) (inr offer) =
          policy_is_not selection last (ap (λ (s : Side Profile). s.state) is) offer.chosen
      go taken all (inr (kept, is)) (inl (nothing, not, unselected)) =
          let (no_init, closed) = too_large taken last all unselected in
          inr (no_init, nothing, sym (ap (λ (s : Side Profile). s.progress) is) ∙ closed, kept, is)

pub selected_profiles_act_as_client : SelectedProfilesActAsClient
selected_profiles_act_as_client selection hostname limit calls stream sent rest side names profile small offer selected made =
    let (last, like, policy_made) = alike_calls hostname profile profile (PolicyProfile selection) offer.body
    (profile_like_policy hostname selection names profile offer.body offer.spells selected) calls [] (fresh limit profile) side
    stream sent rest (fresh_early limit profile)
    (first_is selection hostname limit calls stream sent rest names profile small offer selected) made in (
      last,
      ends_alike selection hostname limit calls stream sent rest names profile small offer selected side last made policy_made
          like,
      policy_made,
    )

pub offered_clients_select : OfferedClientsSelect
offered_clients_select selection hostname limit calls stream sent rest last names profile small offer selected policy_made =
    let (side, like, made) = alike_calls hostname profile (PolicyProfile selection) profile offer.body
    (policy_like_profile hostname selection names profile offer.body offer.spells selected) calls []
    (fresh limit (PolicyProfile selection)) last stream sent rest (fresh_early limit (PolicyProfile selection))
    (first_is selection hostname limit calls stream sent rest names profile small offer selected) policy_made in (
      side,
      ends_alike selection hostname limit calls stream sent rest names profile small offer selected side last made policy_made
          (back side last like),
      made,
    )
  where
    back : (side end : Side Profile) → EndsLike (PolicyProfile selection) profile end side
        → EndsLike profile (PolicyProfile selection) side end
    back side end (inl same) = inl (sym same)
    back side end (inr (kept, is)) = inr (
      ap (λ (s : Side Profile). s.state) is,
      subst (λ (s : Side Profile). end ≡ side_in_state s (PolicyProfile selection)) (sym is) (λ i. record {
        progress = end.progress;
        expected = end.expected;
        limit = end.limit;
        held = end.held;
        state = kept i;
      }),
    )
