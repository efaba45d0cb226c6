-- Two negotiations over the same bytes have the same frames, replies and end.
use Rattle.std.proofs.Common.{◌≡◌, ◌≢◌, ◌⊎◌, ℕ, ◌+◌, ◌<◌, ◌≤◌, ◌^◌, List, [], ◌∷◌, ◌++◌, length, refl, sym, ap, ◌∙◌, subst, inl, inr, append_assoc, arith, Result, Ok, Err}
use Rattle.std.specs.Prelude.{flat_map}
use Rattle.std.proofs.lemmas.Grind.{flat_map-append}
use Rattle.std.proofs.lemmas.List.{append-nil, length-append}
use Rattle.fe2o3_sasl_wire.specs.declared.sasl_frames.error.Error.{Error}
use Rattle.fe2o3_sasl_wire.specs.SaslFrames.{SaslFrame}
use Rattle.fe2o3_sasl_core.specs.Bodies.{SpellsBody}
use Rattle.fe2o3_sasl_core.specs.Events.{Given}
use Rattle.fe2o3_sasl_core.specs.Runs.{Runs}
use Rattle.fe2o3_sasl_core.proofs.lemmas.frames.SpellingLemmas.{one_spelling}
use Rattle.fe2o3_sasl_negotiation.specs.declared.progress.CloseReason.{CloseReason}
use Rattle.fe2o3_sasl_negotiation.specs.declared.progress.Expected.{Expected}
use Rattle.fe2o3_sasl_negotiation.specs.declared.progress.Expected.TheVariants.{Frame}
use Rattle.fe2o3_sasl_negotiation.specs.declared.progress.Progress.{Progress}
use Rattle.fe2o3_sasl_negotiation.specs.declared.progress.Progress.TheVariants.{InProgress, Failed}
use Rattle.fe2o3_sasl_negotiation.specs.declared.progress.FrameKind.{FrameKind}
use Rattle.fe2o3_sasl_negotiation.specs.Connections.{Piece, PieceNonceAt, frames_of, SpellsTurn, AreFrames, LeftOver, Unanswered, Replied, Negotiated}
use Rattle.fe2o3_sasl_negotiation.specs.Framing.{sasl_header, framed, size_of, Fits, IsPart}
use Rattle.fe2o3_sasl_negotiation.specs.Negotiations.{Side, SideOutput, IsInTurn}
use Rattle.fe2o3_sasl_negotiation.proofs.lemmas.PieceLemmas.{IsChain}
use Rattle.fe2o3_sasl_negotiation.proofs.lemmas.UnitLemmas.{size_of-framed, length-framed}
use Rattle.connection_laws.specs.Cuts.{HaveOneNonceEach, EndEqually}
use Rattle.connection_laws.proofs.lemmas.FramesLemmas.{one_split, one_frame}

one_turn : (turn other : FrameKind) (expected : Expected) → expected ≡ Frame turn → expected ≡ Frame other → turn ≡ other
one_turn turn other expected one two = let same : Frame turn ≡ Frame other = sym one ∙ two in cc

-- the first frames of both have one nonce, the second frames, and further while both have one
abbrev PairNonces : List Given → List Given → Type 0
PairNonces [] others = Unit {0}
PairNonces (event ∷ events) [] = Unit {0}
PairNonces (event ∷ events) (other ∷ others) = (event.nonce ≡ other.nonce) × PairNonces events others

-- ---- what is left over

module _ (limit : ℕ) (small : limit < 2 ^ 32) where
  pub fits_small : (n : ℕ) → Fits limit n → n < 2 ^ 32
  fits_small n fits = let most : n ≤ limit = fits.1 in let s = small in omega (arith, most, s)

  -- a whole frame is no part of one
  frame_is_no_part : (turn : FrameKind) (tail body more : List ℕ) → tail ≡ framed body ++ more
      → Fits limit (length body + 4) → ¬ IsPart (Frame turn) limit tail
  frame_is_no_part turn tail body more is fits part =
      let long : length tail ≡ (length body + 4) + length more =
      ap length is ∙ (length-append (framed body) more ∙ ap (λ n. n + length more) (length-framed body)) in
      let eight : 8 ≤ length body + 4 = fits.0 in
      let size : size_of tail ≡ length body + 4 =
      ap size_of is ∙ size_of-framed body more (fits_small (length body + 4) fits) in
      let short : length tail < size_of tail = (part (omega (arith, long, eight))).1 in
      omega (arith, long, size, short)

  unanswered_apart : (turn : FrameKind) (body : List ℕ) (frame : SaslFrame) (spelled : Result SaslFrame Error)
      (why : CloseReason) → SpellsBody body spelled → SpellsBody body (Ok frame) → IsInTurn turn frame
      → ¬ Unanswered turn spelled why
  unanswered_apart turn body frame spelled why is spells in_turn unanswered =
      (subst (λ (r : Result SaslFrame Error). Unanswered turn r why) (one_spelling body spelled (Ok frame) is spells)
      unanswered).0 in_turn

  -- what is left over does not begin with an answered frame
  pub no_frame_left : (turn : FrameKind) (tail body more : List ℕ) (progress : Progress) → LeftOver turn limit tail progress
      → tail ≡ framed body ++ more → Fits limit (length body + 4) → ¬ SpellsTurn turn body
  no_frame_left turn tail body more progress (inl part) is fits spells =
      frame_is_no_part turn tail body more is fits part.0
  no_frame_left turn tail body more progress (inr (inl size)) is fits spells =
      let long : length tail ≡ (length body + 4) + length more =
      ap length is ∙ (length-append (framed body) more ∙ ap (λ n. n + length more) (length-framed body)) in
      let eight : 8 ≤ length body + 4 = fits.0 in
      let four : length tail ≡ 4 = size.0 in
      omega (arith, long, eight, four)
  no_frame_left turn tail body more progress
      (inr (inr (other, spelled, why, whole, fits_other, spells_other, unanswered, closed))) is fits spells =
      let same = (one_frame other [] body more (fits_small (length other + 4) fits_other)
      (fits_small (length body + 4) fits) (append-nil (framed other) ∙ (sym whole ∙ is))).0 in
      unanswered_apart turn body spells.0 spelled why
      (subst (λ (b : List ℕ). SpellsBody b spelled) same spells_other) spells.1 spells.2 unanswered

  one_why : (turn : FrameKind) (spelled other : Result SaslFrame Error) (why also : CloseReason) → spelled ≡ other
      → Unanswered turn spelled why → Unanswered turn other also → why ≡ also
  one_why turn spelled other why also same is too =
      go spelled is (subst (λ (r : Result SaslFrame Error). Unanswered turn r also) (sym same) too)
    where
      go : (r : Result SaslFrame Error) → Unanswered turn r why → Unanswered turn r also → why ≡ also
      go (Err fault) one two = one ∙ sym two
      go (Ok frame) one two = one.1 ∙ sym two.1

  too_long : (tail body : List ℕ) → length tail ≡ 4 → tail ≡ framed body → ¬ Fits limit (length body + 4)
  too_long tail body four is fits =
      let long : length tail ≡ length body + 4 = ap length is ∙ length-framed body in
      let eight : 8 ≤ length body + 4 = fits.0 in omega (arith, four, long, eight)

  -- it leaves the side in one way
  one_left_over : (turn : FrameKind) (tail : List ℕ) (progress other : Progress) → LeftOver turn limit tail progress
      → LeftOver turn limit tail other → progress ≡ other
  one_left_over turn tail progress other (inl part) (inl too) = part.1 ∙ sym too.1
  one_left_over turn tail progress other (inl part) (inr (inl size)) =
      let four : length tail ≡ 4 = size.0 in absurd (size.1 (part.0 (omega (arith, four))).0)
  one_left_over turn tail progress other (inl part) (inr (inr frame)) =
      absurd (frame_is_no_part turn tail frame.0 [] (frame.3 ∙ sym (append-nil (framed frame.0))) frame.4 part.0)
  one_left_over turn tail progress other (inr (inl size)) (inl part) =
      let four : length tail ≡ 4 = size.0 in absurd (size.1 (part.0 (omega (arith, four))).0)
  one_left_over turn tail progress other (inr (inl size)) (inr (inl too)) = size.2 ∙ sym too.2
  one_left_over turn tail progress other (inr (inl size)) (inr (inr frame)) =
      absurd (too_long tail frame.0 size.0 frame.3 frame.4)
  one_left_over turn tail progress other (inr (inr frame)) (inl part) =
      absurd (frame_is_no_part turn tail frame.0 [] (frame.3 ∙ sym (append-nil (framed frame.0))) frame.4 part.0)
  one_left_over turn tail progress other (inr (inr frame)) (inr (inl size)) =
      absurd (too_long tail frame.0 size.0 frame.3 frame.4)
  one_left_over turn tail progress other
      (inr (inr (body, spelled, why, whole, fits, spells, unanswered, closed)))
      (inr (inr (again, read, also, too, fits_again, spells_again, unanswered_again, closed_again))) =
      let same = (one_frame body [] again [] (fits_small (length body + 4) fits)
      (fits_small (length again + 4) fits_again)
      (append-nil (framed body) ∙ (sym whole ∙ (too ∙ sym (append-nil (framed again)))))).0 in
      let one = one_spelling again spelled read (subst (λ (b : List ℕ). SpellsBody b spelled) same spells) spells_again in
      closed ∙ (ap (λ (w : CloseReason). Failed w) (one_why turn spelled read why also one unanswered unanswered_again)
      ∙ sym closed_again)

  -- how a negotiation ends
  abbrev EndsIn : SideOutput → List ℕ → Progress → Type 0
  EndsIn answer tail progress =
      ((turn : FrameKind) × (answer.progress ≡ InProgress) × (answer.expected ≡ Frame turn) × LeftOver turn limit tail progress)
      ⊎ ((answer.progress ≢ InProgress) × (progress ≡ answer.progress) × (tail ≡ []))

  -- where a frame is expected, none is left over
  pub no_frame_after : (turn : FrameKind) (answer : SideOutput) (tail body more : List ℕ) (progress : Progress)
      → answer.progress ≡ InProgress → answer.expected ≡ Frame turn → EndsIn answer tail progress
      → tail ≡ framed body ++ more → Fits limit (length body + 4) → ¬ SpellsTurn turn body
  no_frame_after turn answer tail body more progress waits expected (inl (other, wants, is, left)) same fits spells =
      no_frame_left other tail body more progress left same fits
      (subst (λ (t : FrameKind). SpellsTurn t body) (one_turn turn other answer.expected expected is) spells)
  no_frame_after turn answer tail body more progress waits expected (inr ended) same fits spells = ended.0 waits

  one_end : (answer : SideOutput) (tail : List ℕ) (progress other : Progress) → EndsIn answer tail progress
      → EndsIn answer tail other → progress ≡ other
  one_end answer tail progress other (inl (turn, wants, is, left)) (inl (again, waits, too, left_again)) =
      one_left_over turn tail progress other left
      (subst (λ (t : FrameKind). LeftOver t limit tail other) (one_turn again turn answer.expected too is) left_again)
  one_end answer tail progress other (inl waiting) (inr ended) = absurd (ended.0 waiting.1)
  one_end answer tail progress other (inr ended) (inl waiting) = absurd (ended.0 waiting.1)
  one_end answer tail progress other (inr ended) (inr too) = ended.1 ∙ sym too.1

  -- ---- nonces

  pair_nonces : (follows : FrameKind → FrameKind) (turn : FrameKind) (pieces others : List Piece) (at : ℕ)
      (bodies : List (List ℕ))
      (events more : List Given) (stream tail rest : List ℕ) → HaveOneNonceEach pieces others stream
      → at ≡ 8 + length (flat_map framed bodies)
      → stream ≡ sasl_header ++ (flat_map framed bodies ++ (frames_of events ++ tail))
      → AreFrames pieces limit at follows turn events → AreFrames others limit at follows turn more
      → frames_of events ++ tail ≡ frames_of more ++ rest → PairNonces events more
  pair_nonces follows turn pieces others at bodies [] more stream tail rest one place is frames also same = tt
  pair_nonces follows turn pieces others at bodies (event ∷ events) [] stream tail rest one place is frames also
      same = tt
  pair_nonces follows turn pieces others at bodies (event ∷ events) (other ∷ more) stream tail rest one place is frames
      also same =
      let start : stream ≡ sasl_header
      ++ (flat_map framed bodies ++ (framed event.body ++ (frames_of events ++ tail))) =
      is ∙ ap (λ l. sasl_header ++ (flat_map framed bodies ++ l))
      (append_assoc (framed event.body) (frames_of events) tail) in
      let both = one_frame event.body (frames_of events ++ tail) other.body (frames_of more ++ rest)
      (fits_small (length event.body + 4) frames.0) (fits_small (length other.body + 4) also.0)
      (sym (append_assoc (framed event.body) (frames_of events) tail)
      ∙ (same ∙ append_assoc (framed other.body) (frames_of more) rest)) in
      let longer : flat_map framed (bodies ++ event.body ∷ []) ≡ flat_map framed bodies ++ framed event.body =
      flat_map-append framed bodies (event.body ∷ [])
      ∙ ap (λ l. flat_map framed bodies ++ l) (append-nil (framed event.body)) in (
        one (at + (length event.body + 3)) event.nonce other.nonce (
          bodies,
          event.body,
          frames_of events ++ tail,
          start,
          place_of at (length (flat_map framed bodies))
              (length event.body) place,
        ) frames.2
            (subst (λ (b : List ℕ). PieceNonceAt others (at + (length b + 3)) other.nonce) (sym both.0) also.2),
        pair_nonces follows (follows turn) pieces others (at + (length event.body + 4))
            (bodies ++ event.body ∷ []) events
            more stream tail rest one
            (next_place at (length (flat_map framed bodies)) (length event.body) place
            ∙ ap (λ n. 8 + n) (sym (ap length longer ∙ (length-append (flat_map framed bodies) (framed event.body)
            ∙ ap (λ n. length (flat_map framed bodies) + n) (length-framed event.body)))))
            (start ∙ ap (λ l. sasl_header ++ l)
            (sym (append_assoc (flat_map framed bodies) (framed event.body) (frames_of events ++ tail))
            ∙ ap (λ l. l ++ (frames_of events ++ tail)) (sym longer)))
            frames.3
            (subst (λ (b : List ℕ). AreFrames others limit (at + (length b + 4)) follows (follows turn) more)
            (sym both.0) also.3)
            both.1,
      )
    where
      place_of : (at front body : ℕ) → at ≡ 8 + front → at + (body + 3) ≡ 8 + (front + (body + 3))
      place_of at front body is = omega (arith, is)

      next_place : (at front body : ℕ) → at ≡ 8 + front → at + (body + 4) ≡ 8 + (front + (body + 4))
      next_place at front body is = omega (arith, is)

  -- ---- frames and replies

  module _ {S A : Type 0} (Steps : S → Given → A → S → Type 0) (Says : A → FrameKind → SideOutput → Type 0)
      (one_step : (turn : FrameKind) (state : S) (event : Given) (says other : A) (answer reply : SideOutput) (next end : S)
      → Steps state event says next → Says says turn answer → Steps state event other end → Says other turn reply
      → (says ≡ other) × (next ≡ end) × (answer ≡ reply))
      (follows : FrameKind → FrameKind) (chain : IsChain Says follows) where
    -- one event
    abbrev Single : FrameKind → S → Given → List A → SideOutput → S → Type 0
    Single turn state event replies answer last = (says : A) × (next : S) × Steps state event says next
        × (replies ≡ says ∷ []) × (last ≡ next) × Says says turn answer

    single : (turn : FrameKind) (state : S) (event : Given) (replies : List A) (answer : SideOutput) (last : S)
        → Runs Steps state (event ∷ []) replies last → Replied Says follows turn replies answer
        → Single turn state event replies answer last
    single turn state event replies answer last (says, next, others, step, is, (empty, ended)) replied =
        let all : replies ≡ says ∷ [] = is ∙ ap (λ (l : List A). says ∷ l) empty in (
          says,
          next,
          step,
          all,
          ended,
          subst (λ (l : List A). Replied Says follows turn l answer) all replied,
        )

    -- and more of them
    abbrev More : FrameKind → S → Given → List Given → List A → SideOutput → S → Type 0
    More turn state event events replies answer last = (says : A) × (next : S) × (others : List A)
        × (first : SideOutput) × (left : SideOutput) × Steps state event says next × (replies ≡ says ∷ others)
        × Runs Steps next events others last × Says says turn first × (first.progress ≡ InProgress)
        × Replied Says follows (follows turn) others left × (answer ≡ record left { sent = first.sent ++ left.sent })

    more_of : (turn : FrameKind) (state : S) (event second : Given) (events : List Given)
        (replies : List A) (answer : SideOutput) (last : S) → Runs Steps state (event ∷ second ∷ events) replies last
        → Replied Says follows turn replies answer → More turn state event (second ∷ events) replies answer last
    more_of turn state event second events replies answer last
        (says, next, others, step, is, (then, mid, rest, step_then, is_then, run)) replied =
        let all : replies ≡ says ∷ then ∷ rest = is ∙ ap (λ (l : List A). says ∷ l) is_then in
        let (first, left, said, waits, replied_then, sum) =
        subst (λ (l : List A). Replied Says follows turn l answer) all replied in (
          says,
          next,
          then ∷ rest,
          first,
          left,
          step,
          all,
          (then, mid, rest, step_then, refl, run),
          said,
          waits,
          replied_then,
          sum,
        )

    abbrev Same : List Given → List Given → List A → List A → SideOutput → SideOutput → List ℕ → List ℕ → S → S → Type 0
    Same events others replies again answer reply tail rest last end = (events ≡ others) × (replies ≡ again)
        × (answer ≡ reply) × (tail ≡ rest) × (last ≡ end)

    none : (turn : FrameKind) (state : S) (replies : List A) (answer : SideOutput) (last : S)
        → Runs Steps state [] replies last → Replied Says follows turn replies answer
        → answer ≡ record { sent = []; progress = InProgress; expected = Frame turn }
    none turn state replies answer last run replied =
        subst (λ (l : List A). Replied Says follows turn l answer) run.0 replied

    -- one side has no frame, and the other side has one
    none_and_some : (turn : FrameKind) (pieces : List Piece) (at : ℕ) (state : S) (event : Given)
        (events : List Given) (replies : List A) (answer : SideOutput) (last : S) (tail rest : List ℕ) (progress : Progress)
        → AreFrames pieces limit at follows turn (event ∷ events) → tail ≡ frames_of (event ∷ events) ++ rest
        → Runs Steps state [] replies last → Replied Says follows turn replies answer → EndsIn answer tail progress → ⊥
    none_and_some turn pieces at state event events replies answer last tail rest progress frames same run replied
        ends =
        let is = none turn state replies answer last run replied in
        no_frame_after turn answer tail event.body (frames_of events ++ rest) progress
        (ap (λ (a : SideOutput). a.progress) is) (ap (λ (a : SideOutput). a.expected) is) ends
        (same ∙ append_assoc (framed event.body) (frames_of events) rest) frames.0 frames.1

    -- one side has no frame after its first reply, and the other side has one
    one_and_more : (turn : FrameKind) (pieces : List Piece) (at : ℕ) (second : Given) (events : List Given) (says : A)
        (answer : SideOutput) (tail rest : List ℕ) (progress : Progress)
        → AreFrames pieces limit at follows (follows turn) (second ∷ events)
        → tail ≡ frames_of (second ∷ events) ++ rest
        → Says says turn answer → answer.progress ≡ InProgress → EndsIn answer tail progress → ⊥
    one_and_more turn pieces at second events says answer tail rest progress frames same said waits ends =
        no_frame_after (follows turn) answer tail second.body (frames_of events ++ rest) progress waits
        (chain turn says answer said waits) ends (same ∙ append_assoc (framed second.body) (frames_of events) rest)
        frames.0
        frames.1

    first_frame : (turn : FrameKind) (pieces others : List Piece) (at from : ℕ) (event other : Given)
        (events more : List Given) (tail rest : List ℕ) → AreFrames pieces limit at follows turn (event ∷ events)
        → AreFrames others limit from follows turn (other ∷ more)
        → frames_of (event ∷ events) ++ tail ≡ frames_of (other ∷ more) ++ rest → event.nonce ≡ other.nonce
        → (event ≡ other) × (frames_of events ++ tail ≡ frames_of more ++ rest)
    first_frame turn pieces others at from event other events more tail rest frames also same nonce =
        let both = one_frame event.body (frames_of events ++ tail) other.body (frames_of more ++ rest)
        (fits_small (length event.body + 4) frames.0) (fits_small (length other.body + 4) also.0)
        (sym (append_assoc (framed event.body) (frames_of events) tail)
        ∙ (same ∙ append_assoc (framed other.body) (frames_of more) rest)) in
        (λ i. record { body = both.0 i; nonce = nonce i }, both.1)

    -- all frames and replies
    same : (turn : FrameKind) (pieces others : List Piece) (at from : ℕ) (state : S) (events more : List Given)
        (replies again : List A) (answer reply : SideOutput) (tail rest : List ℕ) (last end : S) (progress stood : Progress)
        → AreFrames pieces limit at follows turn events → AreFrames others limit from follows turn more
        → PairNonces events more → frames_of events ++ tail ≡ frames_of more ++ rest
        → Runs Steps state events replies last → Runs Steps state more again end
        → Replied Says follows turn replies answer
        → Replied Says follows turn again reply → EndsIn answer tail progress → EndsIn reply rest stood
        → Same events more replies again answer reply tail rest last end
    same turn pieces others at from state [] [] replies again answer reply tail rest last end progress stood
        frames also nonces carried run ran replied too ends finishes = (
          refl,
          run.0 ∙ sym ran.0,
          none turn state replies answer last run replied ∙ sym (none turn state again reply end ran too),
          carried,
          run.1 ∙ sym ran.1,
        )
    same turn pieces others at from state [] (other ∷ more) replies again answer reply tail rest last end
        progress stood frames also nonces carried run ran replied too ends finishes =
        absurd (none_and_some turn others from state other more replies answer last tail rest progress also carried
        run replied ends)
    same turn pieces others at from state (event ∷ events) [] replies again answer reply tail rest last end
        progress stood frames also nonces carried run ran replied too ends finishes =
        absurd (none_and_some turn pieces at state event events again reply end rest tail stood frames (sym carried)
        ran too finishes)
    same turn pieces others at from state (event ∷ []) (other ∷ []) replies again answer reply tail rest last
        end progress stood frames also nonces carried run ran replied too ends finishes =
        let (one, later) = first_frame turn pieces others at from event other [] [] tail rest frames also carried
        nonces.0 in
        let (says, next, step, all, ended, said) = single turn state event replies answer last run replied in
        let (also_says, mid, went, every, stopped, told) = single turn state other again reply end ran too in
        let (reply_is, state_is, answer_is) = one_step turn state other says also_says answer reply next mid
        (subst (λ (e : Given). Steps state e says next) one step) said went told in (
          ap (λ (e : Given). e ∷ []) one,
          all ∙ (ap (λ (a : A). a ∷ []) reply_is ∙ sym every),
          answer_is,
          later,
          ended ∙ (state_is ∙ sym stopped),
        )
    same turn pieces others at from state (event ∷ []) (other ∷ second ∷ more) replies again answer reply tail
        rest last end progress stood frames also nonces carried run ran replied too ends finishes =
        let (one, later) = first_frame turn pieces others at from event other [] (second ∷ more) tail rest frames
        also carried nonces.0 in
        let (says, next, step, all, ended, said) = single turn state event replies answer last run replied in
        let (also_says, mid, left, first, rest_answer, went, every, goes, told, waits, then, sum) =
        more_of turn state other second more again reply end ran too in
        let (reply_is, state_is, answer_is) = one_step turn state other says also_says answer first next mid
        (subst (λ (e : Given). Steps state e says next) one step) said went told in
        absurd (one_and_more turn others (from + (length other.body + 4)) second more says answer tail rest progress
        also.3
        later said (ap (λ (a : SideOutput). a.progress) answer_is ∙ waits) ends)
    same turn pieces others at from state (event ∷ second ∷ events) (other ∷ []) replies again answer reply tail
        rest last end progress stood frames also nonces carried run ran replied too ends finishes =
        let (one, later) = first_frame turn pieces others at from event other (second ∷ events) [] tail rest frames
        also carried nonces.0 in
        let (says, next, left, first, rest_answer, step, all, goes, said, waits, then, sum) =
        more_of turn state event second events replies answer last run replied in
        let (also_says, mid, went, every, stopped, told) = single turn state other again reply end ran too in
        let (reply_is, state_is, answer_is) = one_step turn state other says also_says first reply next mid
        (subst (λ (e : Given). Steps state e says next) one step) said went told in
        absurd (one_and_more turn pieces (at + (length event.body + 4)) second events also_says reply rest tail stood
        frames.3 (sym later) told (sym (ap (λ (a : SideOutput). a.progress) answer_is) ∙ waits) finishes)
    same turn pieces others at from state (event ∷ second ∷ events) (other ∷ third ∷ more) replies again answer
        reply tail rest last end progress stood frames also nonces carried run ran replied too ends finishes =
        let (one, later) = first_frame turn pieces others at from event other (second ∷ events) (third ∷ more) tail
        rest frames also carried nonces.0 in
        let (says, next, left, first, rest_answer, step, all, goes, said, waits, then, sum) =
        more_of turn state event second events replies answer last run replied in
        let (also_says, mid, over, start, last_answer, went, every, runs, told, wants, also_then, total) =
        more_of turn state other third more again reply end ran too in
        let (reply_is, state_is, answer_is) = one_step turn state other says also_says first start next mid
        (subst (λ (e : Given). Steps state e says next) one step) said went told in
        let (events_are, replies_are, answers_are, tails_are, ends_are) =
        same (follows turn) pieces others (at + (length event.body + 4)) (from + (length other.body + 4)) mid
        (second ∷ events) (third ∷ more) left over rest_answer last_answer tail rest last end progress stood frames.3
        also.3
        nonces.1 later (subst (λ (s : S). Runs Steps s (second ∷ events) left last) state_is goes) runs
        then also_then (subst (λ (a : SideOutput). EndsIn a tail progress) sum ends)
        (subst (λ (a : SideOutput). EndsIn a rest stood) total finishes) in (
          (λ i. one i ∷ events_are i),
          all ∙ ((λ i. reply_is i ∷ replies_are i) ∙ sym every),
          sum ∙ ((λ i. record (answers_are i) { sent = (answer_is i).sent ++ (answers_are i).sent }) ∙ sym total),
          tails_are,
          ends_are,
        )

    -- two negotiations over the same bytes
    pub one_result : (turn : FrameKind) (state : S) (pieces others : List Piece) (taken sent out : List ℕ)
        (last end : Side S)
        → (first : Negotiated Steps Says follows turn limit state pieces taken sent last)
        (second : Negotiated Steps Says follows turn limit state others taken out end)
        → HaveOneNonceEach pieces others taken
        → (first.events ≡ second.events) × (first.replies ≡ second.replies) × EndEqually sent out last end
    one_result turn state pieces others taken sent out last end first second nonces =
        let later : frames_of first.events ++ first.tail ≡ frames_of second.events ++ second.tail =
        (one_split sasl_header (frames_of first.events ++ first.tail) sasl_header (frames_of second.events ++ second.tail)
        (sym first.carried ∙ second.carried) (same_length (sym first.carried ∙ second.carried))).1 in
        let paired = pair_nonces follows turn pieces others 8 [] first.events second.events taken first.tail second.tail
        nonces
        refl first.carried first.frames second.frames later in
        let (events_are, replies_are, answers_are, tails_are, states_are) =
        same turn pieces others 8 8 state first.events second.events first.replies second.replies first.answer
        second.answer first.tail second.tail last.state end.state last.progress end.progress first.frames
        second.frames paired later first.run second.run first.replied second.replied first.ends second.ends in
        let progresses_are : last.progress ≡ end.progress =
        one_end second.answer second.tail last.progress end.progress
        (subst (λ (t : List ℕ). EndsIn second.answer t last.progress) tails_are
        (subst (λ (a : SideOutput). EndsIn a first.tail last.progress) answers_are first.ends)) second.ends in (
          events_are,
          replies_are,
          record {
            sends = first.sends ∙ (ap (λ (a : SideOutput). a.sent) answers_are ∙ sym second.sends);
            progress = progresses_are;
            state = states_are;
            waits = λ waits. first.waits waits
                ∙ ((λ i. record {
                  progress = InProgress;
                  expected = (answers_are i).expected;
                  limit = limit;
                  held = tails_are i;
                  state = states_are i;
                }) ∙ sym (second.waits (sym progresses_are ∙ waits)));
          },
        )
      where
        same_length : sasl_header ++ (frames_of first.events ++ first.tail)
            ≡ sasl_header ++ (frames_of second.events ++ second.tail)
            → length (frames_of first.events ++ first.tail) ≡ length (frames_of second.events ++ second.tail)
        same_length is = omega (
          arith,
          ap length is,
          length-append sasl_header (frames_of first.events ++ first.tail),
          length-append sasl_header (frames_of second.events ++ second.tail),
        )
