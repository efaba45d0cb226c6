-- Bytes that arrive in pieces: frames, their nonces and replies, one more at a time.
use Rattle.std.proofs.Common.{◌≡◌, ℕ, zero, suc, ◌+◌, ◌<◌, ◌≤◌, Some, List, [], ◌∷◌, ◌++◌, length, take, drop, refl, sym, ap, ◌∙◌, subst, append_assoc, arith, length-append}
use Rattle.std.specs.Prelude.{slice_get, replicate, flat_map}
use Rattle.std.specs.Int.{w32, to_be_bytes}
use Rattle.std.proofs.lemmas.Grind.{flat_map-append}
use Rattle.std.proofs.lemmas.List.{append-nil, length-take-le, take-append-drop}
use Rattle.std.proofs.lemmas.Nat.{be_bytes_4}
use Rattle.fe2o3_sasl_wire.specs.SaslFrames.{IsBytes}
use Rattle.fe2o3_sasl_wire.proofs.lemmas.reading.StepLemmas.{IsBytes-take}
use Rattle.fe2o3_sasl_core.specs.Events.{Given}
use Rattle.fe2o3_sasl_core.specs.Runs.{Runs}
use Rattle.fe2o3_sasl_negotiation.specs.declared.progress.Expected.{Expected}
use Rattle.fe2o3_sasl_negotiation.specs.declared.progress.Expected.TheVariants.{Frame}
use Rattle.fe2o3_sasl_negotiation.specs.declared.progress.Progress.TheVariants.{InProgress}
use Rattle.fe2o3_sasl_negotiation.specs.declared.progress.FrameKind.{FrameKind}
use Rattle.fe2o3_sasl_negotiation.specs.Connections.{Piece, bytes_of, PieceNonceAt, frames_of, SpellsTurn, AreFrames, Replied}
use Rattle.fe2o3_sasl_negotiation.specs.Framing.{framed, size_of, Fits}
use Rattle.fe2o3_sasl_negotiation.specs.Negotiations.{SideOutput}
use Rattle.fe2o3_sasl_negotiation.proofs.lemmas.UnitLemmas.{length-framed}

-- ---- lists

-- what is at a place of a list is there when more follows
pub get_of_more : {X : Type 0} (xs ys : List X) (n : ℕ) (x : X) → slice_get xs n ≡ Some x
    → slice_get (xs ++ ys) n ≡ Some x
get_of_more [] ys n x at = absurd (none n x at)
  where
    none : {X : Type 0} (n : ℕ) (x : X) → slice_get {X = X} [] n ≡ Some x → ⊥
    none n x at = cc
get_of_more (y ∷ xs) ys zero x at = at
get_of_more (y ∷ xs) ys (suc n) x at = get_of_more xs ys n x at

-- what is at a place of the rest of a list
pub get_of_rest : {X : Type 0} (xs ys : List X) (n : ℕ) (x : X) → slice_get ys n ≡ Some x
    → slice_get (xs ++ ys) (length xs + n) ≡ Some x
get_of_rest [] ys n x at = subst (λ k. slice_get ys k ≡ Some x) (omega arith) at
get_of_rest (y ∷ xs) ys n x at =
    subst (λ k. slice_get (y ∷ (xs ++ ys)) k ≡ Some x) (sum (length xs) n) (get_of_rest xs ys n x at)
  where
    sum : (a b : ℕ) → suc (a + b) ≡ suc a + b
    sum a b = omega arith

pub get_of_same : {X : Type 0} (k n : ℕ) (x : X) → n < k → slice_get (replicate k x) n ≡ Some x
get_of_same zero n x few = absurd (omega (arith, few))
get_of_same (suc k) zero x few = refl
get_of_same (suc k) (suc n) x few = get_of_same k n x (omega arith)

-- ---- nonces

-- a nonce for each byte
abbrev nonces_of : List Piece → List (List ℕ)
nonces_of pieces = flat_map (λ (piece : Piece). replicate (length piece.bytes) piece.nonce) pieces

length-replicate : {X : Type 0} (k : ℕ) (x : X) → length (replicate k x) ≡ k
length-replicate zero x = refl
length-replicate (suc k) x = ap suc (length-replicate k x)

length-nonces_of : (pieces : List Piece) → length (nonces_of pieces) ≡ length (bytes_of pieces)
length-nonces_of [] = refl
length-nonces_of (piece ∷ pieces) =
    length-append (replicate (length piece.bytes) piece.nonce) (nonces_of pieces)
    ∙ (ap (λ n. n + length (nonces_of pieces)) (length-replicate (length piece.bytes) piece.nonce)
    ∙ (ap (λ n. length piece.bytes + n) (length-nonces_of pieces)
    ∙ sym (length-append piece.bytes (bytes_of pieces))))

-- the nonces stay where more pieces follow
pub nonce_of_more : (pieces more : List Piece) (n : ℕ) (nonce : List ℕ) → PieceNonceAt pieces n nonce
    → PieceNonceAt (pieces ++ more) n nonce
nonce_of_more pieces more n nonce at =
    subst (λ l. slice_get l n ≡ Some nonce)
    (sym (flat_map-append (λ (piece : Piece). replicate (length piece.bytes) piece.nonce) pieces more))
    (get_of_more (nonces_of pieces) (nonces_of more) n nonce at)

-- the nonces of a piece that follows others, and has more after it
pub nonce_of_piece : (pieces more : List Piece) (piece : Piece) (n : ℕ) → n < length piece.bytes
    → PieceNonceAt (pieces ++ piece ∷ more) (length (bytes_of pieces) + n) piece.nonce
nonce_of_piece pieces more piece n few =
    subst (λ l. slice_get l (length (bytes_of pieces) + n) ≡ Some piece.nonce)
    (sym (flat_map-append (λ (p : Piece). replicate (length p.bytes) p.nonce) pieces (piece ∷ more)))
    (subst (λ k. slice_get (nonces_of pieces ++ nonces_of (piece ∷ more)) (k + n) ≡ Some piece.nonce)
    (length-nonces_of pieces)
    (get_of_rest (nonces_of pieces) (nonces_of (piece ∷ more)) n piece.nonce
    (get_of_more (replicate (length piece.bytes) piece.nonce) (nonces_of more) n piece.nonce
    (get_of_same (length piece.bytes) n piece.nonce few))))

-- ---- frames

-- a frame is its size in four bytes and its body
pub is_framed : (limit : ℕ) (unit : List ℕ) → IsBytes unit → length unit ≡ size_of unit → 4 ≤ length unit
    → unit ≡ framed (drop 4 unit)
unfolding size_of
is_framed limit unit bytes whole four =
    let parts : take 4 unit ++ drop 4 unit ≡ unit = take-append-drop 4 unit in
    let front : length (take 4 unit) ≡ 4 = length-take-le 4 unit four in
    let count : length (drop 4 unit) + 4 ≡ length unit =
    omega (arith, front, length-append (take 4 unit) (drop 4 unit), ap length parts) in
    let back : to_be_bytes w32 (length (drop 4 unit) + 4) ≡ take 4 unit =
    be_bytes_4 (take 4 unit) (length (drop 4 unit) + 4) front (IsBytes-take 4 unit bytes) (count ∙ whole) in
    sym (ap (λ l. l ++ drop 4 unit) back ∙ parts)

-- how many bytes frames are
pub length-frames_of : (event : Given) (events : List Given)
    → length (frames_of (event ∷ events)) ≡ (length event.body + 4) + length (frames_of events)
length-frames_of event events =
    length-append (framed event.body) (frames_of events)
    ∙ ap (λ n. n + length (frames_of events)) (length-framed event.body)

pub frames_of-more : (events : List Given) (event : Given)
    → frames_of (events ++ event ∷ []) ≡ frames_of events ++ framed event.body
frames_of-more events event =
    flat_map-append (λ (e : Given). framed e.body) events (event ∷ [])
    ∙ ap (λ l. frames_of events ++ l) (append-nil (framed event.body))

-- the turn after n answers, the first in this turn
abbrev pub turn_after : (FrameKind → FrameKind) → FrameKind → ℕ → FrameKind
turn_after follows turn zero = turn
turn_after follows turn (suc n) = turn_after follows (follows turn) n

-- frames of more pieces
pub frames_of_more : (pieces more : List Piece) (limit at : ℕ) (follows : FrameKind → FrameKind) (turn : FrameKind)
    (events : List Given) → AreFrames pieces limit at follows turn events
    → AreFrames (pieces ++ more) limit at follows turn events
frames_of_more pieces more limit at follows turn [] are = tt
frames_of_more pieces more limit at follows turn (event ∷ events) (fits, spells, nonce, others) = (
  fits,
  spells,
  nonce_of_more pieces more (at + (length event.body + 3)) event.nonce nonce,
  frames_of_more pieces more limit (at + (length event.body + 4)) follows (follows turn) events others,
)

-- one frame more
pub one_frame_more : (pieces : List Piece) (limit at : ℕ) (follows : FrameKind → FrameKind) (first : FrameKind)
    (events : List Given) (turn : FrameKind) (event : Given) → AreFrames pieces limit at follows first events
    → turn_after follows first (length events) ≡ turn
    → Fits limit (length event.body + 4) → SpellsTurn turn event.body
    → PieceNonceAt pieces (at + (length (frames_of events) + (length event.body + 3))) event.nonce
    → AreFrames pieces limit at follows first (events ++ event ∷ [])
one_frame_more pieces limit at follows first [] turn event are expected fits spells nonce = (
  fits,
  subst (λ (t : FrameKind). SpellsTurn t event.body) (sym expected) spells,
  subst (λ n. PieceNonceAt pieces n event.nonce) (omega arith) nonce,
  tt,
)
one_frame_more pieces limit at follows first (other ∷ events) turn event (fits_first, spells_first, nonce_first, others)
    expected fits spells nonce = (
      fits_first,
      spells_first,
      nonce_first,
      one_frame_more pieces limit (at + (length other.body + 4)) follows (follows first) events turn event others expected
          fits spells (subst (λ n. PieceNonceAt pieces n event.nonce) (place (length-frames_of other events)) nonce),
    )
  where
    place : length (frames_of (other ∷ events)) ≡ (length other.body + 4) + length (frames_of events)
        → at + (length (frames_of (other ∷ events)) + (length event.body + 3))
        ≡ (at + (length other.body + 4)) + (length (frames_of events) + (length event.body + 3))
    place count = omega (arith, count)

-- ---- replies

-- what a reply leaves expected is the turn that follows
abbrev pub IsChain : {A : Type 0} → (A → FrameKind → SideOutput → Type 0) → (FrameKind → FrameKind) → Type 0
IsChain {A} Says follows = (turn : FrameKind) (says : A) (answer : SideOutput) → Says says turn answer
    → answer.progress ≡ InProgress → answer.expected ≡ Frame (follows turn)

frame_turn : (turn other : FrameKind) (expected : Expected) → expected ≡ Frame turn → expected ≡ Frame other → turn ≡ other
frame_turn turn other expected one two = let same : Frame turn ≡ Frame other = sym one ∙ two in cc

module _ {A : Type 0} (Says : A → FrameKind → SideOutput → Type 0) (follows : FrameKind → FrameKind) where
  -- where a side waits after its replies, the turn after them is expected
  pub due_after : (first : FrameKind) (replies : List A) (answer : SideOutput) → IsChain Says follows
      → Replied Says follows first replies answer → answer.progress ≡ InProgress
      → answer.expected ≡ Frame (turn_after follows first (length replies))
  due_after first [] answer chain replied waits = ap (λ (a : SideOutput). a.expected) replied
  due_after first (says ∷ []) answer chain replied waits = chain first says answer replied waits
  due_after first (says ∷ more ∷ replies) answer chain (start, rest, _, _, replied, is) waits =
      ap (λ (a : SideOutput). a.expected) is ∙ due_after (follows first) (more ∷ replies) rest chain replied
      (sym (ap (λ (a : SideOutput). a.progress) is) ∙ waits)

  -- one reply more
  pub one_reply_more : (first : FrameKind) (replies : List A) (before after : SideOutput) (turn : FrameKind) (says : A)
      → IsChain Says follows → Replied Says follows first replies before → before.progress ≡ InProgress
      → before.expected ≡ Frame turn → Says says turn after
      → Replied Says follows first (replies ++ says ∷ []) (record after { sent = before.sent ++ after.sent })
  one_reply_more first [] before after turn says chain replied waits expected more =
      let same : turn ≡ first = frame_turn turn first before.expected expected (ap (λ (a : SideOutput). a.expected) replied) in
      let nothing : before.sent ≡ [] = ap (λ (a : SideOutput). a.sent) replied in
      subst (λ (l : List ℕ). Says says first (record after { sent = l ++ after.sent })) (sym nothing)
      (subst (λ (t : FrameKind). Says says t after) same more)
  one_reply_more first (one ∷ []) before after turn says chain replied waits expected more =
      let same : turn ≡ follows first =
      frame_turn turn (follows first) before.expected expected (chain first one before replied waits) in
      (before, after, replied, waits, subst (λ (t : FrameKind). Says says t after) same more, refl)
  one_reply_more first (one ∷ other ∷ replies) before after turn says chain (start, rest, said, went, replied, is) waits
      expected more = (
        start,
        record after { sent = rest.sent ++ after.sent },
        said,
        went,
        one_reply_more (follows first) (other ∷ replies) rest after turn says chain replied
            (sym (ap (λ (a : SideOutput). a.progress) is) ∙ waits) (sym (ap (λ (a : SideOutput). a.expected) is) ∙ expected) more,
        ap (λ (l : List ℕ). record after { sent = l })
            (ap (λ (a : SideOutput). a.sent ++ after.sent) is ∙ append_assoc start.sent rest.sent after.sent),
      )

-- a reply for each event
pub as_many : {S A : Type 0} (Step : S → Given → A → S → Type 0) (state last : S) (events : List Given) (replies : List A)
    → Runs Step state events replies last → length replies ≡ length events
as_many Step state last [] replies run = ap length run.0
as_many Step state last (event ∷ events) replies (says, next, others, step, is, run) =
    ap length is ∙ ap suc (as_many Step next last events others run)

-- one step more
pub one_step_more : {S A : Type 0} (Step : S → Given → A → S → Type 0) (state : S) (events : List Given)
    (replies : List A) (mid : S) (event : Given) (says : A) (last : S) → Runs Step state events replies mid
    → Step mid event says last → Runs Step state (events ++ event ∷ []) (replies ++ says ∷ []) last
one_step_more Step state [] replies mid event says last run step = (
  says,
  last,
  [],
  subst (λ (x : _). Step x event says last) run.1 step,
  ap (λ r. r ++ says ∷ []) run.0,
  (refl, refl),
)
one_step_more Step state (first ∷ events) replies mid event says last run step = (
  run.0,
  run.1,
  run.2 ++ says ∷ [],
  run.3,
  ap (λ r. r ++ says ∷ []) run.4,
  one_step_more Step run.1 events run.2 mid event says last run.5 step,
)
