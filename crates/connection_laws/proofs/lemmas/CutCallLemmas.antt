-- Calls over one stream, and the connections that they make.
use Rattle.std.proofs.Common.{◌≡◌, ◌⊎◌, ℕ, ◌+◌, ◌<◌, ◌≤◌, List, [], ◌∷◌, ◌++◌, length, take, drop, refl, sym, ap, ◌∙◌, subst, inl, inr, append_assoc, arith}
use Rattle.std.specs.Prelude.{flat_map}
use Rattle.std.proofs.lemmas.Bool.{cases_lt}
use Rattle.std.proofs.lemmas.List.{append-nil, length-append, length-take, length-take-le, take-take, take-append-drop}
use Rattle.std.proofs.Math.Seq.{take-append-add, take-append_seam}
use Rattle.fe2o3_sasl_wire.specs.SaslFrames.{IsBytes}
use Rattle.fe2o3_sasl_wire.proofs.lemmas.reading.StepLemmas.{IsBytes-take}
use Rattle.fe2o3_sasl_core.specs.AnyMechanismLaws.{Machine}
use Rattle.fe2o3_sasl_core.specs.Runs.{ProfileSteps}
use Rattle.fe2o3_sasl_core.specs.SaslAcceptor.{acceptor_names, acceptor_machine}
use Rattle.fe2o3_sasl_core.proofs.lemmas.machines.OneReplyLemmas.{one_acceptor_reply}
use Rattle.fe2o3_sasl_negotiation.specs.declared.progress.Expected.{Expected}
use Rattle.fe2o3_sasl_negotiation.specs.declared.progress.Progress.TheVariants.{InProgress}
use Rattle.fe2o3_sasl_negotiation.specs.ClientNegotiation.{ClientSideAnswers}
use Rattle.fe2o3_sasl_negotiation.specs.Connections.{Piece, bytes_of, PieceNonceAt, ServerConnection, ClientConnection, fresh}
use Rattle.fe2o3_sasl_negotiation.specs.Framing.{sasl_header, framed}
use Rattle.fe2o3_sasl_negotiation.specs.Laws.{Call, Calls}
use Rattle.fe2o3_sasl_negotiation.specs.Negotiations.{Side, SideOutput, Receives}
use Rattle.fe2o3_sasl_negotiation.specs.ServerNegotiation.{ServerSideAnswers}
use Rattle.fe2o3_sasl_negotiation.proofs.lemmas.ClientConnectionLemmas.{client_call, client_fresh}
use Rattle.fe2o3_sasl_negotiation.proofs.lemmas.PieceLemmas.{nonce_of_piece}
use Rattle.fe2o3_sasl_negotiation.proofs.lemmas.ServerConnectionLemmas.{server_call, server_fresh}
use Rattle.connection_laws.specs.Cuts.{HaveOneNonceEach, EndsFrame, EndEqually, CallsOver, taken_pieces, pieces_of, HaveFinished, HaveOneResult, FunctionCallsEndEqually, ServerCallsEndEqually, ClientCallsEndEqually}
use Rattle.connection_laws.proofs.lemmas.CutConnectionLemmas.{functions_end_equally, clients_end_equally}
use Rattle.connection_laws.proofs.lemmas.FramesLemmas.{one_split}
use Rattle.connection_laws.proofs.lemmas.RestLemmas.{bytes_of-more, taken_within, waited}

module _ {S : Type 0} (Answers : Expected → S → List ℕ → List ℕ → SideOutput → S → Type 0) where
  -- the pieces are the front of the stream
  pub covers : (side : Side S) (calls : List Call) (stream sent : List ℕ) (last : Side S) (rest : List ℕ)
      (made : Calls (Receives Answers) side calls stream sent last rest)
      → stream ≡ bytes_of (taken_pieces Answers side calls stream sent last rest made) ++ rest
  covers side [] stream sent last rest (nothing, same, left) = sym left
  covers side (call ∷ calls) stream sent last rest (k, first, next, later, receives, made, all) =
      let handed = take call.handed stream in
      let within : k ≤ length handed = taken_within Answers side next handed call.nonce first k side.progress receives in
      let few : k ≤ call.handed = omega (arith, within, length-take call.handed stream) in
      let front : take k handed ≡ take k stream = take-take k call.handed stream few in
      let pieces = taken_pieces Answers next calls (drop k stream) later last rest made in
      sym (take-append-drop k stream) ∙ (ap (λ l. l ++ drop k stream) (sym front)
      ∙ (ap (λ l. take k handed ++ l) (covers next calls (drop k stream) later last rest made)
      ∙ sym (append_assoc (take k handed) (bytes_of pieces) rest)))

  module _ (all : List Piece) (Is : List ℕ → List ℕ → Side S → Type 0)
      (one_more : (taken sent : List ℕ) (side next : Side S) (bytes nonce first : List ℕ) (k : ℕ) → Is taken sent side
      → IsBytes (taken ++ bytes) → ((i : ℕ) → i < k → PieceNonceAt all (length taken + i) nonce)
      → Receives Answers side bytes nonce k first next → Is (taken ++ take k bytes) (sent ++ first) next) where
    pub in_calls : (calls : List Call) (done : List Piece) (side last : Side S) (stream before sent rest : List ℕ)
        (made : Calls (Receives Answers) side calls stream sent last rest)
        → all ≡ done ++ taken_pieces Answers side calls stream sent last rest made → Is (bytes_of done) before side
        → IsBytes (bytes_of done ++ stream) → Is (bytes_of all) (before ++ sent) last
    in_calls [] done side last stream before sent rest (nothing, same, left) whole is are_bytes =
        subst (λ (p : List Piece). Is (bytes_of p) (before ++ sent) last) (sym (whole ∙ append-nil done))
        (subst (λ (l : List ℕ). Is (bytes_of done) l last) (sym (ap (λ l. before ++ l) nothing ∙ append-nil before))
        (subst (λ (s : Side S). Is (bytes_of done) before s) (sym same) is))
    in_calls (call ∷ calls) done side last stream before sent rest (k, first, next, later, receives, made, sum) whole is
        are_bytes =
        let handed = take call.handed stream in
        let within : k ≤ length handed = taken_within Answers side next handed call.nonce first k side.progress receives in
        let few : k ≤ call.handed = omega (arith, within, length-take call.handed stream) in
        let piece : Piece = record { bytes = take k handed; nonce = call.nonce } in
        let front : take k handed ≡ take k stream = take-take k call.handed stream few in
        let count : length piece.bytes ≡ k = length-take-le k handed within in
        let parts : piece.bytes ++ drop k stream ≡ stream =
        ap (λ l. l ++ drop k stream) front ∙ take-append-drop k stream in
        let now = bytes_of-more done piece in
        let all_bytes : (bytes_of done ++ piece.bytes) ++ drop k stream ≡ bytes_of done ++ stream =
        append_assoc (bytes_of done) piece.bytes (drop k stream) ∙ ap (λ l. bytes_of done ++ l) parts in
        let handed_bytes : IsBytes (bytes_of done ++ handed) =
        subst (λ (l : List ℕ). IsBytes l) (take-append-add (bytes_of done) stream call.handed)
        (IsBytes-take (length (bytes_of done) + call.handed) (bytes_of done ++ stream) are_bytes) in
        let others = taken_pieces Answers next calls (drop k stream) later last rest made in
        let step = one_more (bytes_of done) before side next handed call.nonce first k is handed_bytes
        (λ i small. subst (λ (p : List Piece). PieceNonceAt p (length (bytes_of done) + i) call.nonce) (sym whole)
        (nonce_of_piece done others piece i (omega (arith, small, count)))) receives in
        let end = in_calls calls (done ++ piece ∷ []) next last (drop k stream) (before ++ first) later rest made
        (whole ∙ sym (append_assoc done (piece ∷ []) others))
        (subst (λ (l : List ℕ). Is l (before ++ first) next) (sym now) step)
        (subst (λ (l : List ℕ). IsBytes (l ++ drop k stream)) (sym now)
        (subst (λ (l : List ℕ). IsBytes l) (sym all_bytes) are_bytes)) in
        subst (λ (l : List ℕ). Is (bytes_of all) l last)
        (append_assoc before first later ∙ ap (λ l. before ++ l) (sym sum)) end

-- both take the same bytes
same_taken : (front rest other left stream : List ℕ) → stream ≡ front ++ rest → stream ≡ other ++ left → rest ≡ left
    → front ≡ other
same_taken front rest other left stream one two same =
    (one_split front rest other left (sym one ∙ two) (ap length same)).0

-- a frame that ends in the front of a stream ends in the stream
ends_in_stream : (front rest stream : List ℕ) (n : ℕ) → stream ≡ front ++ rest → EndsFrame front n → EndsFrame stream n
ends_in_stream front rest stream n same (bodies, body, tail, is, place) = (
  bodies,
  body,
  tail ++ rest,
  same ∙ (ap (λ l. l ++ rest) is ∙ assoc (flat_map framed bodies) (framed body) tail),
  place,
)
  where
    assoc : (a b c : List ℕ) → (sasl_header ++ (a ++ (b ++ c))) ++ rest ≡ sasl_header ++ (a ++ (b ++ (c ++ rest)))
    assoc a b c = append_assoc sasl_header (a ++ (b ++ c)) rest
        ∙ ap (λ l. sasl_header ++ l) (append_assoc a (b ++ c) rest ∙ ap (λ l. a ++ l) (append_assoc b c rest))

-- two lists of calls whose connections end equally
module _ {S : Type 0} (Answers : Expected → S → List ℕ → List ℕ → SideOutput → S → Type 0) (limit : ℕ) (state : S)
    (stream : List ℕ) (Is : List Piece → List ℕ → List ℕ → Side S → Type 0)
    (one_more : (pieces : List Piece) (taken sent : List ℕ) (side next : Side S) (bytes nonce first : List ℕ) (k : ℕ)
    → Is pieces taken sent side → IsBytes (taken ++ bytes)
    → ((i : ℕ) → i < k → PieceNonceAt pieces (length taken + i) nonce) → Receives Answers side bytes nonce k first next
    → Is pieces (taken ++ take k bytes) (sent ++ first) next)
    (begins : (pieces : List Piece) → Is pieces [] [] (fresh limit state))
    (ends_equally : (pieces others : List Piece) (taken sent out : List ℕ) (last end : Side S)
    → Is pieces taken sent last → Is others taken out end → HaveOneNonceEach pieces others taken
    → EndEqually sent out last end) where
  abbrev pieces : CallsOver Answers (fresh limit state) stream → List Piece
  pieces over = pieces_of Answers (fresh limit state) stream over

  front : (over : CallsOver Answers (fresh limit state) stream) → stream ≡ bytes_of (pieces over) ++ over.rest
  front over = covers Answers (fresh limit state) over.calls stream over.sent over.last over.rest over.made

  connection : (over : CallsOver Answers (fresh limit state) stream) → IsBytes stream
      → Is (pieces over) (bytes_of (pieces over)) over.sent over.last
  connection over are_bytes =
      in_calls Answers (pieces over) (Is (pieces over)) (one_more (pieces over)) over.calls [] (fresh limit state) over.last
      stream [] over.sent over.rest over.made refl (begins (pieces over)) are_bytes

  calls_have_same_rests : IsBytes stream → (first second : CallsOver Answers (fresh limit state) stream)
      → first.rest ≡ second.rest → HaveOneNonceEach (pieces first) (pieces second) stream
      → EndEqually first.sent second.sent first.last second.last
  calls_have_same_rests are_bytes first second same nonces =
      let taken = same_taken (bytes_of (pieces first)) first.rest (bytes_of (pieces second)) second.rest stream
      (front first) (front second) same in
      ends_equally (pieces first) (pieces second) (bytes_of (pieces first)) first.sent second.sent first.last second.last
      (connection first are_bytes)
      (subst (λ (l : List ℕ). Is (pieces second) l second.sent second.last) (sym taken) (connection second are_bytes))
      (λ n nonce other ends. nonces n nonce other
      (ends_in_stream (bytes_of (pieces first)) first.rest stream n (front first) ends))

  -- calls that leave more bytes than others wait for them
  longer_rests_wait : IsBytes stream → (first second : CallsOver Answers (fresh limit state) stream)
      → HaveOneNonceEach (pieces first) (pieces second) stream → length second.rest < length first.rest
      → first.last.progress ≡ InProgress
  longer_rests_wait are_bytes first second nonces longer =
      let size = ap length (front first) ∙ length-append (bytes_of (pieces first)) first.rest in
      let whole = ap length (front second) ∙ length-append (bytes_of (pieces second)) second.rest in
      let (out, mid, is, waits) = waited Answers (pieces second) (Is (pieces second)) (one_more (pieces second))
      second.calls [] (fresh limit state) second.last stream [] second.sent second.rest second.made refl
      (begins (pieces second)) are_bytes (length (bytes_of (pieces first))) (omega (arith, longer, size, whole)) in
      let n = length (bytes_of (pieces first)) in
      let all : 0 + n ≡ n = omega arith in
      let taken : take (0 + n) stream ≡ bytes_of (pieces first) =
      ap (λ (m : ℕ). take m stream) all
      ∙ (ap (take n) (front first) ∙ take-append_seam (bytes_of (pieces first)) first.rest) in
      let equal = ends_equally (pieces first) (pieces second) (bytes_of (pieces first)) first.sent out first.last mid
      (connection first are_bytes) (subst (λ (l : List ℕ). Is (pieces second) l out mid) taken is)
      (λ n nonce other ends. nonces n nonce other
      (ends_in_stream (bytes_of (pieces first)) first.rest stream n (front first) ends)) in
      equal.progress ∙ waits

  -- calls that have finished leave no more than others
  none_longer : (first second : CallsOver Answers (fresh limit state) stream) → HaveFinished first
      → (length second.rest < length first.rest → first.last.progress ≡ InProgress)
      → ¬ (length second.rest < length first.rest)
  none_longer first second (inl ended) waits longer = ended (waits longer)
  none_longer first second (inr nothing) waits longer = omega (arith, longer, ap length nothing)

  calls_end_equally : IsBytes stream → (first second : CallsOver Answers (fresh limit state) stream)
      → HaveOneNonceEach (pieces first) (pieces second) stream → HaveOneResult first second
  calls_end_equally are_bytes first second nonces = record {
    same_rest = λ same. calls_have_same_rests are_bytes first second same nonces;
    finished = λ done over. (rests done over, calls_have_same_rests are_bytes first second (rests done over) nonces);
    waits = longer_rests_wait are_bytes first second nonces;
  }
    where
      rests : HaveFinished first → HaveFinished second → first.rest ≡ second.rest
      rests done over = go (cases_lt (length second.rest) (length first.rest))
          (cases_lt (length first.rest) (length second.rest))
        where
          go : (length second.rest < length first.rest) ⊎ (length first.rest ≤ length second.rest)
              → (length first.rest < length second.rest) ⊎ (length second.rest ≤ length first.rest)
              → first.rest ≡ second.rest
          go (inl longer) other = absurd (none_longer first second done
              (longer_rests_wait are_bytes first second nonces) longer)
          go (inr most) (inl longer) = absurd (none_longer second first over
              (longer_rests_wait are_bytes second first
              (λ n nonce other ends one two. sym (nonces n other nonce ends two one))) longer)
          go (inr most) (inr least) = (one_split (bytes_of (pieces first)) first.rest (bytes_of (pieces second))
              second.rest (sym (front first) ∙ front second) (omega (arith, most, least))).1

pub function_calls_end_equally : {S : Type 0} (names : S → List (List ℕ)) (machine : Machine S)
    → FunctionCallsEndEqually names machine
function_calls_end_equally names machine function state limit stream small are_bytes first second nonces =
    calls_end_equally (ServerSideAnswers names machine) limit state stream
    (λ pieces taken out side. ServerConnection names machine limit state pieces taken out side)
    (λ pieces taken out side next bytes nonce more k is fine known receives.
    server_call names machine limit state pieces taken out side next bytes nonce more k is fine known receives)
    (λ pieces. server_fresh names machine limit state pieces)
    (λ pieces others taken sent out last end one two known.
    functions_end_equally names machine function limit state pieces others taken sent out last end small one two known)
    are_bytes first second nonces

pub server_calls_end_equally : ServerCallsEndEqually acceptor_names acceptor_machine
server_calls_end_equally = function_calls_end_equally acceptor_names acceptor_machine one_acceptor_reply

pub client_calls_end_equally : ClientCallsEndEqually
client_calls_end_equally hostname profile limit stream small are_bytes first second nonces =
    calls_end_equally (ClientSideAnswers hostname) limit profile stream
    (λ pieces taken out side. ClientConnection (ProfileSteps hostname) limit profile pieces taken out side)
    (λ pieces taken out side next bytes nonce more k is fine known receives.
    client_call hostname limit profile pieces taken out side next bytes nonce more k is fine known receives)
    (λ pieces. client_fresh hostname limit profile pieces)
    (λ pieces others taken sent out last end one two known.
    clients_end_equally hostname limit profile pieces others taken sent out last end small one two known)
    are_bytes first second nonces
