-- Calls with the bytes of one piece, one after the other.
use Rattle.std.proofs.Common.{◌≡◌, ℕ, zero, suc, ◌+◌, ◌<◌, ◌≤◌, List, [], ◌∷◌, ◌++◌, map, length, take, drop, get_or, refl, sym, ap, ◌∙◌, subst, append_assoc, arith, length-append}
use Rattle.std.proofs.lemmas.Grind.{flat_map-append}
use Rattle.std.proofs.lemmas.List.{append-nil, length-map, length-take-le, take-append-drop, take-append-le, take_all, take_at, take_more, drop_at, map-append}
use Rattle.bytes.proofs.Ranges.{take-append_past}
use Rattle.fe2o3_sasl_wire.specs.SaslFrames.{IsBytes}
use Rattle.fe2o3_sasl_wire.proofs.lemmas.reading.StepLemmas.{IsBytes-take}
use Rattle.fe2o3_sasl_negotiation.specs.declared.progress.Expected.{Expected}
use Rattle.fe2o3_sasl_negotiation.specs.Connections.{Piece, PieceNonceAt, bytes_of}
use Rattle.fe2o3_sasl_negotiation.specs.Negotiations.{Side, SideOutput, Receives}
use Rattle.fe2o3_sasl_negotiation.specs.Pieces.{first_bytes}
use Rattle.fe2o3_sasl_negotiation.specs.private.Pieces.{NextNonces, Continues}
use Rattle.fe2o3_sasl_negotiation.proofs.lemmas.PieceLemmas.{nonce_of_piece}

module _ {S : Type 0} (Answers : Expected → S → List ℕ → List ℕ → SideOutput → S → Type 0)
    (Is : List Piece → List ℕ → List ℕ → Side S → Type 0)
    (one_more : (pieces : List Piece) (taken sent : List ℕ) (side next : Side S) (bytes nonce first : List ℕ) (k : ℕ)
    → Is pieces taken sent side → IsBytes (taken ++ bytes) → NextNonces pieces (length taken) k nonce
    → Receives Answers side bytes nonce k first next → Is pieces (taken ++ take k bytes) (sent ++ first) next) where
  pub continues_so_far : (side : Side S) (bytes nonce : List ℕ) → Continues Is side bytes nonce 0 [] side
  continues_so_far side bytes nonce pieces taken sent is are_bytes nonces =
      subst (λ (l : List ℕ). Is pieces (taken ++ take 0 bytes) l side) (sym (append-nil sent))
      (subst (λ (l : List ℕ). Is pieces l sent side) (sym (append-nil taken)) is)

  pub continues_further : (side mid next : Side S) (bytes nonce more first : List ℕ) (k j : ℕ)
      → Continues Is side bytes nonce k more mid → k ≤ length bytes → j ≤ length (drop k bytes)
      → Receives Answers mid (drop k bytes) nonce j first next → Continues Is side bytes nonce (k + j) (more ++ first) next
  continues_further side mid next bytes nonce more first k j so_far within few receives pieces taken sent is are_bytes
      nonces =
      let count : length (take k bytes) ≡ k = length-take-le k bytes within in
      let left : length (drop k bytes) + k ≡ length bytes = sum in
      let parts : take k bytes ++ drop k bytes ≡ bytes = take-append-drop k bytes in
      let all : take k bytes ++ take j (drop k bytes) ≡ take (k + j) bytes =
      sym (take-append_past (take k bytes) (drop k bytes) j (k + j) (omega (arith, count)))
      ∙ ap (take (k + j)) parts in
      let whole : (taken ++ take k bytes) ++ drop k bytes ≡ taken ++ bytes =
      append_assoc taken (take k bytes) (drop k bytes) ∙ ap (λ l. taken ++ l) parts in
      let at : length (taken ++ take k bytes) ≡ length taken + k =
      length-append taken (take k bytes) ∙ ap (λ n. length taken + n) count in
      let step = one_more pieces (taken ++ take k bytes) (sent ++ more) mid next (drop k bytes) nonce first j
      (so_far pieces taken sent is are_bytes nonces)
      (subst (λ (l : List ℕ). IsBytes l) (sym whole) are_bytes)
      (λ (i : ℕ) (small : i < j). subst (λ (n : ℕ). PieceNonceAt pieces n nonce) (omega (arith, at))
      (nonces (k + i) (omega (arith, small, few, left)))) receives in
      subst (λ (l : List ℕ). Is pieces l (sent ++ (more ++ first)) next)
      (append_assoc taken (take k bytes) (take j (drop k bytes)) ∙ ap (λ l. taken ++ l) all)
      (subst (λ (l : List ℕ). Is pieces ((taken ++ take k bytes) ++ take j (drop k bytes)) l next)
      (append_assoc sent more first) step)
    where
      sum : length (drop k bytes) + k ≡ length bytes
      sum = let count : length (take k bytes) ≡ k = length-take-le k bytes within in
          let both : length (take k bytes ++ drop k bytes) ≡ length (take k bytes) + length (drop k bytes) =
          length-append (take k bytes) (drop k bytes) in
          let same : length (take k bytes ++ drop k bytes) ≡ length bytes = ap length (take-append-drop k bytes) in
          omega (arith, count, both, same)

-- ---- a list of pieces, one after the other

take_map : {X Y : Type 0} (f : X → Y) (xs : List X) (i : ℕ) → take i (map f xs) ≡ map f (take i xs)
take_map f xs zero = refl
take_map f [] (suc i) = refl
take_map f (x ∷ xs) (suc i) = ap (λ l. f x ∷ l) (take_map f xs i)

-- a list about its element at i
about : {X Y : Type 0} (f : X → Y) (xs : List X) (i : ℕ) (d : X) → i < length xs
    → map f xs ≡ map f (take i xs) ++ f (get_or xs i d) ∷ map f (drop (suc i) xs)
about f [] i d few = absurd (omega (arith, few))
about f (x ∷ xs) zero d few = refl
about f (x ∷ xs) (suc i) d few = ap (λ l. f x ∷ l) (about f xs i d (omega arith))

next_bytes : (pieces : List Piece) (piece : Piece) → bytes_of (pieces ++ piece ∷ []) ≡ bytes_of pieces ++ piece.bytes
next_bytes pieces piece =
    flat_map-append (λ (p : Piece). p.bytes) pieces (piece ∷ []) ∙ ap (λ l. bytes_of pieces ++ l) (append-nil piece.bytes)

bytes_of-append : (pieces more : List Piece) → bytes_of (pieces ++ more) ≡ bytes_of pieces ++ bytes_of more
bytes_of-append pieces more = flat_map-append (λ (p : Piece). p.bytes) pieces more

module _ {X S : Type 0} (f : X → Piece) (Is : List Piece → List ℕ → List ℕ → Side S → Type 0) (xs : List X) (i : ℕ)
    (d : X) (few : i < length xs) where
  abbrev here : Piece
  here = f (get_or xs i d)

  -- a piece more
  one_piece_more : (side next : Side S) (sent more : List ℕ) (k : ℕ) → IsBytes (bytes_of (map f xs))
      → Is (map f xs) (bytes_of (map f (take i xs))) sent side
      → Continues Is side here.bytes here.nonce k more next
      → Is (map f xs) (bytes_of (map f (take i xs)) ++ take k here.bytes) (sent ++ more) next
  one_piece_more side next sent more k are_bytes is continues =
      let front = map f (take i xs) in
      let back = map f (drop (suc i) xs) in
      let parts : map f xs ≡ front ++ here ∷ back = about f xs i d few in
      let all : bytes_of (map f xs) ≡ (bytes_of front ++ here.bytes) ++ bytes_of back =
      ap bytes_of parts ∙ (bytes_of-append front (here ∷ back)
      ∙ sym (append_assoc (bytes_of front) here.bytes (bytes_of back))) in
      let start : take (length (bytes_of front ++ here.bytes)) (bytes_of (map f xs)) ≡ bytes_of front ++ here.bytes =
      ap (take (length (bytes_of front ++ here.bytes))) all
      ∙ take_at (bytes_of front ++ here.bytes) (bytes_of back) (length (bytes_of front ++ here.bytes)) refl in
      continues (map f xs) (bytes_of front) sent is
      (subst (λ (l : List ℕ). IsBytes l) start
      (IsBytes-take (length (bytes_of front ++ here.bytes)) (bytes_of (map f xs)) are_bytes))
      (λ (n : ℕ) (small : n < length here.bytes).
      subst (λ (l : List Piece). PieceNonceAt l (length (bytes_of front) + n) here.nonce) (sym parts)
      (nonce_of_piece front back here n small))

  whole_piece_more : (k : ℕ) → length here.bytes ≤ k
      → bytes_of (map f (take i xs)) ++ take k here.bytes ≡ bytes_of (map f (take (i + 1) xs))
  whole_piece_more k all =
      ap (λ l. bytes_of (map f (take i xs)) ++ l) (take_all k here.bytes all)
      ∙ (sym (next_bytes (map f (take i xs)) here)
      ∙ ap bytes_of (sym (ap (map f) (take_more xs i d few) ∙ map-append f (take i xs) (get_or xs i d ∷ []))))

  some_of_piece : (k : ℕ) → k ≤ length here.bytes
      → bytes_of (map f (take i xs)) ++ take k here.bytes ≡ first_bytes (map f xs) i k
  some_of_piece k less =
      let front = map f (take i xs) in
      let back = map f (drop (suc i) xs) in
      let parts : map f xs ≡ front ++ here ∷ back = about f xs i d few in
      let count : length front ≡ i = length-map (take i xs) f ∙ length-take-le i xs (omega (arith, few)) in
      ap (λ l. bytes_of l ++ take k here.bytes) (sym (take_map f xs i))
      ∙ ap (λ l. bytes_of (take i (map f xs)) ++ l) (sym (
      ap (λ l. take k (bytes_of (drop i l))) parts
      ∙ (ap (λ l. take k (bytes_of l)) (drop_at front (here ∷ back) i count)
      ∙ take-append-le k here.bytes (bytes_of back) less)))

  -- all of a piece is taken, or its first k bytes
  pub whole_piece : (side next : Side S) (sent more now : List ℕ) (k : ℕ) → now ≡ sent ++ more → length here.bytes ≤ k
      → IsBytes (bytes_of (map f xs)) → Is (map f xs) (bytes_of (map f (take i xs))) sent side
      → Continues Is side here.bytes here.nonce k more next
      → Is (map f xs) (bytes_of (map f (take (i + 1) xs))) now next
  whole_piece side next sent more now k same all are_bytes is continues =
      subst (λ (l : List ℕ). Is (map f xs) l now next) (whole_piece_more k all)
      (subst (λ (l : List ℕ). Is (map f xs) (bytes_of (map f (take i xs)) ++ take k here.bytes) l next) (sym same)
      (one_piece_more side next sent more k are_bytes is continues))

  pub part_piece : (side next : Side S) (sent more now : List ℕ) (k n : ℕ) → now ≡ sent ++ more
      → k ≤ length here.bytes → n ≡ i → IsBytes (bytes_of (map f xs))
      → Is (map f xs) (bytes_of (map f (take i xs))) sent side → Continues Is side here.bytes here.nonce k more next
      → Is (map f xs) (first_bytes (map f xs) n k) now next
  part_piece side next sent more now k n same less at are_bytes is continues =
      subst (λ (j : ℕ). Is (map f xs) (first_bytes (map f xs) j k) now next) (sym at)
      (subst (λ (l : List ℕ). Is (map f xs) l now next) (some_of_piece k less)
      (subst (λ (l : List ℕ). Is (map f xs) (bytes_of (map f (take i xs)) ++ take k here.bytes) l next) (sym same)
      (one_piece_more side next sent more k are_bytes is continues)))

  -- the same of a connection with an equal hostname
  pub as_same : {H : Type 0} (Each : H → List Piece → List ℕ → List ℕ → Side S → Type 0) (one two : H)
      (side next : Side S) (more : List ℕ) (k : ℕ) → one ≡ two → k ≤ length here.bytes
      → Continues (Each one) side here.bytes here.nonce k more next
      → Continues (Each two) side here.bytes here.nonce k more next
  as_same {H} Each one two side next more k same less continues =
      subst (λ (h : H). Continues (Each h) side here.bytes here.nonce k more next) same continues

-- at the end of the list
pub after_all : {X : Type 0} (f : X → Piece) (xs : List X) (i : ℕ)
    → bytes_of (map f (take i xs)) ≡ first_bytes (map f xs) i 0
after_all f xs i = ap bytes_of (sym (take_map f xs i)) ∙ sym (append-nil (bytes_of (take i (map f xs))))
