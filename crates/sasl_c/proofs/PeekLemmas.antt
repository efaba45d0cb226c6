-- What a struct of a connection and the next bytes show before they are received (AMQP 1.0, part 5, section 5.3.2).
use Rattle.std.proofs.Common.{arith, ap, Bool, refl, sym, inl, inr, ◌∙◌, ◌≡◌, ◌≢◌, ◌⊎◌, ℕ, List, []}
use Rattle.std.specs.Prelude.{◌||◌}
use Rattle.fe2o3_scram.specs.Readings.{IsFirst}
use Rattle.fe2o3_sasl_negotiation.specs.declared.snapshot.Snapshot.{Snapshot}
use Rattle.fe2o3_sasl_negotiation.specs.declared.progress.Expected.{Expected}
use Rattle.fe2o3_sasl_negotiation.specs.declared.progress.Expected.TheVariants.{Frame, Header}
use Rattle.fe2o3_sasl_negotiation.specs.declared.progress.Progress.{Progress}
use Rattle.fe2o3_sasl_negotiation.specs.declared.progress.Progress.TheVariants.{InProgress, Authenticated, Failed}
use Rattle.fe2o3_sasl_negotiation.specs.declared.progress.FrameKind.{FrameKind}
use Rattle.fe2o3_sasl_negotiation.specs.declared.progress.FrameKind.TheVariants as turns
use Rattle.fe2o3_sasl_negotiation.specs.Framing.{IsPart, body_read}
use Rattle.fe2o3_sasl_negotiation.specs.Negotiations.{Completes}
use Rattle.fe2o3_sasl_negotiation.specs.Nonces.{client_nonce_at, server_nonce_at}
use Rattle.fe2o3_sasl_negotiation.specs.Snapshot.{IsKept, side_kept}
use Rattle.sasl_c.specs.declared.connection.Connection.{Connection}
use Rattle.sasl_c.specs.declared.status.Status.{Status}
use Rattle.sasl_c.specs.declared.status.Status.TheVariants as statuses
use Rattle.sasl_c.specs.Connection.{IsSideOf, Keeps, SaysProgress, accepts_extended, expected_number, side_tests}
use Rattle.sasl_c.specs.Peeks.{AnySide, AwaitsFrame, IsNonceNumber, NotPeeked, Peeked, ShowsNonceUse, uses_nonce}
use Rattle.sasl_c.specs.SaslServer.{one_where}
use Rattle.sasl_c.proofs.ServerCallLemmas.{keeps_no_part, none_holds}
use Rattle.sasl_c.proofs.StatusLemmas.{carried}

-- ---- the nonce of the next call

-- another unit than the two is expected
no_use : (expected : ℕ) (number : ℕ) → number ≡ expected → number ≢ 1 → number ≢ 2
    → (expected ≡ 1) ⊎ (expected ≡ 2) → ⊥
no_use expected number same not_one not_two (inl one) = not_one (same ∙ one)
no_use expected number same not_one not_two (inr two) = not_two (same ∙ two)

-- the number that a struct shows is that of a side with this progress that expects this
used : (kept : Connection) (n : ℕ) (progress : Progress) (expected : Expected) → IsNonceNumber kept n
    → SaysProgress kept progress → expected_number expected ≡ kept.expected
    → n ≡ one_where (client_nonce_at progress expected || server_nonce_at progress expected) 1
used kept n InProgress Header is says same =
    is.1 (λ shows. no_use kept.expected 0 same (λ wrong. absurd (cc)) (λ wrong. absurd (cc)) shows.1)
used kept n InProgress (Frame turns.Mechanisms) is says same = is.0 (says, inl (sym same))
used kept n InProgress (Frame turns.Init) is says same = is.0 (says, inr (sym same))
used kept n InProgress (Frame turns.Challenge) is says same =
    is.1 (λ shows. no_use kept.expected 3 same (λ wrong. absurd (cc)) (λ wrong. absurd (cc)) shows.1)
used kept n InProgress (Frame turns.Response) is says same =
    is.1 (λ shows. no_use kept.expected 4 same (λ wrong. absurd (cc)) (λ wrong. absurd (cc)) shows.1)
used kept n InProgress (Frame turns.Outcome) is says same =
    is.1 (λ shows. no_use kept.expected 5 same (λ wrong. absurd (cc)) (λ wrong. absurd (cc)) shows.1)
used kept n InProgress (Frame turns.SignatureChallenge) is says same =
    is.1 (λ shows. no_use kept.expected 6 same (λ wrong. absurd (cc)) (λ wrong. absurd (cc)) shows.1)
used kept n Authenticated expected is says same = is.1 (λ shows. absurd (omega (arith, shows.0, says)))
used kept n (Failed why) expected is says same = is.1 (λ shows. absurd (omega (arith, shows.0, says.0)))

pub used_by_side : (kept : Connection) (n : ℕ) → IsNonceNumber kept n → (side : AnySide) → IsSideOf kept side
    → n ≡ one_where (uses_nonce side) 1
used_by_side kept n is side keeps = used kept n side.progress side.expected is keeps.0.progress keeps.0.expected

-- the numbers that the struct has
pub uses : (kept : Connection) → kept.progress ≡ 0 → (kept.expected ≡ 1) ⊎ (kept.expected ≡ 2) → IsNonceNumber kept 1
uses kept waits due = ((λ _. refl), λ none. absurd (none (waits, due)))

pub uses_none : (kept : Connection) → ¬ ShowsNonceUse kept → IsNonceNumber kept 0
uses_none kept none = ((λ shows. absurd (none shows)), λ _. refl)

pub ruleset nonces = (used_by_side, uses, uses_none)

-- ---- the frame that bytes complete

-- the bytes that are held are a part of what is expected
part_kept : (kept : Snapshot) → kept.limit ≡ 512 → IsKept kept → IsPart kept.expected 512 kept.held.now
part_kept kept limit is = carried (λ n. IsPart kept.expected n kept.held.now) kept.limit 512 limit is.1

pub completes_body : (connection : Connection) (kept : Snapshot) (bytes received body : List ℕ) (turn : FrameKind)
    → Keeps connection kept.progress kept.expected kept.held.now → kept.progress ≡ InProgress → kept.limit ≡ 512
    → kept.extended_headers ≡ accepts_extended connection → IsKept kept
    → Completes (side_kept kept) bytes turn received → body ≡ body_read kept.extended_headers received
    → Peeked connection bytes body
unfolding Peeked
completes_body connection kept bytes received body turn keeps wants limit flag is done reads = (
  side_kept kept,
  (keeps, limit),
  wants,
  part_kept kept limit is,
  inl (turn, received, done, reads ∙ ap (λ (b : Bool). body_read b received) flag),
)

pub completes_no_body : (connection : Connection) (kept : Snapshot) (bytes body : List ℕ)
    → Keeps connection kept.progress kept.expected kept.held.now → kept.progress ≡ InProgress → kept.limit ≡ 512
    → IsKept kept → ((turn : FrameKind) (other : List ℕ) → ¬ Completes (side_kept kept) bytes turn other)
    → body ≡ [] → Peeked connection bytes body
unfolding Peeked
completes_no_body connection kept bytes body keeps wants limit is none empty =
    (side_kept kept, (keeps, limit), wants, part_kept kept limit is, inr (none, empty))

pub no_side : (connection : Connection) (status : Status) → IsFirst (side_tests connection) status
    → NotPeeked connection status
unfolding NotPeeked
no_side connection status wrong = inl wrong

pub no_part : (connection : Connection) (kept : Snapshot)
    → Keeps connection kept.progress kept.expected kept.held.now → kept.progress ≡ InProgress → kept.limit ≡ 512
    → ¬ IsKept kept → NotPeeked connection statuses.InvalidSnapshot
unfolding NotPeeked
no_part connection kept keeps wants limit wrong =
    inr (none_holds connection kept keeps wants, refl, keeps_no_part connection kept keeps wants limit wrong)

-- memory is requested where a frame is expected
pub awaits : (connection : Connection) (kept : Snapshot) → Keeps connection kept.progress kept.expected kept.held.now
    → kept.progress ≡ InProgress → kept.limit ≡ 512 → IsKept kept → kept.expected ≢ Header → AwaitsFrame connection
awaits connection kept keeps wants limit is frame = (
  kept.expected,
  kept.held.now,
  carried (λ s. Keeps connection s kept.expected kept.held.now) kept.progress InProgress wants keeps,
  part_kept kept limit is,
  frame,
)

pub ruleset peeked = (completes_body, completes_no_body, no_side, no_part, awaits)
