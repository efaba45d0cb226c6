-- How an answer leaves its side.
use Rattle.std.proofs.Common.{◌≡◌, ◌≢◌, ℕ, List, sym, ap, ◌∙◌, inl, inr}
use Rattle.fe2o3_sasl_negotiation.specs.declared.progress.CloseReason.{CloseReason}
use Rattle.fe2o3_sasl_negotiation.specs.declared.progress.CloseReason.TheVariants.{ReplyTooLarge}
use Rattle.fe2o3_sasl_negotiation.specs.declared.progress.Expected.{Expected}
use Rattle.fe2o3_sasl_negotiation.specs.declared.progress.Expected.TheVariants.{Frame}
use Rattle.fe2o3_sasl_negotiation.specs.declared.progress.Progress.{Progress}
use Rattle.fe2o3_sasl_negotiation.specs.declared.progress.Progress.TheVariants.{InProgress, Failed}
use Rattle.fe2o3_sasl_negotiation.specs.declared.progress.FrameKind.{FrameKind}
use Rattle.fe2o3_sasl_negotiation.specs.Negotiations.{SideOutput, Sends, closes}

-- the progress after an answer, and what is expected then
pub progress_of : (answer other : SideOutput) → answer ≡ other → answer.progress ≡ other.progress
progress_of answer other same = ap (λ (a : SideOutput). a.progress) same

pub due_of : (answer other : SideOutput) → answer ≡ other → answer.expected ≡ other.expected
due_of answer other same = ap (λ (a : SideOutput). a.expected) same

-- an answer that closes does not wait
pub closes_waits_not : (why : CloseReason) (expected : Expected) (answer : SideOutput) → answer ≡ closes why expected
    → answer.progress ≢ InProgress
closes_waits_not why expected answer is waits = apart (sym (progress_of answer _ is) ∙ waits)
  where
    apart : Failed why ≡ InProgress → ⊥
    apart same = cc

-- one that sends a body and goes on, waits for the next turn
pub sends_goes_on : (body : List ℕ) (turn : FrameKind) (answer : SideOutput) → Sends body InProgress (Frame turn) answer
    → answer.progress ≡ InProgress → answer.expected ≡ Frame turn
sends_goes_on body turn answer (inl (fits, is)) waits = due_of answer _ is
sends_goes_on body turn answer (inr (long, is)) waits = due_of answer _ is

-- and one that ends with it, does not wait
pub sends_ends : (body : List ℕ) (progress : Progress) (expected : Expected) (answer : SideOutput) → progress ≢ InProgress
    → Sends body progress expected answer → answer.progress ≢ InProgress
sends_ends body progress expected answer ended (inl (fits, is)) waits = ended (sym (progress_of answer _ is) ∙ waits)
sends_ends body progress expected answer ended (inr (long, is)) waits = closes_waits_not ReplyTooLarge expected answer is waits
