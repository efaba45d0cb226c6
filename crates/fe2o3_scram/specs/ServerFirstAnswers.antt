-- What a client answers to a server-first message (RFC 5802, section 5), and its cost.
use Rattle.std.specs.Prelude.{ℕ, List, ◌≡◌, Result, Ok, Err, ◌+◌, ◌≤◌, OnOk, Vec, if◌then◌else◌}
use Rattle.std.specs.declared.alloc.Global.{Global}
use Rattle.fe2o3_scram.specs.declared.hmac.ScramVersion.{ScramVersion}
use Rattle.fe2o3_scram.specs.declared.scram_messages.error.ScramErrorKind.{ScramErrorKind}
use Rattle.fe2o3_scram.specs.ClientFinal.{Answer, answer_of, fit}
use Rattle.fe2o3_scram.specs.ClientSecret.{Secret, Password, Keys, Both}
use Rattle.fe2o3_scram.specs.ServerFirst.{Client, ServerFirst, ReadsServerFirst}

-- what the client answers to a server-first message (RFC 5802, section 5): the first error that applies, or the answer
-- to the values that it names
abbrev pub AnswersServerFirst : ScramVersion → Client → List ℕ → List ℕ → Result Answer ScramErrorKind → Type 0
AnswersServerFirst version client bare text (Ok answer) =
    (first : ServerFirst) × ReadsServerFirst client text (Ok first)
    × (answer ≡ answer_of version client.secret client.header bare text first)
AnswersServerFirst version client bare text (Err fault) =
    ReadsServerFirst client text (Err fault)

-- the message and the signature that the code's pair is
abbrev pub pair_values : Vec ℕ Global × Vec ℕ Global → List ℕ × List ℕ
pair_values pair = (pair.0.items, pair.1.items)

-- what a call answers that returns only the message and the signature (RFC 5802, section 5)
abbrev pub SendsServerFirst : ScramVersion → Client → List ℕ → List ℕ → Result (List ℕ × List ℕ) ScramErrorKind
    → Type 0
SendsServerFirst version client bare text (Ok sent) =
    (answer : Answer) × AnswersServerFirst version client bare text (Ok answer)
    × (sent ≡ (answer.message, answer.signature))
SendsServerFirst version client bare text (Err fault) =
    ReadsServerFirst client text (Err fault)

-- the HMAC values of an answer (RFC 5802, section 3): two by the client's own keys, and by its password two for the
-- keys and those of the iteration count besides
abbrev pub hmac_count : Secret → ServerFirst → ℕ
hmac_count (Password password) first = first.count + 4
hmac_count (Keys keys) first = 2
hmac_count (Both password keys) first = if fit keys first then 2 else first.count + 4

-- the HMAC values of an answer as a meter shows them before and after the call: none for a message that is rejected,
-- those of the answer for one that is answered, at most that many if memory ran out, and never fewer than before
pub record AnswerCosts {A F : Type 0} (client : Client) (text : List ℕ) (result : Result A F)
    (before after : ℕ) : Type 0 where
  pub refused : (fault : ScramErrorKind) → ReadsServerFirst client text (Err fault)
      → after ≡ before
  pub answered : (first : ServerFirst) → ReadsServerFirst client text (Ok first)
      → OnOk result (after ≡ before + hmac_count client.secret first)
  pub at_most : (first : ServerFirst) → ReadsServerFirst client text (Ok first)
      → after ≤ before + hmac_count client.secret first
  pub limited : after ≤ before + (client.limits.max_iterations + 4)
  pub never_falls : before ≤ after
