-- The cost of an answer to a message that was read.
use Rattle.std.proofs.Common.{◌≡◌, ℕ, ◌+◌, ◌≤◌, List, Result, Ok, Err, ap, arith}
use Rattle.std.specs.Prelude.{OnOk, Bool, true, false, if◌then◌else◌}
use Rattle.fe2o3_scram.specs.declared.scram_messages.error.ScramErrorKind.{ScramErrorKind}
use Rattle.fe2o3_scram.specs.ClientSecret.{Secret, Password, Keys, Both}
use Rattle.fe2o3_scram.specs.ClientFinal.{fit}
use Rattle.fe2o3_scram.specs.ServerFirst.{Client, ServerFirst, ReadsServerFirst}
use Rattle.fe2o3_scram.specs.ServerFirstAnswers.{AnswerCosts, hmac_count}
use Rattle.fe2o3_scram.proofs.lemmas.messages.ServerFirstLemmas.{one_server_first}

-- two readings cost the same
one_count_read : (client : Client) (text : List ℕ) (first other : ServerFirst)
    → ReadsServerFirst client text (Ok first)
    → ReadsServerFirst client text (Ok other)
    → hmac_count client.secret first ≡ hmac_count client.secret other
one_count_read client text first other reads too =
    let same = one_server_first client text (Ok first) (Ok other) reads too in
    let values : first ≡ other = cc in
    ap (λ (values : ServerFirst). hmac_count client.secret values) values

-- each costs two at least, and at most four and the count that it names
pub cost_within : (secret : Secret) (first : ServerFirst)
    → (2 ≤ hmac_count secret first) × (hmac_count secret first ≤ first.count + 4)
cost_within (Password password) first = (omega (arith), omega (arith))
cost_within (Keys keys) first = (omega (arith), omega (arith))
cost_within (Both password keys) first = go (fit keys first)
  where
    go : (fits : Bool) → let cost = if fits then 2 else (first.count + 4) in (2 ≤ cost) × (cost ≤ first.count + 4)
    go true = (omega (arith), omega (arith))
    go false = (omega (arith), omega (arith))

pub costs_of_answer : {A : Type 0} (client : Client) (text : List ℕ) (result : Result A ScramErrorKind)
    (first : ServerFirst) (before after : ℕ) → ReadsServerFirst client text (Ok first)
    → first.count ≤ client.limits.max_iterations → OnOk result (after ≡ before + hmac_count client.secret first)
    → after ≤ before + hmac_count client.secret first → before ≤ after → AnswerCosts client text result before after
costs_of_answer client text result first before after reads within answered most rises = record {
  refused = λ fault refuses. let both = one_server_first client text (Ok first) (Err fault) reads refuses in
      absurd (cc);
  answered = λ other too. let same = one_count_read client text first other reads too in rw same at answered;
  at_most = λ other too. let same = one_count_read client text first other reads too in rw same at most;
  limited = let up_to = cost_within client.secret first in omega (arith, within, most, up_to.1);
  never_falls = rises;
}
