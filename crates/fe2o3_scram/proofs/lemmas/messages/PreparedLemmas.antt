-- A password of printable ASCII is taken alike as it is typed and prepared.
use Rattle.std.proofs.Common.{◌↔◌, Bool, ℕ, List, Result, Ok, Err, inl, inr}
use Rattle.fe2o3_scram.specs.declared.client_secret.IterationLimits.{IterationLimits}
use Rattle.fe2o3_scram.specs.declared.keys.RecordError.{RecordError}
use Rattle.fe2o3_scram.specs.declared.scram_messages.error.ScramErrorKind.{ScramErrorKind}
use Rattle.fe2o3_scram.specs.ClientSecret.{Password}
use Rattle.fe2o3_scram.specs.Credentials.{making_tests}
use Rattle.fe2o3_scram.specs.Laws.{OneAnswerOfPassword, OneRecordOfPassword}
use Rattle.fe2o3_scram.specs.Passwords.{Typed, Prepared}
use Rattle.fe2o3_scram.specs.Readings.{NoneHolds, Reads}
use Rattle.fe2o3_scram.specs.SaslprepAscii.{IsPrintable}
use Rattle.fe2o3_scram.specs.ServerFirst.{ServerFirst, ReadsServerFirst, client_of}
use Rattle.fe2o3_scram.proofs.lemmas.messages.KeptKeyLemmas.{goes_over}
use Rattle.fe2o3_scram.specs.ChannelBinding.{ClientHeader}

-- what is made of a password

none_typed : (text : List ℕ) (count : ℕ) → IsPrintable text → NoneHolds (making_tests (Prepared text) count)
    → NoneHolds (making_tests (Typed text) count)
none_typed text count printable none = (λ un. un printable, none.1)

reads_typed : {V : Type 0} (text : List ℕ) (count : ℕ) (Names : V → Type 0) (answer : Result V RecordError)
    → IsPrintable text → Reads (making_tests (Prepared text) count) Names answer
    → Reads (making_tests (Typed text) count) Names answer
reads_typed text count Names (Ok made) printable reads = (none_typed text count printable reads.0, reads.1)
reads_typed text count Names (Err fault) printable (inl found) = absurd (found.0 tt)
reads_typed text count Names (Err fault) printable (inr found) = inr (λ un. un printable, found.1)

reads_prepared : {V : Type 0} (text : List ℕ) (count : ℕ) (Names : V → Type 0) (answer : Result V RecordError)
    → IsPrintable text → Reads (making_tests (Typed text) count) Names answer
    → Reads (making_tests (Prepared text) count) Names answer
reads_prepared text count Names (Ok made) printable reads = ((λ un. un tt, reads.0.1), reads.1)
reads_prepared text count Names (Err fault) printable (inl found) = absurd (found.0 printable)
reads_prepared text count Names (Err fault) printable (inr found) = inr (λ un. un tt, found.1)

pub one_record_of_password : OneRecordOfPassword
one_record_of_password version text salt count answer printable =
    (reads_typed text count _ answer printable, reads_prepared text count _ answer printable)

-- what a client answers

read_alike : (password nonce text : List ℕ) (limits : IterationLimits) (header : ClientHeader) (strict : Bool)
    (answer : Result ServerFirst ScramErrorKind)
    → IsPrintable password → ReadsServerFirst (client_of nonce (Password (Prepared password)) limits header strict) text answer
    ↔ ReadsServerFirst (client_of nonce (Password (Typed password)) limits header strict) text answer
unfolding ReadsServerFirst
read_alike password nonce text limits header strict answer printable = (
  goes_over nonce text limits header strict _ _ _ _ answer (λ _ un. un printable) (λ un. absurd (un tt)),
  goes_over nonce text limits header strict _ _ _ _ answer (λ _ un. un tt) (λ un. absurd (un printable)),
)

pub one_answer_of_password : OneAnswerOfPassword
one_answer_of_password version password nonce bare text limits header strict (Ok answer) printable = (
  λ answers. (answers.0, (read_alike password nonce text limits header strict (Ok answers.0) printable).0 answers.1, answers.2),
  λ answers. (answers.0, (read_alike password nonce text limits header strict (Ok answers.0) printable).1 answers.1, answers.2),
)
one_answer_of_password version password nonce bare text limits header strict (Err fault) printable =
    read_alike password nonce text limits header strict (Err fault) printable
