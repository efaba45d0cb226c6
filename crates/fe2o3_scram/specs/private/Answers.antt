-- Intermediate answers of the code.
use Rattle.std.specs.Prelude.{ℕ, List, ◌≡◌, ◌+◌, length, Result, Ok, Err}
use Rattle.fe2o3_scram.specs.Hmac.{digest_len}
use Rattle.fe2o3_scram.specs.Readings.{IsFirst}
use Rattle.fe2o3_scram.specs.ClientFinal.{Server, ClientFinal, IsAccepted, proof_tests}
use Rattle.fe2o3_scram.specs.ServerFinal.{server_final_of}
use Rattle.fe2o3_scram.specs.declared.scram_messages.error.ServerScramErrorKind.{ServerScramErrorKind}
use Rattle.fe2o3_scram.specs.declared.scram_messages.error.ServerScramErrorKind.TheVariants.{AuthenticationFailed, OutOfMemory}

-- the proof is as long as a digest and meets the stored key, and the user may act for the identity
abbrev pub IsMet : Server → ClientFinal → Type 0
IsMet server final = (length final.proof ≡ digest_len server.version) × IsAccepted server final

-- what the server answers to a parsed proof
abbrev pub AnswersProof : Server → ClientFinal → Result (List ℕ) ServerScramErrorKind → Type 0
AnswersProof server final (Ok message) = (length final.proof ≡ digest_len server.version) × IsAccepted server final
    × (message ≡ server_final_of server final)
AnswersProof server final (Err fault) = IsFirst (proof_tests server final) fault

-- the HMAC values of the answer to a parsed proof, as a meter shows them before and after: two if the login is
-- accepted, also if memory runs out after it, one if only the proof or the identity is rejected, and none if its length is
abbrev pub ProofCosts : {A : Type 0} → Result A ServerScramErrorKind → ℕ → ℕ → Type 0
ProofCosts (Ok message) before after = after ≡ before + 2
ProofCosts (Err AuthenticationFailed) before after = after ≡ before + 1
ProofCosts (Err OutOfMemory) before after = after ≡ before + 2
ProofCosts (Err fault) before after = after ≡ before
