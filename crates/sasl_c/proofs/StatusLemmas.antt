-- That an error is out of memory only where that is its kind.
use Rattle.std.proofs.Common.{ap, refl, sym, ◌∙◌, ◌≡◌, ◌≢◌, ℕ, List}
use Rattle.fe2o3_scram.specs.declared.scram_messages.error.ScramErrorKind.{ScramErrorKind}
use Rattle.fe2o3_scram.specs.declared.scram_messages.error.ScramErrorKind.TheVariants as client
use Rattle.fe2o3_scram.specs.declared.scram_messages.error.ServerScramErrorKind.{ServerScramErrorKind}
use Rattle.fe2o3_scram.specs.declared.scram_messages.error.ServerScramErrorKind.TheVariants as server
use Rattle.std.specs.Prelude.{Result, Ok, Err, IfOk, IfErr, OnErr}
use Rattle.sasl_c.specs.Status.{AsksText, AsksWhere, Fills, Room, WritesText, client_status, server_status}
use Rattle.sasl_c.specs.declared.status.Status.{Status}
use Rattle.sasl_c.specs.declared.status.Status.TheVariants.{OutOfMemory}
use Rattle.sasl_c.specs.declared.status.WriteError.{WriteError}
use Rattle.sasl_c.specs.declared.status.WriteError.TheVariants.{RoomTooSmall, Other}

pub client_memory : (why : ScramErrorKind) → client_status why ≢ OutOfMemory → why ≢ client.OutOfMemory
client_memory why other same = other (ap client_status same)

pub server_memory : (why : ServerScramErrorKind) → server_status why ≢ OutOfMemory → why ≢ server.OutOfMemory
server_memory why other same = other (ap server_status same)

pub server_is_memory : (why : ServerScramErrorKind) (status : Status) → status ≡ server_status why
    → status ≡ OutOfMemory → why ≡ server.OutOfMemory
server_is_memory server.Utf8Error status gives memory = absurd (cc)
server_is_memory server.CannotParseGs2Header status gives memory = absurd (cc)
server_is_memory server.CannotParseUsername status gives memory = absurd (cc)
server_is_memory server.CannotParseClientNonce status gives memory = absurd (cc)
server_is_memory server.HmacErrorInvalidLength status gives memory = absurd (cc)
server_is_memory server.XorLengthMismatch status gives memory = absurd (cc)
server_is_memory server.NormalizeError status gives memory = absurd (cc)
server_is_memory server.CannotParseClientFinalMessage status gives memory = absurd (cc)
server_is_memory server.InvalidChannelBinding status gives memory = absurd (cc)
server_is_memory server.Base64DecodeError status gives memory = absurd (cc)
server_is_memory server.IncorrectClientFinalNonce status gives memory = absurd (cc)
server_is_memory server.ProofNotFoundInClientFinal status gives memory = absurd (cc)
server_is_memory server.AuthenticationFailed status gives memory = absurd (cc)
server_is_memory server.IllegalAuthenticatorState status gives memory = absurd (cc)
server_is_memory server.MisplacedAttribute status gives memory = absurd (cc)
server_is_memory server.OutOfMemory status gives memory = refl

-- what holds of an answer's value, and of its error, where it says more
pub ok_so : {A E : Type 0} (answer : Result A E) (P Q : A → Type 0) → ((x : A) → P x → Q x) → IfOk answer P
    → IfOk answer Q
ok_so (Ok x) P Q says held = says x held
ok_so (Err e) P Q says held = held

pub err_so : {A E : Type 0} (answer : Result A E) (P Q : E → Type 0) → ((e : E) → P e → Q e) → IfErr answer P
    → IfErr answer Q
err_so (Ok x) P Q says held = held
err_so (Err e) P Q says held = says e held

-- what a call that is out of memory says holds anyway
pub asks_so : {A : Type 0} (P : Type 0) (answer : Result A Status) → P → AsksWhere P answer
asks_so P (Ok x) held = tt
asks_so P (Err status) held = λ memory. held

pub on_err : {A E : Type 0} (P : Type 0) (answer : Result A E) → P → OnErr answer P
on_err P (Ok x) held = tt
on_err P (Err e) held = held

-- what holds of one holds of its equal
pub carried : {A : Type 0} (P : A → Type 0) (x y : A) → x ≡ y → P x → P y
carried P x y same held = rw (sym same) held

-- ---- what was made and is written

pub fills : {T : Type 0} (items : T → List ℕ) (Due : Result (List ℕ) Status → Type 0) (text : Result T Status)
    (before after : Room) (answer : Result (Unit {0}) WriteError) → IfOk text (λ t. Due (Ok (items t)))
    → IfErr text (λ status. status ≢ OutOfMemory → Due (Err status)) → WritesText items text before after answer
    → Fills Due before after answer
fills items Due (Ok text) before after (Ok done) due why is = (items text, due, is.0, is.1, is.2)
fills items Due (Ok text) before after (Err RoomTooSmall) due why is = (is.0, (items text, due, is.1))
fills items Due (Ok text) before after (Err (Other status)) due why is = absurd is
fills items Due (Err status) before after (Ok done) due why is = absurd is
fills items Due (Err status) before after (Err RoomTooSmall) due why is = absurd is
fills items Due (Err status) before after (Err (Other told)) due why is =
    (is.1, is.2, carried (λ s. s ≢ OutOfMemory → Due (Err s)) status told (sym is.0) why)

pub asks_text : {T : Type 0} (items : T → List ℕ) (Asks : Type 0) (text : Result T Status) (before after : Room)
    (answer : Result (Unit {0}) WriteError) → AsksWhere Asks text → WritesText items text before after answer
    → AsksText Asks answer
asks_text items Asks text before after (Ok done) asks is = tt
asks_text items Asks (Ok text) before after (Err RoomTooSmall) asks is = λ same. absurd (cc)
asks_text items Asks (Ok text) before after (Err (Other status)) asks is = absurd is
asks_text items Asks (Err status) before after (Err RoomTooSmall) asks is = absurd is
asks_text items Asks (Err status) before after (Err (Other told)) asks is =
    λ same. let memory : told ≡ OutOfMemory = cc in asks (sym is.0 ∙ memory)

pub ruleset written = (fills, asks_text)
