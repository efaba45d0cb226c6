-- Calls of a client of SCRAM over one struct, without AMQP, which are calls of the library's client (RFC 5802, section 5).
-- Each statement is the contract of a clause of `client_laws::client_messages`.
use Rattle.std.specs.Prelude.{◌≡◌, ◌≢◌, ℕ, List, [], ◌∷◌, OnErr, Ok, length, ◌+◌}
use Rattle.fe2o3_scram.specs.ChannelBinding.{header_of}
use Rattle.fe2o3_scram.specs.ClientFirst.{client_first_with}
use Rattle.fe2o3_scram.specs.ScramClient.{AnswersIn, ClientInitial, ClientSide, VerifiesIn, header_in, started}
use Rattle.fe2o3_scram.specs.Texts.{base64_text}
use Rattle.sasl_c.specs.declared.client.ScramClient.{ScramClient as Struct}
use Rattle.sasl_c.specs.declared.login.Login.{Login}
use Rattle.sasl_c.specs.Client.{AnswerAsks, IsClientOf, IsSide, IsTestedLogin, Responds, Starts, StartsClient, Verifies, VerifyAsks, answer_more, fresh_client_struct}
use Rattle.sasl_c.specs.ClientCalls.{SameWords}
use Rattle.sasl_c.specs.Status.{Answers, AnswersText, AsksText, AsksWhere, Fills, FillsWithin, Room, with_written}

-- a call that returned FE2O3_OK: `fe2o3_scram_client_first` with a nonce has written a message, `fe2o3_scram_client_final` has
-- answered a text by a message, or `fe2o3_scram_client_verify` has accepted a text
pub data MessageCall : Type 0 where
  FirstCall : (nonce message : List ℕ) → MessageCall
  FinalCall : (text message : List ℕ) → MessageCall
  VerifyCall : (text : List ℕ) → MessageCall

-- what the contract of a call says of the struct before it and after it
abbrev pub MakesCall : Login → MessageCall → Struct → Struct → Type 0
MakesCall login (FirstCall nonce message) before after =
    Starts login nonce (Ok message) × StartsClient login nonce before after (Ok tt)
MakesCall login (FinalCall text message) before after = Responds login text before after (Ok message)
MakesCall login (VerifyCall text) before after = Verifies login text before after (Ok tt)

-- what the library's client does in the call of the same name
abbrev pub TakesCall : ClientSide → MessageCall → ClientSide → Type 0
TakesCall side (FirstCall nonce message) next =
    (message ≡ client_first_with (header_of (header_in side)) side.user (base64_text nonce)) × (next ≡ started side nonce)
TakesCall side (FinalCall text message) next = AnswersIn side.state side text (Ok message) next
TakesCall side (VerifyCall text) next = VerifiesIn side.state side text (Ok tt) next

-- calls over one struct that returned FE2O3_OK, each passed the values of this login
abbrev pub CallsOverScram : Login → Struct → List MessageCall → Struct → Type 0
CallsOverScram base before [] last = last ≡ before
CallsOverScram base before (call ∷ calls) last = (login : Login) × (after : Struct) × SameWords base login
    × MakesCall login call before after × CallsOverScram base after calls last

-- the calls of the same names of one client, from this state of it to the last
abbrev pub CallsOfClient : ClientSide → List MessageCall → ClientSide → Type 0
CallsOfClient side [] last = last ≡ side
CallsOfClient side (call ∷ calls) last = (next : ClientSide) × TakesCall side call next × CallsOfClient next calls last

-- the contract of each call says by the number that it returns what it has done: with 0, FE2O3_OK, it is such a call, which
-- has written its message, and with another number it has not changed the struct
abbrev pub FirstCallsReturn : Type 0
FirstCallsReturn = (login : Login) (nonce : List ℕ) (before after : Struct) (number : ℕ) (room left : Room)
    → AnswersText number (λ answer. Fills (Starts login nonce) room left answer
    × StartsClient login nonce before after answer × AsksText (IsTestedLogin login) answer)
    → (number ≡ 0 → (message : List ℕ) × MakesCall login (FirstCall nonce message) before after
    × (left.bytes ≡ with_written message room.bytes) × (left.len ≡ length message)) × (number ≢ 0 → after ≡ before)

abbrev pub FinalCallsReturn : Type 0
FinalCallsReturn = (login : Login) (text : List ℕ) (before after : Struct) (number : ℕ) (room left : Room)
    → AnswersText number (λ answer. FillsWithin (length text + answer_more login) (Responds login text before after) room left
    answer × OnErr answer (after ≡ before) × AsksText (AnswerAsks login text before) answer)
    → (number ≡ 0 → (message : List ℕ) × MakesCall login (FinalCall text message) before after
    × (left.bytes ≡ with_written message room.bytes) × (left.len ≡ length message)) × (number ≢ 0 → after ≡ before)

abbrev pub VerifyCallsReturn : Type 0
VerifyCallsReturn = (login : Login) (text : List ℕ) (before after : Struct) (number : ℕ)
    → Answers number (λ answer. Verifies login text before after answer × AsksWhere (VerifyAsks login text before) answer)
    → (number ≡ 0 → MakesCall login (VerifyCall text) before after) × (number ≢ 0 → after ≡ before)

-- a login by which a call returned FE2O3_OK spells a client that has sent nothing
abbrev pub MessagesSpellClients : Type 0
MessagesSpellClients = (login : Login) (call : MessageCall) (before after : Struct) → MakesCall login call before after
    → (side : ClientSide) × IsClientOf login side × (side.state ≡ ClientInitial)

-- calls over one struct of zeros that are all passed one login are calls of each client of this login that has sent nothing,
-- and the struct after them is that of this client: it has its state, the signature that it expects, and its keys
abbrev pub MessagesAreOfClient : Type 0
MessagesAreOfClient = (base : Login) (side : ClientSide) (last : Struct) (calls : List MessageCall) → IsClientOf base side
    → side.state ≡ ClientInitial → CallsOverScram base fresh_client_struct calls last
    → (end : ClientSide) × CallsOfClient side calls end × IsSide base last end
