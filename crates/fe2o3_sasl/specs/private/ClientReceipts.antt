-- What the pass over a client's run knows and keeps. Only contracts of private functions cite this.
use Rattle.std.specs.Prelude.{◌≡◌, ℕ, Bool, true, Option, Some, None, List, [], ◌∷◌, ◌++◌, Ok}
use Rattle.std.specs.Str.{IsUtf8}
use Rattle.fe2o3_sasl_wire.specs.declared.amqp_types.SaslCode.{SaslCode}
use Rattle.fe2o3_sasl_wire.specs.declared.amqp_types.SaslCode.TheVariants as outcomes
use Rattle.fe2o3_sasl_wire.specs.SaslFrames as frames
use Rattle.fe2o3_scram.specs.ClientKeys.{ClientKeys, keys_of}
use Rattle.fe2o3_scram.specs.ServerFirst.{ServerFirst, ReadsServerFirst}
use Rattle.fe2o3_scram.specs.Texts.{Part, base64_text}
use Rattle.fe2o3_sasl_core.specs.ClientHistory.{is_start, is_answer, ends_answer, client_at}
use Rattle.fe2o3_sasl.specs.declared.audit.client_receipts.Last.{Last}
use Rattle.fe2o3_sasl.specs.declared.audit.client_receipts.Words.{Words}
use Rattle.fe2o3_sasl_core.specs.Events.{Given, Login, ClientSays, Started, Answered, Reported, Refused}
use Rattle.fe2o3_sasl_core.specs.Positions.{IsLastOpen}
use Rattle.fe2o3_sasl_core.specs.Runs.{login_with}
use Rattle.fe2o3_sasl_core.specs.Bodies.{SpellsBody}
use Rattle.fe2o3_sasl_core.specs.TwoSides.{ChallengeAt, proof_at}
use Rattle.fe2o3_sasl.specs.private.Receipts.{ClientReceipt, OfAnswer, Covers, IsShownReceipt, IsTakenReceipt, ProvesAt, ReportsAt}

-- what is known at position i: the receipts so far, the last start that a challenge can answer, and the last response
-- since a start, which is the one that can be open; while there is one, no challenge answers that start
pub record ClientSoFar (login : Login) (events : List Given) (replies : List ClientSays) (i start : ℕ)
    (response : Option ℕ) (shown taken : List ClientReceipt) : Type 0 where
  pub shows : Covers (IsShownReceipt login events replies) (λ receipt. receipt.place) (ProvesAt login events replies) i
      shown
  pub takes : Covers (IsTakenReceipt login events replies) (λ receipt. receipt.place) (ReportsAt replies) i taken
  pub started : (s : ℕ) → IsLastOpen is_start is_answer replies i s → start ≡ s
  pub answered : (j : ℕ) → IsLastOpen is_answer ends_answer replies i j → response ≡ Some j
  pub used : (j s : ℕ) → response ≡ Some j → ¬ IsLastOpen is_start is_answer replies i s

-- a receipt made of the body of a challenge, for an answer to the start with this nonce
abbrev pub ShownFor : Login → ℕ → List ℕ → List ℕ → ClientReceipt → Type 0
ShownFor login place nonce body receipt =
    (text : List ℕ) × (first : ServerFirst) × SpellsBody body (Ok (frames.Challenge text)) × IsUtf8 text
    × ReadsServerFirst (client_at login (base64_text nonce)) text (Ok first)
    × (receipt.place ≡ place)
    × (receipt.shown ≡ proof_at login (record { nonce = base64_text nonce; text = text; first = first }))
    × OfAnswer login (record { nonce = base64_text nonce; text = text; first = first }) receipt

-- a receipt of the same answer, with the first part of this text
pub record TakenFor (position : ℕ) (text : List ℕ) (answer receipt : ClientReceipt) : Type 0 where
  pub place : receipt.place ≡ position
  pub shown : Part text 0 receipt.shown
  pub message : receipt.message ≡ answer.message
  pub client_key : receipt.client_key ≡ answer.client_key
  pub stored_key : receipt.stored_key ≡ answer.stored_key
  pub server_key : receipt.server_key ≡ answer.server_key

-- the receipt that a response adds: after a response since the last start none, if the signature may come in a
-- challenge, and otherwise one of an answer to the start
abbrev pub ResponseKeeps : Login → ℕ → Given → Given → Bool → Option ℕ → List ClientReceipt → List ClientReceipt
    → Type 0
ResponseKeeps login place init event true (Some response) shown shown' = shown' ≡ shown
ResponseKeeps login place init event signed response shown shown' =
    (receipt : ClientReceipt) × ShownFor login place init.nonce event.body receipt × (shown' ≡ shown ++ receipt ∷ [])

-- the text of the challenge that the last response answered
abbrev pub LastChallenge : List Given → Option ℕ → List ℕ → Type 0
LastChallenge events response text = (k : ℕ) × (response ≡ Some k) × ChallengeAt events k text

-- the text of the server-final message for an outcome with this data: the data, or without data the challenge that the
-- last response answered
abbrev pub VerifierOf : List Given → Option ℕ → Option (List ℕ) → List ℕ → Type 0
VerifierOf events response (Some given) text = text ≡ given
VerifierOf events response None text = LastChallenge events response text

-- the receipt that an outcome adds: of code Ok one of the last proof, and otherwise none
abbrev pub OutcomeKeeps : ℕ → List Given → Option ℕ → SaslCode → Option (List ℕ) → List ClientReceipt
    → List ClientReceipt → List ClientReceipt → Type 0
OutcomeKeeps place events response outcomes.Ok more shown taken taken' =
    (text : List ℕ) × (front : List ClientReceipt) × (last : ClientReceipt) × (receipt : ClientReceipt)
    × VerifierOf events response more text × (shown ≡ front ++ last ∷ []) × TakenFor place text last receipt
    × (taken' ≡ taken ++ receipt ∷ [])
OutcomeKeeps place events response code more shown taken taken' = taken' ≡ taken

-- the receipts that the reply at a position adds: from the last start and the last response, those of proofs and those
-- of reported Oks so far
abbrev pub ClientKeeps : Login → ℕ → Given → Given → List Given → ClientSays → Last → Last → List ClientReceipt
    → List ClientReceipt → List ClientReceipt → List ClientReceipt → Type 0
ClientKeeps login place init event events (Started body) last next shown shown' taken taken' =
    (next.start ≡ place) × (next.response ≡ None) × (shown' ≡ shown) × (taken' ≡ taken)
ClientKeeps login place init event events (Answered body) last next shown shown' taken taken' =
    (next.start ≡ last.start) × (next.response ≡ Some place)
    × ResponseKeeps login place init event login.signature_by_challenge last.response shown shown'
    × (taken' ≡ taken)
ClientKeeps login place init event events (Reported code more) last next shown shown' taken taken' =
    (next.start ≡ last.start) × (next.response ≡ last.response) × (shown' ≡ shown)
    × OutcomeKeeps place events last.response code more shown taken taken'
ClientKeeps login place init event events (Refused fault) last next shown shown' taken taken' =
    (next.start ≡ last.start) × (next.response ≡ last.response) × (shown' ≡ shown) × (taken' ≡ taken)

-- ---- the keys that are kept

-- the login with these words
abbrev pub login_at : Words → Login
login_at words = login_with words.options words.version words.user.now words.password.now

-- the keys of the password with this salt and this count
abbrev pub AreKeys : Words → List ℕ → ℕ → ClientKeys → Type 0
AreKeys words salt count keys = keys ≡ keys_of words.version words.password.now salt count

-- the cached keys, if any, are those of their salt and count
abbrev pub KeptKeys : Words → Option ClientKeys → Type 0
KeptKeys words None = Unit {0}
KeptKeys words (Some keys) = AreKeys words keys.salt keys.count keys
