-- What an accepted message means, for a caller's own proof: `accepted_texts_log_in` of a server,
-- `verified_texts_are_signed` of a client.
use Rattle.std.proofs.Common.{ℕ, Some, None, List, refl, Ok}
use Rattle.fe2o3_scram.specs.Logins.{AcceptedTextsLogIn, IsSigned, VerifiedTextsAreSigned}
use Rattle.fe2o3_scram.specs.ScramClient as client_states
use Rattle.fe2o3_scram.specs.ScramClient.{is_strict_client, ClientSide, ClientState, VerifiesIn}
use Rattle.fe2o3_scram.specs.ScramServer.{ServerFirstSent}

pub accepted_texts_log_in : AcceptedTextsLogIn
accepted_texts_log_in (ServerFirstSent challenge stored) next version rules rights text (Some message) from = (
  challenge.user,
  challenge.header.acts_for,
  record {
    challenge = challenge;
    stored = stored;
    final = from.0.0;
    opened = refl;
    named = refl;
    identity = refl;
    reads = from.0.1;
  },
  from.1,
)
accepted_texts_log_in (ServerFirstSent challenge stored) next version rules rights text None from = absurd from
accepted_texts_log_in state next version rules rights text answer from = absurd from

-- ---- a client

signed : (state : ClientState) (side next : ClientSide) (text : List ℕ) → VerifiesIn state side text (Ok tt) next
    → IsSigned (is_strict_client side) state text
signed (client_states.ClientFinalSent signature keys) side next text from =
    record { signature = signature; keys = keys; waits = refl; reads = from.0 }
signed state side next text from = absurd from

pub verified_texts_are_signed : VerifiedTextsAreSigned
verified_texts_are_signed side next text from = signed side.state side next text from
