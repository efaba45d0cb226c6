use Rattle.std.proofs.Common.{refl, sym, subst, ◌≡◌, ◌<◌, ◌≤◌, ℕ, List, length}
use Rattle.std.specs.Prelude.{IfErr, IfOk, Result, Ok, Err}
use Rattle.fe2o3_scram.specs.ClientFirst.{client_first_bare}
use Rattle.fe2o3_scram.specs.ScramClient.{ClientFirstSent}
use Rattle.fe2o3_scram.specs.Texts.{base64_text}
use Rattle.sasl_c.specs.declared.client.ScramClient.{ScramClient as Struct}
use Rattle.sasl_c.specs.declared.login.Login.{Login}
use Rattle.sasl_c.specs.declared.status.WriteError.{WriteError}
use Rattle.sasl_c.specs.declared.status.WriteError.TheVariants.{RoomTooSmall, Other}
use Rattle.sasl_c.specs.Client.{IsState, Starts, StartsClient, started_struct}
use Rattle.sasl_c.specs.Status.{Fills, Room, with_written}
use Rattle.sasl_c.proofs.ClientLemmas.{moved_login}
use Rattle.sasl_c.proofs.StatusLemmas.{carried}
use Rattle.sasl_c.proofs.client_calls.first.Goals as goal

-- the message is written, or does not fit
fills : (login : Login) (nonce message : List ℕ) (room left : Room) (answer : Result (Unit {0}) WriteError)
    → Starts login nonce (Ok message) → left.len ≡ length message
    → IfOk answer (λ _. (length message ≤ length room.bytes) × (left.bytes ≡ with_written message room.bytes))
    → IfErr answer (λ status. (status ≡ RoomTooSmall) × (length room.bytes < length message) × (left.bytes ≡ room.bytes))
    → Fills (Starts login nonce) room left answer
fills login nonce message room left (Ok done) starts len fits lacks = (message, starts, fits.0, fits.1, len)
fills login nonce message room left (Err RoomTooSmall) starts len fits lacks =
    (lacks.2, (message, starts, (lacks.1, len)))
fills login nonce message room left (Err (Other status)) starts len fits lacks =
    let wrong : Other status ≡ RoomTooSmall = lacks.0 in absurd (cc)

-- the struct is that of the client that has sent it, or stays
moves : (login : Login) (nonce message : List ℕ) (before after : Struct) (answer : Result (Unit {0}) WriteError)
    → Starts login nonce (Ok message) → IfOk answer (λ _. after ≡ started_struct nonce)
    → IfErr answer (λ _. after ≡ before) → StartsClient login nonce before after answer
moves login nonce message before after (Ok done) (side, is, said, tested) sent stays =
    let text = base64_text nonce in (
      (
        side,
        is,
        (
          moved_login login side (ClientFirstSent text (client_first_bare side.user text)) is,
          subst (λ (s : Struct). IsState side.user s (ClientFirstSent text (client_first_bare side.user text))) (sym sent)
              (refl, refl, refl),
        ),
      ),
      sent,
    )
moves login nonce message before after (Err why) starts sent stays = stays

pub returns-clause-text : goal.returns-clause-text
returns-clause-text c = fills c.args.login.now c.args.nonce.now c.as_slice.result.now _ _ c.begin.result
    (carried (λ (m : List ℕ). Starts c.args.login.now c.args.nonce.now (Ok m)) c.in-Ok.message c.as_slice.result.now
    (sym c.as_slice.ensures) c.in-Ok.ensures.ok) c.begin.ensures.len c.begin.ensures.ok c.begin.ensures.err

pub returns-clause-moved : goal.returns-clause-moved
returns-clause-moved c = moves c.args.login.now c.args.nonce.now c.in-Ok.message c.args.client.now c.begin.new.client
    c.begin.result c.in-Ok.ensures.ok c.begin.ensures.sent c.begin.ensures.stays
