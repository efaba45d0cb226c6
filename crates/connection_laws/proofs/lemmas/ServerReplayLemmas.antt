-- What a replayed client-final message needs: `repeated_finals_mean_one_nonce`, `replayed_finals_are_rejected`.
use Rattle.std.proofs.Common.{◌≡◌, ◌∙◌, ◌++◌, ◌+◌, ℕ, List, sym, subst, codes, length, refl}
use Rattle.fe2o3_sasl_wire.specs.SaslFrames.{IsBytes}
use Rattle.fe2o3_scram.specs.Texts.{Part, base64_text}
use Rattle.fe2o3_scram.proofs.lemmas.texts.Base64Lemmas.{one_spelled}
use Rattle.fe2o3_scram.proofs.lemmas.texts.PartsLemmas.{one_part}
use Rattle.fe2o3_sasl.proofs.lemmas.examples.ExampleTextLemmas.{length-base64_text}
use Rattle.fe2o3_sasl_core.specs.Events.{Given}
use Rattle.fe2o3_sasl_core.specs.Servers.{ServerSettings}
use Rattle.fe2o3_sasl_negotiation.specs.declared.progress.FrameKind.TheVariants as turns
use Rattle.fe2o3_sasl_negotiation.specs.Connections.{AreFrames}
use Rattle.fe2o3_sasl_negotiation.specs.ServerNegotiation.{server_follows}
use Rattle.connection_laws.specs.Pairs.{AreNonces}
use Rattle.connection_laws.specs.ServerReplays.{HasInitNonce, RepeatedFinalsMeanOneNonce, ReplayedFinalsAreRejected, ScramConnection, init_nonce}
use Rattle.connection_laws.proofs.lemmas.FramesLemmas.{one_split}
use Rattle.connection_laws.proofs.lemmas.PairLemmas.{piece_at}

-- the nonce of the init is that of the call that completed it
has_init_nonce : {settings : ServerSettings} (connection : ScramConnection settings) → HasInitNonce connection
has_init_nonce connection =
    let server = connection.server in
    (subst (λ (events : List Given). AreFrames server.pieces server.limit 8 server_follows turns.Init events)
    connection.has.logs.all server.connection.frames).2

-- it has 32 bytes
init_nonce_is : {settings : ServerSettings} (connection : ScramConnection settings) → AreNonces connection.server.pieces
    → IsBytes (init_nonce connection) × (length (init_nonce connection) ≡ 32)
init_nonce_is connection are =
    let (piece, there, is) = piece_at connection.server.pieces (8 + (length connection.has.logs.init.body + 3))
    (init_nonce connection) (has_init_nonce connection) in
    subst (λ (nonce : List ℕ). IsBytes nonce × (length nonce ≡ 32)) is (are piece there)

pub repeated_finals_mean_one_nonce : RepeatedFinalsMeanOneNonce
repeated_finals_mean_one_nonce settings other first second are too same =
    let one = init_nonce_is first are in
    let two = init_nonce_is second too in
    let mine = first.has.says.client.nonce ++ base64_text (init_nonce first) in
    let theirs = second.has.says.client.nonce ++ base64_text (init_nonce second) in
    let parts : codes "r=" ++ mine ≡ codes "r=" ++ theirs =
    one_part second.has.final 1 (codes "r=" ++ mine) (codes "r=" ++ theirs)
    (subst (λ (text : List ℕ). Part text 1 (codes "r=" ++ mine)) same first.has.says.names.nonce)
    second.has.says.names.nonce in
    let fulls : mine ≡ theirs = cc in
    let long : length (base64_text (init_nonce first)) ≡ length (base64_text (init_nonce second)) =
    length-base64_text (init_nonce first) one.1 ∙ sym (length-base64_text (init_nonce second) two.1) in
    let nonces = one_split first.has.says.client.nonce (base64_text (init_nonce first)) second.has.says.client.nonce
    (base64_text (init_nonce second)) fulls long in
    record {
      client_nonce = nonces.0;
      server_nonce = one_spelled (base64_text (init_nonce first)) (init_nonce first) (init_nonce second) (one.0, refl)
          (two.0, nonces.1);
      first_call = has_init_nonce first;
      second_call = has_init_nonce second;
    }

pub replayed_finals_are_rejected : ReplayedFinalsAreRejected
replayed_finals_are_rejected settings other first second are too differ same =
    differ (repeated_finals_mean_one_nonce settings other first second are too same).server_nonce
