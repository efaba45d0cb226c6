use Rattle.std.proofs.Common.{ap, ◌∙◌, map, subst}
use Rattle.fe2o3_scram.specs.ClientFirst.{default_rules}
use Rattle.fe2o3_scram.specs.Credentials.{serving, with_rights}
use Rattle.fe2o3_scram.specs.MockSettings.{mocking}
use Rattle.fe2o3_scram.specs.ScramServer.{Initial, served_by, state_in}
use Rattle.fe2o3_sasl_core.specs.SaslAcceptor.{Acceptor, ScramAcceptor, acceptor_machine, acceptor_names}
use Rattle.fe2o3_sasl_core.proofs.lemmas.steps.LongerRunLemmas.{if_ok_map}
use Rattle.fe2o3_sasl_negotiation.specs.Connections.{ServerConnection}
use Rattle.fe2o3_sasl_negotiation.specs.Pieces.{piece_of, first_bytes}
use Rattle.fe2o3_sasl_negotiation.specs.Sides.{server_side}
use Rattle.fe2o3_sasl_negotiation.proofs.lemmas.LoginLemmas.{servers_log_in, scram_servers_serve}
use Rattle.fe2o3_sasl_negotiation.proofs.pieces.scram_server_connection.Goals as goal

pub returns-clause-connection : goal.returns-clause-connection
returns-clause-connection g c =
    let m = g.C.ScramCredentialProvider in
    let kept = g.met.C.ScramCredentialProvider.clone_keeps c.args.credentials.now c.in_ok-credentials.credentials
    c.in_ok-credentials.ensures.cases in
    let made = ap m.meaning c.new.ensures.provider ∙ kept in
    if_ok_map _ _ c.server_connection.result (λ served holds are_bytes.
    subst (λ (acceptor : Acceptor). ServerConnection acceptor_names acceptor_machine 512 acceptor
    (map piece_of c.args.pieces.now) (first_bytes (map piece_of c.args.pieces.now) served.pieces served.bytes)
    served.sent.items (server_side (λ server. ScramAcceptor (served_by m.meaning server) (state_in server)) served.side))
    (λ i. ScramAcceptor (with_rights (c.new.ensures.rights i) (mocking (c.new.ensures.mock i)
    (serving (c.new.ensures.rules i) (made i)))) (c.new.ensures.state i)) (holds are_bytes))
    c.server_connection.ensures.connection

pub returns-clause-headline : goal.returns-clause-headline
returns-clause-headline g c =
    let m = g.C.ScramCredentialProvider in
    if_ok_map _ _ c.server_connection.result (λ served holds taken out negotiated.
    scram_servers_serve (serving default_rules (m.meaning c.args.credentials.now)) 512 (map piece_of c.args.pieces.now) taken out
    (server_side (λ server. ScramAcceptor (served_by m.meaning server) (state_in server)) served.side) negotiated)
    c.server_connection.ensures.connection

pub returns-clause-logged_in : goal.returns-clause-logged_in
returns-clause-logged_in g c =
    let m = g.C.ScramCredentialProvider in
    if_ok_map _ _ c.server_connection.result (λ served holds taken out negotiated.
    servers_log_in acceptor_machine 512 (ScramAcceptor (serving default_rules (m.meaning c.args.credentials.now)) Initial)
    (map piece_of c.args.pieces.now) taken out
    (server_side (λ server. ScramAcceptor (served_by m.meaning server) (state_in server)) served.side) negotiated)
    c.server_connection.ensures.connection
