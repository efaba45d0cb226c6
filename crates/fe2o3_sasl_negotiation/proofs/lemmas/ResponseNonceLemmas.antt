-- The acceptors answer a response alike with every nonce.
use Rattle.fe2o3_sasl_core.specs.Servers.{sasl_machine}
use Rattle.fe2o3_sasl_core.specs.SaslAcceptor.{ScramAcceptor, PlainAcceptor, AnonymousAcceptor, acceptor_machine}
use Rattle.fe2o3_sasl_negotiation.specs.Nonces.{IgnoresResponseNonce}

pub acceptors_ignore_nonces : IgnoresResponseNonce acceptor_machine
acceptors_ignore_nonces (ScramAcceptor provider state) next nonce other text reply replies = replies
acceptors_ignore_nonces (PlainAcceptor user password accepted) next nonce other text reply replies = replies
acceptors_ignore_nonces AnonymousAcceptor next nonce other text reply replies = replies

pub servers_ignore_response_nonces : IgnoresResponseNonce sasl_machine
servers_ignore_response_nonces server next nonce other text reply replies = replies
