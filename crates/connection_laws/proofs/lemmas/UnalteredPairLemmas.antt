-- Two connections whose bytes arrive as they were sent.
use Rattle.std.proofs.Common.{◌≢◌, ◌⊎◌, ℕ, List, sym, inl, inr, subst}
use Rattle.std.specs.List.{AllByRecursion}
use Rattle.fe2o3_sasl_core.specs.TwoSides.{Sides}
use Rattle.fe2o3_sasl_core.specs.UnalteredRuns.{UnalteredRun, agreed_verdict, agreed_findings}
use Rattle.fe2o3_sasl_core.specs.Verdicts.{Finding, OfVerifier, OfProof, IsVerifierFinding, IsProofFinding, Audits}
use Rattle.fe2o3_sasl_core.proofs.lemmas.lists.EachLemmas.{each_append, each_weaker}
use Rattle.fe2o3_sasl_core.proofs.lemmas.unaltered.UnalteredRunLemmas as unaltered
use Rattle.fe2o3_sasl_core.proofs.lemmas.unaltered.UnalteredStepLemmas.{one_mechanism}
use Rattle.connection_laws.specs.Pairs.{sides, TakesEqually, ShowsEqually, UnalteredConnectionsAgree}
use Rattle.connection_laws.proofs.lemmas.ExchangedLemmas as exchanged

-- the two findings of an audit
abbrev IsFinding : Sides → Finding → Type 0
IsFinding sides finding = IsVerifierFinding sides finding ⊎ IsProofFinding sides finding

apart : OfVerifier ≢ OfProof
apart same = cc

meet_equally : (sides : Sides) (run : UnalteredRun sides) (salt : List ℕ) (count : ℕ)
    → Audits sides (agreed_findings run salt count)
    → TakesEqually sides.login sides.provider sides × ShowsEqually sides.login sides.provider sides
meet_equally sides run salt count audits = (verifier all.0, proof all.1.0)
  where
    all : AllByRecursion (IsFinding sides) (agreed_findings run salt count)
    all = subst (AllByRecursion (IsFinding sides)) (sym audits.whole)
        (each_append (IsFinding sides) audits.verifiers audits.proofs
        (each_weaker (IsVerifierFinding sides) (IsFinding sides) audits.verifiers (λ f. inl) audits.verifier_verdicts)
        (each_weaker (IsProofFinding sides) (IsFinding sides) audits.proofs (λ f. inr) audits.proof_verdicts))

    verifier : IsFinding sides (record { kind = OfVerifier; client = 2; server = 1; verdict = agreed_verdict run salt count })
        → TakesEqually sides.login sides.provider sides
    verifier (inl is) = (2, 1, is.1.0, is.1.1, is.1.2, is.1.3, (is.1.4.0, is.1.4.1))
    verifier (inr is) = absurd (apart is.0)

    proof : IsFinding sides (record { kind = OfProof; client = 1; server = 1; verdict = agreed_verdict run salt count })
        → ShowsEqually sides.login sides.provider sides
    proof (inl is) = absurd (apart (sym is.0))
    proof (inr is) = (1, 1, is.1.0, is.1.1, is.1.2, (is.1.3.1.0, is.1.3.1.1))

pub unaltered_connections_agree : UnalteredConnectionsAgree
unaltered_connections_agree login provider client server password salt count is holds bytes logged_in server_logged_in =
    let mechanism = one_mechanism (sides client server) password salt count holds in
    let run = exchanged.run login provider mechanism client.limit server.limit client.last server.last logged_in
    server_logged_in client.pieces server.pieces client.taken client.sent server.taken server.sent bytes.offer
    bytes.offered
    bytes.small bytes.to_client bytes.to_server client.connection server.connection bytes.client_nonces
    bytes.server_nonces in
    let histories = exchanged.histories login provider mechanism client.limit server.limit client.last server.last
    logged_in server_logged_in client.pieces server.pieces client.taken client.sent server.taken server.sent bytes.offer
    bytes.offered bytes.small bytes.to_client bytes.to_server client.connection server.connection in
    let fits = exchanged.fits login provider mechanism client.limit server.limit client.last server.last logged_in
    server_logged_in client.pieces server.pieces client.taken client.sent server.taken server.sent bytes.offer
    bytes.offered
    bytes.small bytes.to_client bytes.to_server client.connection server.connection in
    let logs = unaltered.clients_log_in login client.connection.events client.connection.replies histories.client is
    provider
    server.connection.events server.connection.replies histories.server password salt count run holds fits in
    meet_equally (sides client server) run salt count logs.audit
