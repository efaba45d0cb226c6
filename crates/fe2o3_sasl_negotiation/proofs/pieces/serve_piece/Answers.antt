use Rattle.std.proofs.Common.{ℕ, ◌≤◌, List, [], ◌++◌, length, sym, ap, ◌∙◌, subst, append_assoc, arith}
use Rattle.std.proofs.lemmas.List.{append-nil, length-drop, take_rest}
use Rattle.fe2o3_sasl_negotiation.specs.Connections.{ServerConnection}
use Rattle.fe2o3_sasl_negotiation.specs.ServerNegotiation.{ServerSideAnswers, ServerReceives}
use Rattle.fe2o3_sasl_negotiation.specs.Sides.{extended_in, server_side}
use Rattle.fe2o3_sasl_negotiation.proofs.lemmas.ContinueLemmas.{continues_so_far, continues_further}
use Rattle.fe2o3_sasl_negotiation.proofs.lemmas.ExtendedLemmas.{receives_plain}
use Rattle.fe2o3_sasl_negotiation.proofs.lemmas.ServerConnectionLemmas.{server_call}
use Rattle.fe2o3_sasl_negotiation.proofs.pieces.serve_piece.Goals as goal

pub loop-taken-init : goal.loop-taken-init
loop-taken-init g c =
    let m = g.A.SaslAcceptor in
    record {
      within = omega arith;
      extended = c.requires;
      kept = (
        [],
        sym (append-nil c.args.sent.now.items),
        λ limit state. continues_so_far (ServerSideAnswers m.names m.machine)
            (ServerConnection m.names m.machine limit state) (server_call m.names m.machine limit state)
            (server_side m.state c.args.side.now) c.args.piece.now.bytes.now c.args.piece.now.nonce,
      );
    }

pub loop-taken-preserved : goal.loop-taken-preserved
loop-taken-preserved g c =
    let m = g.A.SaslAcceptor in
    let bytes = c.args.piece.now.bytes.now in
    let nonce = c.args.piece.now.nonce in
    let (more, kept, so_far) = c.loop-taken.invariant.kept in
    let (first, sent, reads) = c.in_ok-received.ensures.ok in
    let receives = receives_plain (ServerSideAnswers m.names m.machine) (extended_in c.loop-taken.side)
    (server_side m.state c.loop-taken.side) (server_side m.state c.receive.new.self) _ nonce first
    c.in_ok-received.received.taken c.loop-taken.invariant.extended reads in
    let left = take_rest bytes c.loop-taken.taken in
    let few = subst (λ (l : List ℕ). c.in_ok-received.received.taken ≤ length l) left c.in_ok-received.ensures.within in
    let within = c.loop-taken.invariant.within in
    record {
      within = omega (arith, few, within, length-drop c.loop-taken.taken bytes);
      extended = c.in_ok-received.ensures.extended ∙ c.loop-taken.invariant.extended;
      kept = (
        more ++ first,
        sent ∙ (ap (λ l. l ++ first) kept ∙ append_assoc c.args.sent.now.items more first),
        λ limit state. continues_further (ServerSideAnswers m.names m.machine)
            (ServerConnection m.names m.machine limit state) (server_call m.names m.machine limit state)
            (server_side m.state c.args.side.now) (server_side m.state c.loop-taken.side)
            (server_side m.state c.receive.new.self) bytes nonce more first c.loop-taken.taken
            c.in_ok-received.received.taken (so_far limit state) within few
            (subst (λ (l : List ℕ). ServerReceives m.names m.machine (server_side m.state c.loop-taken.side) l nonce
            c.in_ok-received.received.taken first (server_side m.state c.receive.new.self)) left receives),
      );
    }
