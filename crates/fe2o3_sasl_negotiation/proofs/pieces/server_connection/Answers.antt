use Rattle.std.proofs.Common.{ℕ, ◌+◌, List, map, sym, ap, ◌∙◌, subst}
use Rattle.fe2o3_sasl_negotiation.specs.Connections.{ServerConnection}
use Rattle.fe2o3_sasl_negotiation.specs.Pieces.{piece_of, first_bytes}
use Rattle.fe2o3_sasl_negotiation.specs.Sides.{server_side}
use Rattle.fe2o3_sasl_negotiation.proofs.lemmas.ContinueLemmas.{whole_piece, part_piece, after_all}
use Rattle.fe2o3_sasl_negotiation.proofs.pieces.server_connection.Goals as goal

pub loop-piece-preserved : goal.loop-piece-preserved
loop-piece-preserved g c =
    let m = g.A.SaslAcceptor in
    let (more, sent, continues) = c.in_ok-taken.ensures.ok in
    record {
      count = ap (λ n. n + 1) c.loop-piece.invariant.count;
      extended = c.in_ok-taken.ensures.extended;
      so_far = λ are_bytes. whole_piece piece_of (ServerConnection m.names m.machine 512 (m.state c.args.acceptor))
          c.args.pieces.now c.loop-piece.piece-index _ c.loop-piece-test.true (server_side m.state c.loop-piece.side)
          (server_side m.state c.serve_piece.new.side) c.loop-piece.sent.items more c.serve_piece.new.sent.items
          c.in_ok-taken.taken sent c.if-taken-piece.false are_bytes (c.loop-piece.invariant.so_far are_bytes)
          (continues 512 (m.state c.args.acceptor));
    }

pub returns-then-taken-piece-clause-connection : goal.returns-then-taken-piece-clause-connection
returns-then-taken-piece-clause-connection g c =
    let m = g.A.SaslAcceptor in
    let (more, sent, continues) = c.in_ok-taken.ensures.ok in
    λ are_bytes. part_piece piece_of (ServerConnection m.names m.machine 512 (m.state c.args.acceptor))
    c.args.pieces.now c.loop-piece.piece-index _ c.loop-piece-test.true (server_side m.state c.loop-piece.side)
    (server_side m.state c.serve_piece.new.side) c.loop-piece.sent.items more c.serve_piece.new.sent.items
    c.in_ok-taken.taken c.loop-piece.whole sent c.in_ok-taken.ensures.within c.loop-piece.invariant.count are_bytes
    (c.loop-piece.invariant.so_far are_bytes) (continues 512 (m.state c.args.acceptor))

pub returns-clause-connection : goal.returns-clause-connection
returns-clause-connection g c =
    let m = g.A.SaslAcceptor in
    λ are_bytes. subst (λ (l : List ℕ). ServerConnection m.names m.machine 512 (m.state c.args.acceptor)
    (map piece_of c.args.pieces.now) l c.loop-piece.sent.items (server_side m.state c.loop-piece.side))
    (after_all piece_of c.args.pieces.now c.loop-piece.piece-index
    ∙ ap (λ n. first_bytes (map piece_of c.args.pieces.now) n 0) (sym c.loop-piece.invariant.count))
    (c.loop-piece.invariant.so_far are_bytes)
