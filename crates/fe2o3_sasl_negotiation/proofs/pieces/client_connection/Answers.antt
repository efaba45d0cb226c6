use Rattle.std.proofs.Common.{ℕ, ◌+◌, Option, List, map, option_map, string_bytes, sym, ap, ◌∙◌, subst}
use Rattle.fe2o3_sasl_core.specs.SaslProfile.{profile_of}
use Rattle.fe2o3_sasl_core.specs.Runs.{ProfileSteps}
use Rattle.fe2o3_sasl_negotiation.specs.Connections.{ClientConnection}
use Rattle.fe2o3_sasl_negotiation.specs.Pieces.{piece_of, first_bytes}
use Rattle.fe2o3_sasl_negotiation.specs.Sides.{client_side, hostname_in}
use Rattle.fe2o3_sasl_negotiation.proofs.lemmas.ContinueLemmas.{whole_piece, part_piece, as_same, after_all}
use Rattle.fe2o3_sasl_negotiation.proofs.pieces.client_connection.Goals as goal

pub loop-piece-preserved : goal.loop-piece-preserved
loop-piece-preserved c =
    let host = option_map string_bytes c.args.hostname in
    let (more, sent, continues) = c.in_ok-taken.ensures.ok in
    record {
      count = ap (λ n. n + 1) c.loop-piece.invariant.count;
      extended = c.in_ok-taken.ensures.extended;
      hostname = c.in_ok-taken.ensures.hostname ∙ c.loop-piece.invariant.hostname;
      so_far = λ are_bytes. whole_piece piece_of (ClientConnection (ProfileSteps host) 512 (profile_of c.args.profile))
          c.args.pieces.now c.loop-piece.piece-index _ c.loop-piece-test.true (client_side c.loop-piece.side)
          (client_side c.answer_piece.new.side) c.loop-piece.sent.items more c.answer_piece.new.sent.items
          c.in_ok-taken.taken sent c.if-taken-piece.false are_bytes (c.loop-piece.invariant.so_far are_bytes)
          (as_same piece_of (ClientConnection (ProfileSteps host) 512 (profile_of c.args.profile)) c.args.pieces.now
          c.loop-piece.piece-index _ c.loop-piece-test.true
          (λ (h : Option (List ℕ)). ClientConnection (ProfileSteps h) 512 (profile_of c.args.profile))
          (hostname_in c.loop-piece.side)
          host (client_side c.loop-piece.side) (client_side c.answer_piece.new.side) more c.in_ok-taken.taken
          c.loop-piece.invariant.hostname c.in_ok-taken.ensures.within (continues 512 (profile_of c.args.profile)));
    }

pub returns-then-taken-piece-clause-connection : goal.returns-then-taken-piece-clause-connection
returns-then-taken-piece-clause-connection c =
    let host = option_map string_bytes c.args.hostname in
    let (more, sent, continues) = c.in_ok-taken.ensures.ok in
    λ are_bytes. part_piece piece_of (ClientConnection (ProfileSteps host) 512 (profile_of c.args.profile)) c.args.pieces.now
    c.loop-piece.piece-index _ c.loop-piece-test.true (client_side c.loop-piece.side)
    (client_side c.answer_piece.new.side) c.loop-piece.sent.items more c.answer_piece.new.sent.items c.in_ok-taken.taken
    c.loop-piece.whole sent c.in_ok-taken.ensures.within c.loop-piece.invariant.count are_bytes
    (c.loop-piece.invariant.so_far are_bytes)
    (as_same piece_of (ClientConnection (ProfileSteps host) 512 (profile_of c.args.profile)) c.args.pieces.now
    c.loop-piece.piece-index _
    c.loop-piece-test.true (λ (h : Option (List ℕ)). ClientConnection (ProfileSteps h) 512 (profile_of c.args.profile))
    (hostname_in c.loop-piece.side) host (client_side c.loop-piece.side) (client_side c.answer_piece.new.side) more
    c.in_ok-taken.taken c.loop-piece.invariant.hostname c.in_ok-taken.ensures.within
    (continues 512 (profile_of c.args.profile)))

pub returns-clause-connection : goal.returns-clause-connection
returns-clause-connection c =
    λ are_bytes. subst (λ (l : List ℕ). ClientConnection (ProfileSteps (option_map string_bytes c.args.hostname)) 512
    (profile_of c.args.profile) (map piece_of c.args.pieces.now) l c.loop-piece.sent.items (client_side c.loop-piece.side))
    (after_all piece_of c.args.pieces.now c.loop-piece.piece-index
    ∙ ap (λ n. first_bytes (map piece_of c.args.pieces.now) n 0) (sym c.loop-piece.invariant.count))
    (c.loop-piece.invariant.so_far are_bytes)
