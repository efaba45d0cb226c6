use Rattle.std.proofs.Common.{ℕ, ◌≤◌, Option, List, [], ◌++◌, length, drop, refl, sym, ap, ◌∙◌, subst, append_assoc, arith}
use Rattle.std.proofs.lemmas.List.{append-nil, length-drop, take_rest}
use Rattle.fe2o3_sasl_negotiation.specs.ClientNegotiation.{ClientSideAnswers, ClientReceives}
use Rattle.fe2o3_sasl_core.specs.Runs.{ProfileSteps}
use Rattle.fe2o3_sasl_negotiation.specs.Connections.{ClientConnection}
use Rattle.fe2o3_sasl_negotiation.specs.Sides.{client_side, extended_in, hostname_in}
use Rattle.fe2o3_sasl_negotiation.proofs.lemmas.ClientConnectionLemmas.{client_call}
use Rattle.fe2o3_sasl_negotiation.proofs.lemmas.ContinueLemmas.{continues_so_far, continues_further}
use Rattle.fe2o3_sasl_negotiation.proofs.lemmas.ExtendedLemmas.{receives_plain}
use Rattle.fe2o3_sasl_negotiation.proofs.pieces.answer_piece.Goals as goal

pub loop-taken-init : goal.loop-taken-init
loop-taken-init c =
    let host = hostname_in c.args.side.now in
    record {
      within = omega arith;
      extended = c.requires;
      hostname = refl;
      kept = (
        [],
        sym (append-nil c.args.sent.now.items),
        λ limit profile. continues_so_far (ClientSideAnswers host) (ClientConnection (ProfileSteps host) limit profile)
            (client_call host limit profile) (client_side c.args.side.now) c.args.piece.now.bytes.now
            c.args.piece.now.nonce,
      );
    }

pub loop-taken-preserved : goal.loop-taken-preserved
loop-taken-preserved c =
    let host = hostname_in c.args.side.now in
    let bytes = c.args.piece.now.bytes.now in
    let nonce = c.args.piece.now.nonce in
    let (more, kept, so_far) = c.loop-taken.invariant.kept in
    let (first, sent, reads) = c.in_ok-received.ensures.ok in
    let receives = receives_plain (ClientSideAnswers (hostname_in c.loop-taken.side)) (extended_in c.loop-taken.side)
    (client_side c.loop-taken.side) (client_side c.receive.new.self) _ nonce first c.in_ok-received.received.taken
    c.loop-taken.invariant.extended reads in
    let left = take_rest bytes c.loop-taken.taken in
    let few = subst (λ (l : List ℕ). c.in_ok-received.received.taken ≤ length l) left c.in_ok-received.ensures.within in
    let within = c.loop-taken.invariant.within in
    record {
      within = omega (arith, few, within, length-drop c.loop-taken.taken bytes);
      extended = c.in_ok-received.ensures.extended ∙ c.loop-taken.invariant.extended;
      hostname = c.in_ok-received.ensures.config ∙ c.loop-taken.invariant.hostname;
      kept = (
        more ++ first,
        sent ∙ (ap (λ l. l ++ first) kept ∙ append_assoc c.args.sent.now.items more first),
        λ limit profile. continues_further (ClientSideAnswers host) (ClientConnection (ProfileSteps host) limit profile)
            (client_call host limit profile) (client_side c.args.side.now) (client_side c.loop-taken.side)
            (client_side c.receive.new.self) bytes nonce more first c.loop-taken.taken c.in_ok-received.received.taken
            (so_far limit profile) within few
            (subst (λ (h : Option (List ℕ)). ClientReceives h (client_side c.loop-taken.side)
            (drop c.loop-taken.taken bytes) nonce
            c.in_ok-received.received.taken first (client_side c.receive.new.self)) c.loop-taken.invariant.hostname
            (subst (λ (l : List ℕ). ClientReceives (hostname_in c.loop-taken.side) (client_side c.loop-taken.side) l nonce
            c.in_ok-received.received.taken first (client_side c.receive.new.self)) left receives)),
      );
    }
