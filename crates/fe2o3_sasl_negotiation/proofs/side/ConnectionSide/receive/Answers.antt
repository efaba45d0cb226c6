use Rattle.std.proofs.Common.{◌≡◌, List, [], ℕ, refl, sym, ◌∙◌, subst, arith}
use Rattle.std.proofs.lemmas.List.{append-nil}
use Rattle.fe2o3_sasl_negotiation.specs.Framing.{IsPart}
use Rattle.fe2o3_sasl_negotiation.specs.Negotiations.{Reading}
use Rattle.fe2o3_sasl_negotiation.specs.Sides.{connection_side, endpoint_in, extended_in}
use Rattle.fe2o3_sasl_negotiation.proofs.lemmas.ExtendedLemmas.{costs_as_before}
use Rattle.fe2o3_sasl_negotiation.proofs.lemmas.ReceivingLemmas.{ended_rests, held_before_unit, refused_moves, same_side, whole_moves}
use Rattle.fe2o3_sasl_negotiation.proofs.side.ConnectionSide.receive.Goals as goal

pub invariant_of-self-in-Err-clause-part : goal.invariant_of-self-in-Err-clause-part
invariant_of-self-in-Err-clause-part g c =
    let old = c.args.self.now in
    let same : c.truncate.new.self.items ≡ old.held.items = c.truncate.ensures.items
    ∙ held_before_unit old.expected old.limit old.held.items c.args.bytes.now c.take_unit.new.held.items c.len-had.result
    old.part (rw c.in-Whole.is at c.in_ok-take_unit.ensures.ok) (c.len-had.ensures ∙ old.held.ok.0) in
    subst (λ (h : List ℕ). IsPart old.expected old.limit h) (sym same) old.part

pub returns-in-Err-clause-unchanged : goal.returns-in-Err-clause-unchanged
returns-in-Err-clause-unchanged g c =
    let old = c.args.self.now in
    let same : c.truncate.new.self.items ≡ old.held.items = c.truncate.ensures.items
    ∙ held_before_unit old.expected old.limit old.held.items c.args.bytes.now c.take_unit.new.held.items c.len-had.result
    old.part (rw c.in-Whole.is at c.in_ok-take_unit.ensures.ok) (c.len-had.ensures ∙ old.held.ok.0) in
    same_side old.progress old.expected old.limit same c.in-Err.ensures.unchanged

pub returns-in-Refused-clause-moves : goal.returns-in-Refused-clause-moves
returns-in-Refused-clause-moves g c = λ going some.
    let old = c.args.self.now in
    refused_moves old.expected old.limit old.held.items c.args.bytes.now c.take_unit.new.held.items c.len-had.result
    c.end_unit-taken.result old.part (rw c.in-Refused.is at c.in_ok-take_unit.ensures.ok)
    (c.len-had.ensures ∙ old.held.ok.0) c.end_unit-taken.ensures.taken

pub returns-in-Ok-clause-moves : goal.returns-in-Ok-clause-moves
returns-in-Ok-clause-moves g c = λ going some.
    let old = c.args.self.now in
    whole_moves old.expected old.limit old.held.items c.args.bytes.now c.take_unit.new.held.items c.len-had.result
    c.end_unit-taken-in-Ok.result old.part (rw c.in-Whole.is at c.in_ok-take_unit.ensures.ok)
    (c.len-had.ensures ∙ old.held.ok.0) c.end_unit-taken-in-Ok.ensures.taken

pub returns-in_default : goal.returns-in_default
returns-in_default g c =
    let old = c.args.self.now in
    let e = g.E.Endpoint in
    let side = connection_side e.state old in
    record {
      ok = (
        [],
        sym (append-nil c.args.out.now.items),
        ended_rests (Reading (extended_in old) (e.answers (e.config (endpoint_in old)))) side c.args.bytes.now
            c.args.nonce.now old.progress refl c.in_default.not-InProgress,
      );
      within = omega arith;
      moves = λ going some. absurd (c.in_default.not-InProgress going);
      progress = refl;
      unsent = tt;
      unchanged = tt;
      config = refl;
      extended = refl;
      memory = tt;
      room = λ going. absurd (c.in_default.not-InProgress going);
      room_stays = omega arith;
      cost = costs_as_before (extended_in old) e.costs side c.args.bytes.now c.args.nonce.now c.args.meter.now
          c.args.meter.now (g.met.E.Endpoint.costs_none side c.args.bytes.now c.args.nonce.now c.args.meter.now);
    }
