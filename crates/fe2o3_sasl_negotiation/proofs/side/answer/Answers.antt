-- The answer to a frame that is read without its extended header.
use Rattle.fe2o3_sasl_negotiation.proofs.lemmas.ExtendedLemmas.{asks_in_place, costs_in_place}
use Rattle.fe2o3_sasl_negotiation.proofs.side.answer.Goals as goal

pub returns-in-true-Frame-clause-memory : goal.returns-in-true-Frame-clause-memory
returns-in-true-Frame-clause-memory g c =
    asks_in_place c.args.accepts c.args.expected c.in-true-Frame.field-0-1 c.args.unit.now _ c.requires.most
    c.in-true-Frame.is-0 c.in-true-Frame.is-1 c.copy_unextended-size.ensures.frame c.answer.result g.E.Endpoint.asks
    c.answer.ensures.memory

pub returns-in-true-Frame-clause-cost : goal.returns-in-true-Frame-clause-cost
returns-in-true-Frame-clause-cost g c =
    costs_in_place c.args.accepts c.args.expected c.in-true-Frame.field-0-1 c.args.unit.now _ c.requires.most
    c.in-true-Frame.is-0 c.in-true-Frame.is-1 c.copy_unextended-size.ensures.frame g.E.Endpoint.costs
    (g.E.Endpoint.state c.args.endpoint.now) c.args.nonce.now c.args.meter.now c.answer.new.meter c.answer.ensures.cost
