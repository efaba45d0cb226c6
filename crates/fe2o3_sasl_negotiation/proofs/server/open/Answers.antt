use Rattle.std.proofs.Common.{◌≡◌, Option, None, List, ℕ, refl, subst}
use Rattle.fe2o3_sasl_negotiation.specs.declared.progress.CloseReason.TheVariants.{ReplyTooLarge}
use Rattle.fe2o3_sasl_negotiation.specs.declared.progress.Expected.TheVariants.{Header}
use Rattle.fe2o3_sasl_negotiation.specs.Negotiations.{closes}
use Rattle.fe2o3_sasl_negotiation.specs.ServerNegotiation.{offer_body, Offers}
use Rattle.fe2o3_sasl_negotiation.proofs.lemmas.ReceivingLemmas.{closed_appends}
use Rattle.fe2o3_sasl_negotiation.proofs.lemmas.ServerAnswerLemmas.{opened, offered}
use Rattle.fe2o3_sasl_negotiation.proofs.server.open.Goals as goal

pub returns-in-Some-clause-ok : goal.returns-in-Some-clause-ok
returns-in-Some-clause-ok g c =
    let names = g.A.SaslAcceptor.names (g.A.SaslAcceptor.state c.args.acceptor.now) in
    let mid = c.extend_reserved.new.self.items in
    let begins = rw (c.in_ok-reserve.ensures.items, c.from-sasl.ensures, c.sasl.ensures) at
    c.extend_reserved.ensures.items in
    let sasl = c.is_sasl.ensures.is.0 c.if-not-is_sasl.false in
    opened names c.args.header.now c.args.out.now.items mid c.send.new.out.items c.send.result sasl begins
    (offered names c.in-Some.body.items mid c.send.new.out.items c.send.result
    (rw c.in-Some.is at c.in_ok-offer.ensures) (rw c.as_slice.ensures at c.send.ensures))

pub returns-in-None-clause-ok : goal.returns-in-None-clause-ok
returns-in-None-clause-ok g c =
    let names = g.A.SaslAcceptor.names (g.A.SaslAcceptor.state c.args.acceptor.now) in
    let mid = c.extend_reserved.new.self.items in
    let begins = rw (c.in_ok-reserve.ensures.items, c.from-sasl.ensures, c.sasl.ensures) at
    c.extend_reserved.ensures.items in
    let none : None ≡ offer_body names = rw c.in-None.is at c.in_ok-offer.ensures in
    opened names c.args.header.now c.args.out.now.items mid mid c.closed.result
    (c.is_sasl.ensures.is.0 c.if-not-is_sasl.false) begins
    (closed_appends (Offers (offer_body names)) mid ReplyTooLarge Header c.closed.result
    c.closed.ensures
    (subst (λ (o : Option (List ℕ)). Offers o (closes ReplyTooLarge Header)) none refl))
