use Rattle.std.proofs.Common.{refl, Ok, Err}
use Rattle.std.specs.Prelude.{Vec, ℕ}
use Rattle.std.specs.declared.alloc.Global.{Global}
use Rattle.fe2o3_sasl_wire.specs.SaslFrames as frames
use Rattle.fe2o3_sasl_core.specs.SaslProfile.{profile_of}
use Rattle.fe2o3_sasl_core.proofs.lemmas.steps.CostLemmas.{costs_again}
use Rattle.fe2o3_sasl_core.proofs.lemmas.steps.WrittenReplyLemmas.{responded_ok, responded_err, refused_on_copy}
use Rattle.fe2o3_sasl_core.proofs.steps.respond.Goals as goal

pub returns-in-Ok-client_body_of-clause-answer : goal.returns-in-Ok-client_body_of-clause-answer
returns-in-Ok-client_body_of-clause-answer c = λ hostname nonce.
    responded_ok hostname (profile_of c.args.profile.now) (profile_of c.in_ok-next.next)
    (profile_of c.respond.new.self) nonce c.args.challenge.now c.in-Ok.response.response.0.items
    c.in-Ok-client_body_of.body.items c.in_ok-next.ensures.cases (c.in-Ok.ensures.answer hostname nonce)
    c.in-Ok-client_body_of.ensures

pub returns-in-Err-client_body_of-clause-answer : goal.returns-in-Err-client_body_of-clause-answer
returns-in-Err-client_body_of-clause-answer c = λ hostname nonce.
    responded_err (λ (body : Vec ℕ Global). body.items) hostname (profile_of c.args.profile.now)
    (profile_of c.in_ok-next.next) (profile_of c.respond.new.self) nonce c.args.challenge.now
    c.in-Ok.response.response.0.items c.in-Err-client_body_of.fault c.in_ok-next.ensures.cases c.requires.due
    (c.in-Ok.ensures.answer hostname nonce) c.in-Err-client_body_of.ensures

pub returns-in-Err-clause-answer : goal.returns-in-Err-clause-answer
returns-in-Err-clause-answer c = λ hostname nonce.
    refused_on_copy hostname (profile_of c.args.profile.now) (profile_of c.in_ok-next.next)
    (profile_of c.respond.new.self) nonce (frames.Challenge c.args.challenge.now) c.in-Err.fault
    c.in_ok-next.ensures.cases c.in-Err.ensures.err (c.in-Err.ensures.answer hostname nonce)

pub returns-in-Ok-client_body_of-clause-cost : goal.returns-in-Ok-client_body_of-clause-cost
returns-in-Ok-client_body_of-clause-cost c =
    costs_again (frames.Challenge c.args.challenge.now) (profile_of c.args.profile.now) (Ok c.in-Ok.response) _
    c.args.meter.now c.respond.new.meter (λ is. is) (rw c.in_ok-next.ensures.cases at c.in-Ok.ensures.cost)

pub returns-in-Err-client_body_of-clause-cost : goal.returns-in-Err-client_body_of-clause-cost
returns-in-Err-client_body_of-clause-cost c =
    costs_again (frames.Challenge c.args.challenge.now) (profile_of c.args.profile.now) (Ok c.in-Ok.response) _
    c.args.meter.now c.respond.new.meter (λ is. refl) (rw c.in_ok-next.ensures.cases at c.in-Ok.ensures.cost)

pub returns-in-Err-clause-cost : goal.returns-in-Err-clause-cost
returns-in-Err-clause-cost c =
    costs_again (frames.Challenge c.args.challenge.now) (profile_of c.args.profile.now) (Err c.in-Err.fault) _
    c.args.meter.now c.respond.new.meter (λ is. is) (rw c.in_ok-next.ensures.cases at c.in-Err.ensures.cost)
