use Rattle.std.proofs.Common.{inl, refl}
use Rattle.std.proofs.lemmas.Result.{err_from_is_err_and}
use Rattle.std.specs.Prelude.{Vec, ℕ}
use Rattle.std.specs.declared.alloc.Global.{Global}
use Rattle.fe2o3_sasl_wire.specs.AmqpTypes.{init_frame}
use Rattle.fe2o3_sasl_wire.specs.FrameView.{shown}
use Rattle.fe2o3_sasl_core.specs.SaslProfile.{profile_of}
use Rattle.fe2o3_sasl_core.proofs.lemmas.steps.WrittenReplyLemmas.{started_ok, started_err, unanswered}
use Rattle.fe2o3_sasl_core.proofs.lemmas.machines.OfferLemmas.{for_allocates}
use Rattle.fe2o3_sasl_core.proofs.steps.start.Goals as goal

pub returns-in_default : goal.returns-in_default
returns-in_default c = unanswered (shown c.args.hostname) (profile_of c.args.profile.now) c.args.nonce.now c.args.names.now
    (rw c.in_default.is at c.in_ok-next.ensures.ok)

pub returns-in_err-init : goal.returns-in_err-init
returns-in_err-init c =
    let fault = err_from_is_err_and c.from_residual-in_err-init.result c.from_residual-in_err-init.ensures.1 in
    inl (
      for_allocates (profile_of c.args.profile.now) (profile_of c.in-Some.next) c.args.names.now
          (rw c.in-Some.is at c.in_ok-next.ensures.ok),
      rw (fault.1, fault.2) refl,
      refl,
    )

pub returns-in-Ok : goal.returns-in-Ok
returns-in-Ok c =
    started_ok (shown c.args.hostname) (profile_of c.args.profile.now) (profile_of c.in-Some.next)
    (profile_of c.start.new.self) c.args.nonce.now c.args.names.now (init_frame c.in_ok-init.init)
    c.in-Ok.body.items (rw c.in-Some.is at c.in_ok-next.ensures.ok) c.in_ok-init.ensures.ok c.in_ok-init.ensures.started
    c.in-Ok.ensures

pub returns-in-Err : goal.returns-in-Err
returns-in-Err c =
    started_err (λ (body : Vec ℕ Global). body.items) (shown c.args.hostname) (profile_of c.args.profile.now)
    (profile_of c.in-Some.next) c.args.nonce.now c.args.names.now (init_frame c.in_ok-init.init) c.in-Err.fault
    (rw c.in-Some.is at c.in_ok-next.ensures.ok) c.in_ok-init.ensures.ok c.in-Err.ensures
