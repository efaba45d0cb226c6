use Rattle.std.proofs.Common.{arith, true≢false, ap, sym, ◌∙◌, Some}
use Rattle.fe2o3_sasl_core.specs.Events.{Refused}
use Rattle.fe2o3_sasl_core.specs.Runs.{client_answer}
use Rattle.fe2o3_sasl.proofs.lemmas.audit.CoverLemmas.{at_index, none_more}
use Rattle.fe2o3_sasl_core.specs.declared.sasl_profile.error.ProfileError.TheVariants.{OutOfMemory}
use Rattle.fe2o3_sasl.proofs.audit.client_receipts.client_is_complete.Goals as goal

pub loop-reply-preserved : goal.loop-reply-preserved
loop-reply-preserved c =
    none_more client_answer c.args.replies.now c.loop-reply.reply-index c.reply-item.result (Refused OutOfMemory)
    (omega arith) c.reply-item.is (c.client_lacks_memory.ensures.only c.if-client_lacks_memory.false)
    c.loop-reply.invariant

-- a reply that is running out of memory is in the list
pub returns-then-client_lacks_memory : goal.returns-then-client_lacks_memory
returns-then-client_lacks_memory c = (
  λ holds. absurd (true≢false (sym holds)),
  λ complete. absurd (complete c.loop-reply.reply-index
      (at_index client_answer c.args.replies.now c.loop-reply.reply-index c.reply-item.result (omega arith)
      c.reply-item.is ∙ ap Some (c.client_lacks_memory.ensures.lacks c.if-client_lacks_memory.true))),
)
