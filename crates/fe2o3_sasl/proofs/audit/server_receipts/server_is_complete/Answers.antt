use Rattle.std.proofs.Common.{arith, true≢false, ap, sym, ◌∙◌, Some}
use Rattle.fe2o3_sasl.specs.private.ServerReceipts.{no_memory}
use Rattle.fe2o3_sasl_core.specs.Runs.{server_answer}
use Rattle.fe2o3_sasl.proofs.lemmas.audit.CoverLemmas.{at_index, none_more}
use Rattle.fe2o3_sasl.proofs.audit.server_receipts.server_is_complete.Goals as goal

pub loop-reply-preserved : goal.loop-reply-preserved
loop-reply-preserved c =
    none_more server_answer c.args.replies.now c.loop-reply.reply-index c.reply-item.result no_memory (omega arith)
    c.reply-item.is (c.server_lacks_memory.ensures.only c.if-server_lacks_memory.false) c.loop-reply.invariant

-- a reply that is running out of memory is in the list
pub returns-then-server_lacks_memory : goal.returns-then-server_lacks_memory
returns-then-server_lacks_memory c = (
  λ holds. absurd (true≢false (sym holds)),
  λ complete. absurd (complete c.loop-reply.reply-index
      (at_index server_answer c.args.replies.now c.loop-reply.reply-index c.reply-item.result (omega arith)
      c.reply-item.is ∙ ap Some (c.server_lacks_memory.ensures.lacks c.if-server_lacks_memory.true))),
)
