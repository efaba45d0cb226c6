use Rattle.std.proofs.Common.{arith, drop, ◌+◌}
use Rattle.std.proofs.lemmas.List.{drop_all, drop_more}
use Rattle.sasl_c.proofs.SaslServerLemmas.{ShowSoFar, so_far_all, so_far_more}
use Rattle.sasl_c.proofs.StatusLemmas.{carried}
use Rattle.sasl_c.proofs.sasl_server.SaslServerConfig.store.Goals as goal

pub loop-kept-preserved : goal.loop-kept-preserved
loop-kept-preserved c = let kepts = c.args.self.now.records.now in let k = c.loop-kept.kept-index in
    so_far_more c.args.username.now kepts (drop (k + 1) kepts) _ c.loop-kept.store c.add_record.new.store
    (carried (λ left. ShowSoFar c.args.username.now kepts left c.loop-kept.store) (drop k kepts) _
    (drop_more kepts k _ (omega arith)) c.loop-kept.invariant) c.in_ok-add_record.ensures.ok

pub returns-clause-ok : goal.returns-clause-ok
returns-clause-ok c = let kepts = c.args.self.now.records.now in let k = c.loop-kept.kept-index in
    so_far_all c.args.username.now kepts c.loop-kept.store
    (carried (λ left. ShowSoFar c.args.username.now kepts left c.loop-kept.store) (drop k kepts) _
    (drop_all k kepts (omega arith)) c.loop-kept.invariant)
