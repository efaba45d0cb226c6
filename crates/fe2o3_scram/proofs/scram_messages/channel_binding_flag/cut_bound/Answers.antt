use Rattle.std.proofs.Common.{rules}
use Rattle.fe2o3_scram.proofs.lemmas.messages.HeaderLemmas.{no_kind}
use Rattle.fe2o3_scram.proofs.scram_messages.channel_binding_flag.cut_bound.Goals as goal

pub returns-in_err-kind : goal.returns-in_err-kind
returns-in_err-kind c =
    let none = no_kind c.args.channels c.args.text.now (search rules) in
    search (rules, none)
