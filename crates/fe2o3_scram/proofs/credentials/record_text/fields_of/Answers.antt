use Rattle.std.proofs.Common.{rules}
use Rattle.fe2o3_scram.specs.RecordText.{ArePlain}
use Rattle.fe2o3_scram.proofs.lemmas.messages.RecordTextLemmas.{made, no_count, no_salt, no_keys, not_plain}
use Rattle.fe2o3_scram.proofs.credentials.record_text.fields_of.Goals as goal

pub returns-in_default-cut : goal.returns-in_default-cut
returns-in_default-cut c =
    no_count c.args.text.now c.in-Some.mechanism.now c.in-Some.behind_mechanism.now c.in-Some.ensures
    c.in_default-cut.ensures

pub returns-in_default-cut-2 : goal.returns-in_default-cut-2
returns-in_default-cut-2 c =
    no_salt c.args.text.now c.in-Some.mechanism.now c.in-Some.behind_mechanism.now c.in-Some-cut.iterations.now
    c.in-Some-cut.behind_iterations.now c.in-Some.ensures c.in-Some-cut.ensures c.in_default-cut-2.ensures

pub returns-in_default-cut-3 : goal.returns-in_default-cut-3
returns-in_default-cut-3 c =
    no_keys c.args.text.now c.in-Some.mechanism.now c.in-Some.behind_mechanism.now c.in-Some-cut.iterations.now
    c.in-Some-cut.behind_iterations.now c.in-Some-cut-2.salt.now c.in-Some-cut-2.behind_salt.now c.in-Some.ensures
    c.in-Some-cut.ensures c.in-Some-cut-2.ensures c.in_default-cut-3.ensures

pub returns-then-not-are_plain : goal.returns-then-not-are_plain
returns-then-not-are_plain c =
    let other : ¬ ArePlain (made c.in-Some.mechanism.now c.in-Some-cut.iterations.now c.in-Some-cut-2.salt.now
    c.in-Some-cut-3.stored_key.now c.in-Some-cut-3.server_key.now) = search rules in
    not_plain c.args.text.now c.in-Some.mechanism.now c.in-Some.behind_mechanism.now c.in-Some-cut.iterations.now
    c.in-Some-cut.behind_iterations.now c.in-Some-cut-2.salt.now c.in-Some-cut-2.behind_salt.now
    c.in-Some-cut-3.stored_key.now c.in-Some-cut-3.server_key.now c.in-Some.ensures c.in-Some-cut.ensures
    c.in-Some-cut-2.ensures c.in-Some-cut-3.ensures other
