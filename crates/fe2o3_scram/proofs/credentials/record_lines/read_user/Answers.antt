use Rattle.std.proofs.Common.{refl}
use Rattle.fe2o3_scram.proofs.lemmas.messages.RecordLinesLemmas.{user_read}
use Rattle.fe2o3_scram.proofs.lemmas.texts.CutLemmas.{without-no_last_cut}
use Rattle.fe2o3_scram.proofs.credentials.record_lines.read_user.Goals as goal

pub returns-in_default-clause-err : goal.returns-in_default-clause-err
returns-in_default-clause-err c = λ _ _. without-no_last_cut 32 c.args.line.now c.in_default.ensures

pub returns-clause-ok : goal.returns-clause-ok
returns-clause-ok c =
    let kept = c.in_ok-kept.kept in
    user_read kept.version c.args.line.now c.in-Some.name.now c.in-Some.kept.now c.in_ok-username.username.bytes.items
    kept c.requires c.in-Some.ensures c.in_ok-username.ensures.ok c.in_ok-kept.ensures.ok refl
