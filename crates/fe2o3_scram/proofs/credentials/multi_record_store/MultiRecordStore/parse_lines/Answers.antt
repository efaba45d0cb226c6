use Rattle.std.proofs.Common.{rules, ◌≡◌, ◌+◌, ◌++◌, length, sym, ◌∙◌, ap, subst}
use Rattle.std.specs.List.{AllByRecursion}
use Rattle.fe2o3_scram.specs.Mixed.{MultiRecords}
use Rattle.fe2o3_scram.specs.MultiRecordLines.{IsMixedReadable, mixed_line, mixed_text}
use Rattle.fe2o3_scram.proofs.lemmas.messages.LineListLemmas.{one_more_line}
use Rattle.fe2o3_scram.proofs.lemmas.messages.RecordLinesLemmas.{all-more}
use Rattle.fe2o3_scram.proofs.credentials.multi_record_store.MultiRecordStore.parse_lines.Goals as goal

pub loop-rest-preserved : goal.loop-rest-preserved
loop-rest-preserved c =
    let before = c.loop-rest.invariant in
    let line = c.in-Ok.ensures.ok in
    let user = line.0 in
    let more = c.in-Ok.more.now in
    let added = sym line.3 in record {
      readable =
          subst (λ (users : MultiRecords). AllByRecursion IsMixedReadable users) added
          (all-more IsMixedReadable c.loop-rest.store user before.readable line.1);
      read =
          one_more_line mixed_line c.args.text.now c.loop-rest.rest.now more c.loop-rest.store user before.read line.2
          ∙ ap (λ (users : MultiRecords). mixed_text users ++ more) added;
      utf8 = search rules;
    }

pub returns-in-Err-clause-err : goal.returns-in-Err-clause-err
returns-in-Err-clause-err c =
    let before = c.loop-rest.invariant in
    let line : length c.users.result.now + 1 ≡ length c.loop-rest.store + 1 = search rules in
    λ other. (c.loop-rest.store, c.loop-rest.rest.now, before.readable, before.read, line, c.in-Err.ensures.err other)
