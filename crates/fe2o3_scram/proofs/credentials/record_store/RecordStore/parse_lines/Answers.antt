use Rattle.std.proofs.Common.{rules, ◌∷◌, ◌++◌, sym, ◌∙◌, ap, subst}
use Rattle.std.specs.List.{AllByRecursion}
use Rattle.fe2o3_scram.specs.declared.hmac.ScramVersion.{ScramVersion}
use Rattle.fe2o3_scram.specs.Credentials.{Store, Records}
use Rattle.fe2o3_scram.specs.RecordLines.{IsLineReadable, user_line, users_text}
use Rattle.fe2o3_scram.proofs.lemmas.messages.LineListLemmas.{one_more_line}
use Rattle.fe2o3_scram.proofs.lemmas.messages.RecordLinesLemmas.{all-more}
use Rattle.fe2o3_scram.proofs.credentials.record_store.RecordStore.parse_lines.Goals as goal

pub loop-rest-preserved : goal.loop-rest-preserved
loop-rest-preserved c =
    let version = c.args.scram_version in
    let before = c.loop-rest.invariant in
    let user = c.in-Ok.ensures.ok.0 in
    let more = c.in-Ok.more.now in
    let line = c.in-Ok.ensures.ok in
    let added = ap (λ (store : Store). store.records) (sym line.3) in record {
      version = ap (λ (store : Store). store.version) line.3 ∙ before.version;
      readable =
          subst (λ (records : Records). AllByRecursion (IsLineReadable version) records) added
          (all-more (IsLineReadable version) c.loop-rest.store.records user before.readable
          (subst (λ (of : ScramVersion). IsLineReadable of user) before.version line.1));
      read =
          one_more_line (user_line version) c.args.text.now c.loop-rest.rest.now more c.loop-rest.store.records user
          before.read (line.2 ∙ ap (λ (of : ScramVersion). user_line of user ++ 10 ∷ more) before.version)
          ∙ ap (λ (records : Records). users_text version records ++ more) added;
      utf8 = search rules;
    }
