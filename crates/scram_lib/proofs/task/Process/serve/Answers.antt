use Rattle.std.proofs.Common.{rules, ◌≡◌, ◌++◌, List, [], ℕ, false, map, option_map, string_bytes}
use Rattle.std.proofs.lemmas.Result.{IfOk-weaker}
use Rattle.scram_lib.specs.Acting.{words_of}
use Rattle.scram_lib.specs.Done.{IsWithRights}
use Rattle.scram_lib.proofs.task.Process.serve.Goals as goal

pub returns : goal.returns
returns g c =
    let given : List (List ℕ) = map string_bytes c.in_ok-held.held.items in
    let rights : words_of (option_map (λ words. map (λ word. word.now) words.now) c.with_words.result.may_act)
    ≡ words_of (option_map (λ words. map (λ word. word.now) words.now) c.args.service.now.may_act) ++ given =
    search (rules, c.with_words.ensures.words, c.deref-2.ensures.value, c.in_ok-words.ensures, c.deref.ensures.value) in
    let none : c.args.service.now.accept_authzid ≡ false → given ≡ [] = search rules in
    let full : IsWithRights c.args.service.now c.with_words.result = record {
      same = c.with_words.ensures.same;
      given = given;
      rights = rights;
      none = none;
    } in
    IfOk-weaker c.serve_by-2.result _ _ (λ done served. (c.with_words.result, full, served)) c.serve_by-2.ensures
