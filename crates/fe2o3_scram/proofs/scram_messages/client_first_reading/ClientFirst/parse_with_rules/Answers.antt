use Rattle.std.proofs.Common.{rules, sym, ◌∙◌, refl}
use Rattle.std.proofs.lemmas.Result.{err_from_is_err_and}
use Rattle.std.specs.Prelude.{◌↔◌}
use Rattle.std.specs.Cow.{cow_str_bytes, IsBorrowedStr}
use Rattle.std.specs.declared.borrow.CowStr.{CowStr}
use Rattle.std.specs.declared.borrow.CowStr.TheVariants as cows
use Rattle.fe2o3_scram.specs.private.Headers.{header_cut}
use Rattle.fe2o3_scram.proofs.lemmas.messages.ClientFirstLemmas.{grammar_refused, made, not_the_grammar, not_utf8, no_header, no_name, bad_name, no_nonce, named, invalid_name, escaped_name, has_escapes}
use Rattle.fe2o3_scram.proofs.scram_messages.client_first_reading.ClientFirst.parse_with_rules.Goals as goal

pub returns-in_default-clause-answer : goal.returns-in_default-clause-answer
returns-in_default-clause-answer c = (
  search rules,
  λ _. not_utf8 c.args.rules c.args.text.now
      c.in_default.ensures.cases.0,
)

pub returns-in-Err-Invalid-clause-answer : goal.returns-in-Err-Invalid-clause-answer
returns-in-Err-Invalid-clause-answer c =
    let none = invalid_name c.in-Err-Invalid.field-0 _ _ c.in-Err-Invalid.field-0-is c.in-Err-Invalid.ensures.err in (
      search rules,
      λ _. no_header c.args.rules c.args.text.now c.in-Ok.ensures.cases.1 (rw c.in-Ok.ensures.cases.0 at none),
    )

pub returns-in_default-attribute-clause-answer : goal.returns-in_default-attribute-clause-answer
returns-in_default-attribute-clause-answer c = (
  search rules,
  λ _. no_name c.args.rules (header_cut c.in-Ok-cut_header.cut) c.args.text.now c.in-Ok-cut_header.cut.rest.now
      c.in-Ok.ensures.cases.1 c.in-Ok-cut_header.ensures.ok.0
      (sym c.in-Ok.ensures.cases.0 ∙ c.in-Ok-cut_header.ensures.ok.1)
      c.in_default-attribute.ensures,
)

pub returns-in-Err-Invalid-unescape_username-clause-answer :
    goal.returns-in-Err-Invalid-unescape_username-clause-answer
returns-in-Err-Invalid-unescape_username-clause-answer c = (
  search rules,
  λ _. bad_name c.args.rules (header_cut c.in-Ok-cut_header.cut) c.args.text.now c.in-Ok-cut_header.cut.rest.now
      c.in-Ok.ensures.cases.1 c.in-Ok-cut_header.ensures.ok.0
      (sym c.in-Ok.ensures.cases.0 ∙ c.in-Ok-cut_header.ensures.ok.1)
      c.in-Some.escaped.now c.in-Some.ensures
      (invalid_name c.in-Err-Invalid-unescape_username.field-0 _ _ c.in-Err-Invalid-unescape_username.field-0-is
      c.in-Err-Invalid-unescape_username.ensures.err),
)

pub returns-in_default-attribute-2-clause-answer : goal.returns-in_default-attribute-2-clause-answer
returns-in_default-attribute-2-clause-answer c = (
  search rules,
  λ _. no_nonce c.args.rules (header_cut c.in-Ok-cut_header.cut) c.args.text.now c.in-Ok-cut_header.cut.rest.now
      c.in-Ok.ensures.cases.1 c.in-Ok-cut_header.ensures.ok.0
      (sym c.in-Ok.ensures.cases.0 ∙ c.in-Ok-cut_header.ensures.ok.1)
      c.in-Some.escaped.now
      (cow_str_bytes c.in-Ok-unescape_username.username)
      c.in-Some.ensures c.in-Ok-unescape_username.ensures.ok c.in_default-attribute-2.ensures,
)

pub returns-clause-answer : goal.returns-clause-answer
returns-clause-answer c =
    named c.args.rules (header_cut c.in-Ok-cut_header.cut) c.args.text.now c.in-Ok-cut_header.cut.rest.now
    c.in-Ok.ensures.cases.1 c.in-Ok-cut_header.ensures.ok.0
    (sym c.in-Ok.ensures.cases.0 ∙ c.in-Ok-cut_header.ensures.ok.1)
    c.in-Some.escaped.now
    (cow_str_bytes c.in-Ok-unescape_username.username)
    c.in-Some-attribute.client_nonce.now c.in-Some.ensures c.in-Ok-unescape_username.ensures.ok
    c.in-Some-attribute.ensures c.in_ok-test_grammar.ensures

pub returns-in-Err-OutOfMemory-unescape_username-clause-answer :
    goal.returns-in-Err-OutOfMemory-unescape_username-clause-answer
returns-in-Err-OutOfMemory-unescape_username-clause-answer c =
    let name = c.in-Err-OutOfMemory-unescape_username.ensures.spells c.in-Err-OutOfMemory-unescape_username.field-0-is in (
      λ _. has_escapes c.args.rules (header_cut c.in-Ok-cut_header.cut) c.args.text.now c.in-Ok-cut_header.cut.rest.now
          c.in-Ok.ensures.cases.1 c.in-Ok-cut_header.ensures.ok.0
          (sym c.in-Ok.ensures.cases.0 ∙ c.in-Ok-cut_header.ensures.ok.1)
          c.in-Some.escaped.now name.0 c.in-Some.ensures name.1
          (escaped_name c.in-Err-OutOfMemory-unescape_username.field-0 _ _ c.in-Err-OutOfMemory-unescape_username.field-0-is
          c.in-Err-OutOfMemory-unescape_username.ensures.err),
      λ other. absurd (other refl),
    )

pub returns-clause-borrowed : goal.returns-clause-borrowed
returns-clause-borrowed c = λ unescaped.
    go c.in-Ok-unescape_username.username c.in-Ok-unescape_username.ensures.borrowed (λ escapes. unescaped
    (has_escapes c.args.rules (header_cut c.in-Ok-cut_header.cut) c.args.text.now c.in-Ok-cut_header.cut.rest.now
    c.in-Ok.ensures.cases.1 c.in-Ok-cut_header.ensures.ok.0
    (sym c.in-Ok.ensures.cases.0 ∙ c.in-Ok-cut_header.ensures.ok.1)
    c.in-Some.escaped.now (cow_str_bytes c.in-Ok-unescape_username.username) c.in-Some.ensures
    c.in-Ok-unescape_username.ensures.ok escapes))
  where
    go : {A : Type 0} {None : Type 0} (name : CowStr A) → (IsBorrowedStr name ↔ None) → (¬ (¬ None))
        → IsBorrowedStr name
    go (cows.Borrowed text) both some = tt
    go (cows.Owned text) both some = absurd (some (λ none. both.1 none))

pub returns-in_err-test_grammar-clause-answer : goal.returns-in_err-test_grammar-clause-answer
returns-in_err-test_grammar-clause-answer c =
    let from = err_from_is_err_and c.from_residual.result c.from_residual.ensures.1 in
    let first = made (header_cut c.in-Ok-cut_header.cut) (cow_str_bytes c.in-Ok-unescape_username.username)
    c.in-Some-attribute.client_nonce.now c.in-Ok-cut_header.cut.rest.now in
    rw (from.1, from.2) (
      λ memory. absurd (not_the_grammar c.args.rules first (rw memory at c.in_err-test_grammar.ensures)),
      λ _. grammar_refused c.args.rules (header_cut c.in-Ok-cut_header.cut) c.args.text.now c.in-Ok-cut_header.cut.rest.now
          c.in-Ok.ensures.cases.1 c.in-Ok-cut_header.ensures.ok.0
          (sym c.in-Ok.ensures.cases.0 ∙ c.in-Ok-cut_header.ensures.ok.1)
          c.in-Some.escaped.now (cow_str_bytes c.in-Ok-unescape_username.username)
          c.in-Some-attribute.client_nonce.now c.in_err-test_grammar.field-0.0 c.in-Some.ensures
          c.in-Ok-unescape_username.ensures.ok c.in-Some-attribute.ensures c.in_err-test_grammar.ensures,
    )
