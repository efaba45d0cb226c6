use Rattle.std.proofs.Common.{lit<, ◌≡◌}
use Rattle.std.proofs.lemmas.Str.Pattern.{contains_char}
use Rattle.fe2o3_scram.specs.Texts.{NoComma}
use Rattle.fe2o3_scram.specs.declared.scram_messages.escape.UnescapeError.TheVariants.{OutOfMemory as OutOfMemoryError}
use Rattle.fe2o3_scram.proofs.lemmas.texts.EachByteLemmas.{without-index}
use Rattle.fe2o3_scram.proofs.lemmas.texts.EscapingLemmas.{always_if_err, not_contained, no_equals-index, escaped-plain}
use Rattle.fe2o3_scram.proofs.scram_messages.escape.unescape_username.Goals as goal

pub spells_name-requires : goal.spells_name-requires
spells_name-requires c = without-index 44 c.args.text.now
    (not_contained c.args.text.now 44 c.contains.result c.if-contains.false
    (contains_char 44 c.args.text.now c.contains.result c.contains.ensures.cases (lit< tt)).1)

pub unescape-requires : goal.unescape-requires
unescape-requires c = without-index 44 c.args.text.now
    (not_contained c.args.text.now 44 c.contains.result c.if-contains.false
    (contains_char 44 c.args.text.now c.contains.result c.contains.ensures.cases (lit< tt)).1)

pub returns-clause-ok : goal.returns-clause-ok
returns-clause-ok c =
    escaped-plain c.args.text.now
    (without-index 44 c.args.text.now (not_contained c.args.text.now 44 c.contains.result c.if-contains.false
    (contains_char 44 c.args.text.now c.contains.result c.contains.ensures.cases (lit< tt)).1))
    (no_equals-index c.args.text.now (not_contained c.args.text.now 61 c.contains-2.result c.if-contains-2.false
    (contains_char 61 c.args.text.now c.contains-2.result c.contains-2.ensures.cases (lit< tt)).1))

pub returns-clause-borrowed : goal.returns-clause-borrowed
returns-clause-borrowed c = (
  λ _. no_equals-index c.args.text.now (not_contained c.args.text.now 61 c.contains-2.result c.if-contains-2.false
      (contains_char 61 c.args.text.now c.contains-2.result c.contains-2.ensures.cases (lit< tt)).1),
  λ _. tt,
)

pub returns-in_err-unescape-clause-memory : goal.returns-in_err-unescape-clause-memory
returns-in_err-unescape-clause-memory c = always_if_err c.from_residual.result (λ error. error ≡ OutOfMemoryError)
    (NoComma c.args.text.now)
    (without-index 44 c.args.text.now (not_contained c.args.text.now 44 c.contains.result c.if-contains.false
    (contains_char 44 c.args.text.now c.contains.result c.contains.ensures.cases (lit< tt)).1))
