use Rattle.std.proofs.Common.{sym, ap, ◌∙◌, refl}
use Rattle.std.specs.Option.{option_map}
use Rattle.saslprep.specs.declared.error.SaslprepError.TheVariants.{ProhibitedCharacter}
use Rattle.saslprep.proofs.lemmas.AsciiLemmas.{refusal-of_ascii, value-of_ascii, printable-of_ascii, not_printable-of_ascii}
use Rattle.saslprep.proofs.saslprep.Goals as goal

pub returns-in-Some-clause-refused : goal.returns-in-Some-clause-refused
returns-in-Some-clause-refused c _ =
    refusal-of_ascii c.args.unassigned c.args.text.now c.if-is_ascii.ensures.cases
    ∙ ap (option_map ProhibitedCharacter) (sym c.in-Some.ensures)

pub returns-in-Some-clause-ascii : goal.returns-in-Some-clause-ascii
returns-in-Some-clause-ascii c ascii = (
  not_printable-of_ascii c.args.text.now c.in-Some.c ascii
      (sym c.in-Some.ensures),
  λ h. cc,
)

pub returns-in-None-clause-value : goal.returns-in-None-clause-value
returns-in-None-clause-value c = value-of_ascii c.args.text.now c.if-is_ascii.ensures.cases

pub returns-in-None-clause-accepted : goal.returns-in-None-clause-accepted
returns-in-None-clause-accepted c =
    refusal-of_ascii c.args.unassigned c.args.text.now c.if-is_ascii.ensures.cases
    ∙ ap (option_map ProhibitedCharacter) (sym c.in-None.ensures)

pub returns-in-None-clause-ascii : goal.returns-in-None-clause-ascii
returns-in-None-clause-ascii c ascii = (printable-of_ascii c.args.text.now ascii (sym c.in-None.ensures), tt, refl)
