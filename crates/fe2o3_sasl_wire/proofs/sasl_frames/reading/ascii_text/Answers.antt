use Rattle.fe2o3_sasl_wire.proofs.lemmas.reading.TextLemmas.{shows_ascii, shown_ascii, shows_none}
use Rattle.std.proofs.Common.{sym}
use Rattle.fe2o3_sasl_wire.proofs.sasl_frames.reading.ascii_text.Goals as goal

pub returns-then-not-is_ascii-clause-value : goal.returns-then-not-is_ascii-clause-value
returns-then-not-is_ascii-clause-value c = sym (shows_none c.args.bytes.now c.if-not-is_ascii.ensures.cases)

pub returns-clause-value : goal.returns-clause-value
returns-clause-value c =
    rw c.ok.ensures.value
    (shows_ascii c.from_utf8.result c.args.bytes.now _ c.if-not-is_ascii.ensures.cases c.from_utf8.ensures.cases)

pub returns-clause-ascii : goal.returns-clause-ascii
returns-clause-ascii c =
    rw c.ok.ensures.value
    (shown_ascii c.from_utf8.result c.args.bytes.now _ c.if-not-is_ascii.ensures.cases c.from_utf8.ensures.cases)
