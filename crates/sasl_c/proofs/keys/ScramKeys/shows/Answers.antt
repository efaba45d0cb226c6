use Rattle.std.proofs.lemmas.Bool.{le-leb, leb-true}
use Rattle.sasl_c.proofs.LoginLemmas.{is_short, shows_keys}
use Rattle.sasl_c.proofs.keys.ScramKeys.shows.Goals as goal

pub returns-in-Some : goal.returns-in-Some
returns-in-Some c = (
  (λ few. shows_keys c.args.self.now c.in-Some.field-0 c.in-Some.ensures (leb-true c.args.self.now.salt_len 128 few)),
  λ shows. le-leb c.args.self.now.salt_len 128 (is_short c.args.self.now shows),
)
