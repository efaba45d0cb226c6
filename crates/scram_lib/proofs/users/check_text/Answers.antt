use Rattle.base64.proofs.ReadLemmas.{on_ok-map}
use Rattle.scram_lib.proofs.users.check_text.Goals as goal

pub returns : goal.returns
returns g c = on_ok-map c.conclude.result _ _ c.conclude.ensures (λ held.
    (c.in_ok-users.users, c.in_ok-users.ensures.ok, c.answers.result, c.answers.ensures, held.0, held.1))
