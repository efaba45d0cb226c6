use Rattle.std.proofs.Common.{◌≡◌, Bool, true, false, not, Option, Some, None, ℕ, refl}
use Rattle.std.specs.Option.{MatchOption, is_some}
use Rattle.std.specs.Prelude.{◌↔◌, IsTrue}
use Rattle.fe2o3_scram.specs.ServerFirst.{HasPlainCount}
use Rattle.fe2o3_scram.specs.Texts.{IsPlainCount}
use Rattle.fe2o3_scram.proofs.lemmas.messages.ServerFirstLemmas.{no_plain}
use Rattle.fe2o3_scram.proofs.scram_messages.server_first_reading.has_no_plain_count.Goals as goal

pub returns-in_default : goal.returns-in_default
returns-in_default c = (λ _ count has. c.in_default.ensures has.0 has.1, λ _. refl)

pub returns : goal.returns
returns c = go c.plain_count_of.result c.is_none.result c.is_none.ensures c.plain_count_of.ensures
  where
    go : (read : Option ℕ) (none : Bool) → is_some read ≡ not none
        → MatchOption read ((count : ℕ) → ¬ IsPlainCount c.in-Some.digits.now count) (IsPlainCount c.in-Some.digits.now)
        → IsTrue none ↔ ((count : ℕ) → ¬ HasPlainCount c.args.server_first.now count)
    go None true is unread =
        (λ _ count has. no_plain c.args.server_first.now c.in-Some.digits.now c.in-Some.ensures unread (count, has), λ _. refl)
    go None false is unread = absurd (cc)
    go (Some count) true is plain = absurd (cc)
    go (Some count) false is plain =
        (λ wrong. absurd (cc), λ none. absurd (none count (c.in-Some.digits.now, c.in-Some.ensures, plain)))
