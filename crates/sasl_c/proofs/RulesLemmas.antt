-- What a struct of rules means.
use Rattle.std.proofs.Common.{refl, ap, sym, ◌∙◌, ◌≡◌, ◌≢◌, ℕ, List}
use Rattle.std.specs.Prelude.{Some, None, Option, Result, Ok, Err, Bool, true, false, nat_eq, if◌then◌else◌, take}
use Rattle.std.proofs.lemmas.Bool.Decides.{Decides-eqb}
use Rattle.fe2o3_scram.specs.Hmac.{zero_filled}
use Rattle.fe2o3_scram.specs.declared.channel_binding.ChannelData.{ChannelData}
use Rattle.fe2o3_scram.specs.ClientFirst.{default_rules}
use Rattle.fe2o3_scram.specs.declared.scram_messages.server_rules.ServerRules.{ServerRules}
use Rattle.sasl_c.specs.Client.{is_set}
use Rattle.sasl_c.specs.Rules.{ShowsRules, channels_in, data_in}
use Rattle.sasl_c.specs.declared.rules.ScramRules.{ScramRules}
use Rattle.sasl_c.specs.declared.status.Status.{Status}

pub no_data : (len : ℕ) (array : List ℕ) → len ≡ 0 → None ≡ data_in len array
no_data len array is = rw is refl

pub some_data : (len : ℕ) (array bytes : List ℕ) → len ≢ 0 → bytes ≡ zero_filled 64 (take len array)
    → Some (record { bytes = bytes; len = len }) ≡ data_in len array
some_data len array bytes some is = rw is (go (nat_eq len 0) refl) where
  held : Option ChannelData
  held = Some (record { bytes = zero_filled 64 (take len array); len = len })

  go : (none : Bool) → nat_eq len 0 ≡ none → held ≡ data_in len array
  go true same = absurd (some ((Decides-eqb len 0).0 same))
  go false same = sym (ap (λ (none : Bool). if none then None else held) same)

pub ruleset data_of = (no_data, some_data)

-- rules of zeros are those of a server without options
pub zeros : (rules : ScramRules) (answer : Result ServerRules Status) → ShowsRules rules answer
    → rules.accept_cbind_flag_y ≡ 0 → rules.strict ≡ 0 → rules.channels.binds_channel ≡ 0 → rules.accept_authzid ≡ 0
    → rules.reject_misplaced ≡ 0 → answer ≡ Ok default_rules
zeros rules (Ok shown) (same, short) flag strict binds accept reject =
    let means : ℕ → ℕ → ℕ → ℕ → ℕ → ServerRules = λ f s b a r. record {
      accept_cbind_flag_y = is_set f;
      strict = is_set s;
      reject_misplaced = is_set r;
      channels = if is_set b then Some (channels_in rules.channels) else None;
      accept_authzid = is_set a;
    } in
    ap Ok (same
    ∙ ap (λ f. means f rules.strict rules.channels.binds_channel rules.accept_authzid rules.reject_misplaced) flag
    ∙ ap (λ s. means 0 s rules.channels.binds_channel rules.accept_authzid rules.reject_misplaced) strict
    ∙ ap (λ b. means 0 0 b rules.accept_authzid rules.reject_misplaced) binds
    ∙ ap (λ a. means 0 0 0 a rules.reject_misplaced) accept ∙ ap (λ r. means 0 0 0 0 r) reject)
zeros rules (Err status) (is, long) flag strict binds accept reject = absurd (long.0 binds)
