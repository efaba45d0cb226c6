-- What each mechanism of a server accepts. Each law is the contract of a clause of `server::laws`.
use Rattle.std.specs.Prelude.{◌≡◌, Bool, Some, T}
use Rattle.fe2o3_scram.specs.ChannelBinding.{AcceptsFlag, is_strict}
use Rattle.fe2o3_scram.specs.declared.channel_binding.ChannelBindings.{ChannelBindings}
use Rattle.fe2o3_scram.specs.declared.scram_messages.channel_binding_flag.ChannelBindingFlag.TheVariants.{ClientSupports}
use Rattle.fe2o3_scram.specs.declared.scram_messages.server_rules.ServerRules.{ServerRules}
use Rattle.fe2o3_sasl_core.specs.Servers.{rules_by}

-- where a connection has a channel, SCRAM with -PLUS and without it rejects what is no extension and takes no `y,,`
abbrev pub OfferedScramsKeepChannels : Type 0
OfferedScramsKeepChannels = (plus : Bool) (rules : ServerRules) (channels : ChannelBindings)
    → rules.channels ≡ Some channels
    → T (is_strict (rules_by plus rules)) × ¬ AcceptsFlag (rules_by plus rules) ClientSupports
