-- What SCRAM accepts beside SCRAM with -PLUS.
use Rattle.std.proofs.Common.{Bool, true, false, ◌≡◌, Option, Some, subst, sym}
use Rattle.std.specs.Prelude.{◌||◌, ◌&&◌, T, is_some, not}
use Rattle.fe2o3_scram.specs.ChannelBinding.{TakesFlag}
use Rattle.fe2o3_scram.specs.declared.channel_binding.ChannelBindings.{ChannelBindings}
use Rattle.fe2o3_scram.specs.declared.scram_messages.channel_binding_flag.ChannelBindingFlag.TheVariants.{ClientSupports}
use Rattle.fe2o3_sasl_core.specs.ServerLaws.{OfferedScramsKeepChannels}

rejects : (accepts set binds strict : Bool) → T binds → T (accepts || ((set || binds) || strict))
rejects true set binds strict is = tt
rejects false true binds strict is = tt
rejects false false true strict is = tt
rejects false false false strict is = absurd is

refuses : (accept binds : Bool) → T binds → ¬ T (accept && not binds)
refuses true true is takes = takes
refuses false binds is takes = takes
refuses true false is takes = is

-- SCRAM with -PLUS has the channel, and so tests extensions and takes no `y,,`
bound : (channels : Option ChannelBindings) (known : ChannelBindings) (rest accepts : Bool) → channels ≡ Some known
    → T (is_some channels || rest) × ¬ TakesFlag channels accepts ClientSupports
bound channels known rest accepts has = subst
    (λ (c : Option ChannelBindings). T (is_some c || rest) × ¬ TakesFlag c accepts ClientSupports) (sym has)
    (tt, λ takes. takes)

pub offered_scrams_keep_channels : OfferedScramsKeepChannels
offered_scrams_keep_channels true rules channels has = bound rules.channels channels
    (rules.accept_authzid || (rules.reject_misplaced || rules.strict)) rules.accept_cbind_flag_y has
offered_scrams_keep_channels false rules channels has =
    let binds : T (is_some rules.channels) = subst (λ (z : Option ChannelBindings). T (is_some z)) (sym has) tt in (
      rejects rules.accept_authzid rules.reject_misplaced (is_some rules.channels) rules.strict binds,
      refuses rules.accept_cbind_flag_y (is_some rules.channels) binds,
    )
