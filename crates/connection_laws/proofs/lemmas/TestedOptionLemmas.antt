-- What the options of both sides say before a login: `tested_options_reject`.
use Rattle.std.proofs.Common.{◌⊎◌, Bool, true, false, sym, subst, inl, inr}
use Rattle.std.specs.Prelude.{◌||◌, T, is_some}
use Rattle.fe2o3_scram.specs.ChannelBinding.{has_channel, is_strict}
use Rattle.fe2o3_scram.specs.declared.scram_messages.server_rules.ServerRules.{ServerRules}
use Rattle.fe2o3_sasl_core.specs.Servers.{rules_by, settings_with}
use Rattle.fe2o3_sasl.specs.Agreement.{client_rejects, server_rejects}
use Rattle.connection_laws.specs.ServerPairs.{TestedOptionsReject}

-- one of two is so
one_of : (a b : Bool) → T (a || b) → T a ⊎ T b
one_of true b is = inl tt
one_of false b is = inr is

-- a server that rejects misplaced attributes by its options does so with -PLUS and without
server_strict : (plus : Bool) (rules : ServerRules) → T (rules.accept_authzid || (rules.reject_misplaced || rules.strict))
    → T (is_strict (rules_by plus rules))
server_strict true rules is = go (rules.accept_authzid || (rules.reject_misplaced || rules.strict)) (is_some rules.channels) is
  where
    go : (set binds : Bool) → T set → T (binds || set)
    go set true is = tt
    go set false is = is
server_strict false rules is =
    go rules.accept_authzid rules.reject_misplaced rules.strict (is_some rules.channels) is
  where
    go : (accepts rejects strict binds : Bool) → T (accepts || (rejects || strict))
        → T (accepts || ((rejects || binds) || strict))
    go true rejects strict binds is = tt
    go false true strict binds is = tt
    go false false strict true is = tt
    go false false strict false is = is

-- a client that rejects them by its options does so, whether it names an identity or not
client_strict : (has names strict : Bool) → T (has || strict) → T ((has || names) || strict)
client_strict true names strict is = tt
client_strict false true strict is = tt
client_strict false false strict is = is

pub tested_options_reject : TestedOptionsReject
tested_options_reject options chosen is records transport login version plus strict channel =
    elim (one_of (server_rejects options) (client_rejects chosen) (subst T (sym is) tt)) [
      | inl server ↦ inr (server_strict plus (settings_with records options transport).rules server)
      | inr client ↦
          inl (client_strict (has_channel login.channel) (is_some login.acts_for) login.strict
          (subst (λ channel. T (has_channel channel || login.strict)) (sym channel)
          (subst (λ strict. T (has_channel chosen.channel || strict)) (sym strict) client)))
    ]
