-- That a struct of a SCRAM server shows one GS2 header.
use Rattle.std.proofs.Common.{refl, sym, ap, ◌∙◌, ◌≡◌, ◌≢◌, ℕ}
use Rattle.std.specs.Prelude.{Option, Some, None, true, nat_eq, if◌then◌else◌}
use Rattle.fe2o3_scram.specs.ChannelBinding.{TakesFlag}
use Rattle.fe2o3_scram.specs.ServerFirst.{ServerChallenge}
use Rattle.fe2o3_scram.specs.declared.channel_binding.ChannelKind.TheVariants.{TlsUnique, TlsServerEndPoint, TlsExporter}
use Rattle.fe2o3_scram.specs.declared.scram_messages.channel_binding_flag.ChannelBindingFlag.{ChannelBindingFlag}
use Rattle.fe2o3_scram.specs.declared.scram_messages.channel_binding_flag.ChannelBindingFlag.TheVariants.{NotSupported, ClientSupports, Required}
use Rattle.fe2o3_scram.specs.declared.scram_messages.server_rules.ServerRules.{ServerRules}
use Rattle.sasl_c.specs.declared.server.ScramServer.{ScramServer as Struct}
use Rattle.sasl_c.specs.Server.{IsOpen, IsOpenFor, open_number}
use Rattle.sasl_c.proofs.StatusLemmas.{carried}

-- no other number is that of an open challenge
pub no_header : (state : ℕ) → state ≢ 1 → state ≢ 3 → state ≢ 7 → state ≢ 8 → state ≢ 9 → (header : ChannelBindingFlag)
    → open_number header ≢ state
no_header state one three seven eight nine NotSupported same = one (sym same)
no_header state one three seven eight nine ClientSupports same = three (sym same)
no_header state one three seven eight nine (Required TlsUnique) same = seven (sym same)
no_header state one three seven eight nine (Required TlsServerEndPoint) same = eight (sym same)
no_header state one three seven eight nine (Required TlsExporter) same = nine (sym same)

-- the flag of a number
pub flag_at_number : ℕ → Option ChannelBindingFlag
flag_at_number state = if nat_eq state 1 then Some NotSupported else
    if nat_eq state 3 then Some ClientSupports else
    if nat_eq state 7 then Some (Required TlsUnique) else
    if nat_eq state 8 then Some (Required TlsServerEndPoint) else
    if nat_eq state 9 then Some (Required TlsExporter) else None

pub read_again : (header : ChannelBindingFlag) → flag_at_number (open_number header) ≡ Some header
unfolding flag_at_number
read_again NotSupported = refl
read_again ClientSupports = refl
read_again (Required TlsUnique) = refl
read_again (Required TlsServerEndPoint) = refl
read_again (Required TlsExporter) = refl

-- two open challenges of a struct have one flag
pub one_header : (server : Struct) (challenge other : ServerChallenge) → IsOpen server challenge → IsOpen server other
    → other.header.flag ≡ challenge.header.flag
one_header server challenge other shown too =
    let same : Some other.header.flag ≡ Some challenge.header.flag = sym (read_again other.header.flag)
    ∙ ap flag_at_number (sym too.0 ∙ shown.0) ∙ read_again challenge.header.flag in
    cc

pub never_for : (rules : ServerRules) (server : Struct) (challenge : ServerChallenge) → IsOpen server challenge
    → ¬ TakesFlag rules.channels true challenge.header.flag → (other : ServerChallenge) → ¬ IsOpenFor rules server other
never_for rules server challenge shown refused other too =
    refused (carried (TakesFlag rules.channels true) other.header.flag challenge.header.flag
    (one_header server challenge other shown too.0) too.1)
