-- Of a client that has a channel and a server that takes no `y,,`: equal AuthMessages are of one channel.
use Rattle.std.proofs.Common.{ℕ, List, ap, inl}
use Rattle.fe2o3_scram.specs.ChannelBinding.{TakesHeader, Gs2Header}
use Rattle.fe2o3_scram.specs.Credentials.{Provider}
use Rattle.fe2o3_scram.proofs.lemmas.messages.BoundChannelLemmas.{one_channel}
use Rattle.fe2o3_scram.proofs.lemmas.messages.StrictSideLemmas.{strict_of_channel}
use Rattle.fe2o3_sasl_core.specs.Events.{Given, ServerSays, login_header}
use Rattle.fe2o3_sasl_core.specs.Laws.{EqualMessagesBindOneChannel}
use Rattle.fe2o3_sasl_core.specs.ServerHistory.{Accepted, AcceptsAt, Open}
use Rattle.fe2o3_sasl_core.proofs.lemmas.two_sides.EqualMessageLemmas.{fits_open, is_challenging, same_messages}
use Rattle.fe2o3_sasl_core.proofs.lemmas.two_sides.StrictSideLemmas.{one_strict_side_is_enough}

-- the server took the header of the init that it answered
takes_header : (provider : Provider) (events : List Given) (replies : List ServerSays) (n : ℕ) (accepted : Accepted)
    → AcceptsAt provider events replies n accepted → TakesHeader provider.rules accepted.challenge.client.header
takes_header provider events replies n accepted is =
    let at = (fits_open provider (Open provider events replies n) is.1 accepted is.4).0.2 in
    (is_challenging provider at.0 at.1 accepted.challenge at.4).names.header

pub equal_messages_bind_one_channel : EqualMessagesBindOneChannel
equal_messages_bind_one_channel sides k n answer accepted kept bytes answers accepts has refuses same =
    let login = same_messages sides k n answer accepted kept answers accepts same in
    let apart = one_strict_side_is_enough sides k n answer accepted answers accepts
    (inl (strict_of_channel (login_header sides.login) sides.login.strict has)) in
    let found = one_channel sides.login.channel sides.provider.rules.channels sides.provider.rules.accept_cbind_flag_y
    accepted.challenge.client.header.flag has refuses (ap (λ (header : Gs2Header). header.flag) (login.header bytes apart))
    (takes_header sides.provider sides.server_events sides.server_replies n accepted accepts).0
    (login.channel bytes apart) in (
      found.0,
      found.1,
      record {
        channels = found.2.0;
        known = found.2.1;
        binds = found.2.2;
        kind = found.2.3;
        same = found.2.4;
      },
    )
