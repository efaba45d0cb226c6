use Rattle.std.proofs.Common.{arith, sym}
use Rattle.sasl_c.specs.Records.{RecordHasRoom}
use Rattle.sasl_c.proofs.RoomLemmas.{mock_has_room}
use Rattle.sasl_c.proofs.StatusLemmas.{carried}
use Rattle.sasl_c.proofs.records.compute_mock.Goals as goal

pub returns : goal.returns
returns c =
    let room = mock_has_room c.in_ok-version.version c.args.secret.now c.in_ok-username.username.now
    c.args.salt_len c.args.iterations (omega arith) in
    absurd (c.in-None.ensures (carried RecordHasRoom _ c.in-Ok.kept (sym c.in-Ok.ensures.record) room))
