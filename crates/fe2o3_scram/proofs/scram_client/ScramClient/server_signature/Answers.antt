use Rattle.std.proofs.Common.{refl}
use Rattle.fe2o3_scram.proofs.scram_client.ScramClient.server_signature.Goals as goal

pub returns-in-ClientFinalSent : goal.returns-in-ClientFinalSent
returns-in-ClientFinalSent c =
    (c.self.inside.keys, rw (← c.self.view_is, c.in-ClientFinalSent.is, c.deref.ensures.value) refl)
