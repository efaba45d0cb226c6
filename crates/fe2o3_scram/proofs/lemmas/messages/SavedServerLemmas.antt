-- An open challenge, its record, who has logged in, and for whom it acts are all of a server's state.
use Rattle.std.proofs.Common.{◌≡◌, refl}
use Rattle.fe2o3_scram.specs.ScramServer.{Initial, ServerFirstSent, ServerFinalSent, StatesAreReported}

pub states_are_reported : StatesAreReported
states_are_reported Initial Initial challenge stored user acts_for = refl
states_are_reported Initial (ServerFirstSent other kept) challenge stored user acts_for = absurd (cc)
states_are_reported Initial (ServerFinalSent other its) challenge stored user acts_for = absurd (cc)
states_are_reported (ServerFirstSent one own) Initial challenge stored user acts_for = absurd (cc)
states_are_reported (ServerFirstSent one own) (ServerFirstSent other kept) challenge stored user acts_for =
    let same : one ≡ other = cc in
    let record_too : own ≡ kept = cc in
    λ i. ServerFirstSent (same i) (record_too i)
states_are_reported (ServerFirstSent one own) (ServerFinalSent other its) challenge stored user acts_for = absurd (cc)
states_are_reported (ServerFinalSent name own) Initial challenge stored user acts_for = absurd (cc)
states_are_reported (ServerFinalSent name own) (ServerFirstSent other kept) challenge stored user acts_for = absurd (cc)
states_are_reported (ServerFinalSent name own) (ServerFinalSent other its) challenge stored user acts_for =
    let same : name ≡ other = cc in
    λ i. ServerFinalSent (same i) (acts_for i)
