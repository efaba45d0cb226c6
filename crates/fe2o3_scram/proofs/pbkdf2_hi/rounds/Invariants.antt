use Rattle.std.proofs.Common.{◌≡◌, ◌+◌, ℕ, List}
use Rattle.fe2o3_scram.specs.Pbkdf2Hi.{round_of, salted_of}
use Rattle.fe2o3_scram.specs.private.Hashers.{HasPads}
use Rattle.fe2o3_scram.proofs.pbkdf2_hi.rounds.Given as goal

abbrev pub invariant-loop-done : goal.invariant-loop-done
invariant-loop-done g l = record {
  round : (key : List ℕ) → HasPads g.H.Hasher.has_taken g.H.Hasher.hash l.password.inner l.password.outer key
      → l.round ≡ round_of g.H.Hasher.hash key l.salt l._done;
  salted : (key : List ℕ) → HasPads g.H.Hasher.has_taken g.H.Hasher.hash l.password.inner l.password.outer key
      → l.sum ≡ salted_of g.H.Hasher.hash key l.salt l._done;
  counted : l.meter ≡ l.fn.meter + l._done;
}
