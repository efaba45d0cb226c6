-- Mock authentication of a server of several hashes.
use Rattle.std.specs.Prelude.{ℕ, List, Option, Some, None}
use Rattle.fe2o3_scram.specs.MockSettings.{MockSettings}
use Rattle.fe2o3_scram.specs.declared.hmac.ScramVersion.{ScramVersion}

-- settings of mock authentication for every hash: the secret, the length of a salt, and the iteration count
pub record MockChoice : Type 0 where
  pub secret : List ℕ
  pub salt_len : ℕ
  pub count : ℕ

-- those settings for one hash
abbrev pub mock_for : ScramVersion → MockChoice → MockSettings
mock_for version mock = record {
  version = version;
  secret = mock.secret;
  salt_len = mock.salt_len;
  count = mock.count;
}

-- the iteration count by which PLAIN answers an unknown user
abbrev pub count_of_unknown : Option ℕ → Option MockChoice → ℕ
count_of_unknown (Some count) mock = count
count_of_unknown None None = 4096
count_of_unknown None (Some mock) = mock.count
