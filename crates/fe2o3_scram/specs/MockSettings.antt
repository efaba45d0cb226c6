-- The mock record of a name, by which a server answers an unknown user like a known one. RFC 5802 leaves open what a
-- server answers to an unknown user.
use Rattle.std.specs.Prelude.{ℕ, List, ◌++◌, Option, Some, None, codes, option_map, take}
use Rattle.fe2o3_scram.specs.declared.hmac.ScramVersion.{ScramVersion}
use Rattle.fe2o3_scram.specs.declared.hmac.ScramVersion.TheVariants.{Sha512}
use Rattle.fe2o3_scram.specs.Credentials.{Record, Provider}
use Rattle.fe2o3_scram.specs.Hmac.{hmac_of, mechanism_name}

-- what the mock records of a server have in common
pub record MockSettings : Type 0 where
  pub version : ScramVersion
  pub secret : List ℕ
  pub salt_len : ℕ
  pub count : ℕ

-- the mock record of a name: its salt and its two keys are HMAC values (RFC 2104, section 2) of the name under the
-- secret, after three labels. The label of the salt has the mechanism's name, so that a name has another salt under each
-- mechanism; no name of a mechanism has a colon. The salt is of SHA-512 for each version, so that it may be longer than a
-- digest of the version
abbrev pub mock_record : MockSettings → List ℕ → Record
mock_record mock name = record {
  salt = take mock.salt_len (hmac_of Sha512 mock.secret
      (codes "Salt:" ++ (mechanism_name mock.version ++ (codes ":" ++ name))));
  count = mock.count;
  stored_key = hmac_of mock.version mock.secret (codes "StoredKey:" ++ name);
  server_key = hmac_of mock.version mock.secret (codes "ServerKey:" ++ name);
}

-- a stored record, or this mock record if there is none
abbrev pub stored_or : Option Record → Option Record → Option Record
stored_or (Some mock) None = Some mock
stored_or mock stored = stored

-- the HMAC values of one look-up: with mock authentication those of a mock record, for a known user too
abbrev pub mock_cost : Option MockSettings → ℕ
mock_cost None = 0
mock_cost (Some mock) = 3

-- the provider with mock authentication, if it is set: a name without a record has its mock record
abbrev pub mocking : Option MockSettings → Provider → Provider
mocking settings provider = record {
  version = provider.version;
  records = λ name. stored_or (option_map (λ mock. mock_record mock name) settings) (provider.records name);
  look_up_cost = mock_cost settings;
  rules = provider.rules;
  rights = provider.rights;
}
