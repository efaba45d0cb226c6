-- The keys, the proof and the signature of SCRAM, under the names of RFC 5802, section 3.
use Rattle.std.specs.Prelude.{ℕ, List, [], ◌∷◌, ◌≡◌, ◌≢◌, ◌+◌, codes, length, Result, MatchResult}
use Rattle.fe2o3_scram.specs.declared.hmac.ScramVersion.{ScramVersion}
use Rattle.fe2o3_scram.specs.Hmac.{digest, digest_len, hmac_of, exclusive_or}
use Rattle.fe2o3_scram.specs.Texts.{joined}

-- ClientKey := HMAC(SaltedPassword, "Client Key") (RFC 5802, section 3)
abbrev pub client_key : ScramVersion → List ℕ → List ℕ
client_key version salted = hmac_of version salted (codes "Client Key")

-- StoredKey := H(ClientKey) (RFC 5802, section 3)
abbrev pub stored_key : ScramVersion → List ℕ → List ℕ
stored_key version key = digest version key

-- ServerKey := HMAC(SaltedPassword, "Server Key") (RFC 5802, section 3)
abbrev pub server_key : ScramVersion → List ℕ → List ℕ
server_key version salted = hmac_of version salted (codes "Server Key")

-- AuthMessage := client-first-message-bare + "," + server-first-message + "," +
-- client-final-message-without-proof, as they were sent (RFC 5802, section 3)
abbrev pub auth_message : List ℕ → List ℕ → List ℕ → List ℕ
auth_message bare first without_proof = joined (bare ∷ first ∷ without_proof ∷ [])

-- ClientSignature := HMAC(StoredKey, AuthMessage) (RFC 5802, section 3)
abbrev pub client_signature : ScramVersion → List ℕ → List ℕ → List ℕ
client_signature version stored auth = hmac_of version stored auth

-- ClientProof := ClientKey XOR ClientSignature, from the ClientKey and the AuthMessage (RFC 5802, section 3), where
-- ClientSignature := HMAC(StoredKey, AuthMessage) and StoredKey := H(ClientKey)
abbrev pub client_proof : ScramVersion → List ℕ → List ℕ → List ℕ
client_proof version key auth = exclusive_or key (hmac_of version (digest version key) auth)

-- the key that a server recovers from a proof: ClientProof XOR HMAC(StoredKey, AuthMessage), from the StoredKey, the
-- ClientProof and the AuthMessage (RFC 5802, section 3)
abbrev pub recovered_client_key : ScramVersion → List ℕ → List ℕ → List ℕ → List ℕ
recovered_client_key version stored proof auth = exclusive_or proof (hmac_of version stored auth)

-- the call returns a value, of which this holds, exactly if the input of its XOR is as long as a digest
abbrev pub OkWhereSized : {X F : Type 0} → ScramVersion → List ℕ → Result X F → (X → Type 0) → Type 0
OkWhereSized version text result P = MatchResult result (λ value. (length text ≡ digest_len version) × P value)
    (λ _. length text ≢ digest_len version)

-- a meter before and after the call: one HMAC value if it returns a value, and none for an error
abbrev pub CostsOne : {X F : Type 0} → Result X F → ℕ → ℕ → Type 0
CostsOne result before after = MatchResult result (λ _. after ≡ before + 1) (λ _. after ≡ before)

-- the proof meets the StoredKey (RFC 5802, section 3): the ClientKey that is recovered from it has H(ClientKey) =
-- StoredKey
abbrev pub MeetsStoredKey : ScramVersion → List ℕ → List ℕ → List ℕ → Type 0
MeetsStoredKey version stored proof auth = digest version (recovered_client_key version stored proof auth) ≡ stored

-- ServerSignature := HMAC(ServerKey, AuthMessage) (RFC 5802, section 3)
abbrev pub server_signature : ScramVersion → List ℕ → List ℕ → List ℕ
server_signature version key auth = hmac_of version key auth
