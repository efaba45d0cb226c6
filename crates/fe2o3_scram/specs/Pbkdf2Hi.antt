-- The salted password: Hi of RFC 5802, section 2.2, which is PBKDF2 with one block of output (RFC 8018, section 5.2).
use Rattle.std.specs.Prelude.{ℕ, zero, suc, List, [], ◌∷◌, ◌++◌}
use Rattle.fe2o3_scram.specs.declared.hmac.ScramVersion.{ScramVersion}
use Rattle.fe2o3_scram.specs.Hmac.{hmac_of, exclusive_or}

-- U(n) (RFC 5802, section 2.2), for n from 1: the HMAC of the salt followed by the number 1 in four bytes, and from
-- then on of the U before
unfoldable pub round_of : ScramVersion → List ℕ → List ℕ → ℕ → List ℕ
round_of version password salt zero = []
round_of version password salt (suc zero) = hmac_of version password (salt ++ 0 ∷ 0 ∷ 0 ∷ 1 ∷ [])
round_of version password salt (suc (suc n)) = hmac_of version password (round_of version password salt (suc n))

-- Hi(password, salt, n) (RFC 5802, section 2.2), for n from 1: U(1) XOR .. XOR U(n)
unfoldable pub salted_of : ScramVersion → List ℕ → List ℕ → ℕ → List ℕ
salted_of version password salt zero = []
salted_of version password salt (suc zero) = round_of version password salt 1
salted_of version password salt (suc (suc n)) = exclusive_or (salted_of version password salt (suc n))
    (round_of version password salt (suc (suc n)))
