-- The rounds of Hi, as a loop that counts up from 1 meets them.
use Rattle.std.proofs.Common.{◌≡◌, ℕ, zero, suc, ◌+◌, ◌≤◌, List, [], ◌∷◌, ◌++◌, refl, sym, ap, ◌∙◌, arith, add-one}
use Rattle.fe2o3_scram.specs.declared.hmac.ScramVersion.{ScramVersion}
use Rattle.fe2o3_scram.specs.Hmac.{hmac_of, exclusive_or}
use Rattle.fe2o3_scram.specs.Pbkdf2Hi.{round_of, salted_of}

pub round_of-one : (v : ScramVersion) (password salt : List ℕ)
    → round_of v password salt 1 ≡ hmac_of v password (salt ++ 0 ∷ 0 ∷ 0 ∷ 1 ∷ [])
unfolding round_of
round_of-one v password salt = refl

pub salted_of-one : (v : ScramVersion) (password salt : List ℕ)
    → salted_of v password salt 1 ≡ round_of v password salt 1
unfolding salted_of
salted_of-one v password salt = refl

pub round_of-next : (v : ScramVersion) (password salt : List ℕ) (n : ℕ) → 1 ≤ n
    → round_of v password salt (n + 1) ≡ hmac_of v password (round_of v password salt n)
unfolding round_of
round_of-next v password salt zero from = absurd (omega (arith, from))
round_of-next v password salt (suc n) from = rw add-one refl

pub salted_of-next : (v : ScramVersion) (password salt : List ℕ) (n : ℕ) → 1 ≤ n
    → salted_of v password salt (n + 1) ≡ exclusive_or (salted_of v password salt n) (round_of v password salt (n + 1))
unfolding salted_of
salted_of-next v password salt zero from = absurd (omega (arith, from))
salted_of-next v password salt (suc n) from = rw add-one refl

-- the value of one more round, whose message is the round before
pub next_round : (v : ScramVersion) (password salt round value : List ℕ) (n : ℕ) → 1 ≤ n
    → round ≡ round_of v password salt n → value ≡ hmac_of v password round
    → value ≡ round_of v password salt (n + 1)
next_round v password salt round value n from is made =
    made ∙ ap (hmac_of v password) is ∙ sym (round_of-next v password salt n from)

-- and the sum with it
pub next_salted : (v : ScramVersion) (password salt salted round sum : List ℕ) (n : ℕ) → 1 ≤ n
    → salted ≡ salted_of v password salt n → round ≡ round_of v password salt (n + 1)
    → sum ≡ exclusive_or salted round → sum ≡ salted_of v password salt (n + 1)
next_salted v password salt salted round sum n from is too made =
    made ∙ ap (λ (front : List ℕ). exclusive_or front round) is
    ∙ ap (exclusive_or (salted_of v password salt n)) too ∙ sym (salted_of-next v password salt n from)

pub ruleset rounds = (round_of-one, salted_of-one, round_of-next, salted_of-next)
