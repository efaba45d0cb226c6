-- Calls that are enough for several units finish one unit after the other.
use Rattle.std.proofs.Common.{◌⊎◌, ℕ, suc, ◌+◌, ◌-◌, ◌<◌, ◌≤◌, List, [], ◌∷◌, length, refl, inl, inr, arith}
use Rattle.std.specs.List.{AllByRecursion}
use Rattle.std.proofs.lemmas.Bool.{cases_lt}
use Rattle.fe2o3_sasl_negotiation.specs.Laws.{Call}
use Rattle.connection_laws.specs.JoinedSides.{AreEnough}
use Rattle.connection_laws.specs.Unaltered.{HasNonce, IsNonce}
use Rattle.connection_laws.proofs.lemmas.CompletingCallLemmas.{Finishes}

-- the calls take n bytes, and those after that are enough for this many bytes and units
pub record Finished (n : ℕ) (calls : List Call) (bytes units : ℕ) : Type 0 where
  pub nonce : List ℕ
  pub after : List Call
  pub finishes : Finishes calls n nonce after
  pub long : IsNonce nonce
  pub longs : AllByRecursion HasNonce after
  pub enough : AreEnough bytes units after

by_bytes : (calls : List Call) (n bytes units : ℕ) → 1 ≤ n → AllByRecursion HasNonce calls
    → AllByRecursion (λ (call : Call). 1 ≤ call.handed) calls → n + bytes ≤ length calls → Finished n calls bytes units
by_bytes [] n bytes units some longs passed many = absurd (omega (arith, some, many))
by_bytes (call ∷ calls) n bytes units some longs passed many = go (cases_lt call.handed n)
    (λ (few : call.handed < n). by_bytes calls (n - call.handed) bytes units (omega (arith, few)) longs.1 passed.1
    (omega (arith, few, passed.0, many)))
  where
    go : (call.handed < n) ⊎ (n ≤ call.handed)
        → (call.handed < n → Finished (n - call.handed) calls bytes units) → Finished n (call ∷ calls) bytes units
    go (inr enough) later = record {
      nonce = call.nonce;
      after = calls;
      finishes = inl (enough, refl, refl);
      long = longs.0;
      longs = longs.1;
      enough = inl (passed.1, omega (arith, some, many));
    }
    go (inl few) later =
        let rest = later few in
        record {
          nonce = rest.nonce;
          after = rest.after;
          finishes = inr (few, rest.finishes);
          long = rest.long;
          longs = rest.longs;
          enough = rest.enough;
        }

-- a unit of n bytes, which is at most this many
pub finish : (n most bytes units : ℕ) (calls : List Call) → 1 ≤ n → n ≤ most → most ≤ 512
    → AllByRecursion HasNonce calls → AreEnough (most + bytes) (suc units) calls → Finished n calls bytes units
finish n most bytes units calls some few small longs (inl (passed, many)) =
    by_bytes calls n bytes units some longs passed (omega (arith, few, many))
finish n most bytes units [] some few small longs (inr (passed, many)) = absurd (omega (arith, many))
finish n most bytes units (call ∷ calls) some few small longs (inr (passed, many)) = record {
  nonce = call.nonce;
  after = calls;
  finishes = inl (omega (arith, passed.0, few, small), refl, refl);
  long = longs.0;
  longs = longs.1;
  enough = inr (passed.1, omega (arith, many));
}
