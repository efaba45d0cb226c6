use Rattle.std.proofs.Common.{◌++◌, Bool, true, false, not, ◌≡◌, refl, sym}
use Rattle.std.specs.Prelude.{◌↔◌, IsTrue}
use Rattle.fe2o3_scram.specs.Grammar.{is_nonce}
use Rattle.fe2o3_scram.specs.ServerFirst.{AddsNoNonce}
use Rattle.fe2o3_scram.proofs.lemmas.messages.ServerFirstLemmas.{adds_none, adds_one, adds_to_no_other}
use Rattle.fe2o3_scram.proofs.scram_messages.server_first_reading.adds_no_nonce.Goals as goal

pub returns-in_default : goal.returns-in_default
returns-in_default c =
    (λ wrong. absurd (cc), λ has. absurd (c.in_default.ensures (c.args.client_nonce.now ++ has.0) has.1))

pub returns-in_default-after : goal.returns-in_default-after
returns-in_default-after c = (
  λ wrong. absurd (cc),
  λ has. absurd (adds_to_no_other c.args.server_first.now c.args.client_nonce.now c.in-Some.nonce.now c.in-Some.ensures
      c.in_default-after.ensures has),
)

pub returns : goal.returns
returns c = go c.is_nonce.result (rw c.as_bytes.ensures.value at c.is_nonce.ensures)
  where
    go : (one : Bool) → one ≡ is_nonce c.in-Some-after.added.now
        → IsTrue (not one) ↔ AddsNoNonce c.args.client_nonce.now c.args.server_first.now
    go true is = (
      λ wrong. absurd (cc),
      λ has. absurd (adds_one c.args.server_first.now c.args.client_nonce.now c.in-Some.nonce.now c.in-Some-after.added.now
          c.in-Some.ensures c.in-Some-after.ensures (sym is) has),
    )
    go false is = (
      λ _. adds_none c.args.server_first.now c.args.client_nonce.now c.in-Some.nonce.now c.in-Some-after.added.now
          c.in-Some.ensures c.in-Some-after.ensures (sym is),
      λ _. refl,
    )
