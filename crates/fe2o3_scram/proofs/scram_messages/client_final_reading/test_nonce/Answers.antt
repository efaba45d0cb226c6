use Rattle.std.proofs.Common.{rules, refl, inl, inr, codes, ◌≡◌, ◌++◌, List, ℕ, subst}
use Rattle.fe2o3_scram.specs.Texts.{Part}
use Rattle.fe2o3_scram.proofs.lemmas.messages.ClientFinalLemmas.{other_nonce}
use Rattle.fe2o3_scram.proofs.scram_messages.client_final_reading.test_nonce.Goals as goal

pub returns-then-ne-clause-err : goal.returns-then-ne-clause-err
returns-then-ne-clause-err c =
    let named = c.in-Some.nonce.now in
    inr (
      λ none. none named c.in-Some.ensures,
      inl (
        other_nonce c.args.client_final.now named c.args.client_server_nonce.now c.in-Some.ensures (search rules),
        refl,
      ),
    )

pub returns-clause-tested : goal.returns-clause-tested
returns-clause-tested c =
    let named = c.in-Some.nonce.now in
    let same : named ≡ c.args.client_server_nonce.now = search rules in (
      λ none. none named c.in-Some.ensures,
      (
        λ other. other (subst (λ (nonce : List ℕ). Part c.args.client_final.now 1 (codes "r=" ++ nonce)) same
            c.in-Some.ensures),
        tt,
      ),
    )
