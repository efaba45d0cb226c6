use Rattle.std.proofs.Common.{◌≡◌, ◌++◌, Bool, true, false, codes, refl, sym, ◌∙◌, subst, inl, inr}
use Rattle.fe2o3_scram.specs.Grammar.{HasMisplacedFrom}
use Rattle.fe2o3_scram.specs.Texts.{LastPart}
use Rattle.fe2o3_scram.proofs.lemmas.texts.CutLemmas.{one_last_cut}
use Rattle.fe2o3_scram.proofs.lemmas.messages.ClientFinalLemmas.{no_proof, has_proof, proof_part, unread_proof}
use Rattle.fe2o3_scram.proofs.scram_messages.client_final_reading.read_proof.Goals as goal

pub returns-in_default-after-clause-err : goal.returns-in_default-after-clause-err
returns-in_default-after-clause-err c =
    λ _. inl (
      no_proof c.args.client_final.now c.in-Some.without_proof.now c.in-Some.last.now c.in-Some.ensures
          c.in_default-after.ensures,
      refl,
    )

pub returns-in_default-2-clause-err : goal.returns-in_default-2-clause-err
returns-in_default-2-clause-err c =
    let spelling = c.in-Some-after.base64_proof.now in
    λ _. inr (
      proof_part c.args.client_final.now c.in-Some.without_proof.now c.in-Some.last.now spelling c.in-Some.ensures
          c.in-Some-after.ensures,
      inl (
        unread_proof c.args.client_final.now c.in-Some.without_proof.now c.in-Some.last.now spelling
            c.in-Some.ensures c.in-Some-after.ensures (rw c.in_default-2.is at c.in_ok-proof.ensures),
        refl,
      ),
    )

pub returns-then-is_misplaced-clause-err : goal.returns-then-is_misplaced-clause-err
returns-then-is_misplaced-clause-err c =
    let without = c.in-Some.without_proof.now in
    let spelling = c.in-Some-after.base64_proof.now in
    let proof = c.in-Some-2.proof.items in
    let has = has_proof c.args.client_final.now without c.in-Some.last.now spelling proof c.in-Some.ensures
    c.in-Some-after.ensures (rw c.in-Some-2.is at c.in_ok-proof.ensures) in
    let found = c.is_misplaced.ensures.0 c.if-is_misplaced.true in
    λ _. inr (
      proof_part c.args.client_final.now without c.in-Some.last.now spelling c.in-Some.ensures c.in-Some-after.ensures,
      inr (
        λ none. none (record { without = without; proof = proof }) has,
        inl (
          (
            found.0,
            (
              without,
              spelling,
              subst (LastPart c.args.client_final.now without) c.in-Some-after.ensures c.in-Some.ensures,
              found.1,
            ),
          ),
          refl,
        ),
      ),
    )

pub returns-clause-tested : goal.returns-clause-tested
returns-clause-tested c =
    let without = c.in-Some.without_proof.now in
    let spelling = c.in-Some-after.base64_proof.now in
    let proof = c.in-Some-2.proof.items in
    let has = has_proof c.args.client_final.now without c.in-Some.last.now spelling proof c.in-Some.ensures
    c.in-Some-after.ensures (rw c.in-Some-2.is at c.in_ok-proof.ensures) in (
      proof_part c.args.client_final.now without c.in-Some.last.now spelling c.in-Some.ensures c.in-Some-after.ensures,
      (
        λ none. none (record { without = without; proof = proof }) has,
        (
          λ wrong.
              let placed = subst (HasMisplacedFrom 2) (one_last_cut 44 c.args.client_final.now wrong.1.0
              (codes "p=" ++ wrong.1.1) without c.in-Some.last.now wrong.1.2 c.in-Some.ensures).0 wrong.1.3 in
              let yes : ◌≡◌ {A = Bool} false true =
              sym c.if-is_misplaced.false ∙ c.is_misplaced.ensures.1 (wrong.0, placed) in absurd (cc),
          tt,
        ),
      ),
    )

pub returns-clause-named : goal.returns-clause-named
returns-clause-named c =
    has_proof c.args.client_final.now c.in-Some.without_proof.now c.in-Some.last.now c.in-Some-after.base64_proof.now
    c.in-Some-2.proof.items c.in-Some.ensures c.in-Some-after.ensures (rw c.in-Some-2.is at c.in_ok-proof.ensures)
