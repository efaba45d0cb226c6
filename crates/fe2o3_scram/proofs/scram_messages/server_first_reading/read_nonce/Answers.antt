use Rattle.std.proofs.Common.{refl, inl, inr}
use Rattle.fe2o3_scram.proofs.lemmas.messages.ServerFirstLemmas.{other_nonce, same_nonce}
use Rattle.fe2o3_scram.proofs.scram_messages.server_first_reading.read_nonce.Goals as goal

pub returns-in-Some-attribute-clause-err : goal.returns-in-Some-attribute-clause-err
returns-in-Some-attribute-clause-err c =
    inr (
      λ few. few c.in-Some.field-0.now c.in-Some.ensures,
      inl ((c.in-Some-attribute.field-0.now, c.in-Some-attribute.ensures), refl),
    )

pub returns-in_default-attribute-2-clause-err : goal.returns-in_default-attribute-2-clause-err
returns-in_default-attribute-2-clause-err c =
    inr (
      λ few. few c.in-Some.field-0.now c.in-Some.ensures,
      inr (λ has. c.in_default-attribute.ensures has.0 has.1, inl (c.in_default-attribute-2.ensures, refl)),
    )

pub returns-in_default-after-clause-err : goal.returns-in_default-after-clause-err
returns-in_default-after-clause-err c =
    let nonce = c.in-Some-attribute-2.nonce.now in
    inr (
      λ few. few c.in-Some.field-0.now c.in-Some.ensures,
      inr (
        λ has. c.in_default-attribute.ensures has.0 has.1,
        inr (
          λ none. none nonce c.in-Some-attribute-2.ensures,
          inl (
            other_nonce c.args.server_first.now c.args.client_nonce.now nonce c.in-Some-attribute-2.ensures
                c.in_default-after.ensures,
            refl,
          ),
        ),
      ),
    )

pub returns-clause-tested : goal.returns-clause-tested
returns-clause-tested c =
    let nonce = c.in-Some-attribute-2.nonce.now in (
      λ few. few c.in-Some.field-0.now c.in-Some.ensures,
      (
        λ has. c.in_default-attribute.ensures has.0 has.1,
        (
          λ none. none nonce c.in-Some-attribute-2.ensures,
          (
            same_nonce c.args.server_first.now c.args.client_nonce.now nonce c.in-Some-after.field-0.now
                c.in-Some-attribute-2.ensures c.in-Some-after.ensures,
            tt,
          ),
        ),
      ),
    )
