use Rattle.std.proofs.Common.{rules, refl, inl, inr, ◌≡◌, ◌≢◌}
use Rattle.std.proofs.lemmas.Result.{err_from_is_err_and}
use Rattle.fe2o3_scram.specs.ChannelBinding.{cbind_input}
use Rattle.fe2o3_scram.proofs.lemmas.messages.ClientFinalLemmas.{no_binding, has_binding, other_bytes, reaches_binding, this_binding}
use Rattle.fe2o3_scram.proofs.scram_messages.client_final_reading.test_binding.Goals as goal

pub returns-then-is_header_alone-clause-tested : goal.returns-then-is_header_alone-clause-tested
returns-then-is_header_alone-clause-tested c =
    let has = this_binding c.args.header.now c.args.client_final.now c.in-Some.base64_binding.now
    (c.is_header_alone.ensures.unbound c.if-is_header_alone.true) c.in-Some.ensures
    (c.is_header_alone.ensures.same c.if-is_header_alone.true) in (
      λ none. none c.in-Some.base64_binding.now c.in-Some.ensures,
      (λ none. none (cbind_input c.args.header.now) has, (λ other. other has, tt)),
    )

pub returns-then-is_header_alone-clause-bound : goal.returns-then-is_header_alone-clause-bound
returns-then-is_header_alone-clause-bound c =
    this_binding c.args.header.now c.args.client_final.now c.in-Some.base64_binding.now
    (c.is_header_alone.ensures.unbound c.if-is_header_alone.true) c.in-Some.ensures
    (c.is_header_alone.ensures.same c.if-is_header_alone.true)

pub returns-in_err-binding-clause-memory : goal.returns-in_err-binding-clause-memory
returns-in_err-binding-clause-memory c =
    let from = err_from_is_err_and c.from_residual.result c.from_residual.ensures.1 in
    rw (from.1, from.2) (λ _. reaches_binding c.args.header.now c.args.client_final.now
    c.in-Some.base64_binding.now c.in-Some.ensures (c.is_header_alone.ensures.other c.if-is_header_alone.false))

pub returns-in_err-is_expected-clause-memory : goal.returns-in_err-is_expected-clause-memory
returns-in_err-is_expected-clause-memory c =
    let from = err_from_is_err_and c.from_residual-in_err-is_expected.result c.from_residual-in_err-is_expected.ensures.1 in
    rw (from.1, from.2) (λ _. reaches_binding c.args.header.now c.args.client_final.now
    c.in-Some.base64_binding.now c.in-Some.ensures (c.is_header_alone.ensures.other c.if-is_header_alone.false))

pub returns-in_default-2-clause-err : goal.returns-in_default-2-clause-err
returns-in_default-2-clause-err c =
    let spelling = c.in-Some.base64_binding.now in
    λ _. inr (
      λ none. none spelling c.in-Some.ensures,
      inl (
        no_binding c.args.client_final.now spelling c.in-Some.ensures
            (rw c.in_default-2.is at c.in_ok-binding.ensures),
        refl,
      ),
    )

pub returns-then-not-is_expected-clause-err : goal.returns-then-not-is_expected-clause-err
returns-then-not-is_expected-clause-err c =
    let spelling = c.in-Some.base64_binding.now in
    let bytes = c.in-Some-2.binding.items in
    let spells = rw c.in-Some-2.is at c.in_ok-binding.ensures in
    let differs : bytes ≢ cbind_input c.args.header.now = search rules in
    λ _. inr (
      λ none. none spelling c.in-Some.ensures,
      inr (
        λ none. none bytes (has_binding c.args.client_final.now spelling bytes c.in-Some.ensures spells),
        inl (
          other_bytes c.args.header.now c.args.client_final.now spelling bytes c.in-Some.ensures spells differs,
          refl,
        ),
      ),
    )

pub returns-clause-tested : goal.returns-clause-tested
returns-clause-tested c =
    let spelling = c.in-Some.base64_binding.now in
    let bytes = c.in-Some-2.binding.items in
    let spells = rw c.in-Some-2.is at c.in_ok-binding.ensures in
    let same : bytes ≡ cbind_input c.args.header.now = search rules in
    let has = rw same at (has_binding c.args.client_final.now spelling bytes c.in-Some.ensures spells) in (
      λ none. none spelling c.in-Some.ensures,
      (λ none. none (cbind_input c.args.header.now) has, (λ other. other has, tt)),
    )
