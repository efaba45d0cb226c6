use Rattle.std.proofs.Common.{refl, string_bytes}
use Rattle.scram_lib.proofs.RightLemmas.{no_identity, no_user, not_so}
use Rattle.scram_lib.proofs.rights.word_of.Goals as goal

pub returns-in-Err-clause-err : goal.returns-in-Err-clause-err
returns-in-Err-clause-err c = λ other.
    let wrong = c.in-Err.ensures.err other in
    (wrong.0, no_user c.args.line.now c.in-Some.user.now c.in-Some.identity.now c.in-Some.ensures wrong.1)

pub returns-in-Err-unescaped-clause-err : goal.returns-in-Err-unescaped-clause-err
returns-in-Err-unescaped-clause-err c = λ other.
    let wrong = c.in-Err-unescaped.ensures.err other in
    (wrong.0, no_identity c.args.line.now c.in-Some.user.now c.in-Some.identity.now c.in-Some.ensures wrong.1)

pub returns-then-not-is_right-clause-err : goal.returns-then-not-is_right-clause-err
returns-then-not-is_right-clause-err c = λ other.
    let wrong = rw (c.deref.ensures, c.deref-2.ensures) at c.if-not-is_right.ensures in (
      refl,
      not_so c.args.line.now c.in-Some.user.now c.in-Some.identity.now (string_bytes c.in-Ok.user)
          (string_bytes c.in-Ok-unescaped.identity) c.in-Some.ensures c.in-Ok.ensures.ok c.in-Ok-unescaped.ensures.ok wrong,
    )
