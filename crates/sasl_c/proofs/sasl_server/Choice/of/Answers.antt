use Rattle.std.proofs.Common.{arith, inl, refl}
use Rattle.sasl_c.proofs.SaslServerLemmas.{between, no_flags, too_large, too_many, unknown_flag}
use Rattle.sasl_c.proofs.sasl_server.Choice.of.Goals as goal

pub returns-then-mechanisms-gt63 : goal.returns-then-mechanisms-gt63
returns-then-mechanisms-gt63 c = inl (too_many c.args.mechanisms (omega arith), refl)

pub returns-then-flags-gt8191 : goal.returns-then-flags-gt8191
returns-then-flags-gt8191 c = let external = c.split-external in
    let anonymous = c.split-anonymous in
    let plain = c.split-plain in
    let sha_1 = c.split-sha_1 in
    let sha_256 = c.split-sha_256 in
    let sha_512 = c.split-sha_512 in
    no_flags c.args.mechanisms c.args.flags external.result.1 anonymous.result.1 plain.result.1 sha_1.result.1
    sha_256.result.1 sha_512.result.1 external.result.0 anonymous.result.0 plain.result.0 sha_1.result.0 sha_256.result.0
    sha_512.result.0 external.ensures.sum anonymous.ensures.sum plain.ensures.sum sha_1.ensures.sum sha_256.ensures.sum
    sha_512.ensures.sum sha_512.ensures.rest (too_large c.args.flags (omega arith))

pub returns-then-others-gt383 : goal.returns-then-others-gt383
returns-then-others-gt383 c = let external = c.split-external in
    let anonymous = c.split-anonymous in
    let plain = c.split-plain in
    let sha_1 = c.split-sha_1 in
    let sha_256 = c.split-sha_256 in
    let sha_512 = c.split-sha_512 in
    let rejects = c.split-reject_misplaced in
    let strict = c.split-strict in
    let signed = c.split-signature_by_challenge in
    let asked = c.split-initial_response_by_challenge in
    no_flags c.args.mechanisms c.args.flags external.result.1 anonymous.result.1 plain.result.1 sha_1.result.1
    sha_256.result.1 sha_512.result.1 external.result.0 anonymous.result.0 plain.result.0 sha_1.result.0 sha_256.result.0
    sha_512.result.0 external.ensures.sum anonymous.ensures.sum plain.ensures.sum sha_1.ensures.sum sha_256.ensures.sum
    sha_512.ensures.sum sha_512.ensures.rest (between c.args.flags rejects.result.1 strict.result.1 signed.result.1
    asked.result.1 rejects.result.0 strict.result.0 signed.result.0 asked.result.0 rejects.ensures.sum strict.ensures.sum
    signed.ensures.sum asked.ensures.sum (omega arith) asked.ensures.rest)

pub returns-then-unknown-gt0 : goal.returns-then-unknown-gt0
returns-then-unknown-gt0 c = let external = c.split-external in
    let anonymous = c.split-anonymous in
    let plain = c.split-plain in
    let sha_1 = c.split-sha_1 in
    let sha_256 = c.split-sha_256 in
    let sha_512 = c.split-sha_512 in
    let rejects = c.split-reject_misplaced in
    let strict = c.split-strict in
    let signed = c.split-signature_by_challenge in
    let asked = c.split-initial_response_by_challenge in
    let form = c.split_passwords-passwords in
    let takes = c.split-cbind_flag_y in
    no_flags c.args.mechanisms c.args.flags external.result.1 anonymous.result.1 plain.result.1 sha_1.result.1
    sha_256.result.1 sha_512.result.1 external.result.0 anonymous.result.0 plain.result.0 sha_1.result.0 sha_256.result.0
    sha_512.result.0 external.ensures.sum anonymous.ensures.sum plain.ensures.sum sha_1.ensures.sum sha_256.ensures.sum
    sha_512.ensures.sum sha_512.ensures.rest (unknown_flag c.args.flags rejects.result.1 strict.result.1 signed.result.1
    asked.result.1 form.result.1 takes.result.1 rejects.result.0 strict.result.0 signed.result.0 asked.result.0
    takes.result.0 form.result.0 rejects.ensures.sum strict.ensures.sum signed.ensures.sum asked.ensures.sum
    form.ensures.sum takes.ensures.sum (omega arith) takes.ensures.rest)
