use Rattle.std.proofs.Common.{◌≡◌, ◌∙◌, length, arith}
use Rattle.fe2o3_scram.proofs.lemmas.texts.AsciiLemmas.{IsUtf8-base64_text}
use Rattle.fe2o3_scram.proofs.lemmas.texts.Base64Lemmas.{encode_of-standard, slice_filled}
use Rattle.sasl_c.proofs.client_final.nonce_text.Goals as goal

pub unreachable-requires : goal.unreachable-requires
unreachable-requires c =
    let sized : length c.args.nonce.now ≡ 32 = omega arith in
    c.in-Err.ensures.cases.0 (rw (slice_filled _ _ _ _ _ (rw sized (omega arith)) c.encode_slice.ensures.fits
    c.encode_slice.ensures.written ∙ encode_of-standard c.args.nonce.now) (IsUtf8-base64_text c.args.nonce.now))

pub returns : goal.returns
returns c =
    let sized : length c.args.nonce.now ≡ 32 = omega arith in
    c.in-Ok.ensures.cases.0 ∙ (slice_filled _ _ _ _ _ (rw sized (omega arith)) c.encode_slice.ensures.fits
    c.encode_slice.ensures.written ∙ encode_of-standard c.args.nonce.now)
