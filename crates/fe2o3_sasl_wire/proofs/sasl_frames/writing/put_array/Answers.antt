use Rattle.std.proofs.Common.{◌≡◌, length, arith, ap}
use Rattle.fe2o3_sasl_wire.specs.private.Writing.{elements}
use Rattle.fe2o3_sasl_wire.specs.SaslFrames.{inner_form}
use Rattle.fe2o3_sasl_wire.proofs.lemmas.writing.CanonicalSpellsLemmas.{few_names}
use Rattle.fe2o3_sasl_wire.proofs.lemmas.writing.RoomLemmas.{elements_fit, count_fits, each_fits}
use Rattle.fe2o3_sasl_wire.proofs.sasl_frames.writing.put_array.Goals as goal

pub overflow_cast-symbols : goal.overflow_cast-symbols
overflow_cast-symbols c =
    let names = c.args.symbols.now in
    omega (arith, few_names (inner_form names) names, elements_fit names c.requires.fits)

pub put_number-requires-2-clause-fits : goal.put_number-requires-2-clause-fits
put_number-requires-2-clause-fits c =
    let names = c.args.symbols.now in
    let fit = elements_fit names c.requires.fits in
    let same : length (elements c.inner_form-inner.result names) ≡ length (elements (inner_form names) names) =
    ap (λ inner. length (elements inner names)) c.inner_form-inner.ensures in
    rw c.shortest-form.ensures (count_fits names c.elements_len-len.result c.requires.fits
    (omega (arith, c.elements_len-len.ensures)))

pub put_elements-requires-clause-fits : goal.put_elements-requires-clause-fits
put_elements-requires-clause-fits c = rw c.inner_form-inner.ensures (each_fits c.args.symbols.now c.requires.fits)
