use Rattle.std.proofs.Common.{◌≡◌, ◌-◌, ◌^◌, length, take, map, min}
use Rattle.std.specs.List.{flat_map, AllByRecursion}
use Rattle.fe2o3_sasl_wire.specs.SaslFrames.{canonical_field, IsText}
use Rattle.fe2o3_sasl_wire.specs.private.Fields.{shown_field}
use Rattle.fe2o3_sasl_wire.proofs.sasl_frames.fields.items_len.Given as goal

abbrev pub invariant-loop-field : goal.invariant-loop-field
invariant-loop-field l =
    (l.len ≡ min (length (flat_map canonical_field (map shown_field (take l.field-index l.fields)))) (2 ^ 64 - 1))
    × AllByRecursion IsText (map shown_field (take l.field-index l.fields))
