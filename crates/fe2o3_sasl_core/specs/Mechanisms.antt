-- The names of the mechanisms.
use Rattle.std.specs.Prelude.{ℕ, List, codes}
use Rattle.fe2o3_scram.specs.ChannelBinding.{mechanism_of}
use Rattle.fe2o3_sasl_core.specs.declared.mechanism.Mechanism.{Mechanism}
use Rattle.fe2o3_sasl_core.specs.declared.mechanism.Mechanism.TheVariants as mechanisms

-- the name of a mechanism (RFC 5802, section 4; RFC 7677; RFC 4616; RFC 4505; RFC 4422, appendix A)
abbrev pub mechanism_symbol : Mechanism → List ℕ
mechanism_symbol (mechanisms.Scram version plus) = mechanism_of version plus
mechanism_symbol mechanisms.External = codes "EXTERNAL"
mechanism_symbol mechanisms.Plain = codes "PLAIN"
mechanism_symbol mechanisms.Anonymous = codes "ANONYMOUS"
