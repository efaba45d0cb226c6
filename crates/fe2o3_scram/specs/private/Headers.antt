-- The GS2 header that the code has split off a text. No public clause cites this file.
use Rattle.std.specs.Prelude.{ℕ, List, Option, option_map}
use Rattle.std.specs.Cow.{cow_str_bytes}
use Rattle.std.specs.declared.borrow.CowStr.{CowStr}
use Rattle.fe2o3_scram.specs.ChannelBinding.{Gs2Header}
use Rattle.fe2o3_scram.specs.declared.scram_messages.gs2_header.CutHeader.{CutHeader}

-- the identity that was split off, or none
abbrev pub cut_identity_of : {A : Type 0} → Option (CowStr A) → Option (List ℕ)
cut_identity_of acts_for = option_map cow_str_bytes acts_for

-- the header that was split off
abbrev pub header_cut : CutHeader → Gs2Header
header_cut cut = record { flag = cut.flag; acts_for = cut_identity_of cut.acts_for }
