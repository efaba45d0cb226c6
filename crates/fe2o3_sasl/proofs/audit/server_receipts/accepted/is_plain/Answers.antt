use Rattle.std.proofs.Common.{◌≡◌, ◌∙◌, lit<, length, sym}
use Rattle.std.proofs.lemmas.Bool.{eqb-true, eq-eqb}
use Rattle.std.proofs.lemmas.Iterator.Consumers.{count_from_yields_List}
use Rattle.std.proofs.lemmas.Iterator.Splits.{YieldsList-from_str_split}
use Rattle.fe2o3_scram.proofs.lemmas.texts.PartsLemmas.{pieces}
use Rattle.fe2o3_sasl.proofs.lemmas.audit.ServerReceiptLemmas.{HasParts-pieces, HasParts-length}
use Rattle.fe2o3_sasl.proofs.audit.server_receipts.accepted.is_plain.Goals as goal

pub returns : goal.returns
returns c =
    let bare = c.args.bare.now in
    let count : c.count.result ≡ length (pieces bare) =
    count_from_yields_List _ c.count.result c.count.ensures.ran
    (YieldsList-from_str_split 44 bare (lit< tt) c.split.ensures.text c.split.ensures.has_more
    c.split.ensures.pattern) in (
      λ two. HasParts-pieces bare 2 (sym count ∙ eqb-true _ _ two),
      λ has. eq-eqb _ _ (count ∙ HasParts-length bare 2 has),
    )
