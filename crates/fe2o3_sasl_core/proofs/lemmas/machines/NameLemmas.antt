-- Names in lists of names.
use Rattle.std.proofs.Common.{◌≡◌, ◌≢◌, ◌<◌, ◌+◌, ℕ, Bool, true, false, Option, Some, List, [], ◌∷◌, ◌++◌, length, take, get_or, map, refl, sym, ◌∙◌, ap, arith}
use Rattle.std.specs.Prelude.{if◌then◌else◌, ◌&&◌, not, nat_eq, filter, codes, is_some, IsAscii}
use Rattle.std.specs.Cmp.Lexicographic.{pointwise, same_text, other_text}
use Rattle.std.proofs.lemmas.List.{take_more, map-append}
use Rattle.fe2o3_sasl_wire.proofs.lemmas.reading.TextLemmas.{IsAscii-from_is_ascii}
use Rattle.fe2o3_scram.specs.ChannelBinding.{mechanism_of, server_mechanism}
use Rattle.fe2o3_scram.specs.declared.hmac.ScramVersion.{ScramVersion}
use Rattle.fe2o3_scram.specs.declared.hmac.ScramVersion.TheVariants.{Sha1, Sha256, Sha512}
use Rattle.fe2o3_scram.specs.declared.scram_messages.server_rules.ServerRules.{ServerRules}
use Rattle.fe2o3_sasl_core.specs.AnyMechanism.{has_name, both_names}
use Rattle.fe2o3_sasl_core.specs.Mechanisms.{mechanism_symbol}
use Rattle.fe2o3_sasl_core.specs.Servers.{ServerSettings, asked_among, asked_mechanism, is_asked_by, is_offered_by, name_where_offered, offer_order, sasl_names, with_offered}
use Rattle.fe2o3_sasl_core.specs.declared.mechanism.Mechanism.{Mechanism}

-- a name is in one of two lists
pub has_name-append : (names others : List (List ℕ)) (name : List ℕ)
    → has_name (names ++ others) name ≡ (if has_name names name then true else has_name others name)
has_name-append [] others name = refl
has_name-append (first ∷ names) others name = grind (arith, has_name-append names others name)

-- of a list without some names it has those that are left
pub has_name-filter : (keeps : List ℕ → Bool) (names : List (List ℕ)) (name : List ℕ)
    → has_name (filter keeps names) name ≡ (if keeps name then has_name names name else false)
has_name-filter keeps [] name = grind (arith)
has_name-filter keeps (first ∷ names) name =
    grind (arith, has_name-filter keeps names name, same_text first name)

-- the names of both are those of either
pub has_name-both : (names others : List (List ℕ)) (name : List ℕ)
    → has_name (both_names names others) name ≡ (if has_name names name then true else has_name others name)
has_name-both names others name =
    let behind = has_name-filter (λ (name : List ℕ). not (has_name names name)) others name in
    let both = has_name-append names (filter (λ (name : List ℕ). not (has_name names name)) others) name in
    both ∙ grind (arith, behind)

-- ---- looking for a name

-- it is none of those that were looked at
pub none_more : {X : Type 0} (f : X → List ℕ) (xs : List X) (k : ℕ) (other : X) (name : List ℕ) → k < length xs
    → has_name (map f (take k xs)) name ≡ false → pointwise nat_eq (f (get_or xs k other)) name ≡ false
    → has_name (map f (take (k + 1) xs)) name ≡ false
none_more f xs k other name below none here =
    grind (
      arith,
      none,
      here,
      take_more xs k other below,
      map-append f (take k xs) (get_or xs k other ∷ []),
      has_name-append (map f (take k xs)) (f (get_or xs k other) ∷ []) name,
    )

-- ---- an offer

-- a name that is in no list is none that is left
pub nothing_more : (allowed own : List (List ℕ)) (name : List ℕ) → filter (has_name allowed) own ≡ []
    → has_name own name ≡ false → filter (has_name (allowed ++ name ∷ [])) own ≡ []
nothing_more allowed [] name none lacks = refl
nothing_more allowed (first ∷ own) name none lacks =
    grind (
      arith,
      none,
      lacks,
      nothing_more allowed own name,
      has_name-append allowed (name ∷ []) first,
      same_text name first,
      same_text first name,
    )

-- a name in both is left
pub something : (allowed own : List (List ℕ)) (name : List ℕ) → has_name allowed name ≡ true
    → has_name own name ≡ true → filter (has_name allowed) own ≢ []
something allowed [] name has owns = grind (arith, owns)
something allowed (first ∷ own) name has owns =
    grind (arith, has, owns, something allowed own name has, same_text first name)

-- of no names none is left
pub nothing : (own : List (List ℕ)) → filter (has_name []) own ≡ []
nothing [] = refl
nothing (first ∷ own) = nothing own

-- ---- the name of a SCRAM server

-- it is ASCII, with channel binding and without
IsAscii-bound : (version : ScramVersion) (bound : Bool) → IsAscii (mechanism_of version bound)
IsAscii-bound Sha1 false = IsAscii-from_is_ascii (codes "SCRAM-SHA-1") refl
IsAscii-bound Sha256 false = IsAscii-from_is_ascii (codes "SCRAM-SHA-256") refl
IsAscii-bound Sha512 false = IsAscii-from_is_ascii (codes "SCRAM-SHA-512") refl
IsAscii-bound Sha1 true = IsAscii-from_is_ascii (codes "SCRAM-SHA-1-PLUS") refl
IsAscii-bound Sha256 true = IsAscii-from_is_ascii (codes "SCRAM-SHA-256-PLUS") refl
IsAscii-bound Sha512 true = IsAscii-from_is_ascii (codes "SCRAM-SHA-512-PLUS") refl

pub IsAscii-server_mechanism : (version : ScramVersion) (rules : ServerRules)
    → IsAscii (server_mechanism version rules)
IsAscii-server_mechanism version rules = IsAscii-bound version (is_some rules.channels)

-- ---- the names that a server offers

same_either_way : (name other : List ℕ) → pointwise nat_eq name other ≡ pointwise nat_eq other name
same_either_way name other = go (pointwise nat_eq name other) (pointwise nat_eq other name) refl refl
  where
    go : (is back : Bool) → is ≡ pointwise nat_eq name other → back ≡ pointwise nat_eq other name → is ≡ back
    go true true is too = refl
    go false false is too = refl
    go true false is too = absurd (other_text other name too (sym (same_text name other is)))
    go false true is too = absurd (other_text name other is (sym (same_text other name too)))

-- a mechanism has this name in the offer exactly if the name asks for it
has_asked : (offered : Bool) (own name : List ℕ)
    → has_name (name_where_offered offered own) name ≡ (offered && pointwise nat_eq name own)
has_asked true own name = grind (arith, same_either_way own name)
has_asked false own name = refl

is_either : (a : Bool) → a ≡ (if a then true else false)
is_either true = refl
is_either false = refl

one_more_asked : (a b asked : Bool) (mechanism : Mechanism) (rest : Option Mechanism) (both : Bool)
    → both ≡ (if a then true else b)
    → b ≡ asked
    → (if both then true else is_some rest) ≡ (if a then true else is_some (if asked then Some mechanism else rest))
one_more_asked true b asked mechanism rest both is same = ap (λ (x : Bool). if x then true else is_some rest) is
one_more_asked false b true mechanism rest both is same = ap (λ (x : Bool). if x then true else is_some rest) (is ∙ same)
one_more_asked false b false mechanism rest both is same = ap (λ (x : Bool). if x then true else is_some rest) (is ∙ same)

has_offered : (settings : ServerSettings) (names : List (List ℕ)) (ways : List Mechanism) (name : List ℕ)
    → has_name (with_offered settings names ways) name
    ≡ (if has_name names name then true else is_some (asked_among settings name ways))
has_offered settings names [] name = is_either (has_name names name)
has_offered settings names (mechanism ∷ others) name =
    let here = name_where_offered (is_offered_by settings mechanism) (mechanism_symbol mechanism) in
    has_offered settings (names ++ here) others name
    ∙ one_more_asked (has_name names name) (has_name here name) (is_asked_by settings name mechanism) mechanism
    (asked_among settings name others) (has_name (names ++ here) name) (has_name-append names here name)
    (has_asked (is_offered_by settings mechanism) (mechanism_symbol mechanism) name)

-- a name is offered exactly if it asks for a mechanism
pub has_sasl_name : (settings : ServerSettings) (name : List ℕ)
    → has_name (sasl_names settings) name ≡ is_some (asked_mechanism settings name)
has_sasl_name settings name = has_offered settings [] offer_order name
