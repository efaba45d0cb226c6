-- GS2 headers and channel bindings: no two have one text, and all are bytes and UTF-8.
use Rattle.std.proofs.Common.{◌≡◌, ◌≢◌, ◌⊎◌, inl, inr, T, ℕ, Bool, true, false, Option, Some, None, is_some, option_map, List, [], ◌∷◌, ◌++◌, append_assoc, get_or, refl, sym, ap, ◌∙◌, subst, codes, nat_eq, if◌then◌else◌}
use Rattle.std.proofs.lemmas.List.{append_cancel_left}
use Rattle.std.specs.Str.{IsUtf8}
use Rattle.base64.specs.GeneralPurpose.{IsBytes}
use Rattle.fe2o3_scram.specs.ChannelBinding.{AcceptsFlag, ClientHeader, Gs2Header, HoldsHeaderBytes, TakesBound, TakesHeader, TakesIdentity, authzid_text, cbind_data, cbind_input, flag_text, header_of, header_text}
use Rattle.fe2o3_scram.specs.Escape.{NoEquals, SpellsName, escaped}
use Rattle.fe2o3_scram.specs.declared.scram_messages.escape.UnescapeError.{UnescapeError}
use Rattle.fe2o3_scram.specs.declared.scram_messages.escape.UnescapeError.TheVariants.{Invalid, OutOfMemory}
use Rattle.fe2o3_scram.specs.Grammar.{is_value}
use Rattle.fe2o3_scram.specs.Texts.{Cut, NoComma, StartsWith}
use Rattle.fe2o3_scram.specs.declared.channel_binding.ChannelBindings.{ChannelBindings}
use Rattle.fe2o3_scram.specs.declared.channel_binding.ChannelKind.{ChannelKind}
use Rattle.fe2o3_scram.specs.declared.channel_binding.ChannelKind.TheVariants.{TlsUnique, TlsServerEndPoint, TlsExporter}
use Rattle.fe2o3_scram.specs.declared.scram_messages.server_rules.ServerRules.{ServerRules}
use Rattle.fe2o3_scram.specs.declared.scram_messages.channel_binding_flag.ChannelBindingFlag.{ChannelBindingFlag}
use Rattle.fe2o3_scram.specs.declared.scram_messages.channel_binding_flag.ChannelBindingFlag.TheVariants.{NotSupported, ClientSupports, Required}
use Rattle.fe2o3_scram.proofs.lemmas.hashes.DigestLemmas.{IsBytes-append, IsBytes-literal}
use Rattle.std.proofs.lemmas.Str.{IsUtf8-append}
use Rattle.fe2o3_scram.proofs.lemmas.texts.AsciiLemmas.{utf8_behind}
use Rattle.fe2o3_scram.proofs.lemmas.texts.Base64Lemmas.{no_comma-append, no_comma-test}
use Rattle.fe2o3_scram.proofs.lemmas.texts.CutLemmas.{one_cut}
use Rattle.fe2o3_scram.proofs.lemmas.texts.EscapingLemmas.{no_comma-escaped, one_escaped}

-- the header that a text begins with: 110 and 121 are n and y; in place 6 of the others is u, s or e of the kind's name
abbrev flag_at : List ℕ → ChannelBindingFlag
flag_at text = if nat_eq (get_or text 0 0) 110 then NotSupported
    else (if nat_eq (get_or text 0 0) 121 then ClientSupports
    else (if nat_eq (get_or text 6 0) 117 then Required TlsUnique
    else (if nat_eq (get_or text 6 0) 115 then Required TlsServerEndPoint
    else Required TlsExporter)))

flag_read : (flag : ChannelBindingFlag) (behind rest : List ℕ) → flag_at ((flag_text flag ++ behind) ++ rest) ≡ flag
flag_read NotSupported behind rest = refl
flag_read ClientSupports behind rest = refl
flag_read (Required TlsUnique) behind rest = refl
flag_read (Required TlsServerEndPoint) behind rest = refl
flag_read (Required TlsExporter) behind rest = refl

no_comma-identity : (acts_for : Option (List ℕ)) → NoComma (authzid_text acts_for)
no_comma-identity None = tt
no_comma-identity (Some name) = no_comma-append (codes "a=") (escaped name) (no_comma-test (codes "a=") refl)
    (no_comma-escaped name)

one_identity : (acts_for own : Option (List ℕ)) → authzid_text acts_for ≡ authzid_text own → acts_for ≡ own
one_identity None None same = refl
one_identity None (Some name) same = absurd (cc)
one_identity (Some name) None same = absurd (cc)
one_identity (Some name) (Some other) same =
    ap Some (one_escaped name other (append_cancel_left (codes "a=") (escaped name) (escaped other) same))

-- a header, and a text after it: the flag, the identity between two commas, and the text
in_pieces : (header : Gs2Header) (bare : List ℕ) → header_text header ++ bare
    ≡ flag_text header.flag ++ (44 ∷ (authzid_text header.acts_for ++ (44 ∷ bare)))
in_pieces header bare = append_assoc (flag_text header.flag) (44 ∷ (authzid_text header.acts_for ++ (44 ∷ []))) bare
    ∙ ap (λ (z : List ℕ). flag_text header.flag ++ (44 ∷ z)) (append_assoc (authzid_text header.acts_for) (44 ∷ []) bare)

-- a text begins with one header, and one text follows it
pub one_header : (header own : Gs2Header) (text bare other : List ℕ) → text ≡ header_text header ++ bare
    → text ≡ header_text own ++ other → (header ≡ own) × (bare ≡ other)
one_header header own text bare other is too =
    let both : header_text header ++ bare ≡ header_text own ++ other = sym is ∙ too in
    let flag : header.flag ≡ own.flag = sym (flag_read header.flag _ bare) ∙ (ap flag_at both ∙ flag_read own.flag _ other) in
    let apart : flag_text own.flag ++ (44 ∷ (authzid_text header.acts_for ++ (44 ∷ bare)))
    ≡ flag_text own.flag ++ (44 ∷ (authzid_text own.acts_for ++ (44 ∷ other))) =
    ap (λ (z : ChannelBindingFlag). flag_text z ++ (44 ∷ (authzid_text header.acts_for ++ (44 ∷ bare)))) (sym flag)
    ∙ (sym (in_pieces header bare) ∙ (both ∙ in_pieces own other)) in
    let named : authzid_text header.acts_for ++ (44 ∷ bare) ≡ authzid_text own.acts_for ++ (44 ∷ other) =
    append_cancel_left (44 ∷ []) _ _ (append_cancel_left (flag_text own.flag) _ _ apart) in
    let cut = one_cut 44 (authzid_text header.acts_for ++ (44 ∷ bare)) (authzid_text header.acts_for) bare
    (authzid_text own.acts_for) other (no_comma-identity header.acts_for, refl) (no_comma-identity own.acts_for, named) in
    let acts_for : header.acts_for ≡ own.acts_for = one_identity header.acts_for own.acts_for cut.0 in (
      λ i. record { flag = flag i; acts_for = acts_for i },
      cut.1,
    )

-- channel bindings that are one have one header and one data
pub one_binding : (header other : ClientHeader) → cbind_input header ≡ cbind_input other
    → (header_of header ≡ header_of other) × (cbind_data header.channel ≡ cbind_data other.channel)
one_binding header other same = one_header (header_of header) (header_of other) (cbind_input header)
    (cbind_data header.channel) (cbind_data other.channel) refl same

IsBytes-flag : (flag : ChannelBindingFlag) → IsBytes (flag_text flag)
IsBytes-flag NotSupported = IsBytes-literal (codes "n") refl
IsBytes-flag ClientSupports = IsBytes-literal (codes "y") refl
IsBytes-flag (Required TlsUnique) = IsBytes-literal (codes "p=tls-unique") refl
IsBytes-flag (Required TlsServerEndPoint) = IsBytes-literal (codes "p=tls-server-end-point") refl
IsBytes-flag (Required TlsExporter) = IsBytes-literal (codes "p=tls-exporter") refl

IsBytes-header : (header : Gs2Header) → IsBytes (authzid_text header.acts_for) → IsBytes (header_text header)
IsBytes-header header identity = IsBytes-append (flag_text header.flag) _ (IsBytes-flag header.flag)
    (IsBytes-append (codes ",") _ (IsBytes-literal (codes ",") refl)
    (IsBytes-append (authzid_text header.acts_for) (codes ",") identity (IsBytes-literal (codes ",") refl)))

pub IsBytes-cbind_input : (header : ClientHeader) → HoldsHeaderBytes header → IsBytes (cbind_input header)
IsBytes-cbind_input header bytes = IsBytes-append (header_text (header_of header)) (cbind_data header.channel)
    (IsBytes-header (header_of header) bytes.1) bytes.0

flag_utf8 : (flag : ChannelBindingFlag) (rest : List ℕ) → IsUtf8 rest → IsUtf8 (flag_text flag ++ rest)
flag_utf8 NotSupported rest utf8 = utf8_behind (codes "n") rest refl utf8
flag_utf8 ClientSupports rest utf8 = utf8_behind (codes "y") rest refl utf8
flag_utf8 (Required TlsUnique) rest utf8 = utf8_behind (codes "p=tls-unique") rest refl utf8
flag_utf8 (Required TlsServerEndPoint) rest utf8 = utf8_behind (codes "p=tls-server-end-point") rest refl utf8
flag_utf8 (Required TlsExporter) rest utf8 = utf8_behind (codes "p=tls-exporter") rest refl utf8

-- a header, and a text after it
pub header_utf8 : (header : Gs2Header) (bare : List ℕ) → IsUtf8 (authzid_text header.acts_for) → IsUtf8 bare
    → IsUtf8 (header_text header ++ bare)
header_utf8 header bare identity utf8 = subst IsUtf8 (sym (in_pieces header bare)) (flag_utf8 header.flag _
    (utf8_behind (codes ",") _ refl (IsUtf8-append (authzid_text header.acts_for) (44 ∷ bare) identity
    (utf8_behind (codes ",") bare refl utf8))))

-- a flag and its comma, and a text after it
after_flag : (header : Gs2Header) (bare : List ℕ) → header_text header ++ bare
    ≡ (flag_text header.flag ++ codes ",") ++ ((authzid_text header.acts_for ++ codes ",") ++ bare)
after_flag header bare = in_pieces header bare
    ∙ (sym (append_assoc (flag_text header.flag) (codes ",") (authzid_text header.acts_for ++ (44 ∷ bare)))
    ∙ ap (λ (z : List ℕ). (flag_text header.flag ++ codes ",") ++ z)
    (sym (append_assoc (authzid_text header.acts_for) (codes ",") bare)))

-- a text that begins with a header begins with its flag and a comma
pub flag_begins : (header : Gs2Header) (text : List ℕ) → StartsWith text (header_text header)
    → StartsWith text (flag_text header.flag ++ codes ",")
flag_begins header text begins = ((authzid_text header.acts_for ++ codes ",") ++ begins.0, begins.1 ∙ after_flag header begins.0)

-- a text begins with one flag and a comma, and one text follows them
pub one_flag : (flag own : ChannelBindingFlag) (text rest other : List ℕ) → text ≡ (flag_text flag ++ codes ",") ++ rest
    → text ≡ (flag_text own ++ codes ",") ++ other → (flag ≡ own) × (rest ≡ other)
one_flag flag own text rest other is too =
    let both : (flag_text flag ++ codes ",") ++ rest ≡ (flag_text own ++ codes ",") ++ other = sym is ∙ too in
    let same : flag ≡ own = sym (flag_read flag (codes ",") rest) ∙ (ap flag_at both ∙ flag_read own (codes ",") other) in
    let apart : (flag_text own ++ codes ",") ++ rest ≡ (flag_text own ++ codes ",") ++ other =
    ap (λ (z : ChannelBindingFlag). (flag_text z ++ codes ",") ++ rest) (sym same) ∙ both in (
      same,
      append_cancel_left (flag_text own ++ codes ",") rest other apart,
    )

-- a text that begins with no flag that is accepted begins with no header that is
pub no_flag : (rules : ServerRules) (text : List ℕ)
    → ((flag : ChannelBindingFlag) → AcceptsFlag rules flag → ¬ StartsWith text (flag_text flag ++ codes ","))
    → (header : Gs2Header) → TakesHeader rules header → ¬ StartsWith text (header_text header)
no_flag rules text none header takes begins = none header.flag takes.0 (flag_begins header text begins)

-- what follows the flag that a text begins with is what the header leaves
pub identity_begins : (header : Gs2Header) (flag : ChannelBindingFlag) (text rest : List ℕ)
    → text ≡ (flag_text flag ++ codes ",") ++ rest → StartsWith text (header_text header)
    → StartsWith rest (authzid_text header.acts_for ++ codes ",")
identity_begins header flag text rest is begins = (
  begins.0,
  (one_flag flag header.flag text rest ((authzid_text header.acts_for ++ codes ",") ++ begins.0) is
      (begins.1 ∙ after_flag header begins.0)).1,
)

-- a text whose rest after the flag begins with no identity that is accepted begins with no header that is
pub no_identity : (rules : ServerRules) (flag : ChannelBindingFlag) (text rest : List ℕ)
    → text ≡ (flag_text flag ++ codes ",") ++ rest
    → ((acts_for : Option (List ℕ)) → TakesIdentity rules.accept_authzid acts_for
    → ¬ StartsWith rest (authzid_text acts_for ++ codes ","))
    → (header : Gs2Header) → TakesHeader rules header → ¬ StartsWith text (header_text header)
no_identity rules flag text rest is none header takes begins =
    none header.acts_for takes.1 (identity_begins header flag text rest is begins)

-- a flag and an identity that are split off one after the other are a header
pub joined_header : (flag : ChannelBindingFlag) (acts_for : Option (List ℕ)) (text rest bare : List ℕ)
    → text ≡ (flag_text flag ++ codes ",") ++ rest → rest ≡ (authzid_text acts_for ++ codes ",") ++ bare
    → text ≡ header_text (record { flag = flag; acts_for = acts_for }) ++ bare
joined_header flag acts_for text rest bare is too = is
    ∙ (ap (λ (z : List ℕ). (flag_text flag ++ codes ",") ++ z) too
    ∙ sym (after_flag (record { flag = flag; acts_for = acts_for }) bare))

-- a text that begins with the flag of no kind begins with none that a server of the mechanism with channel binding accepts
pub no_kind : (channels : ChannelBindings) (text : List ℕ)
    → ((kind : ChannelKind) → ¬ StartsWith text (flag_text (Required kind) ++ codes ","))
    → (flag : ChannelBindingFlag) → TakesBound channels flag → ¬ StartsWith text (flag_text flag ++ codes ",")
no_kind channels text none NotSupported takes begins = takes
no_kind channels text none ClientSupports takes begins = takes
no_kind channels text none (Required kind) takes begins = none kind begins

-- ---- the identity, after the flag and its comma

-- a text that begins with neither a comma nor an identity begins with none
pub none_named : (accept : Bool) (text : List ℕ) → ¬ StartsWith text (codes ",") → ¬ StartsWith text (codes "a=")
    → (acts_for : Option (List ℕ)) → TakesIdentity accept acts_for → ¬ StartsWith text (authzid_text acts_for ++ codes ",")
none_named accept text comma key None takes begins = comma begins
none_named accept text comma key (Some name) takes begins = key (
  escaped name ++ (44 ∷ begins.0),
  begins.1 ∙ (append_assoc (codes "a=" ++ escaped name) (codes ",") begins.0
      ∙ append_assoc (codes "a=") (escaped name) (44 ∷ begins.0)),
)

module _ (accept : Bool) (text named : List ℕ) (comma : ¬ StartsWith text (codes ",")) (is : text ≡ codes "a=" ++ named) where
  -- the identity of a text that names one
  identity_cut : (name rest : List ℕ) → text ≡ (authzid_text (Some name) ++ codes ",") ++ rest
      → Cut 44 named (escaped name) rest
  identity_cut name rest begins = (
    no_comma-escaped name,
    append_cancel_left (codes "a=") named (escaped name ++ (44 ∷ rest)) (sym is ∙ (begins
        ∙ (append_assoc (codes "a=" ++ escaped name) (codes ",") rest
        ∙ append_assoc (codes "a=") (escaped name) (44 ∷ rest)))),
  )

  -- no comma ends the identity
  pub none_ended : ((before rest : List ℕ) → ¬ Cut 44 named before rest) → (acts_for : Option (List ℕ))
      → TakesIdentity accept acts_for → ¬ StartsWith text (authzid_text acts_for ++ codes ",")
  none_ended none None takes begins = comma begins
  none_ended none (Some name) takes begins = none (escaped name) begins.0 (identity_cut name begins.0 begins.1)

  module _ (spelling rest : List ℕ) (cut : Cut 44 named spelling rest) where
    -- what ends it is no name
    pub none_spelled : ((name : List ℕ) → escaped name ≢ spelling) → (acts_for : Option (List ℕ))
        → TakesIdentity accept acts_for → ¬ StartsWith text (authzid_text acts_for ++ codes ",")
    none_spelled bad None takes begins = comma begins
    none_spelled bad (Some name) takes begins =
        let mine = identity_cut name begins.0 begins.1 in
        bad name (one_cut 44 named (escaped name) begins.0 spelling rest mine cut).0

    -- its name is empty or has NUL
    pub none_valued : (name : List ℕ) → escaped name ≡ spelling → is_value name ≡ false → (acts_for : Option (List ℕ))
        → TakesIdentity accept acts_for → ¬ StartsWith text (authzid_text acts_for ++ codes ",")
    none_valued name spells bad None takes begins = comma begins
    none_valued name spells bad (Some other) takes begins =
        let mine = identity_cut other begins.0 begins.1 in
        let same : escaped other ≡ escaped name =
        (one_cut 44 named (escaped other) begins.0 spelling rest mine cut).0 ∙ sym spells in
        let one : other ≡ name = one_escaped other name same in
        let wrong : ◌≡◌ {A = Bool} true false = sym takes.1 ∙ (ap is_value one ∙ bad) in
        absurd (cc)

    -- the name that it spells is split off
    pub identity_spelled : (name : List ℕ) → escaped name ≡ spelling
        → text ≡ (authzid_text (Some name) ++ codes ",") ++ rest
    identity_spelled name spells = is ∙ (ap (λ (z : List ℕ). codes "a=" ++ z)
        (cut.1 ∙ ap (λ (z : List ℕ). z ++ (44 ∷ rest)) (sym spells))
        ∙ (sym (append_assoc (codes "a=") (escaped name) (44 ∷ rest))
        ∙ sym (append_assoc (codes "a=" ++ escaped name) (codes ",") rest)))

    -- why no name is unescaped
    pub identity_error : (error : UnescapeError) → T accept
        → ((error ≡ Invalid) × ((name : List ℕ) → escaped name ≢ spelling)) ⊎ ((error ≡ OutOfMemory) × ¬ NoEquals spelling)
        → (error ≡ OutOfMemory → SpellsName spelling)
        → ((error ≡ Invalid) × ((acts_for : Option (List ℕ)) → TakesIdentity accept acts_for
        → ¬ StartsWith text (authzid_text acts_for ++ codes ","))) ⊎ ((error ≡ OutOfMemory) × T accept
        × ((name : List ℕ) × (after : List ℕ) × (text ≡ (authzid_text (Some name) ++ codes ",") ++ after)
        × ¬ NoEquals (escaped name)))
    identity_error error on (inl (kind, bad)) spells = inl (kind, none_spelled bad)
    identity_error error on (inr (kind, some)) spells =
        let named = spells kind in
        inr (
          kind,
          on,
          (
            named.0,
            rest,
            identity_spelled named.0 named.1,
            subst (λ (spelt : List ℕ). ¬ NoEquals spelt) (sym named.1) some,
          ),
        )

-- a header that names nobody
pub no_name : {X : Type 0} (found : Option X) (text : X → List ℕ) → is_some found ≡ false → option_map text found ≡ None
no_name None text is = refl
no_name (Some x) text is = absurd (cc)
