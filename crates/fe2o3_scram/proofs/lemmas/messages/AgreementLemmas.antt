-- What equal AuthMessages of a client and a server say, and what the signature does that both have: first of the values
-- alone, however their texts came, and then of one client's and one server's texts.
use Rattle.std.proofs.Common.{◌≡◌, ◌⊎◌, inl, inr, ℕ, ◌<◌, ◌^◌, Some, List, [], ◌∷◌, ◌++◌, length, get_or, drop, refl, sym, ap, ◌∙◌, subst, arith, codes, Ok}
use Rattle.std.specs.Fmt.{decimal}
use Rattle.std.proofs.lemmas.Option.{same_Some}
use Rattle.fe2o3_scram.specs.declared.hmac.ScramVersion.{ScramVersion}
use Rattle.fe2o3_scram.specs.declared.scram_messages.server_rules.ServerRules.{ServerRules}
use Rattle.fe2o3_scram.specs.declared.hmac.ScramVersion.TheVariants.{Sha1, Sha256, Sha512}
use Rattle.fe2o3_scram.specs.declared.scram_messages.channel_binding_flag.ChannelBindingFlag.{ChannelBindingFlag}
use Rattle.fe2o3_scram.specs.declared.scram_messages.channel_binding_flag.ChannelBindingFlag.TheVariants.{NotSupported, ClientSupports, Required}
use Rattle.base64.specs.GeneralPurpose.{IsBytes}
use Rattle.fe2o3_scram.specs.ActingRights.{Rights}
use Rattle.fe2o3_scram.specs.Agreement.{AcceptedTexts, TextsAgree, VerifiedTextsAgree, ClientKnows, InParts, IsPlain, ServerKnows, challenge_known, client_auth_message, keys_known, server_auth_message}
use Rattle.fe2o3_scram.specs.ClientFinal.{Answer, ClientFinal, answer_of, without_proof_with}
use Rattle.fe2o3_scram.specs.ClientFirst.{ClientFirst, NamesClientFirst, client_first_bare}
use Rattle.fe2o3_scram.specs.ChannelBinding.{ClientHeader, Gs2Header, HoldsHeaderBytes, cbind_data, cbind_input, expected_channel, expected_header, flag_of, header_of}
use Rattle.fe2o3_scram.specs.Credentials.{Provider, Record}
use Rattle.fe2o3_scram.specs.Escape.{escaped}
use Rattle.fe2o3_scram.specs.Extensions.{NoneMisplaced}
use Rattle.fe2o3_scram.specs.Hmac.{digest_len, hmac_of}
use Rattle.fe2o3_scram.specs.Keys.{auth_message}
use Rattle.fe2o3_scram.specs.Laws.{HoldsBytes}
use Rattle.fe2o3_scram.specs.ScramClient.{is_strict_client, ClientSide, ClientFinalSent, VerifiesIn, holding, header_in, with_state}
use Rattle.fe2o3_scram.specs.ScramServer.{ServerState, ServerFirstSent, ConcludesFrom, server_against}
use Rattle.fe2o3_scram.specs.ServerFinal.{AnswersClientFinal, server_final_of}
use Rattle.fe2o3_scram.specs.ServerFirst.{ServerChallenge, NamesServerFirst, ServerFirst, challenge_of}
use Rattle.fe2o3_scram.specs.Texts.{IsCount, NoComma, Part, Parts, base64_text, joined, HasBase64}
use Rattle.fe2o3_scram.proofs.lemmas.hashes.DigestLemmas.{length-hmac_of, IsBytes-hmac_of}
use Rattle.fe2o3_scram.proofs.lemmas.messages.HeaderLemmas.{IsBytes-cbind_input, one_binding}
use Rattle.fe2o3_scram.proofs.lemmas.messages.ClientFinalLemmas.{NamesAcceptedFinal, names_client_final}
use Rattle.fe2o3_scram.proofs.lemmas.messages.ExchangeLemmas.{no_comma-decimal, part_of, only_part}
use Rattle.fe2o3_scram.proofs.lemmas.messages.OneValueLemmas.{names_client_first, names_server_final, names_server_first}
use Rattle.fe2o3_scram.proofs.lemmas.texts.Base64Lemmas.{no_comma-append, no_comma-base64_text, one_spelled}
use Rattle.fe2o3_scram.proofs.lemmas.texts.CountLemmas.{count_of_decimal}
use Rattle.fe2o3_scram.proofs.lemmas.texts.EscapingLemmas.{no_comma-escaped, one_escaped}
use Rattle.fe2o3_scram.proofs.lemmas.texts.ExtensionLemmas.{AreNone, of_client, of_server, none_after_three, none_after_two, none_of_client, none_of_server}
use Rattle.fe2o3_scram.proofs.lemmas.texts.JoinedTextLemmas.{same_parts, part_in, no_comma-part, two_joined, three_joined, first_two, first_three, with_last}
use Rattle.fe2o3_scram.proofs.lemmas.texts.PartsLemmas.{pieces, Parts-pieces, one_list_of_parts, one_part}

-- ---- the parts of the two AuthMessages

binding_plain : (header : ClientHeader) → NoComma (codes "c=" ++ base64_text (cbind_input header))
binding_plain header =
    part_of (codes "c=") (base64_text (cbind_input header)) refl (no_comma-base64_text (cbind_input header))

-- what a client has of an exchange: with this nonce it answered a message that names these values
pub record ClientHas (own text : List ℕ) (first : ServerFirst) : Type 0 where
  pub plain : NoComma own
  pub names : NamesServerFirst text first

-- its parts: two of its first message, three and more of the challenge, two of its answer
pub client_parts : (header : ClientHeader) (name own text : List ℕ) (first : ServerFirst) → (has : ClientHas own text first)
    → (more : List (List ℕ)) × Parts text ((codes "r=" ++ first.nonce) ∷ (codes "s=" ++ base64_text first.salt)
    ∷ (codes "i=" ++ has.names.count.0) ∷ more) × Parts (auth_message (client_first_bare name own) text
    (without_proof_with header first.nonce))
    (((codes "n=" ++ escaped name) ∷ (codes "r=" ++ own) ∷ [])
    ++ (((codes "r=" ++ first.nonce) ∷ (codes "s=" ++ base64_text first.salt)
    ∷ (codes "i=" ++ has.names.count.0) ∷ more)
    ++ ((codes "c=" ++ base64_text (cbind_input header)) ∷ (codes "r=" ++ first.nonce) ∷ [])))
client_parts header name own text first has =
    let names = has.names in
    let user = codes "n=" ++ escaped name in
    let nonce = codes "r=" ++ own in
    let full = codes "r=" ++ first.nonce in
    let binding = codes "c=" ++ base64_text (cbind_input header) in
    let bare = two_joined user nonce (user ∷ []) (nonce ∷ [])
    (only_part user (part_of (codes "n=") (escaped name) refl (no_comma-escaped name)))
    (only_part nonce (part_of (codes "r=") own refl has.plain)) in
    let named = first_three text full (codes "s=" ++ base64_text first.salt) (codes "i=" ++ names.count.0) names.nonce
    names.salt.1 names.count.1 in
    let rest = two_joined binding full (binding ∷ []) (full ∷ []) (only_part binding (binding_plain header))
    (only_part full (no_comma-part text 0 full names.nonce)) in (
      named.0,
      named.1,
      three_joined (client_first_bare name own) text (without_proof_with header first.nonce)
          (user ∷ nonce ∷ []) _ (binding ∷ full ∷ []) bare named.1 rest,
    )

-- the parts of a client-final message before its proof
without_parts : (without text binding nonce proof : List ℕ) → Part text 0 binding → Part text 1 (114 ∷ nonce)
    → NoComma (112 ∷ proof) → text ≡ joined (without ∷ (112 ∷ proof) ∷ [])
    → (middle : List (List ℕ)) × Parts without (binding ∷ (114 ∷ nonce) ∷ middle)
without_parts without text binding nonce proof bound named plain whole = go (pieces without) (Parts-pieces without)
  where
    go : (parts : List (List ℕ)) → Parts without parts → (middle : List (List ℕ))
        × Parts without (binding ∷ (114 ∷ nonce) ∷ middle)
    go [] are = absurd (omega (arith, are.some))
    go (x ∷ []) are =
        let both : Some (112 ∷ proof) ≡ Some (114 ∷ nonce) =
        part_in text (x ∷ (112 ∷ proof) ∷ []) 1 (114 ∷ nonce)
        (with_last text without (112 ∷ proof) (x ∷ []) plain whole are) named in
        let apart : ◌≡◌ {A = ℕ} 112 114 = ap (λ (z : List ℕ). get_or z 0 0)
        (same_Some (112 ∷ proof) (114 ∷ nonce) both) in
        absurd (omega (arith, apart))
    go (x ∷ y ∷ middle) are =
        let all = with_last text without (112 ∷ proof) (x ∷ y ∷ middle) plain whole are in
        let first : x ≡ binding = same_Some x binding (part_in text
        ((x ∷ y ∷ middle) ++ ((112 ∷ proof) ∷ [])) 0 binding all bound) in
        let second : y ≡ 114 ∷ nonce = same_Some y (114 ∷ nonce)
        (part_in text ((x ∷ y ∷ middle) ++ ((112 ∷ proof) ∷ [])) 1 (114 ∷ nonce) all named) in (
          middle,
          subst (λ (z : List ℕ). Parts without (binding ∷ z ∷ middle)) second
              (subst (λ (z : List ℕ). Parts without (z ∷ y ∷ middle)) first are),
        )

-- what a server has of an exchange: with this nonce it answered a message that names the client's values by a challenge
-- of this record, and then a message that names these
pub record ServerHas (version : ScramVersion) (rules : ServerRules) (rights : Rights) (client : ClientFirst) (its : List ℕ)
    (stored : Record) (final : ClientFinal) : Type 0 where
  pub init : List ℕ
  pub response : List ℕ
  pub plain : NoComma its
  pub first : NamesClientFirst rules init client
  pub names : let challenge = challenge_of client its stored in
      NamesAcceptedFinal (server_against version rules rights challenge stored) response final

-- the channel binding that a server expects
abbrev pub expected : ServerRules → ClientFirst → List ℕ
expected rules client = cbind_input (expected_header rules.channels client.header)

-- its parts: two and more of the client-first message, three of its challenge, two and more of the response
pub record ServerParts (rules : ServerRules) (client : ClientFirst) (its : List ℕ) (stored : Record) (without : List ℕ)
    : Type 0 where
  pub extra : List (List ℕ)
  pub middle : List (List ℕ)
  pub bare : Parts client.bare ((codes "n=" ++ escaped client.user) ∷ (codes "r=" ++ client.nonce) ∷ extra)
  pub rest : Parts without ((codes "c=" ++ base64_text (expected rules client))
      ∷ (codes "r=" ++ (challenge_of client its stored).nonce) ∷ middle)
  pub message : let challenge = challenge_of client its stored in
      Parts (auth_message client.bare challenge.first without)
      (((codes "n=" ++ escaped client.user) ∷ (codes "r=" ++ client.nonce) ∷ extra)
      ++ (((codes "r=" ++ challenge.nonce) ∷ (codes "s=" ++ base64_text stored.salt)
      ∷ (codes "i=" ++ decimal stored.count) ∷ [])
      ++ ((codes "c=" ++ base64_text (expected rules client)) ∷ (codes "r=" ++ challenge.nonce) ∷ middle)))

pub server_parts : {rights : Rights} (version : ScramVersion) (rules : ServerRules) (client : ClientFirst) (its : List ℕ)
    (stored : Record) (final : ClientFinal)
    → stored.count < 2 ^ 32 → ServerHas version rules rights client its stored final
    → ServerParts rules client its stored final.without
server_parts version rules client its stored final small has =
    let wide : stored.count < 2 ^ 64 = omega (arith, small) in
    let challenge = challenge_of client its stored in
    let own = codes "r=" ++ client.nonce in
    let full = codes "r=" ++ challenge.nonce in
    let salt = codes "s=" ++ base64_text stored.salt in
    let count = codes "i=" ++ decimal stored.count in
    let bare = first_two client.bare (codes "n=" ++ escaped client.user) own has.first.user has.first.nonce in
    let plain : NoComma full = no_comma-append own its (no_comma-part client.bare 1 own has.first.nonce) has.plain in
    let first = three_joined full salt count (full ∷ []) (salt ∷ []) (count ∷ []) (only_part full plain)
    (only_part salt (part_of (codes "s=") (base64_text stored.salt) refl (no_comma-base64_text stored.salt)))
    (only_part count (part_of (codes "i=") (decimal stored.count) refl (no_comma-decimal stored.count wide))) in
    let rest = without_parts final.without has.response (codes "c=" ++ base64_text (expected rules client))
    (61 ∷ challenge.nonce) (61 ∷ base64_text final.proof) has.names.binding.1 has.names.nonce
    has.names.proof.1.0 has.names.proof.1.1 in
    record {
      extra = bare.0;
      middle = rest.0;
      bare = bare.1;
      rest = rest.1;
      message = three_joined client.bare challenge.first final.without _ _ _ bare.1 first rest.1;
    }

-- ---- equal lists of parts

-- the first byte of a part
abbrev letter : ℕ → List (List ℕ) → ℕ
letter k parts = get_or (get_or parts k []) 0 0

-- the fields of the two sides; with one or two extra parts of the client-first message the third part of the server's
-- would be where the client has its salt or its count
record SameFields (u n u' n' f s i f' s' i' c c' : List ℕ) (extra more : List (List ℕ)) : Type 0 where
  user : u ≡ u'
  nonce : n ≡ n'
  full : extra ≡ [] → f ≡ f'
  salt : extra ≡ [] → s ≡ s'
  count : extra ≡ [] → i ≡ i'
  binding : extra ≡ [] → more ≡ [] → c ≡ c'
  not_three : (x : List ℕ) → extra ≡ x ∷ [] → ⊥
  not_four : (x y : List ℕ) → extra ≡ x ∷ y ∷ [] → ⊥

-- 110, 114, 115, 105 and 99 are n, r, s, i and c; 61 is =
same_fields : (u n u' n' f s i f' s' i' c c' f'' : List ℕ) (extra more last : List (List ℕ)) →
    (110 ∷ 61 ∷ u) ∷ (114 ∷ 61 ∷ n) ∷ ((114 ∷ 61 ∷ f) ∷ (115 ∷ 61 ∷ s) ∷ (105 ∷ 61 ∷ i) ∷ more)
    ++ ((99 ∷ 61 ∷ c) ∷ (114 ∷ 61 ∷ f) ∷ [])
    ≡ (110 ∷ 61 ∷ u') ∷ (114 ∷ 61 ∷ n') ∷ extra ++ (((114 ∷ 61 ∷ f') ∷ (115 ∷ 61 ∷ s') ∷ (105 ∷ 61 ∷ i') ∷ [])
    ++ ((99 ∷ 61 ∷ c') ∷ (114 ∷ 61 ∷ f'') ∷ last))
    → SameFields u n u' n' f s i f' s' i' c c' extra more
same_fields u n u' n' f s i f' s' i' c c' f'' extra more last h =
    record {
      user = cc;
      nonce = cc;
      full = λ e. let h' = rw e at h in cc;
      salt = λ e. let h' = rw e at h in cc;
      count = λ e. let h' = rw e at h in cc;
      binding = λ e none. let h' = rw (e, none) at h in cc;
      not_three = λ x e. let d : ◌≡◌ {A = ℕ} 115 114 = ap (letter 3) (rw e at h) in absurd (omega (arith, d));
      not_four = λ x y e. let d : ◌≡◌ {A = ℕ} 105 114 = ap (letter 4) (rw e at h) in absurd (omega (arith, d));
    }

no_extra : (text p q : List ℕ) (extra : List (List ℕ)) → Parts text (p ∷ q ∷ extra) → IsPlain text → extra ≡ []
no_extra text p q [] are has = refl
no_extra text p q (x ∷ more) are has = absurd (let same : length (p ∷ q ∷ x ∷ more) ≡ 2 =
    ap length (one_list_of_parts text _ has.0 are has.1) ∙ has.2 in omega (arith, same))

one_extra : (text p q : List ℕ) (extra : List (List ℕ)) → Parts text (p ∷ q ∷ extra) → InParts 3 text
    → ((x : List ℕ) → extra ≡ x ∷ [] → ⊥) → ⊥
one_extra text p q extra are has none = go extra (ap length (one_list_of_parts text _ has.0 are has.1) ∙ has.2) none
  where
    go : (extra : List (List ℕ)) → length (p ∷ q ∷ extra) ≡ 3 → ((x : List ℕ) → extra ≡ x ∷ [] → ⊥) → ⊥
    go [] same none = omega (arith, same)
    go (x ∷ []) same none = none x refl
    go (x ∷ y ∷ more) same none = omega (arith, same)

two_extra : (text p q : List ℕ) (extra : List (List ℕ)) → Parts text (p ∷ q ∷ extra) → InParts 4 text
    → ((x y : List ℕ) → extra ≡ x ∷ y ∷ [] → ⊥) → ⊥
two_extra text p q extra are has none = go extra (ap length (one_list_of_parts text _ has.0 are has.1) ∙ has.2) none
  where
    go : (extra : List (List ℕ)) → length (p ∷ q ∷ extra) ≡ 4 → ((x y : List ℕ) → extra ≡ x ∷ y ∷ [] → ⊥) → ⊥
    go [] same none = omega (arith, same)
    go (x ∷ []) same none = omega (arith, same)
    go (x ∷ y ∷ []) same none = none x y refl
    go (x ∷ y ∷ z ∷ more) same none = omega (arith, same)

-- equal AuthMessages mean one user and client nonce. Where the client-first message was plain, or one side received no
-- misplaced attribute, they mean one nonce of both sides, salt and count, and in the second case one header. The
-- client-first message had not three parts and not four
pub record SameLogin (its_header : ClientHeader) (rules : ServerRules) (name own text : List ℕ) (first : ServerFirst)
    (client : ClientFirst) (its : List ℕ) (stored : Record) (without : List ℕ) : Type 0 where
  pub header : HoldsHeaderBytes its_header → NoneMisplaced text client.bare without → header_of its_header ≡ client.header
  pub channel : HoldsHeaderBytes its_header → NoneMisplaced text client.bare without
      → cbind_data its_header.channel ≡ cbind_data (expected_header rules.channels client.header).channel
  pub user : name ≡ client.user
  pub nonce : own ≡ client.nonce
  pub full_nonce : IsPlain client.bare ⊎ NoneMisplaced text client.bare without
      → first.nonce ≡ (challenge_of client its stored).nonce
  pub salt : IsPlain client.bare ⊎ NoneMisplaced text client.bare without → first.salt ≡ stored.salt
  pub count : IsPlain client.bare ⊎ NoneMisplaced text client.bare without → first.count ≡ stored.count
  pub not_three : ¬ InParts 3 client.bare
  pub not_four : ¬ InParts 4 client.bare

-- where no attribute is misplaced there are no extensions
are_none : (text bare without f s i c f' s' i' c' : List ℕ) (more extra middle : List (List ℕ)) (p q : List ℕ)
    → Parts text ((114 ∷ 61 ∷ f) ∷ (115 ∷ 61 ∷ s) ∷ (105 ∷ 61 ∷ i) ∷ more) → Parts bare (p ∷ q ∷ extra)
    → Parts without ((99 ∷ 61 ∷ c') ∷ (114 ∷ 61 ∷ f') ∷ middle) → NoneMisplaced text bare without
    → of_client f s i c more ≡ of_server f' s' i' c' extra middle → AreNone more extra middle
are_none text bare without f s i c f' s' i' c' more extra middle p q are first rest (inl none) same =
    none_of_client f s i c f' s' i' c' more extra middle (none_after_three text _ _ _ more are none) same
are_none text bare without f s i c f' s' i' c' more extra middle p q are first rest (inr none) same =
    none_of_server f s i c f' s' i' c' more extra middle (none_after_two bare _ _ extra first none.0)
    (none_after_two without _ _ middle rest none.1) same

-- the client-first message has none in either case
plain_or_none : (bare p q : List ℕ) (extra more middle : List (List ℕ)) → Parts bare (p ∷ q ∷ extra)
    → (None : Type 0) → (None → AreNone more extra middle) → IsPlain bare ⊎ None → extra ≡ []
plain_or_none bare p q extra more middle are None none (inl plain) = no_extra bare p q extra are plain
plain_or_none bare p q extra more middle are None none (inr is) = (none is).1

-- what a server expects after a flag has that flag
flag_expected : (rules : ServerRules) (flag : ChannelBindingFlag) → flag_of (expected_channel rules.channels flag) ≡ flag
flag_expected rules NotSupported = refl
flag_expected rules ClientSupports = refl
flag_expected rules (Required kind) = refl

header_expected : (rules : ServerRules) (header : Gs2Header) → header_of (expected_header rules.channels header) ≡ header
header_expected rules header = λ i. record { flag = flag_expected rules header.flag i; acts_for = header.acts_for }

-- channel bindings that are spelled alike are one
pub same_binding : (header : ClientHeader) (rules : ServerRules) (client : ClientFirst) → HoldsHeaderBytes header
    → IsBytes (expected rules client) → base64_text (cbind_input header) ≡ base64_text (expected rules client)
    → (header_of header ≡ client.header)
    × (cbind_data header.channel ≡ cbind_data (expected_header rules.channels client.header).channel)
same_binding header rules client bytes its same =
    let one = one_binding header (expected_header rules.channels client.header)
    (one_spelled (base64_text (cbind_input header)) (cbind_input header) (expected rules client)
    (IsBytes-cbind_input header bytes, refl) (its, same)) in (
      one.0 ∙ header_expected rules client.header,
      one.1,
    )

pub same_login : {rights : Rights} (header : ClientHeader) (rules : ServerRules) (name own text : List ℕ) (first : ServerFirst)
    (version : ScramVersion) (client : ClientFirst) (its : List ℕ) (stored : Record) (final : ClientFinal)
    → HoldsBytes (client.user, stored)
    → ClientHas own text first → ServerHas version rules rights client its stored final
    → auth_message (client_first_bare name own) text (without_proof_with header first.nonce)
    ≡ auth_message client.bare (challenge_of client its stored).first final.without
    → SameLogin header rules name own text first client its stored final.without
same_login header rules name own text first version client its stored final holds ours theirs same =
    let small : stored.count < 2 ^ 32 = holds.0 in
    let wide : stored.count < 2 ^ 64 = omega (arith, small) in
    let full = (challenge_of client its stored).nonce in
    let names = ours.names in
    let left = client_parts header name own text first ours in
    let right = server_parts version rules client its stored final small theirs in
    let parts = same_parts (auth_message (client_first_bare name own) text (without_proof_with header first.nonce))
    (auth_message client.bare (challenge_of client its stored).first final.without) _ _ same left.2 right.message in
    let fields = same_fields (escaped name) own (escaped client.user) client.nonce first.nonce (base64_text first.salt)
    names.count.0 full (base64_text stored.salt) (decimal stored.count) (base64_text (cbind_input header))
    (base64_text (expected rules client)) full right.extra left.0 right.middle parts in
    let none : NoneMisplaced text client.bare final.without → AreNone left.0 right.extra right.middle = λ apart.
    are_none text client.bare final.without first.nonce (base64_text first.salt) names.count.0
    (base64_text (cbind_input header)) full (base64_text stored.salt) (decimal stored.count)
    (base64_text (expected rules client)) left.0 right.extra right.middle _ _ left.1 right.bare right.rest apart
    (ap (λ (z : List (List ℕ)). drop 2 z) parts) in
    let only : IsPlain client.bare ⊎ NoneMisplaced text client.bare final.without → right.extra ≡ [] = λ either.
    plain_or_none client.bare _ _ right.extra left.0 right.middle right.bare
    (NoneMisplaced text client.bare final.without) none either in
    let binding = λ (bytes : HoldsHeaderBytes header) (apart : NoneMisplaced text client.bare final.without).
    same_binding header rules client bytes theirs.names.binding.0 (fields.binding (none apart).1 (none apart).0) in
    record {
      header = λ bytes apart. (binding bytes apart).0;
      channel = λ bytes apart. (binding bytes apart).1;
      user = one_escaped name client.user fields.user;
      nonce = fields.nonce;
      full_nonce = λ either. fields.full (only either);
      salt = λ either. one_spelled (base64_text first.salt) first.salt stored.salt (names.salt.0, refl)
          (holds.1, fields.salt (only either));
      count = λ either. count_of_decimal stored.count first.count wide
          (subst (λ (digits : List ℕ). IsCount digits first.count) (fields.count (only either)) names.count.2);
      not_three = λ three. one_extra client.bare _ _ right.extra right.bare three fields.not_three;
      not_four = λ four. two_extra client.bare _ _ right.extra right.bare four fields.not_four;
    }

-- ---- the signature

-- the lengths of the digests are apart
pub sized_version : (version other : ScramVersion) → digest_len version ≡ digest_len other → version ≡ other
sized_version Sha1 Sha1 same = refl
sized_version Sha1 Sha256 same = absurd (omega (arith, same))
sized_version Sha1 Sha512 same = absurd (omega (arith, same))
sized_version Sha256 Sha1 same = absurd (omega (arith, same))
sized_version Sha256 Sha256 same = refl
sized_version Sha256 Sha512 same = absurd (omega (arith, same))
sized_version Sha512 Sha1 same = absurd (omega (arith, same))
sized_version Sha512 Sha256 same = absurd (omega (arith, same))
sized_version Sha512 Sha512 same = refl

-- where one text shows both signatures, version and HMAC value are one
pub one_signature : (version other : ScramVersion) (key its_key auth its_auth last : List ℕ)
    → HasBase64 last 0 (codes "v=") (hmac_of version key auth)
    → Part last 0 (codes "v=" ++ base64_text (hmac_of other its_key its_auth))
    → (version ≡ other) × (hmac_of version key auth ≡ hmac_of other its_key its_auth)
one_signature version other key its_key auth its_auth last has part =
    let mine = hmac_of version key auth in
    let its = hmac_of other its_key its_auth in
    let parts : codes "v=" ++ base64_text mine ≡ codes "v=" ++ base64_text its =
    one_part last 0 (codes "v=" ++ base64_text mine) (codes "v=" ++ base64_text its) has.1 part in
    let texts : base64_text mine ≡ base64_text its = cc in
    let one = one_spelled (base64_text mine) mine its (IsBytes-hmac_of version key auth, refl)
    (IsBytes-hmac_of other its_key its_auth, texts) in (
      sized_version version other
          (sym (length-hmac_of version key auth) ∙ (ap length one ∙ length-hmac_of other its_key its_auth)),
      one,
    )

-- ---- one client's and one server's texts

pub client_has : (side : ClientSide) (own text : List ℕ) (client : ClientKnows side own text)
    → ClientHas (base64_text own) text client.first
client_has side own text client = record {
  plain = no_comma-base64_text own;
  names = names_server_first (holding side (base64_text own)) text client.first client.reads;
}

pub server_has : (provider : Provider) (its init response : List ℕ) (server : ServerKnows provider its init response)
    → ServerHas provider.version provider.rules provider.rights server.client (base64_text its) server.stored server.final
server_has provider its init response server =
    let challenge = challenge_known server in
    record {
      init = init;
      response = response;
      plain = no_comma-base64_text its;
      first = names_client_first provider.rules init server.client server.reads_init;
      names = names_client_final (server_against provider.version provider.rules provider.rights challenge server.stored)
          response server.final server.reads;
    }

-- where the AuthMessages are equal, both sides agree
pub agree : (side : ClientSide) (provider : Provider) (own text its init response : List ℕ)
    (client : ClientKnows side own text) (server : ServerKnows provider its init response)
    → HoldsBytes (server.client.user, server.stored)
    → (keys_known client).version ≡ provider.version → client_auth_message client ≡ server_auth_message server
    → TextsAgree client server
agree side provider own text its init response client server holds version same =
    let values = same_login (header_in side) provider.rules side.user (base64_text own) text client.first provider.version
    server.client (base64_text its) server.stored server.final holds (client_has side own text client)
    (server_has provider its init response server) same in
    record {
      version = version;
      header = values.header;
      channel = values.channel;
      user = values.user;
      nonce = values.nonce;
      full_nonce = values.full_nonce;
      salt = values.salt;
      count = values.count;
    }

-- what a client verified shows the signature of its answer
shown : (side waiting done : ClientSide) (answer own : Answer) (last : List ℕ) → answer ≡ own
    → waiting ≡ with_state side (ClientFinalSent answer.signature (Some answer.keys))
    → VerifiesIn waiting.state waiting last (Ok tt) done → HasBase64 last 0 (codes "v=") own.signature
shown side waiting done answer own last same is verifies =
    let reads = subst (λ (at : ClientSide). VerifiesIn at.state at last (Ok tt) done) is verifies in
    subst (λ (made : Answer). HasBase64 last 0 (codes "v=") made.signature) same
    (names_server_final (is_strict_client side) answer.signature last tt reads.0)

-- what a server accepted it read against its challenge
concluded : (provider : Provider) (waiting done : ServerState) (challenge : ServerChallenge) (client : ClientFirst)
    (nonce response last : List ℕ) (stored own : Record) → waiting ≡ ServerFirstSent challenge own
    → provider.records challenge.user ≡ Some own
    → challenge ≡ challenge_of client nonce stored → provider.records client.user ≡ Some stored
    → ConcludesFrom waiting provider.version provider.rules provider.rights response (Ok (Some last)) done
    → let known = challenge_of client nonce stored in
    AnswersClientFinal (server_against provider.version provider.rules provider.rights known stored) response (Ok last)
concluded provider waiting done challenge client nonce response last stored own is has same known from =
    let user : challenge.user ≡ client.user = ap (λ (x : ServerChallenge). x.user) same in
    let one : own ≡ stored = same_Some own stored (sym has ∙ (ap provider.records user ∙ known)) in
    (subst (λ (state : ServerState). ConcludesFrom state provider.version provider.rules provider.rights
    response (Ok (Some last)) done) (is ∙ (λ i. ServerFirstSent (same i) (one i))) from).0

-- what a server knows that accepted, and that its message is that of its answer
pub server_knows : (provider : Provider) (its init response verifier : List ℕ)
    → AcceptedTexts provider its init response verifier
    → (server : ServerKnows provider its init response) × (verifier ≡ server_final_of
    (server_against provider.version provider.rules provider.rights (challenge_known server) server.stored) server.final)
server_knows provider its init response verifier accepted =
    let opened = accepted.challenges.1 in
    let final = concluded provider accepted.waiting accepted.done accepted.challenges.0 opened.0 (base64_text its)
    response verifier opened.1 accepted.challenges.3.0 accepted.challenges.3.2 accepted.challenges.3.1 opened.4 opened.3
    accepted.accepts in (
      record {
        client = opened.0;
        stored = opened.1;
        final = final.0;
        reads_init = opened.2;
        known = opened.3;
        reads = final.1;
      },
      final.2,
    )

pub verified_texts_agree : VerifiedTextsAgree
verified_texts_agree side provider own text last its init response verifier verified accepted part =
    let answer = verified.answers.1 in
    let client : ClientKnows side own text = record { first = answer.0; reads = answer.1 } in
    let known = server_knows provider its init response verifier accepted in
    let server = known.0 in
    let has = shown side verified.waiting verified.done verified.answers.0
    (answer_of side.version side.secret (header_in side) (client_first_bare side.user (base64_text own)) text answer.0) last
    answer.2 verified.answers.3 verified.verifies in
    let one = one_signature (keys_known client).version provider.version (keys_known client).server_key
    server.stored.server_key (client_auth_message client) (server_auth_message server) last has
    (subst (Part last 0) known.1 part) in (
      client,
      server,
      λ holds. (
        agree side provider own text its init response client server holds one.0,
        λ differ. record {
          version = one.0;
          one = ap (λ (of : ScramVersion). hmac_of of (keys_known client).server_key (client_auth_message client))
              (sym one.0) ∙ one.1;
        },
      ),
    )
