-- An initial response claims one user name, or none: `one_claim`, `some_claim`. What a server of SCRAM reads is claimed:
-- `claims_what_servers_read`.
use Rattle.std.proofs.Common.{Bool, true, false, ◌≡◌, ◌≢◌, ◌≤◌, ℕ, arith, Option, Some, None, List, [], length, codes, refl, sym, ap, subst, ◌∙◌, ◌++◌, inl, inr, Result, Ok, Err}
use Rattle.std.proofs.lemmas.Bool.{cases_lt}
use Rattle.std.specs.Prelude.{◌||◌, T, is_some}
use Rattle.fe2o3_scram.specs.declared.hmac.ScramVersion.{ScramVersion}
use Rattle.fe2o3_scram.specs.declared.hmac.ScramVersion.TheVariants as versions
use Rattle.fe2o3_scram.specs.declared.scram_messages.error.ServerScramErrorKind.{ServerScramErrorKind}
use Rattle.fe2o3_scram.specs.declared.scram_messages.server_rules.ServerRules.{ServerRules}
use Rattle.fe2o3_scram.specs.declared.scram_messages.channel_binding_flag.ChannelBindingFlag.{ChannelBindingFlag}
use Rattle.fe2o3_scram.specs.declared.scram_messages.channel_binding_flag.ChannelBindingFlag.TheVariants.{NotSupported, ClientSupports, Required}
use Rattle.fe2o3_scram.specs.declared.channel_binding.ChannelBindings.{ChannelBindings}
use Rattle.fe2o3_scram.specs.declared.channel_binding.ChannelKind.TheVariants.{TlsUnique, TlsServerEndPoint, TlsExporter}
use Rattle.fe2o3_scram.specs.ChannelBinding.{TakesFlag, TakesHeader, is_strict, mechanism_of, no_data, AcceptsFlag}
use Rattle.fe2o3_scram.specs.ClientFirst.{ClientFirst, NamesClientFirst, ReadsClientFirst}
use Rattle.fe2o3_scram.specs.Escape.{escaped}
use Rattle.fe2o3_scram.specs.Texts.{Part}
use Rattle.fe2o3_scram.proofs.lemmas.messages.ClientFirstLemmas.{after_nonce}
use Rattle.fe2o3_scram.proofs.lemmas.messages.HeaderLemmas.{one_header}
use Rattle.fe2o3_scram.proofs.lemmas.messages.OneValueLemmas.{names_client_first}
use Rattle.fe2o3_scram.proofs.lemmas.messages.SomeReadingLemmas.{some_client_first}
use Rattle.fe2o3_scram.proofs.lemmas.texts.CutLemmas.{cut_or, uncut}
use Rattle.fe2o3_scram.proofs.lemmas.texts.EscapingLemmas.{one_escaped}
use Rattle.fe2o3_scram.proofs.lemmas.texts.PartsLemmas.{one_behind}
use Rattle.fe2o3_scram.proofs.lemmas.texts.DecisionLemmas.{Decided, Found, both_or, not_or, same_or, utf8_or}
use Rattle.fe2o3_sasl_core.specs.LoginAttemptLaws.{ClaimsWhatServersRead, OneClaim, SomeClaim}
use Rattle.fe2o3_sasl_core.specs.LoginAttempts.{ClaimOf, ClaimsUser, NamesUser, headers_of}
use Rattle.fe2o3_sasl_core.specs.PlainServer.{IsTaken, PlainParts, SpellsPlain}
use Rattle.fe2o3_sasl_core.proofs.lemmas.machines.LoginAttemptLemmas.{not_plain, one_plus, other_claims_none, plain_claims_none, refused, scram_claims_none}
use Rattle.fe2o3_sasl_core.proofs.lemmas.machines.PlainMessageLemmas.{cut_once, cut_thrice, cut_twice, not_cut, not_taken, not_utf8, one_message}

-- ---- at most one

-- two readers of one message read one user
one_user : (rules own : ServerRules) (text : List ℕ) (first other : ClientFirst) → NamesClientFirst rules text first
    → NamesClientFirst own text other → first.user ≡ other.user
one_user rules own text first other names too =
    let bare = (one_header first.header other.header text first.bare other.bare names.bare too.bare).1 in
    one_escaped first.user other.user (one_behind other.bare 0 (codes "n=") (escaped first.user) (escaped other.user)
    (subst (λ (behind : List ℕ). Part behind 0 (codes "n=" ++ escaped first.user)) bare names.user) too.user)

one_named : (plus : Bool) (text name other : List ℕ) → NamesUser plus text name → NamesUser plus text other
    → name ≡ other
one_named plus text name other (accept, first, reads, same) (accept', first', reads', same') =
    same ∙ (one_user (headers_of plus accept) (headers_of plus accept') text first first'
    (names_client_first (headers_of plus accept) text first reads)
    (names_client_first (headers_of plus accept') text first' reads') ∙ sym same')

one_name : (mechanism text name other : List ℕ) → ClaimsUser mechanism text name → ClaimsUser mechanism text other
    → name ≡ other
one_name mechanism text name other (inl (version, plus, is, names)) (inl (version', plus', is', too)) =
    let one = one_plus version version' plus plus' (sym is ∙ is') in
    one_named plus' text name other (subst (λ (p : Bool). NamesUser p text name) one names) too
one_name mechanism text name other (inl (version, plus, is, names)) (inr (plain, more)) =
    absurd (not_plain version plus (sym is ∙ plain))
one_name mechanism text name other (inr (plain, more)) (inl (version, plus, is, names)) =
    absurd (not_plain version plus (sym is ∙ plain))
one_name mechanism text name other (inr (plain, (parts, spells, taken, same)))
    (inr (plain', (parts', spells', taken', same'))) =
    same ∙ (ap (λ (p : PlainParts). p.user) (one_message text parts parts' spells spells') ∙ sym same')

pub one_claim : OneClaim
one_claim mechanism text None None is too = refl
one_claim mechanism text None (Some name) none is = absurd (none name is)
one_claim mechanism text (Some name) None is none = absurd (none name is)
one_claim mechanism text (Some name) (Some other) is too =
    ap (λ (n : List ℕ). Some n) (one_name mechanism text name other is too)

-- ---- some

-- whether a name is one of SCRAM, with -PLUS or without it
abbrev IsName : List ℕ → ScramVersion × Bool → Type 0
IsName mechanism named = mechanism_of named.0 named.1 ≡ mechanism

version_or : (mechanism : List ℕ) (plus : Bool) → Found (λ (version : ScramVersion). mechanism_of version plus ≡ mechanism)
version_or mechanism plus = elim (same_or (mechanism_of versions.Sha1 plus) mechanism) [
  | inl is ↦ inl (versions.Sha1, is)
  | inr first ↦ elim (same_or (mechanism_of versions.Sha256 plus) mechanism) [
    | inl is ↦ inl (versions.Sha256, is)
    | inr second ↦ elim (same_or (mechanism_of versions.Sha512 plus) mechanism) [
      | inl is ↦ inl (versions.Sha512, is)
      | inr third ↦ inr (none first second third)
    ]
  ]
]
  where
    none : mechanism_of versions.Sha1 plus ≢ mechanism → mechanism_of versions.Sha256 plus ≢ mechanism
        → mechanism_of versions.Sha512 plus ≢ mechanism → (version : ScramVersion)
        → mechanism_of version plus ≢ mechanism
    none first second third versions.Sha1 = first
    none first second third versions.Sha256 = second
    none first second third versions.Sha512 = third

name_or : (mechanism : List ℕ) → Found (IsName mechanism)
name_or mechanism = elim (version_or mechanism false) [
  | inl (version, is) ↦ inl ((version, false), is)
  | inr without ↦ elim (version_or mechanism true) [
    | inl (version, is) ↦ inl ((version, true), is)
    | inr with_plus ↦ inr (none without with_plus)
  ]
]
  where
    none : ((version : ScramVersion) → mechanism_of version false ≢ mechanism)
        → ((version : ScramVersion) → mechanism_of version true ≢ mechanism) → (named : ScramVersion × Bool)
        → ¬ IsName mechanism named
    none without with_plus (version, false) = without version
    none without with_plus (version, true) = with_plus version

message_or : (text : List ℕ) → Found (λ (parts : PlainParts). SpellsPlain parts text)
message_or text = elim (utf8_or text) [
  | inr other ↦ inr (not_utf8 text other)
  | inl utf8 ↦ elim (cut_or 0 text) [
    | inr plain ↦ inr (not_cut text (uncut 0 text plain))
    | inl (identity, rest, a) ↦ elim (cut_or 0 rest) [
      | inr plain ↦ inr (cut_once text identity rest a (uncut 0 rest plain))
      | inl (user, password, b) ↦ elim (cut_or 0 password) [
        | inl (before, more, c) ↦ inr (cut_thrice text identity rest user password before more a b c)
        | inr plain ↦ inl (
          record { identity = identity; user = user; password = password },
          cut_twice text identity rest user password utf8 a b (uncut 0 password plain),
        )
      ]
    ]
  ]
]

at_most : (n m : ℕ) → Decided (n ≤ m)
at_most n m = elim (cases_lt m n) [
  | inl less ↦ inr (λ most. absurd (omega (arith, less, most)))
  | inr most ↦ inl most
]

taken_or : (parts : PlainParts) → Decided (IsTaken true parts)
taken_or parts = go (both_or (not_or (same_or parts.user [])) (both_or (not_or (same_or parts.password []))
    (at_most (length parts.password) 1024)))
  where
    go : Decided ((parts.user ≢ []) × ((parts.password ≢ []) × (length parts.password ≤ 1024)))
        → Decided (IsTaken true parts)
    go (inl is) = inl (tt, is.0, is.1.0, is.1.1)
    go (inr not) = inr (λ is. not (is.1, (is.2, is.3)))

taken_message_or : (text : List ℕ) → Found (λ (parts : PlainParts). SpellsPlain parts text × IsTaken true parts)
taken_message_or text = elim (message_or text) [
  | inr none ↦ inr (λ parts both. none parts both.0)
  | inl (parts, is) ↦ elim (taken_or parts) [
    | inl taken ↦ inl (parts, (is, taken))
    | inr wrong ↦ inr (λ other both. not_taken true text parts is wrong other both.0 both.1)
  ]
]

some_scram : (mechanism text : List ℕ) (version : ScramVersion) (plus : Bool) → mechanism_of version plus ≡ mechanism
    → (answer : Result ClientFirst ServerScramErrorKind) → ReadsClientFirst (headers_of plus false) text answer
    → (other : Result ClientFirst ServerScramErrorKind) → ReadsClientFirst (headers_of plus true) text other
    → (user : Option (List ℕ)) × ClaimOf mechanism text user
some_scram mechanism text version plus is (Ok first) reads other too =
    (Some first.user, inl (version, plus, sym is, (false, first, reads, refl)))
some_scram mechanism text version plus is (Err why) reads (Ok first) too =
    (Some first.user, inl (version, plus, sym is, (true, first, too, refl)))
some_scram mechanism text version plus is (Err why) reads (Err also) too =
    (None, scram_claims_none mechanism text version plus is none)
  where
    none : (name : List ℕ) → ¬ NamesUser plus text name
    none name (false, first, named, same) = refused (headers_of plus false) text why first reads named
    none name (true, first, named, same) = refused (headers_of plus true) text also first too named

some_plain : (mechanism text : List ℕ) → ((version : ScramVersion) (plus : Bool) → mechanism_of version plus ≢ mechanism)
    → mechanism ≡ codes "PLAIN" → Found (λ (parts : PlainParts). SpellsPlain parts text × IsTaken true parts)
    → (user : Option (List ℕ)) × ClaimOf mechanism text user
some_plain mechanism text other plain (inl (parts, both)) =
    (Some parts.user, inr (plain, (parts, both.0, both.1, refl)))
some_plain mechanism text other plain (inr none) =
    (None, plain_claims_none mechanism text other (λ parts spells taken. none parts (spells, taken)))

some_other : (mechanism text : List ℕ) → ((version : ScramVersion) (plus : Bool) → mechanism_of version plus ≢ mechanism)
    → Decided (mechanism ≡ codes "PLAIN") → (user : Option (List ℕ)) × ClaimOf mechanism text user
some_other mechanism text other (inl plain) = some_plain mechanism text other plain (taken_message_or text)
some_other mechanism text other (inr not) = (None, other_claims_none mechanism text other not)

some_of : (mechanism text : List ℕ) → Found (IsName mechanism) → (user : Option (List ℕ)) × ClaimOf mechanism text user
some_of mechanism text (inl ((version, plus), is)) =
    let read = some_client_first (headers_of plus false) text in
    let other = some_client_first (headers_of plus true) text in
    some_scram mechanism text version plus is read.0 read.1 other.0 other.1
some_of mechanism text (inr other) =
    some_other mechanism text (λ version plus. other (version, plus)) (same_or mechanism (codes "PLAIN"))

pub some_claim : SomeClaim
some_claim mechanism text = some_of mechanism text (name_or mechanism)

-- ---- what a server reads

-- a flag that a server accepts is one of its mechanism
flag_of_mechanism : (channels : Option ChannelBindings) (accept_y accept : Bool) (flag : ChannelBindingFlag)
    → TakesFlag channels accept_y flag → AcceptsFlag (headers_of (is_some channels) accept) flag
flag_of_mechanism None accept_y accept NotSupported takes = tt
flag_of_mechanism None accept_y accept ClientSupports takes = tt
flag_of_mechanism None accept_y accept (Required kind) takes = takes
flag_of_mechanism (Some channels) accept_y accept NotSupported takes = takes
flag_of_mechanism (Some channels) accept_y accept ClientSupports takes = takes
flag_of_mechanism (Some channels) accept_y accept (Required TlsUnique) takes = (no_data, refl)
flag_of_mechanism (Some channels) accept_y accept (Required TlsServerEndPoint) takes = (no_data, refl)
flag_of_mechanism (Some channels) accept_y accept (Required TlsExporter) takes = (no_data, refl)

-- a claim is read strictly only where each server is strict
strict_like_servers : (channels : Option ChannelBindings) (accept rest : Bool)
    → T (is_strict (headers_of (is_some channels) accept)) → T (is_some channels || (accept || rest))
strict_like_servers None false rest is = absurd is
strict_like_servers None true rest is = tt
strict_like_servers (Some channels) accept rest is = tt

-- what claims are read by is not set to be strict
not_strict : (plus accept : Bool) → ¬ T (headers_of plus accept).strict
not_strict true accept strict = strict
not_strict false accept strict = strict

read_by_server : (rules : ServerRules) (text : List ℕ) (first : ClientFirst) → ReadsClientFirst rules text (Ok first)
    → ReadsClientFirst (headers_of (is_some rules.channels) rules.accept_authzid) text (Ok first)
unfolding ReadsClientFirst
read_by_server rules text first reads =
    let names = reads.1 in
    let accept = rules.accept_authzid in
    let own = headers_of (is_some rules.channels) accept in
    let flag = flag_of_mechanism rules.channels rules.accept_cbind_flag_y accept first.header.flag names.header.0 in
    let takes : TakesHeader own first.header = (flag, names.header.1) in (
      (
        reads.0.0,
        (
          λ absent. absent first.header takes (first.bare, names.bare),
          (
            λ none. none first.user (first.header, first.bare, takes, names.bare, names.user),
            (
              λ none. none first.nonce (first.header, first.bare, takes, names.bare, names.nonce),
              (
                λ wrong. not_strict (is_some rules.channels) accept wrong.0,
                (
                  λ wrong. not_strict (is_some rules.channels) accept wrong.0,
                  (
                    λ wrong. reads.0.1.1.1.1.1.1.0 (
                      strict_like_servers rules.channels accept (rules.reject_misplaced || rules.strict) wrong.0,
                      (
                        first.header,
                        first.bare,
                        names.header,
                        names.bare,
                        after_nonce own first.header text first.bare names.bare wrong.1,
                      ),
                    ),
                    tt,
                  ),
                ),
              ),
            ),
          ),
        ),
      ),
      record { header = takes; bare = names.bare; user = names.user; nonce = names.nonce },
    )

pub claims_what_servers_read : ClaimsWhatServersRead
claims_what_servers_read version rules text first reads =
    inl (
      version,
      is_some rules.channels,
      refl,
      (rules.accept_authzid, first, read_by_server rules text first reads, refl),
    )
