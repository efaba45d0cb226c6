-- Acceptors and profiles of one mechanism find each other, and PLAIN and ANONYMOUS let in whom they should.
use Rattle.std.proofs.Common.{◌≡◌, ◌≢◌, ℕ, zero, suc, Bool, true, false, true≢false, None, List, [], ◌∷◌, ◌++◌, get_or, length, if◌then◌else◌, refl, sym, ap, ◌∙◌, subst, arith, codes, inl, inr}
use Rattle.std.specs.Prelude.{is_some, nat_eq, nat_lt}
use Rattle.std.specs.List.{Contains}
use Rattle.std.specs.Cmp.Lexicographic.{pointwise}
use Rattle.std.proofs.lemmas.Cmp.{nat_list_eq_equiv}
use Rattle.std.proofs.lemmas.List.{append_assoc}
use Rattle.std.proofs.lemmas.Option.{same_Some}
use Rattle.fe2o3_scram.specs.declared.hmac.ScramVersion.{ScramVersion}
use Rattle.fe2o3_scram.specs.declared.hmac.ScramVersion.TheVariants.{Sha1, Sha256, Sha512}
use Rattle.fe2o3_scram.specs.ChannelBinding.{is_bound, mechanism_of, server_mechanism}
use Rattle.fe2o3_sasl_core.specs.MechanismLaws.{PlainIdentitiesAgree, PlainLetsIn, PlainRefuses, AnonymousLetsIn, OffersAgree, SomethingIsOffered, NamesDiffer, Differ}
use Rattle.fe2o3_sasl_core.specs.SaslAcceptor.{ScramAcceptor, PlainAcceptor, AnonymousAcceptor}
use Rattle.fe2o3_sasl_core.specs.Profiles.{ScramProfile, PlainProfile, AnonymousProfile, ExternalProfile, MessageProfile, AnonymousMessage, ExternalMessage, PolicyProfile, initial_response}
use Rattle.fe2o3_sasl_core.specs.PlainServer.{PlainParts, asked_identity}
use Rattle.fe2o3_sasl_wire.specs.SaslFrames as frames
use Rattle.fe2o3_sasl_core.proofs.lemmas.machines.PlainMessageLemmas.{one_message}
use Rattle.fe2o3_sasl_core.proofs.lemmas.machines.ZeroPartLemmas.{names_both, names_no_other}

-- ---- names

-- two literals that are not the same
pub differ : (text other : List ℕ) → pointwise nat_eq text other ≡ false → text ≢ other
differ text other apart same =
    true≢false (sym (nat_list_eq_equiv.refl text) ∙ (ap (pointwise nat_eq text) same ∙ apart))

-- a list of one name
pub contains_one : (name : List ℕ) → Contains (name ∷ []) name
contains_one name = (0, omega arith, refl)

pub the_one : (name other : List ℕ) → Contains (name ∷ []) other → name ≡ other
the_one name other (zero, within, is) = is
the_one name other (suc k, within, is) = absurd (omega (arith, within))

-- the version that a name of SCRAM tells: 49 and 50 are 1 and 2
abbrev version_at : List ℕ → ScramVersion
version_at name = if nat_eq (get_or name 10 0) 49 then Sha1 else (if nat_eq (get_or name 10 0) 50 then Sha256 else Sha512)

-- and whether it is with channel binding: such a name has at least 16 characters, and any other at most 13
abbrev bound_at : List ℕ → Bool
bound_at name = nat_lt 13 (length name)

version_read : (version : ScramVersion) (bound : Bool) → version_at (mechanism_of version bound) ≡ version
version_read Sha1 true = refl
version_read Sha1 false = refl
version_read Sha256 true = refl
version_read Sha256 false = refl
version_read Sha512 true = refl
version_read Sha512 false = refl

bound_read : (version : ScramVersion) (bound : Bool) → bound_at (mechanism_of version bound) ≡ bound
bound_read Sha1 true = refl
bound_read Sha1 false = refl
bound_read Sha256 true = refl
bound_read Sha256 false = refl
bound_read Sha512 true = refl
bound_read Sha512 false = refl

-- a name of SCRAM is only that of its version, with or without channel binding
one_mechanism : (version other : ScramVersion) (bound too : Bool) → mechanism_of version bound ≡ mechanism_of other too
    → (other ≡ version) × (too ≡ bound)
one_mechanism version other bound too same = (
  sym (version_read other too) ∙ (ap version_at (sym same) ∙ version_read version bound),
  sym (bound_read other too) ∙ (ap bound_at (sym same) ∙ bound_read version bound),
)

-- and no other mechanism has it
pub other_name : (version : ScramVersion) (bound : Bool) → (mechanism_of version bound ≢ codes "PLAIN")
    × (mechanism_of version bound ≢ codes "ANONYMOUS") × (mechanism_of version bound ≢ codes "EXTERNAL")
other_name Sha1 true = (differ _ _ refl, differ _ _ refl, differ _ _ refl)
other_name Sha1 false = (differ _ _ refl, differ _ _ refl, differ _ _ refl)
other_name Sha256 true = (differ _ _ refl, differ _ _ refl, differ _ _ refl)
other_name Sha256 false = (differ _ _ refl, differ _ _ refl, differ _ _ refl)
other_name Sha512 true = (differ _ _ refl, differ _ _ refl, differ _ _ refl)
other_name Sha512 false = (differ _ _ refl, differ _ _ refl, differ _ _ refl)

is_not_empty : (version : ScramVersion) (bound : Bool) → mechanism_of version bound ≢ []
is_not_empty Sha1 true = differ _ _ refl
is_not_empty Sha1 false = differ _ _ refl
is_not_empty Sha256 true = differ _ _ refl
is_not_empty Sha256 false = differ _ _ refl
is_not_empty Sha512 true = differ _ _ refl
is_not_empty Sha512 false = differ _ _ refl

pub offers_agree : OffersAgree
offers_agree (ScramAcceptor provider state) (ScramProfile client) = (
  λ has. one_mechanism provider.version client.version (is_some provider.rules.channels) (is_bound client.channel)
      (the_one _ _ has),
  λ same. subst (Contains (server_mechanism provider.version provider.rules ∷ []))
      (λ i. mechanism_of (sym same.0 i) (sym same.1 i)) (contains_one _),
)
offers_agree (ScramAcceptor provider state) (PlainProfile identity user password) =
    (λ has. absurd ((other_name provider.version (is_some provider.rules.channels)).0 (the_one _ _ has)), λ same. absurd same)
offers_agree (ScramAcceptor provider state) AnonymousProfile =
    (λ has. absurd ((other_name provider.version (is_some provider.rules.channels)).1 (the_one _ _ has)), λ same. absurd same)
offers_agree (ScramAcceptor provider state) ExternalProfile =
    (λ has. absurd ((other_name provider.version (is_some provider.rules.channels)).2 (the_one _ _ has)), λ same. absurd same)
offers_agree (ScramAcceptor provider state) (MessageProfile AnonymousMessage message is_due) =
    (λ has. absurd ((other_name provider.version (is_some provider.rules.channels)).1 (the_one _ _ has)), λ same. absurd same)
offers_agree (ScramAcceptor provider state) (MessageProfile ExternalMessage message is_due) =
    (λ has. absurd ((other_name provider.version (is_some provider.rules.channels)).2 (the_one _ _ has)), λ same. absurd same)
offers_agree (ScramAcceptor provider state) (PolicyProfile selection) = (
  λ has. absurd (is_not_empty provider.version (is_some provider.rules.channels) (the_one _ _ has)),
  λ same. absurd same,
)
offers_agree (PlainAcceptor user password accepted) (ScramProfile client) =
    (λ has. absurd ((other_name client.version (is_bound client.channel)).0 (sym (the_one _ _ has))), λ same. absurd same)
offers_agree (PlainAcceptor user password accepted) (PlainProfile identity other secret) = (λ has. tt, λ same. contains_one _)
offers_agree (PlainAcceptor user password accepted) AnonymousProfile =
    (λ has. absurd (differ _ _ refl (the_one _ _ has)), λ same. absurd same)
offers_agree (PlainAcceptor user password accepted) ExternalProfile =
    (λ has. absurd (differ _ _ refl (the_one _ _ has)), λ same. absurd same)
offers_agree (PlainAcceptor user password accepted) (MessageProfile AnonymousMessage message is_due) =
    (λ has. absurd (differ _ _ refl (the_one _ _ has)), λ same. absurd same)
offers_agree (PlainAcceptor user password accepted) (MessageProfile ExternalMessage message is_due) =
    (λ has. absurd (differ _ _ refl (the_one _ _ has)), λ same. absurd same)
offers_agree (PlainAcceptor user password accepted) (PolicyProfile selection) =
    (λ has. absurd (differ _ _ refl (the_one _ _ has)), λ same. absurd same)
offers_agree AnonymousAcceptor (PolicyProfile selection) =
    (λ has. absurd (differ _ _ refl (the_one _ _ has)), λ same. absurd same)
offers_agree AnonymousAcceptor (ScramProfile client) =
    (λ has. absurd ((other_name client.version (is_bound client.channel)).1 (sym (the_one _ _ has))), λ same. absurd same)
offers_agree AnonymousAcceptor (PlainProfile identity user password) =
    (λ has. absurd (differ _ _ refl (the_one _ _ has)), λ same. absurd same)
offers_agree AnonymousAcceptor AnonymousProfile = (λ has. tt, λ same. contains_one _)
offers_agree AnonymousAcceptor ExternalProfile =
    (λ has. absurd (differ _ _ refl (the_one _ _ has)), λ same. absurd same)
offers_agree AnonymousAcceptor (MessageProfile AnonymousMessage message is_due) =
    (λ has. tt, λ same. contains_one _)
offers_agree AnonymousAcceptor (MessageProfile ExternalMessage message is_due) =
    (λ has. absurd (differ _ _ refl (the_one _ _ has)), λ same. absurd same)

pub something_is_offered : SomethingIsOffered
something_is_offered [] = (λ e. absurd (cc), λ some. absurd (some refl))
something_is_offered (name ∷ names) = (λ e. absurd (cc), λ some. refl)

-- the names of the six profiles, with or without channel binding
abbrev six_names : Bool → List (List ℕ)
six_names bound = mechanism_of Sha1 bound ∷ mechanism_of Sha256 bound ∷ mechanism_of Sha512 bound ∷ codes "PLAIN"
    ∷ codes "ANONYMOUS" ∷ codes "EXTERNAL" ∷ []

six_differ : (bound : Bool) → Differ (six_names bound)
six_differ true = (
  (differ _ _ refl, (differ _ _ refl, (differ _ _ refl, (differ _ _ refl, (differ _ _ refl, tt))))),
  (
    (differ _ _ refl, (differ _ _ refl, (differ _ _ refl, (differ _ _ refl, tt)))),
    (
      (differ _ _ refl, (differ _ _ refl, (differ _ _ refl, tt))),
      ((differ _ _ refl, (differ _ _ refl, tt)), ((differ _ _ refl, tt), (tt, tt))),
    ),
  ),
)
six_differ false = (
  (differ _ _ refl, (differ _ _ refl, (differ _ _ refl, (differ _ _ refl, (differ _ _ refl, tt))))),
  (
    (differ _ _ refl, (differ _ _ refl, (differ _ _ refl, (differ _ _ refl, tt)))),
    (
      (differ _ _ refl, (differ _ _ refl, (differ _ _ refl, tt))),
      ((differ _ _ refl, (differ _ _ refl, tt)), ((differ _ _ refl, tt), (tt, tt))),
    ),
  ),
)

pub names_differ : NamesDiffer
names_differ login password = six_differ (is_bound login.channel)

-- ---- PLAIN and ANONYMOUS

pub plain_lets_in : PlainLetsIn
plain_lets_in user password accepted plain too hostname client_nonce server_nonce = (
  frames.Init (codes "PLAIN") (initial_response (PlainProfile [] user password) client_nonce) hostname,
  inl (contains_one _, refl, refl),
  inl (names_both user password plain too, refl, refl),
)

pub plain_refuses : PlainRefuses
plain_refuses user password other secret accepted plain too apart hostname client_nonce server_nonce = (
  frames.Init (codes "PLAIN") (initial_response (PlainProfile [] other secret) client_nonce) hostname,
  inl (contains_one _, refl, refl),
  inr (λ names. apart (names_no_other user password other secret plain too names), refl, refl),
)

pub plain_identities_agree : PlainIdentitiesAgree
plain_identities_agree rules parts identity user password nonce text can is logs =
    let sent : PlainParts = record { identity = identity; user = user; password = password } in
    let is_text = same_Some (identity ++ 0 ∷ user ++ 0 ∷ password) text is in
    let same = one_message text parts sent logs.0 (
      logs.0.0,
      can.0,
      can.1.0.1,
      can.1.1.1,
      sym is_text ∙ append_assoc identity (0 ∷ user) (0 ∷ password),
    ) in (
      ap (λ (parts : PlainParts). parts.user) same,
      ap asked_identity same,
    )

pub anonymous_lets_in : AnonymousLetsIn
anonymous_lets_in hostname client_nonce server_nonce =
    (frames.Init (codes "ANONYMOUS") None hostname, inl (contains_one _, refl, refl), (refl, refl))
