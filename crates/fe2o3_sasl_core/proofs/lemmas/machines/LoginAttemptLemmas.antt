-- What an init claims (RFC 5802, section 7; RFC 4616, section 2): the code's answers are claims of the messages.
use Rattle.std.proofs.Common.{Bool, true, false, not, bytes_eq, nat_lt, arith, refl, sym, ap, subst, inl, inr, ◌∙◌, ◌≡◌, ◌≢◌, ◌⊎◌, ℕ, List, length}
use Rattle.std.proofs.lemmas.Slice.Eq.{bytes_eq-Decides}
use Rattle.std.specs.Prelude.{Ok, Err, Option, Some, None, MatchOption, codes}
use Rattle.fe2o3_scram.specs.declared.hmac.ScramVersion.{ScramVersion}
use Rattle.fe2o3_scram.specs.declared.hmac.ScramVersion.TheVariants as versions
use Rattle.fe2o3_scram.specs.declared.scram_messages.error.ServerScramErrorKind.{ServerScramErrorKind}
use Rattle.fe2o3_scram.specs.declared.scram_messages.server_rules.ServerRules.{ServerRules}
use Rattle.fe2o3_scram.specs.ChannelBinding.{mechanism_of}
use Rattle.fe2o3_scram.specs.ClientFirst.{ClientFirst, HasEscapes, ReadsClientFirst}
use Rattle.fe2o3_scram.proofs.lemmas.messages.ClientFirstLemmas.{one_client_first}
use Rattle.fe2o3_sasl_core.specs.LoginAttempts.{ClaimAllocates, ClaimOf, ClaimsUser, NamesUser, headers_of}
use Rattle.fe2o3_sasl_core.specs.PlainServer.{IsTaken, PlainParts, SpellsPlain}

-- a client-first message that is rejected has no values
pub refused : (rules : ServerRules) (text : List ℕ) (why : ServerScramErrorKind) (first : ClientFirst)
    → ReadsClientFirst rules text (Err why) → ReadsClientFirst rules text (Ok first) → ⊥
refused rules text why first wrong reads =
    let same = one_client_first rules text (Err why) (Ok first) wrong reads in absurd (cc)

pub ruleset unread = (refused)

-- no name of SCRAM is PLAIN
pub not_plain : (version : ScramVersion) (plus : Bool) → mechanism_of version plus ≢ codes "PLAIN"
not_plain versions.Sha1 false same = let long : ◌≡◌ {A = ℕ} 11 5 = ap length same in absurd (omega (arith, long))
not_plain versions.Sha256 false same = let long : ◌≡◌ {A = ℕ} 13 5 = ap length same in absurd (omega (arith, long))
not_plain versions.Sha512 false same = let long : ◌≡◌ {A = ℕ} 13 5 = ap length same in absurd (omega (arith, long))
not_plain versions.Sha1 true same = let long : ◌≡◌ {A = ℕ} 16 5 = ap length same in absurd (omega (arith, long))
not_plain versions.Sha256 true same = let long : ◌≡◌ {A = ℕ} 18 5 = ap length same in absurd (omega (arith, long))
not_plain versions.Sha512 true same = let long : ◌≡◌ {A = ℕ} 18 5 = ap length same in absurd (omega (arith, long))

-- whether a name of SCRAM has -PLUS: then it has at least 16 characters, and any other at most 13
abbrev plus_at : List ℕ → Bool
plus_at name = nat_lt 13 (length name)

plus_read : (version : ScramVersion) (plus : Bool) → plus_at (mechanism_of version plus) ≡ plus
plus_read versions.Sha1 true = refl
plus_read versions.Sha1 false = refl
plus_read versions.Sha256 true = refl
plus_read versions.Sha256 false = refl
plus_read versions.Sha512 true = refl
plus_read versions.Sha512 false = refl

-- a name of SCRAM has -PLUS or has none
pub one_plus : (version other : ScramVersion) (plus too : Bool) → mechanism_of version plus ≡ mechanism_of other too
    → plus ≡ too
one_plus version other plus too same = sym (plus_read version plus) ∙ (ap plus_at same ∙ plus_read other too)

-- ---- an initial response of SCRAM

-- what either reader of a client-first message reads: one that accepts no identity, and one that does
abbrev pub ReadBy : Bool → Bool → List ℕ → Option (List ℕ) → Type 0
ReadBy plus accept text user = MatchOption user
    ((first : ClientFirst) → ¬ ReadsClientFirst (headers_of plus accept) text (Ok first))
    (λ name. (first : ClientFirst) × ReadsClientFirst (headers_of plus accept) text (Ok first) × (name ≡ first.user))

-- the first reader reads a name
pub read_first : (plus : Bool) (text name : List ℕ) → ReadBy plus false text (Some name) → NamesUser plus text name
read_first plus text name (first, reads, same) = (false, first, reads, same)

-- it reads none, so that the answer is that of the second
pub read_second : (plus : Bool) (text : List ℕ) (user : Option (List ℕ)) → ReadBy plus false text None
    → ReadBy plus true text user
    → MatchOption user ((name : List ℕ) → ¬ NamesUser plus text name) (NamesUser plus text)
read_second plus text (Some name) none (first, reads, same) = (true, first, reads, same)
read_second plus text None none neither = no_name
  where
    no_name : (name : List ℕ) → ¬ NamesUser plus text name
    no_name name (false, first, reads, same) = none first reads
    no_name name (true, first, reads, same) = neither first reads

-- where a reader requests memory
pub read_allocates : (plus accept : Bool) (text : List ℕ)
    → HasEscapes (headers_of plus accept) text
    ⊎ ((first : ClientFirst) × ReadsClientFirst (headers_of plus accept) text (Ok first))
    → ((accept : Bool) × HasEscapes (headers_of plus accept) text) ⊎ ((name : List ℕ) × NamesUser plus text name)
read_allocates plus accept text (inl escapes) = inl (accept, escapes)
read_allocates plus accept text (inr (first, reads)) = inr (first.user, (accept, first, reads, refl))

pub scram_claims : (mechanism text name : List ℕ) (version : ScramVersion) (plus : Bool)
    → mechanism_of version plus ≡ mechanism → NamesUser plus text name → ClaimsUser mechanism text name
scram_claims mechanism text name version plus is names = inl (version, plus, sym is, names)

pub scram_claims_none : (mechanism text : List ℕ) (version : ScramVersion) (plus : Bool)
    → mechanism_of version plus ≡ mechanism → ((name : List ℕ) → ¬ NamesUser plus text name) → (name : List ℕ)
    → ¬ ClaimsUser mechanism text name
scram_claims_none mechanism text version plus is none name (inl (other, too, same, names)) =
    none name (subst (λ (p : Bool). NamesUser p text name) (sym (one_plus version other plus too (is ∙ same))) names)
scram_claims_none mechanism text version plus is none name (inr (plain, rest)) = not_plain version plus (is ∙ plain)

-- what the message names is what the initial response claims
pub scram_claim_of : (mechanism text : List ℕ) (version : ScramVersion) (plus : Bool)
    → mechanism_of version plus ≡ mechanism → (user : Option (List ℕ))
    → MatchOption user ((name : List ℕ) → ¬ NamesUser plus text name) (NamesUser plus text)
    → ClaimOf mechanism text user
scram_claim_of mechanism text version plus is (Some name) names =
    scram_claims mechanism text name version plus is names
scram_claim_of mechanism text version plus is None none = scram_claims_none mechanism text version plus is none

-- ---- one of PLAIN

pub plain_claims : (mechanism text name : List ℕ) (parts : PlainParts) → mechanism ≡ codes "PLAIN"
    → SpellsPlain parts text → IsTaken true parts → name ≡ parts.user → ClaimsUser mechanism text name
plain_claims mechanism text name parts is spells taken same = inr (is, (parts, spells, taken, same))

pub plain_claims_none : (mechanism text : List ℕ)
    → ((version : ScramVersion) (plus : Bool) → mechanism_of version plus ≢ mechanism)
    → ((parts : PlainParts) → SpellsPlain parts text → ¬ IsTaken true parts) → (name : List ℕ)
    → ¬ ClaimsUser mechanism text name
plain_claims_none mechanism text other none name (inl (version, plus, same, names)) =
    other version plus (sym same)
plain_claims_none mechanism text other none name (inr (plain, (parts, spells, taken, user))) =
    none parts spells taken

-- ---- one of another mechanism

pub other_claims_none : (mechanism text : List ℕ)
    → ((version : ScramVersion) (plus : Bool) → mechanism_of version plus ≢ mechanism)
    → mechanism ≢ codes "PLAIN" → (name : List ℕ) → ¬ ClaimsUser mechanism text name
other_claims_none mechanism text other none name (inl (version, plus, same, names)) =
    other version plus (sym same)
other_claims_none mechanism text other none name (inr (plain, rest)) = none plain

-- ---- where memory is requested

pub scram_allocates : (mechanism text : List ℕ) (version : ScramVersion) (plus : Bool)
    → mechanism_of version plus ≡ mechanism
    → ((accept : Bool) × HasEscapes (headers_of plus accept) text) ⊎ ((name : List ℕ) × NamesUser plus text name)
    → ClaimAllocates mechanism text
scram_allocates mechanism text version plus is (inl escapes) = inl (version, plus, sym is, escapes)
scram_allocates mechanism text version plus is (inr (name, names)) = inr (name, inl (version, plus, sym is, names))

equal_where : (same : Bool) → false ≡ not same → same ≡ true
equal_where true is = refl
equal_where false is = is

-- texts that a comparison does not tell apart are equal
pub not_apart : (text other : List ℕ) → false ≡ not (bytes_eq text other) → text ≡ other
not_apart text other is = (bytes_eq-Decides text other).0 (equal_where (bytes_eq text other) is)

pub plain_allocates : (mechanism text user : List ℕ) → mechanism ≡ codes "PLAIN"
    → ((parts : PlainParts) × SpellsPlain parts text × IsTaken true parts × (user ≡ parts.user))
    → ClaimAllocates mechanism text
plain_allocates mechanism text user is (parts, spells, taken, same) =
    inr (user, inr (is, (parts, spells, taken, same)))

pub ruleset claims = (scram_claims, scram_claims_none, plain_claims, plain_claims_none, other_claims_none)
