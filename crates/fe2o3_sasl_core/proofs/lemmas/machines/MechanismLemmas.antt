-- The mechanism that a name asks for.
use Rattle.std.proofs.Common.{◌≡◌, ◌≢◌, ◌⊎◌, ◌∙◌, ℕ, Bool, true, false, Option, Some, None, List, [], ◌∷◌, length, get_or, ap, sym, subst, refl, inl, inr}
use Rattle.std.specs.Prelude.{◌&&◌, if◌then◌else◌, cond, nat_eq}
use Rattle.std.specs.Cmp.Lexicographic.{pointwise, same_text, other_text}
use Rattle.fe2o3_scram.specs.declared.hmac.ScramVersion.TheVariants.{Sha1, Sha256, Sha512}
use Rattle.fe2o3_sasl_core.specs.Mechanisms.{mechanism_symbol}
use Rattle.fe2o3_sasl_core.specs.Servers.{ServerSettings, asked_among, asked_mechanism, is_asked_by, is_offered_by, offer_order}
use Rattle.fe2o3_sasl_core.specs.declared.mechanism.Mechanism.{Mechanism}
use Rattle.fe2o3_sasl_core.specs.declared.mechanism.Mechanism.TheVariants as mechanisms

-- ---- names

-- the mechanism of a symbol, by its length and its eleventh byte
of_symbol : List ℕ → Option Mechanism
of_symbol name = cond (nat_eq (length name) 18) (cond (nat_eq (get_or name 10 0) 53) (Some (mechanisms.Scram Sha512 true))
    (Some (mechanisms.Scram Sha256 true))) (cond (nat_eq (length name) 13) (cond (nat_eq (get_or name 10 0) 53)
    (Some (mechanisms.Scram Sha512 false)) (Some (mechanisms.Scram Sha256 false))) (cond (nat_eq (length name) 16)
    (Some (mechanisms.Scram Sha1 true)) (cond (nat_eq (length name) 11) (Some (mechanisms.Scram Sha1 false))
    (cond (nat_eq (length name) 5) (Some mechanisms.Plain) (cond (nat_eq (length name) 9) (Some mechanisms.Anonymous)
    (Some mechanisms.External))))))

of_its_symbol : (mechanism : Mechanism) → of_symbol (mechanism_symbol mechanism) ≡ Some mechanism
unfolding of_symbol
of_its_symbol (mechanisms.Scram Sha512 true) = refl
of_its_symbol (mechanisms.Scram Sha256 true) = refl
of_its_symbol (mechanisms.Scram Sha1 true) = refl
of_its_symbol (mechanisms.Scram Sha512 false) = refl
of_its_symbol (mechanisms.Scram Sha256 false) = refl
of_its_symbol (mechanisms.Scram Sha1 false) = refl
of_its_symbol mechanisms.Plain = refl
of_its_symbol mechanisms.Anonymous = refl
of_its_symbol mechanisms.External = refl

-- two mechanisms have two names
pub one_mechanism : (mechanism other : Mechanism) → mechanism_symbol mechanism ≡ mechanism_symbol other → mechanism ≡ other
one_mechanism mechanism other same =
    let both : Some mechanism ≡ Some other = sym (of_its_symbol mechanism) ∙ (ap of_symbol same ∙ of_its_symbol other) in cc

-- ---- what is asked for

both_true : (a b : Bool) → a && b ≡ true → (a ≡ true) × (b ≡ true)
both_true true b is = (refl, is)
both_true false b is = absurd (cc)

-- the mechanism is offered, and this is its name
abbrev pub IsOffered : ServerSettings → List ℕ → Mechanism → Type 0
IsOffered settings name mechanism = (name ≡ mechanism_symbol mechanism) × (is_offered_by settings mechanism ≡ true)

asked_is : (settings : ServerSettings) (name : List ℕ) (mechanism : Mechanism) → is_asked_by settings name mechanism ≡ true
    → IsOffered settings name mechanism
asked_is settings name mechanism is =
    let both = both_true (is_offered_by settings mechanism) (pointwise nat_eq name (mechanism_symbol mechanism)) is in
    (same_text name (mechanism_symbol mechanism) (sym both.1), both.0)

among_offers : (settings : ServerSettings) (name : List ℕ) (all : List Mechanism) (mechanism : Mechanism)
    → asked_among settings name all ≡ Some mechanism → IsOffered settings name mechanism
among_offers settings name [] mechanism is = absurd (cc)
among_offers settings name (first ∷ others) mechanism is =
    go (is_asked_by settings name first) refl is (λ found. among_offers settings name others mechanism found)
  where
    go : (asked : Bool) → is_asked_by settings name first ≡ asked
        → (if asked then Some first else asked_among settings name others) ≡ Some mechanism
        → (asked_among settings name others ≡ Some mechanism → IsOffered settings name mechanism)
        → IsOffered settings name mechanism
    go true asks found later =
        let one : first ≡ mechanism = cc in
        subst (λ (w : Mechanism). IsOffered settings name w) one (asked_is settings name first asks)
    go false asks found later = later found

pub asked_offers : (settings : ServerSettings) (name : List ℕ) (mechanism : Mechanism)
    → asked_mechanism settings name ≡ Some mechanism
    → IsOffered settings name mechanism
asked_offers settings name mechanism is = among_offers settings name offer_order mechanism is

-- a mechanism is in a list
abbrev IsIn : Mechanism → List Mechanism → Type 0
IsIn mechanism [] = ⊥
IsIn mechanism (first ∷ others) = (first ≡ mechanism) ⊎ IsIn mechanism others

is_in : (mechanism : Mechanism) → IsIn mechanism offer_order
is_in (mechanisms.Scram Sha512 true) = inl refl
is_in (mechanisms.Scram Sha256 true) = inr (inl refl)
is_in (mechanisms.Scram Sha1 true) = inr (inr (inl refl))
is_in (mechanisms.Scram Sha512 false) = inr (inr (inr (inl refl)))
is_in (mechanisms.Scram Sha256 false) = inr (inr (inr (inr (inl refl))))
is_in (mechanisms.Scram Sha1 false) = inr (inr (inr (inr (inr (inl refl)))))
is_in mechanisms.Plain = inr (inr (inr (inr (inr (inr (inl refl))))))
is_in mechanisms.Anonymous = inr (inr (inr (inr (inr (inr (inr (inl refl)))))))
is_in mechanisms.External = inr (inr (inr (inr (inr (inr (inr (inr (inl refl))))))))

and_false : (a b : Bool) → a ≡ true → a && b ≡ false → b ≡ false
and_false true b is too = too
and_false false b is too = absurd (cc)

among_asked : (settings : ServerSettings) (all : List Mechanism) (mechanism : Mechanism) → is_offered_by settings mechanism ≡ true
    → IsIn mechanism all → asked_among settings (mechanism_symbol mechanism) all ≡ Some mechanism
among_asked settings [] mechanism offered there = absurd there
among_asked settings (first ∷ others) mechanism offered there =
    go (is_asked_by settings (mechanism_symbol mechanism) first) refl there
    (λ in_others. among_asked settings others mechanism offered in_others)
  where
    go : (asked : Bool) → is_asked_by settings (mechanism_symbol mechanism) first ≡ asked → IsIn mechanism (first ∷ others)
        → (IsIn mechanism others → asked_among settings (mechanism_symbol mechanism) others ≡ Some mechanism)
        → (if asked then Some first else asked_among settings (mechanism_symbol mechanism) others) ≡ Some mechanism
    go true asks there later = ap Some (sym (one_mechanism mechanism first (asked_is settings
        (mechanism_symbol mechanism) first asks).0))
    go false asks (inr in_others) later = later in_others
    go false asks (inl here) later =
        let own : is_asked_by settings (mechanism_symbol mechanism) mechanism ≡ false =
        sym (ap (λ (w : Mechanism). is_asked_by settings (mechanism_symbol mechanism) w) here) ∙ asks in
        absurd (other_text (mechanism_symbol mechanism) (mechanism_symbol mechanism)
        (sym (and_false (is_offered_by settings mechanism) (pointwise nat_eq (mechanism_symbol mechanism)
        (mechanism_symbol mechanism)) offered own)) refl)

pub offered_asked : (settings : ServerSettings) (mechanism : Mechanism) → is_offered_by settings mechanism ≡ true
    → asked_mechanism settings (mechanism_symbol mechanism) ≡ Some mechanism
offered_asked settings mechanism offered = among_asked settings offer_order mechanism offered (is_in mechanism)

-- ---- by the mechanism of a name

pub asked_and_offered : (settings : ServerSettings) (name : List ℕ) (mechanism : Mechanism)
    → mechanism_symbol mechanism ≡ name → is_offered_by settings mechanism ≡ true
    → Some mechanism ≡ asked_mechanism settings name
asked_and_offered settings name mechanism named offered =
    sym (subst (λ (n : List ℕ). asked_mechanism settings n ≡ Some mechanism) named (offered_asked settings mechanism offered))

-- what is asked for is not this
never_asked : (settings : ServerSettings) (name : List ℕ) (asked : Option Mechanism) → asked_mechanism settings name ≡ asked
    → ((mechanism : Mechanism) → ¬ IsOffered settings name mechanism) → None ≡ asked
never_asked settings name None is none = refl
never_asked settings name (Some mechanism) is none = absurd (none mechanism (asked_offers settings name mechanism is))

pub asked_not_offered : (settings : ServerSettings) (name : List ℕ) (mechanism : Mechanism)
    → mechanism_symbol mechanism ≡ name → is_offered_by settings mechanism ≡ false → None ≡ asked_mechanism settings name
asked_not_offered settings name mechanism named offered = never_asked settings name (asked_mechanism settings name) refl
    (λ other (same, offers). true_is_not_false (sym offers ∙ (ap (is_offered_by settings)
    (one_mechanism other mechanism (sym same ∙ sym named)) ∙ offered)))
  where
    true_is_not_false : true ≡ false → ⊥
    true_is_not_false is = cc

pub asked_by_no_name : (settings : ServerSettings) (name : List ℕ)
    → ((mechanism : Mechanism) → mechanism_symbol mechanism ≢ name) → None ≡ asked_mechanism settings name
asked_by_no_name settings name none =
    never_asked settings name (asked_mechanism settings name) refl (λ mechanism (same, offers). none mechanism (sym same))

pub ruleset asked = (asked_and_offered, asked_not_offered, asked_by_no_name)
