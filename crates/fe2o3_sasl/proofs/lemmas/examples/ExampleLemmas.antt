-- The two worked examples.
use Rattle.std.proofs.Common.{◌≡◌, ◌≢◌, ◌≤◌, ℕ, zero, suc, List, [], ◌∷◌, ◌++◌, length, refl, sym, ◌∙◌, ap, arith, codes, inl, inr, ◌⊎◌}
use Rattle.std.specs.Prelude.{Some, slice_get}
use Rattle.std.proofs.lemmas.List.{length-append}
use Rattle.fe2o3_sasl_wire.specs.declared.sasl_frames.error.Error.{Error}
use Rattle.fe2o3_sasl_wire.specs.declared.sasl_frames.error.Error.TheVariants as faults
use Rattle.fe2o3_scram.specs.Texts.{Parts}
use Rattle.fe2o3_sasl_core.specs.Events.{Failed, Refused}
use Rattle.fe2o3_sasl_core.specs.TwoSides.{Agree, IsPlainInit, NoneMisplacedIn}
use Rattle.fe2o3_sasl_core.specs.UnalteredRuns.{UnalteredRun, HoldsLogin, Suffices}
use Rattle.fe2o3_sasl.specs.examples.Examples.{client_bytes, server_bytes, client_nonce, server_nonce, both, salt, login, names, values, binds, told, challenge_text, init_text, answer_to, accepted_with, sides_with, unaltered, PremisesCanBeMet, shifted, ShiftedTextsPass}
use Rattle.fe2o3_scram.proofs.lemmas.texts.PartsLemmas.{one_list_of_parts}
use Rattle.fe2o3_sasl.proofs.lemmas.examples.ExampleBodyLemmas.{Short, length-both, mechanisms_sent, short_binds, short_joined, short_names, short_values}
use Rattle.fe2o3_sasl.proofs.lemmas.examples.ExampleLoginLemmas.{PassesUnseen, histories, takes, shows, open_two}
use Rattle.fe2o3_sasl.proofs.lemmas.examples.ExampleReadingLemmas.{is_login, is_record, password_printable, plain_user, plain_both, plain_names, plain_values, plain_binds, client_joined, server_joined}
use Rattle.fe2o3_sasl.proofs.lemmas.examples.ExampleTextLemmas.{Plain, plain-literal, plain-append, plain-base64_text, parts_joined, length-base64_text, IsBytes-replicate}
use Rattle.fe2o3_sasl_core.proofs.lemmas.lists.EachLemmas.{each_append}
use Rattle.fe2o3_sasl_core.specs.declared.sasl_profile.error.ProfileError.{ProfileError}
use Rattle.fe2o3_sasl_core.specs.declared.sasl_profile.error.ProfileError.TheVariants.{Frame, OutOfMemory}

pub short_both : length both ≤ 100
short_both = omega (arith, length-both)

-- ---- nobody adds anything

pub is_unaltered : PassesUnseen unaltered
is_unaltered = record {
  nonce = plain_both;
  init = tt;
  challenge = tt;
  response = tt;
  short_nonce = short_both;
  short_init = omega (arith, short_joined (names (codes "user")) (short_names (codes "user") (omega arith)));
  short_challenge = omega (arith, short_joined (values both) (short_values both short_both));
  short_response = omega (arith, short_joined (binds both) (short_binds both short_both));
  message = client_joined both [] ∙ sym (server_joined [] []);
}

run : UnalteredRun (sides_with unaltered)
run = record {
  offer = _;
  challenge = _;
  outcome = _;
  init = _;
  response = _;
  printable = (λ strict. absurd strict, λ strict. absurd strict);
  client_events = refl;
  server_events = refl;
  offered = mechanisms_sent;
  started = refl;
  challenged = refl;
  answered = refl;
  concluded = refl;
}

holds : HoldsLogin (sides_with unaltered) (codes "pencil") salt 4096
holds = record {
  version = refl;
  header = (tt, tt);
  channel = refl;
  identity = refl;
  stored = refl;
  bytes = IsBytes-replicate 32 3 (omega arith);
  opens = (refl, password_printable);
  some = omega arith;
  least = omega arith;
  within = omega arith;
  name = λ strict. absurd strict;
}

-- no reply is a fault
no_client_fault : (fault : ProfileError) (k : ℕ)
    → slice_get (sides_with unaltered).client_replies k ≢ Some (Refused fault)
no_client_fault fault zero e = absurd (cc)
no_client_fault fault (suc zero) e = absurd (cc)
no_client_fault fault (suc (suc zero)) e = absurd (cc)
no_client_fault fault (suc (suc (suc k))) e = absurd (cc)

no_server_fault : (fault : Error) (k : ℕ) → slice_get (sides_with unaltered).server_replies k ≢ Some (Failed fault)
no_server_fault fault zero e = absurd (cc)
no_server_fault fault (suc zero) e = absurd (cc)
no_server_fault fault (suc (suc k)) e = absurd (cc)

suffices : Suffices (sides_with unaltered)
suffices = record {
  client = no_client_fault OutOfMemory;
  server = no_server_fault faults.OutOfMemory;
  client_small = no_client_fault (Frame faults.TooLarge);
  server_small = no_server_fault faults.TooLarge;
}

pub premises_can_be_met : PremisesCanBeMet
premises_can_be_met = (run, histories unaltered is_unaltered, is_login, holds, suffices)

-- ---- the shifted text

abbrev nonce : List ℕ
nonce = told shifted

plain_nonce : Plain nonce
plain_nonce = plain-append client_nonce (codes "x") (plain-base64_text client_bytes)
    (plain-literal (codes "x") refl refl)

short_nonce : length nonce ≤ 100
short_nonce =
    omega (arith, length-both, length-append client_nonce (codes "x"), length-append client_nonce server_nonce)

is_shifted : PassesUnseen shifted
is_shifted = record {
  nonce = plain_nonce;
  init = plain_values nonce plain_nonce;
  challenge = each_append Plain (values both) (binds both) (plain_values both plain_both) (plain_binds both plain_both);
  response = plain_binds nonce plain_nonce;
  short_nonce = short_nonce;
  short_init = omega (
    arith,
    short_joined (names (codes "user") ++ values nonce) (each_append Short (names (codes "user")) (values nonce)
        (short_names (codes "user") (omega arith)) (short_values nonce short_nonce)),
  );
  short_challenge = omega (
    arith,
    short_joined (values nonce ++ (values both ++ binds both))
        (each_append Short (values nonce) (values both ++ binds both) (short_values nonce short_nonce)
        (each_append Short (values both) (binds both) (short_values both short_both) (short_binds both short_both))),
  );
  short_response = omega (
    arith,
    short_joined (binds both ++ binds nonce)
        (each_append Short (binds both) (binds nonce) (short_binds both short_both) (short_binds nonce short_nonce)),
  );
  -- both sides join the same twelve parts
  message = client_joined nonce (values both ++ binds both) ∙ sym (server_joined (values nonce) (binds nonce));
}

abbrev bare_parts : List (List ℕ)
bare_parts = names (codes "user") ++ values nonce

five_parts : Parts (init_text shifted) bare_parts
five_parts = parts_joined (codes "n=user") ((codes "r=" ++ client_nonce) ∷ values nonce)
    (each_append Plain (names (codes "user")) (values nonce) (plain_names (codes "user") plain_user)
    (plain_values nonce plain_nonce))

-- the init has not two parts
not_plain : ¬ IsPlainInit (accepted_with shifted)
not_plain is = let same = ap length (one_list_of_parts (init_text shifted) is.0 bare_parts is.1 five_parts) in
    omega (arith, same, is.2)

abbrev challenge_parts : List (List ℕ)
challenge_parts = values nonce ++ (values both ++ binds both)

eight_parts : Parts (challenge_text shifted) challenge_parts
eight_parts = parts_joined (codes "r=" ++ nonce) _
    (each_append Plain (values nonce) (values both ++ binds both) (plain_values nonce plain_nonce)
    (each_append Plain (values both) (binds both) (plain_values both plain_both) (plain_binds both plain_both)))

-- both sides received attributes of RFC 5802 in the place of extensions
misplaced : ¬ NoneMisplacedIn (answer_to shifted) (accepted_with shifted)
misplaced (inl none) = none (3, codes "r=" ++ both, omega arith, (challenge_parts, eight_parts, refl), refl)
misplaced (inr none) = none.0 (2, codes "r=" ++ nonce, omega arith, (bare_parts, five_parts, refl), refl)

not_either : IsPlainInit (accepted_with shifted) ⊎ NoneMisplacedIn (answer_to shifted) (accepted_with shifted) → ⊥
not_either (inl plain) = not_plain plain
not_either (inr none) = misplaced none

-- the sides agree on the user name and the client's nonce
agree : Agree login (sides_with shifted).provider (answer_to shifted) (accepted_with shifted)
agree = record {
  version = refl;
  header = λ bytes none. refl;
  channel = λ bytes none. refl;
  user = refl;
  nonce = refl;
  full_nonce = λ either. absurd (not_either either);
  salt = λ either. absurd (not_either either);
  count = λ either. absurd (not_either either);
}

nonces_apart : nonce ≢ both
nonces_apart same =
    let long = length-base64_text server_bytes refl in
    let length_is : length nonce ≡ length both = ap length same in
    omega (arith, long, length_is, length-append client_nonce (codes "x"), length-append client_nonce server_nonce)

pub shifted_texts_pass : ShiftedTextsPass
shifted_texts_pass = record {
  login = is_login;
  record_held = is_record;
  histories = histories shifted is_shifted;
  takes = takes shifted is_shifted;
  shows = shows shifted is_shifted;
  answers = open_two shifted is_shifted;
  verifier = (is_shifted.message, agree, refl, refl, not_plain);
  proof = (refl, (is_shifted.message, agree, refl, refl, not_plain));
  five = (bare_parts, five_parts, refl);
  apart = nonces_apart;
}
