-- The identity that a struct of a SCRAM server holds (RFC 5802, section 5.1).
use Rattle.std.proofs.Common.{arith, refl, sym, ap, ◌∙◌, ◌-◌, ◌≡◌, ◌≢◌, ◌≤◌, ◌<◌, ℕ, List, [], ◌∷◌, length, replicate, take}
use Rattle.std.specs.Prelude.{Bool, true, false, Option, Some, None, Result, Ok, Err, IfOk, IfErr, nat_eq, if◌then◌else◌}
use Rattle.std.specs.Str.{IsUtf8}
use Rattle.std.proofs.lemmas.Bool.Decides.{Decides-eqb}
use Rattle.std.proofs.lemmas.List.{length-take}
use Rattle.std.proofs.Math.Seq.{take-append_seam}
use Rattle.fe2o3_scram.specs.ClientFirst.{ClientFirst, ReadsClientFirst}
use Rattle.fe2o3_scram.specs.Hmac.{zero_filled}
use Rattle.fe2o3_scram.specs.ServerFirst.{ServerChallenge}
use Rattle.fe2o3_scram.specs.declared.scram_messages.server_rules.ServerRules.{ServerRules}
use Rattle.sasl_c.specs.declared.server.ScramServer.{ScramServer as Struct}
use Rattle.sasl_c.specs.declared.status.Status.{Status}
use Rattle.sasl_c.specs.declared.status.WriteError.{WriteError}
use Rattle.sasl_c.specs.declared.status.WriteError.TheVariants.{RoomTooSmall, Other}
use Rattle.sasl_c.specs.Status.{Fills, Room, with_written}
use Rattle.sasl_c.specs.Server.{ClaimedIdentity, ClaimedUser, HasSigned, HoldsIdentity, IdentityHasRoom, IsLoggedIn, IsOpen, TellsIdentity, authenticated_struct, identity_in, named_struct, or_empty}
use Rattle.sasl_c.proofs.StatusLemmas.{carried}

-- some bytes are an identity
some_in : (len : ℕ) (array : List ℕ) → len ≢ 0 → Some (take len array) ≡ identity_in len array
some_in len array some = go (nat_eq len 0) refl where
  go : (none : Bool) → nat_eq len 0 ≡ none → Some (take len array) ≡ identity_in len array
  go true same = absurd (some ((Decides-eqb len 0).0 same))
  go false same = sym (ap (λ (none : Bool). if none then None else Some (take len array)) same)

none_in : (len : ℕ) (array : List ℕ) → len ≡ 0 → None ≡ identity_in len array
none_in len array is = rw is refl

-- a text in a struct is the head of its array
head_of : (n : ℕ) (text : List ℕ) → text ≡ take (length text) (zero_filled n text)
head_of n text = sym (take-append_seam text (replicate (n - length text) 0))

-- what was written is read again
read_again : (acts_for : Option (List ℕ)) → IdentityHasRoom acts_for
    → acts_for ≡ identity_in (length (or_empty acts_for)) (zero_filled 256 (or_empty acts_for))
read_again None room = refl
read_again (Some name) (some, few) =
    ap Some (head_of 256 name) ∙ some_in (length name) (zero_filled 256 name) (λ none. absurd (omega (arith, some, none)))

few_bytes : (acts_for : Option (List ℕ)) → IdentityHasRoom acts_for → length (or_empty acts_for) ≤ 256
few_bytes None room = omega arith
few_bytes (Some name) room = room.1

named_holds : (state : ℕ) (user : List ℕ) (acts_for : Option (List ℕ)) → IdentityHasRoom acts_for
    → HoldsIdentity (named_struct state user acts_for) acts_for
named_holds state user acts_for room = (few_bytes acts_for room, read_again acts_for room, room)

-- the struct of a server that has logged its user in
pub is_logged_in : (user : List ℕ) (acts_for : Option (List ℕ)) → length user ≤ 256 → IdentityHasRoom acts_for
    → IsLoggedIn (authenticated_struct user acts_for) user acts_for
is_logged_in user acts_for few room = ((refl, few, head_of 256 user), named_holds 2 user acts_for room)

pub of_user_logs_in : (server : Struct) (user : List ℕ) (acts_for : Option (List ℕ)) → length user ≤ 256
    → IdentityHasRoom acts_for → server ≡ named_struct 2 user acts_for → IsLoggedIn server user acts_for
of_user_logs_in server user acts_for few room same =
    carried (λ (s : Struct). IsLoggedIn s user acts_for) (named_struct 2 user acts_for) server (sym same)
    (is_logged_in user acts_for few room)

pub of_user_signs : (server : Struct) (user : List ℕ) (acts_for : Option (List ℕ)) → length user ≤ 256
    → IdentityHasRoom acts_for → server ≡ named_struct 4 user acts_for → IsUtf8 user → IsUtf8 (or_empty acts_for)
    → HasSigned server user acts_for
of_user_signs server user acts_for few room same utf8 text =
    carried (λ (s : Struct). HasSigned s user acts_for) (named_struct 4 user acts_for) server (sym same)
    (refl, few, head_of 256 user, utf8, named_holds 4 user acts_for room, text)

pub ruleset logged_in = (of_user_logs_in)

pub ruleset signs = (of_user_signs)

-- ---- the identity that a struct holds

-- the bytes of an identity
pub bytes_of : (len : ℕ) (array : List ℕ) → or_empty (identity_in len array) ≡ take len array
bytes_of len array = go (nat_eq len 0) refl where
  go : (none : Bool) → nat_eq len 0 ≡ none → or_empty (identity_in len array) ≡ take len array
  go true same = rw ((Decides-eqb len 0).0 same) refl
  go false same = ap (λ (none : Bool). or_empty (if none then None else Some (take len array))) same

pub no_head : (server : Struct) → length server.acts_for < server.acts_for_len → length server.acts_for ≡ 256
    → (acts_for : Option (List ℕ)) → HoldsIdentity server acts_for → ¬ IsUtf8 (or_empty acts_for)
no_head server long sized acts_for holds utf8 = absurd (omega (arith, long, sized, holds.0))

pub no_text : (server : Struct) (bytes : List ℕ) → bytes ≡ take server.acts_for_len server.acts_for → ¬ IsUtf8 bytes
    → (acts_for : Option (List ℕ)) → HoldsIdentity server acts_for → ¬ IsUtf8 (or_empty acts_for)
no_text server bytes same wrong acts_for holds utf8 = wrong (carried IsUtf8 (or_empty acts_for) bytes
    (ap or_empty holds.1 ∙ bytes_of server.acts_for_len server.acts_for ∙ sym same) utf8)

-- no bytes of one
pub holds_none : (server : Struct) (name : List ℕ) → name ≡ take server.acts_for_len server.acts_for
    → server.acts_for_len ≤ length server.acts_for → length name ≡ 0 → HoldsIdentity server None
holds_none server name same within none =
    let zero_long : server.acts_for_len ≡ 0 =
    omega (arith, ap length same, length-take server.acts_for_len server.acts_for, within, none) in
    (omega (arith, zero_long), none_in server.acts_for_len server.acts_for zero_long, tt)

pub holds_some : (server : Struct) (name : List ℕ) → name ≡ take server.acts_for_len server.acts_for
    → server.acts_for_len ≤ length server.acts_for → length server.acts_for ≡ 256 → length name ≢ 0
    → HoldsIdentity server (Some name)
holds_some server name same within sized some =
    let long : length name ≡ server.acts_for_len =
    omega (arith, ap length same, length-take server.acts_for_len server.acts_for, within) in (
      omega (arith, within, sized),
      ap Some same ∙ some_in server.acts_for_len server.acts_for (λ none. absurd (some (long ∙ none))),
      (omega (arith, some), omega (arith, long, within, sized)),
    )

pub utf8_none : (name : List ℕ) → IsUtf8 name → length name ≡ 0 → IsUtf8 []
utf8_none [] utf8 none = utf8
utf8_none (byte ∷ name) utf8 none = absurd (omega (arith, none))

pub ruleset identity = (no_head, no_text, holds_none, holds_some, utf8_none)

-- a struct without such an identity has no open challenge, and no user to whom a signature was sent
pub none_open : (server : Struct)
    → ((acts_for : Option (List ℕ)) → HoldsIdentity server acts_for → ¬ IsUtf8 (or_empty acts_for))
    → (challenge : ServerChallenge) → ¬ IsOpen server challenge
none_open server none challenge is = none challenge.header.acts_for is.4 is.5

pub none_signed : (server : Struct)
    → ((acts_for : Option (List ℕ)) → HoldsIdentity server acts_for → ¬ IsUtf8 (or_empty acts_for))
    → (user : List ℕ) (acts_for : Option (List ℕ)) → ¬ HasSigned server user acts_for
none_signed server none user acts_for is = none acts_for is.4 is.5

pub ruleset challenge = (none_open)

pub ruleset signed = (none_signed)

pub ruleset kept_identity = (bytes_of)

-- ---- the identity that the authenticated user acts for

holds_in : (server : Struct) (empty : Bool) → nat_eq server.acts_for_len 0 ≡ empty
    → server.acts_for_len ≤ length server.acts_for → length server.acts_for ≡ 256
    → HoldsIdentity server (identity_in server.acts_for_len server.acts_for)
holds_in server true same within sized =
    let none = none_in server.acts_for_len server.acts_for ((Decides-eqb server.acts_for_len 0).0 same) in
    carried (HoldsIdentity server) None (identity_in server.acts_for_len server.acts_for) none
    (omega (arith, within, sized), none, tt)
holds_in server false same within sized =
    let some : server.acts_for_len ≢ 0 =
    λ zero. let is : true ≡ false = sym ((Decides-eqb server.acts_for_len 0).1 zero) ∙ same in absurd (cc) in
    let name = take server.acts_for_len server.acts_for in
    let long : length name ≢ 0 =
    λ none. some (omega (arith, none, length-take server.acts_for_len server.acts_for, within)) in
    carried (HoldsIdentity server) (Some name) (identity_in server.acts_for_len server.acts_for)
    (some_in server.acts_for_len server.acts_for some) (holds_some server name refl within sized long)

pub tells_name : (server : Struct) (name : List ℕ) → server.state ≡ 2 → server.user_len ≤ 256
    → name ≡ take server.acts_for_len server.acts_for → server.acts_for_len ≤ length server.acts_for
    → length server.acts_for ≡ 256 → TellsIdentity server (Ok name)
tells_name server name state few same within sized = (
  take server.user_len server.user,
  identity_in server.acts_for_len server.acts_for,
  ((state, few, refl), holds_in server (nat_eq server.acts_for_len 0) refl within sized),
  same ∙ sym (bytes_of server.acts_for_len server.acts_for),
)

pub tells_none : (server : Struct) → length server.acts_for < server.acts_for_len → length server.acts_for ≡ 256
    → (user : List ℕ) (acts_for : Option (List ℕ)) → ¬ IsLoggedIn server user acts_for
tells_none server long sized user acts_for is = absurd (omega (arith, long, sized, is.1.0))

pub not_two : (server : Struct) → server.state ≢ 2 → (user : List ℕ) (acts_for : Option (List ℕ))
    → ¬ IsLoggedIn server user acts_for
not_two server other user acts_for is = other is.0.0

pub long_user : (server : Struct) → 256 < server.user_len → (user : List ℕ) (acts_for : Option (List ℕ))
    → ¬ IsLoggedIn server user acts_for
long_user server long user acts_for is = absurd (omega (arith, long, is.0.1))

pub ruleset tells = (tells_name, tells_none, not_two, long_user)

-- ---- the names in a client-first message

-- a text that a call may return is written to the room, or does not fit
writes : (Due : Result (List ℕ) Status → Type 0) (name : List ℕ) (before after : Room)
    (answer : Result (Unit {0}) WriteError) → Due (Ok name) → after.len ≡ length name
    → IfOk answer (λ _. (length name ≤ length before.bytes) × (after.bytes ≡ with_written name before.bytes))
    → IfErr answer (λ why. (why ≡ RoomTooSmall) × (length before.bytes < length name) × (after.bytes ≡ before.bytes))
    → Fills Due before after answer
writes Due name before after (Ok done) due long fits err = (name, due, fits.0, fits.1, long)
writes Due name before after (Err RoomTooSmall) due long fits err = (err.2, (name, due, (err.1, long)))
writes Due name before after (Err (Other status)) due long fits err = let same = err.0 in absurd (cc)

pub claims : (rules : ServerRules) (text name : List ℕ) (first : ClientFirst) (before after : Room)
    (answer : Result (Unit {0}) WriteError) → ReadsClientFirst rules text (Ok first)
    → name ≡ or_empty first.header.acts_for → after.len ≡ length name
    → IfOk answer (λ _. (length name ≤ length before.bytes) × (after.bytes ≡ with_written name before.bytes))
    → IfErr answer (λ why. (why ≡ RoomTooSmall) × (length before.bytes < length name) × (after.bytes ≡ before.bytes))
    → Fills (ClaimedIdentity rules text) before after answer
claims rules text name first before after answer reads same long fits err =
    writes (ClaimedIdentity rules text) name before after answer (first, reads, same) long fits err

pub claims_user : (rules : ServerRules) (text name : List ℕ) (first : ClientFirst) (before after : Room)
    (answer : Result (Unit {0}) WriteError) → ReadsClientFirst rules text (Ok first) → name ≡ first.user
    → after.len ≡ length name
    → IfOk answer (λ _. (length name ≤ length before.bytes) × (after.bytes ≡ with_written name before.bytes))
    → IfErr answer (λ why. (why ≡ RoomTooSmall) × (length before.bytes < length name) × (after.bytes ≡ before.bytes))
    → Fills (ClaimedUser rules text) before after answer
claims_user rules text name first before after answer reads same long fits err =
    writes (ClaimedUser rules text) name before after answer (first, reads, same) long fits err
