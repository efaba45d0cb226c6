-- How many HMAC values a connection of a server of all mechanisms takes, whatever its bytes are (RFC 5802, section 3). Each
-- statement is the contract of a clause of `server_logins::costs`.
use Rattle.std.specs.Prelude.{◌≡◌, ◌≤◌, ◌+◌, ◌*◌, ℕ, Bool, true, false, Option, Some, None, List, max}
use Rattle.fe2o3_scram.specs.Credentials.{Record, record_at}
use Rattle.fe2o3_scram.specs.Mixed.{provider_for}
use Rattle.fe2o3_sasl_core.specs.MockChoices.{MockChoice, count_of_unknown}
use Rattle.fe2o3_sasl_core.specs.Servers.{ServerAt, ServerSettings, is_offered_by, sasl_hmacs, sasl_machine, sasl_names}
use Rattle.fe2o3_sasl_core.specs.declared.mechanism.Mechanism.TheVariants as mechanisms
use Rattle.fe2o3_sasl_negotiation.specs.Connections.{fresh}
use Rattle.fe2o3_sasl_negotiation.specs.CostLaws.{MeteredCalls}
use Rattle.fe2o3_sasl_negotiation.specs.Laws.{Call}
use Rattle.fe2o3_sasl_negotiation.specs.Retries.{RetriedCalls}
use Rattle.fe2o3_sasl_negotiation.specs.ServerNegotiation.{ServerCosts, ServerSideAnswers}

-- no password is tested with a higher iteration count than this: neither that of a record of the hash of PLAIN, nor that for a
-- user without one
abbrev pub HasCountsUpTo : ServerSettings → ℕ → Type 0
HasCountsUpTo settings most = (count_of_unknown settings.plain_count settings.mock ≤ most)
    × ((user : List ℕ) (stored : Record)
    → record_at (provider_for settings.plain_version settings.records).records user ≡ Some stored
    → stored.count ≤ most)

-- the HMAC values of one look-up: with mock authentication those of a mock record, a salt and two keys
abbrev pub look_up_most : Option MockChoice → ℕ
look_up_most None = 0
look_up_most (Some mock) = 3

-- those of testing one password with a count up to this: one for each iteration, and one for each of two keys, where PLAIN is
-- offered
abbrev pub plain_most : Bool → ℕ → ℕ
plain_most true most = most + 2
plain_most false most = 0

-- the most that one login takes: by SCRAM one look-up, the proof and the signature; by PLAIN one test of a password. ANONYMOUS
-- and EXTERNAL take none
abbrev pub login_most : ServerSettings → ℕ → ℕ
login_most settings most = max (look_up_most settings.mock + 2) (plain_most (is_offered_by settings mechanisms.Plain) most)

-- the names that a server offers
abbrev pub offered_by_server : ServerAt → List (List ℕ)
offered_by_server server = sasl_names server.settings

-- all calls of a connection take no more than one login, with every option and from every stage. So a connection tests one
-- proof or one password at most, and a client that asks for both gets one
abbrev pub ServerConnectionsCost : Type 0
ServerConnectionsCost = (server : ServerAt) (most limit : ℕ) (calls : List Call) (stream : List ℕ) (before after : ℕ)
    → HasCountsUpTo server.settings most
    → MeteredCalls (ServerSideAnswers offered_by_server sasl_machine) (ServerCosts sasl_hmacs) (fresh limit server) calls stream
    before after
    → (before ≤ after) × (after ≤ before + login_most server.settings most)

-- and calls that run out of memory and are repeated take no more than one login more each
abbrev pub ServerConnectionsRetry : Type 0
ServerConnectionsRetry = (server : ServerAt) (most limit : ℕ) (calls : List Call) (stream : List ℕ)
    (failed before after : ℕ) → HasCountsUpTo server.settings most
    → RetriedCalls (ServerSideAnswers offered_by_server sasl_machine) (ServerCosts sasl_hmacs) (fresh limit server) calls
    stream failed before after
    → (before ≤ after)
    × (after ≤ before + (failed * login_most server.settings most + login_most server.settings most))
