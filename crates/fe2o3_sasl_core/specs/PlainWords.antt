-- The words of PLAIN's message (RFC 4616, section 2).
use Rattle.std.specs.Prelude.{◌≢◌, ℕ, List, []}
use Rattle.fe2o3_scram.specs.Texts.{Without}

-- a user name or a password has at least one character, and none is NUL
abbrev pub IsPlainWord : List ℕ → Type 0
IsPlainWord word = (word ≢ []) × Without 0 word

-- a user name and a password that a message can have
abbrev pub ArePlainWords : List ℕ → List ℕ → Type 0
ArePlainWords user password = IsPlainWord user × IsPlainWord password
