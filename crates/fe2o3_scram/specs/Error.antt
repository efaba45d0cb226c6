-- Maps errors to errors.
use Rattle.fe2o3_scram.specs.declared.pbkdf2_hi.KeyError.{KeyError}
use Rattle.fe2o3_scram.specs.declared.pbkdf2_hi.KeyError.TheVariants.{NormalizeError as KeyNormalizeError, OutOfMemory as KeyOutOfMemory}
use Rattle.fe2o3_scram.specs.declared.scram_messages.error.ServerScramErrorKind.{ServerScramErrorKind}
use Rattle.fe2o3_scram.specs.declared.scram_messages.error.ServerScramErrorKind.TheVariants.{NormalizeError, OutOfMemory}

-- the server's error for a password that gives no keys
abbrev pub key_fault : KeyError → ServerScramErrorKind
key_fault KeyNormalizeError = NormalizeError
key_fault KeyOutOfMemory = OutOfMemory
