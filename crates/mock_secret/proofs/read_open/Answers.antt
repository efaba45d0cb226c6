use Rattle.std.proofs.Common.{rules, arith, ◌≡◌, ◌∙◌, ◌≤◌, IfOk, IfSome, MatchResult, length, take, ℕ, List, Option, None, Some, Result, Ok, Err, option_map, min, ap, sym, length-take, take_all}
use Rattle.std.specs.declared.fs.attrs.Metadata.{Metadata}
use Rattle.mock_secret.specs.declared.SecretError.{SecretError}
use Rattle.mock_secret.specs.Secrets.{HoldsSecret, IsAllOf, IsFirstFault}
use Rattle.mock_secret.proofs.read_open.Goals as goal

-- of 33 bytes at most 32 were there
few : (all bytes : List ℕ) → bytes ≡ take 33 all → length bytes ≡ 32 → length all ≤ 33
few all bytes taken is_32 =
    let found : min 33 (length all) ≡ 32 = sym (length-take 33 all) ∙ (ap length (sym taken) ∙ is_32) in omega arith

-- what passes the tests is all that the file held
passed : {X : Type 0} (items : X → List ℕ) (metadata : Metadata) (held : Option (List ℕ)) (bytes : List ℕ)
    (result : Result X SecretError)
    → MatchResult result (λ secret. (items secret ≡ bytes) × HoldsSecret metadata (length bytes))
    (IsFirstFault metadata (length bytes)) → IfSome (option_map (take 33) held) (λ taken. bytes ≡ taken)
    → IfOk result (λ secret. IsAllOf held (items secret))
passed items metadata held bytes (Err fault) found taken = tt
passed items metadata None bytes (Ok secret) found taken = (ap length found.0 ∙ found.1.2, tt)
passed items metadata (Some all) bytes (Ok secret) found taken = (
  ap length found.0 ∙ found.1.2,
  found.0 ∙ (taken ∙ take_all 33 all (few all bytes taken found.1.2)),
)

pub returns : goal.returns
returns g c = passed (λ secret. secret.items) c.in_ok-metadata.metadata (g.F.Read.remaining c.args.file.now)
    c.read_to_end.new.buf.items c.tested.result c.tested.ensures (search rules)
