use Rattle.std.proofs.Common.{◌≡◌, Some, Ok, subst}
use Rattle.fe2o3_scram.specs.declared.scram_server.ScramAuthenticator.{ScramAuthenticator}
use Rattle.fe2o3_scram.specs.Credentials.{Provider, Store, serving, with_rights}
use Rattle.fe2o3_scram.specs.MockSettings.{mocking}
use Rattle.fe2o3_scram.specs.ScramServer.{ConcludesFrom, state_in}
use Rattle.scram_lib.specs.Done.{IsSameServer, provider_of}
use Rattle.scram_lib.proofs.server.exchange.Goals as goal

same_provider : (server next : ScramAuthenticator Store) → IsSameServer server next → provider_of next ≡ provider_of server
same_provider server next same = λ i. with_rights (same.3 i) (mocking (same.2 i) (serving (same.1 i) (same.0 i)))

pub returns : goal.returns
returns g c =
    let same = c.challenge.ensures.keeps in
    let state = state_in c.challenge.new.server in
    let given = c.in_ok-conclude.ensures in
    record {
      nonce = c.args.nonce.now;
      challenge = c.in_ok-challenge.ensures.opens.0;
      opened = state;
      final = given.0;
      signature = given.1;
      challenges = c.in_ok-challenge.ensures.opens.1;
      concludes = subst (λ (provider : Provider). ConcludesFrom state provider.version provider.rules provider.rights given.0
          (Ok (Some given.1)) (state_in c.conclude.new.server))
          (same_provider c.args.server.now c.challenge.new.server same) given.2;
    }
