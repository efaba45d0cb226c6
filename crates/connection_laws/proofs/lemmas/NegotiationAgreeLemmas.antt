-- The negotiations of joined sides that have logged in are one login.
use Rattle.std.proofs.Common.{◌≡◌, ◌+◌, ◌≤◌, [], ◌∷◌, ◌++◌, length, refl}
use Rattle.std.specs.Prelude.{is_some}
use Rattle.fe2o3_sasl_wire.specs.SaslFrames as frames
use Rattle.fe2o3_scram.specs.ChannelBinding.{server_mechanism}
use Rattle.fe2o3_sasl_core.specs.TwoSides.{sides_of}
use Rattle.fe2o3_sasl_core.specs.Events.{login_mechanism}
use Rattle.fe2o3_sasl_core.proofs.lemmas.unaltered.UnalteredStepLemmas.{one_mechanism}
use Rattle.fe2o3_sasl_negotiation.specs.Framing.{sasl_header}
use Rattle.connection_laws.specs.Unaltered.{BothLogIn, NegotiationsAgree}
use Rattle.connection_laws.proofs.lemmas.ExchangedLemmas as exchanged
use Rattle.connection_laws.proofs.lemmas.OneLoginLemmas.{one_login}
use Rattle.connection_laws.proofs.lemmas.SmallReplyLemmas.{names_fit, fits_as}
use Rattle.connection_laws.proofs.lemmas.UnalteredLemmas.{unaltered_sides_log_in}

pub negotiations_agree : NegotiationsAgree
negotiations_agree login provider password salt count client server joined is holds fits wide client_pieces
    server_pieces offer out offered all mine theirs client_nonces server_nonces =
    one_login login mine.events mine.replies provider theirs.events theirs.replies password salt count
    (exchanged.run login provider mechanism joined.client_limit joined.server_limit client server
    both.client_progress
    both.server_progress client_pieces server_pieces joined.server_sent joined.client_sent
    (sasl_header ++ joined.client_sent) out offer offered offer_small all refl mine theirs client_nonces server_nonces)
    (exchanged.histories login provider mechanism joined.client_limit joined.server_limit client server
    both.client_progress both.server_progress client_pieces server_pieces joined.server_sent joined.client_sent
    (sasl_header ++ joined.client_sent) out offer offered offer_small all refl mine theirs)
    is (record {
      version = holds.version;
      stored = holds.stored;
      bytes = holds.bytes;
      opens = holds.opens;
      some = holds.some;
      least = holds.least;
      within = holds.within;
      header = holds.header;
      channel = holds.channel;
      identity = holds.identity;
      name = holds.name;
    })
    (exchanged.fits login provider mechanism joined.client_limit joined.server_limit client server
    both.client_progress
    both.server_progress client_pieces server_pieces joined.server_sent joined.client_sent
    (sasl_header ++ joined.client_sent) out offer offered offer_small all refl mine theirs)
  where
    mechanism : login_mechanism login ≡ server_mechanism provider.version provider.rules
    mechanism = one_mechanism (sides_of login [] [] provider [] []) password salt count holds

    both : BothLogIn joined salt count
    both = unaltered_sides_log_in login provider password salt count client server joined is holds fits wide

    offer_small : length offer + 4 ≤ 512
    offer_small = fits_as (frames.Mechanisms (server_mechanism provider.version provider.rules ∷ [])) offer
        (names_fit provider.version (is_some provider.rules.channels)) offered
