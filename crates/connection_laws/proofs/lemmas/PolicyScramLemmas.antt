-- Calls of a client by a policy that has selected a profile of SCRAM: `scram_clients_report_selected`.
use Rattle.std.proofs.Common.{◌≡◌, ◌⊎◌, ℕ, true, false, Option, Some, List, ◌++◌, refl, sym, ◌∙◌, ap, subst, inl, inr}
use Rattle.fe2o3_sasl_wire.specs.SaslFrames.{IsBytes}
use Rattle.fe2o3_sasl_core.specs.Events.{Login}
use Rattle.fe2o3_sasl_core.specs.ProfileMachine.{IsSelected}
use Rattle.fe2o3_sasl_core.specs.Profiles.{Profile, Selection, scram_profile}
use Rattle.fe2o3_sasl_core.specs.Runs.{ProfileSteps}
use Rattle.fe2o3_sasl_negotiation.specs.ClientNegotiation.{ClientReceives, ClientSideAnswers}
use Rattle.fe2o3_sasl_negotiation.specs.Connections.{ClientConnection, Piece, bytes_of, fresh}
use Rattle.fe2o3_sasl_negotiation.specs.Framing.{framed, sasl_header}
use Rattle.fe2o3_sasl_negotiation.specs.Laws.{Call, Calls}
use Rattle.fe2o3_sasl_negotiation.specs.Negotiations.{Side}
use Rattle.fe2o3_sasl_negotiation.proofs.lemmas.LoginLemmas.{scram_clients_report}
use Rattle.connection_laws.specs.Cuts.{taken_pieces}
use Rattle.connection_laws.specs.PolicyClients.{ActsAsSelected, IsLoginOf, IsScramClient, ReadsOffer, ScramClientsReportSelected}
use Rattle.connection_laws.proofs.lemmas.CallPieceLemmas.{client_calls_connect}
use Rattle.connection_laws.proofs.lemmas.CutConnectionLemmas.{other_is_not, part_is_short}
use Rattle.connection_laws.proofs.lemmas.PolicyLoginLemmas.{selected_login}
use Rattle.connection_laws.proofs.lemmas.PolicySelectedLemmas.{offer_front, selected_clients_act_as_profile}
use Rattle.connection_laws.proofs.lemmas.ProfileKindLemmas.{calls_kind, chosen_kind, kind}

-- ---- the connection of a client of SCRAM

module _ (selection : Selection) (hostname : Option (List ℕ)) (limit : ℕ) (calls : List Call)
    (stream sent rest : List ℕ) (last : Side Profile) (are : IsBytes stream) (names : List (List ℕ))
    (offer : ReadsOffer limit stream rest names) (login : Login)
    (of : IsLoginOf selection hostname login) (selected : IsSelected selection names (scram_profile login))
    (made : Calls (ClientReceives login.hostname) (fresh limit (scram_profile login)) calls stream sent last rest) where
  abbrev pieces : List Piece
  pieces = taken_pieces (ClientSideAnswers login.hostname) (fresh limit (scram_profile login)) calls stream sent last rest made

  is_client : IsScramClient selection hostname limit calls stream sent rest last
  is_client = go connects.1
    where
      connects : (stream ≡ bytes_of pieces ++ rest)
          × ClientConnection (ProfileSteps login.hostname) limit (scram_profile login) pieces (bytes_of pieces) sent last
      connects = client_calls_connect login.hostname limit (scram_profile login) stream
          (record { calls = calls; sent = sent; last = last; rest = rest; made = made }) are

      begins : bytes_of pieces ≡ sasl_header ++ (framed offer.body ++ offer.more)
      begins = offer_front limit stream rest names offer (bytes_of pieces) connects.0

      go : ClientConnection (ProfileSteps login.hostname) limit (scram_profile login) pieces (bytes_of pieces) sent last
          → IsScramClient selection hostname limit calls stream sent rest last
      go (inl part) = absurd (part_is_short limit (scram_profile login) (bytes_of pieces) sent
          (framed offer.body ++ offer.more) last part begins)
      go (inr (inl other)) = absurd (other_is_not (scram_profile login) (bytes_of pieces) (framed offer.body ++ offer.more)
          last other.0 begins)
      go (inr (inr negotiated)) = record {
        names = names;
        offer = offer;
        login = login;
        login_of = of;
        selected = selected;
        made = made;
        client = record {
          limit = limit;
          pieces = pieces;
          taken = bytes_of pieces;
          sent = sent;
          last = last;
          connection = negotiated;
        };
        limit_is = refl;
        pieces = refl;
        taken = connects.0;
        sends = refl;
        ends = refl;
        reports = scram_clients_report login limit pieces (bytes_of pieces) sent last negotiated;
      }

pub scram_clients_report_selected : ScramClientsReportSelected
scram_clients_report_selected selection hostname limit calls stream sent rest last now are made is =
    go (selected_login selection hostname acts.names acts.profile acts.selected)
  where
    scram : kind last.state ≡ Some true
    scram = ap kind is

    acts : ActsAsSelected selection hostname limit calls stream sent rest last
    acts = selected_clients_act_as_profile selection hostname limit calls stream sent rest last are made
        (chosen_kind last.state true scram)

    go : ((login : Login) × IsLoginOf selection hostname login × (acts.profile ≡ scram_profile login))
        ⊎ (kind acts.profile ≡ Some false) → IsScramClient selection hostname limit calls stream sent rest last
    go (inr other) =
        let same = calls_kind hostname calls (fresh limit acts.profile) last stream sent rest
        (chosen_kind acts.profile false other) acts.made in
        let no : Some true ≡ Some false = sym scram ∙ (same ∙ other) in absurd (cc)
    go (inl (login, of, same)) = is_client selection hostname limit calls stream sent rest last are acts.names acts.offer login
        of (subst (λ (p : Profile). IsSelected selection acts.names p) same acts.selected)
        (subst (λ (h : Option (List ℕ)). Calls (ClientReceives h) (fresh limit (scram_profile login)) calls stream sent last
        rest) (sym of.hostname) (subst (λ (p : Profile). Calls (ClientReceives hostname) (fresh limit p) calls stream sent last
        rest) same acts.made))
