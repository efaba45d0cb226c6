-- Two connections over the same bytes, from the first byte on.
use Rattle.std.proofs.Common.{◌≡◌, ◌≢◌, ℕ, ◌+◌, ◌<◌, ◌≤◌, ◌^◌, Some, List, [], ◌∷◌, ◌++◌, length, sym, ap, ◌∙◌, inl, inr, arith}
use Rattle.std.proofs.lemmas.List.{append-nil, length-append}
use Rattle.fe2o3_sasl_core.specs.AnyMechanismLaws.{Machine}
use Rattle.fe2o3_sasl_core.specs.SaslAcceptor.{acceptor_names, acceptor_machine}
use Rattle.fe2o3_sasl_core.proofs.lemmas.machines.OneReplyLemmas.{one_acceptor_reply}
use Rattle.fe2o3_sasl_negotiation.specs.declared.progress.CloseReason.{CloseReason}
use Rattle.fe2o3_sasl_negotiation.specs.declared.progress.CloseReason.TheVariants.{ProtocolHeaderMismatch, ReplyTooLarge}
use Rattle.fe2o3_sasl_negotiation.specs.declared.progress.Progress.TheVariants.{Failed}
use Rattle.fe2o3_sasl_negotiation.specs.Connections.{Piece, IsHeaderPart, IsOtherHeader, OffersNone, ServerConnection}
use Rattle.fe2o3_sasl_negotiation.specs.Framing.{sasl_header, framed}
use Rattle.fe2o3_sasl_negotiation.specs.Negotiations.{Side}
use Rattle.fe2o3_sasl_negotiation.specs.ServerNegotiation.{offer_body}
use Rattle.fe2o3_sasl_negotiation.proofs.lemmas.ConnectionLemmas.{failed_is_not_in_progress}
use Rattle.connection_laws.specs.Cuts.{IsFunction, HaveOneNonceEach, EndEqually, ServersEndEqually, FunctionsEndEqually, ClientsEndEqually}
use Rattle.connection_laws.proofs.lemmas.CutStepLemmas.{functions_negotiate_equally, clients_negotiate_equally}

module _ {S : Type 0} where
  -- two sides that hold a part of a header
  held_equally : (limit : ℕ) (state : S) (taken sent out : List ℕ) (last end : Side S)
      → IsHeaderPart limit state taken sent last → IsHeaderPart limit state taken out end → EndEqually sent out last end
  held_equally limit state taken sent out last end (few, nothing, is) (also, none, too) = let same = is ∙ sym too in record {
    sends = nothing ∙ sym none;
    progress = ap (λ (s : Side S). s.progress) same;
    state = ap (λ (s : Side S). s.state) same;
    waits = λ _. same;
  }

  -- two sides that have closed
  closed_equally : (why : CloseReason) (state : S) (sent out : List ℕ) (last end : Side S) → sent ≡ out
      → last.progress ≡ Failed why → end.progress ≡ Failed why → last.state ≡ state → end.state ≡ state
      → EndEqually sent out last end
  closed_equally why state sent out last end sends one two is too = record {
    sends = sends;
    progress = one ∙ sym two;
    state = is ∙ sym too;
    waits = λ waits. absurd (failed_is_not_in_progress why (sym one ∙ waits));
  }

  -- a part of a header is no whole one
  pub part_is_short : (limit : ℕ) (state : S) (taken sent rest : List ℕ) (last : Side S)
      → IsHeaderPart limit state taken sent last → taken ≢ sasl_header ++ rest
  part_is_short limit state taken sent rest last (few, nothing, is) same =
      let long : length taken ≡ 8 + length rest = ap length same ∙ length-append sasl_header rest in
      omega (arith, few, long)

  part_is_not_other : (limit : ℕ) (state : S) (taken sent : List ℕ) (last end : Side S)
      → IsHeaderPart limit state taken sent last → ¬ IsOtherHeader state taken end
  part_is_not_other limit state taken sent last end (few, nothing, is) (eight, other, closed, same) =
      omega (arith, few, eight)

  -- another header is not that of SASL
  pub other_is_not : (state : S) (taken rest : List ℕ) (last : Side S) → IsOtherHeader state taken last
      → taken ≢ sasl_header ++ rest
  other_is_not state taken [] last (eight, other, closed, kept) same = other (same ∙ append-nil sasl_header)
  other_is_not state taken (x ∷ rest) last (eight, other, closed, kept) same =
      let long : length taken ≡ 8 + length (x ∷ rest) = ap length same ∙ length-append sasl_header (x ∷ rest) in
      omega (arith, eight, long)

-- ---- servers

module _ {S : Type 0} (names : S → List (List ℕ)) (machine : Machine S) (function : IsFunction machine) (limit : ℕ)
    (state : S) (taken : List ℕ) (small : limit < 2 ^ 32) where
  -- no mechanisms are offered, and some are
  none_and_offer : (offer : List ℕ) → OffersNone (names state) → offer_body (names state) ≡ Some offer
      → ¬ (length offer + 4 ≤ 512)
  none_and_offer offer none is fits = let long : 512 < length offer + 4 = none offer is in omega (arith, long, fits)

  one_offer : (offer again : List ℕ) → Some offer ≡ Some again → offer ≡ again
  one_offer offer again same = cc

  servers_equal : (pieces others : List Piece) (sent out : List ℕ) (last end : Side S)
      → ServerConnection names machine limit state pieces taken sent last
      → ServerConnection names machine limit state others taken out end → HaveOneNonceEach pieces others taken
      → EndEqually sent out last end
  servers_equal pieces others sent out last end (inl part) (inl too) nonces =
      held_equally limit state taken sent out last end part too
  servers_equal pieces others sent out last end (inl part) (inr (inl other)) nonces =
      absurd (part_is_not_other limit state taken sent last end part other.0)
  servers_equal pieces others sent out last end (inl part) (inr (inr (inl none))) nonces =
      absurd (part_is_short limit state taken sent [] last part (none.0 ∙ sym (append-nil sasl_header)))
  servers_equal pieces others sent out last end (inl part) (inr (inr (inr all))) nonces =
      absurd (part_is_short limit state taken sent _ last part all.5.carried)
  servers_equal pieces others sent out last end (inr (inl other)) (inl part) nonces =
      absurd (part_is_not_other limit state taken out end last part other.0)
  servers_equal pieces others sent out last end (inr (inl other)) (inr (inl too)) nonces =
      closed_equally (ProtocolHeaderMismatch taken) state sent out last end (other.1 ∙ sym too.1) other.0.2
      too.0.2 other.0.3 too.0.3
  servers_equal pieces others sent out last end (inr (inl other)) (inr (inr (inl none))) nonces =
      absurd (other_is_not state taken [] last other.0 (none.0 ∙ sym (append-nil sasl_header)))
  servers_equal pieces others sent out last end (inr (inl other)) (inr (inr (inr all))) nonces =
      absurd (other_is_not state taken _ last other.0 all.5.carried)
  servers_equal pieces others sent out last end (inr (inr (inl none))) (inl part) nonces =
      absurd (part_is_short limit state taken out [] end part (none.0 ∙ sym (append-nil sasl_header)))
  servers_equal pieces others sent out last end (inr (inr (inl none))) (inr (inl other)) nonces =
      absurd (other_is_not state taken [] end other.0 (none.0 ∙ sym (append-nil sasl_header)))
  servers_equal pieces others sent out last end (inr (inr (inl none))) (inr (inr (inl too))) nonces =
      closed_equally ReplyTooLarge state sent out last end (none.2 ∙ sym too.2) none.3 too.3 none.4 too.4
  servers_equal pieces others sent out last end (inr (inr (inl none))) (inr (inr (inr all))) nonces =
      absurd (none_and_offer all.0 none.1 all.2 all.3)
  servers_equal pieces others sent out last end (inr (inr (inr all))) (inl part) nonces =
      absurd (part_is_short limit state taken out _ end part all.5.carried)
  servers_equal pieces others sent out last end (inr (inr (inr all))) (inr (inl other)) nonces =
      absurd (other_is_not state taken _ end other.0 all.5.carried)
  servers_equal pieces others sent out last end (inr (inr (inr all))) (inr (inr (inl none))) nonces =
      absurd (none_and_offer all.0 none.1 all.2 all.3)
  servers_equal pieces others sent out last end (inr (inr (inr (offer, more, is, fits, all, negotiated))))
      (inr (inr (inr (again, rest, too, also, whole, second)))) nonces =
      let equal = (functions_negotiate_equally machine function limit state pieces others taken more rest last end small
      negotiated second nonces).2 in
      let offers : offer ≡ again = one_offer offer again (sym is ∙ too) in record {
        sends = all ∙ ((λ i. sasl_header ++ (framed (offers i) ++ equal.sends i)) ∙ sym whole);
        progress = equal.progress;
        state = equal.state;
        waits = equal.waits;
      }

pub functions_end_equally : {S : Type 0} (names : S → List (List ℕ)) (machine : Machine S)
    → FunctionsEndEqually names machine
functions_end_equally names machine function limit state pieces others taken sent out last end small first second nonces =
    servers_equal names machine function limit state taken small pieces others sent out last end first second nonces

pub servers_end_equally : ServersEndEqually acceptor_names acceptor_machine
servers_end_equally = functions_end_equally acceptor_names acceptor_machine one_acceptor_reply

-- ---- clients

pub clients_end_equally : ClientsEndEqually
clients_end_equally hostname limit profile pieces others taken sent out last end small (inl part) (inl too) nonces =
    held_equally limit profile taken sent out last end part too
clients_end_equally hostname limit profile pieces others taken sent out last end small (inl part) (inr (inl other)) nonces =
    absurd (part_is_not_other limit profile taken sent last end part other.0)
clients_end_equally hostname limit profile pieces others taken sent out last end small (inl part) (inr (inr all)) nonces =
    absurd (part_is_short limit profile taken sent _ last part all.carried)
clients_end_equally hostname limit profile pieces others taken sent out last end small (inr (inl other)) (inl part) nonces =
    absurd (part_is_not_other limit profile taken out end last part other.0)
clients_end_equally hostname limit profile pieces others taken sent out last end small (inr (inl other)) (inr (inl too))
    nonces =
    closed_equally (ProtocolHeaderMismatch taken) profile sent out last end (other.1 ∙ sym too.1) other.0.2
    too.0.2 other.0.3 too.0.3
clients_end_equally hostname limit profile pieces others taken sent out last end small (inr (inl other)) (inr (inr all))
    nonces =
    absurd (other_is_not profile taken _ last other.0 all.carried)
clients_end_equally hostname limit profile pieces others taken sent out last end small (inr (inr all)) (inl part) nonces =
    absurd (part_is_short limit profile taken out _ end part all.carried)
clients_end_equally hostname limit profile pieces others taken sent out last end small (inr (inr all)) (inr (inl other))
    nonces =
    absurd (other_is_not profile taken _ end other.0 all.carried)
clients_end_equally hostname limit profile pieces others taken sent out last end small (inr (inr first)) (inr (inr second))
    nonces =
    (clients_negotiate_equally hostname limit profile pieces others taken sent out last end small first second nonces).2
