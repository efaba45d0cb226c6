-- The receipts of a server's run.
use Rattle.std.proofs.Common.{◌≡◌, ℕ, suc, ◌≤◌, ◌+◌, false, true≢false, Some, List, [], ◌∷◌, ◌++◌, length, refl, sym, ap, ◌∙◌, subst, arith, Ok, Bool, Result, Err}
use Rattle.std.specs.Prelude.{slice_get, IfOk}
use Rattle.std.proofs.lemmas.Option.{same_Some}
use Rattle.fe2o3_sasl_wire.specs.declared.amqp_types.SaslCode.TheVariants as outcomes
use Rattle.fe2o3_sasl_wire.specs.SaslFrames as frames
use Rattle.fe2o3_sasl_wire.specs.SaslFrames.{SaslFrame}
use Rattle.fe2o3_scram.specs.declared.scram_messages.server_rules.ServerRules.{ServerRules}
use Rattle.fe2o3_scram.specs.ClientFinal.{ClientFinal, HasProof, ReadsFinalText}
use Rattle.fe2o3_scram.specs.ClientFirst.{ClientFirst, ReadsClientFirst}
use Rattle.fe2o3_scram.specs.Credentials.{Provider, Record, Store, serving}
use Rattle.fe2o3_scram.specs.ServerFirst.{ServerChallenge, challenge_of, AnswersClientFirst}
use Rattle.fe2o3_scram.proofs.lemmas.messages.ClientFinalLemmas.{names_final_text, one_proof}
use Rattle.fe2o3_scram.proofs.lemmas.messages.OneValueLemmas.{one_client_first_value}
use Rattle.fe2o3_scram.proofs.lemmas.texts.PartsLemmas.{pieces, Parts-pieces, one_list_of_parts}
use Rattle.fe2o3_sasl_core.specs.Events.{Given, ServerSays, Challenged, Concluded, Failed}
use Rattle.fe2o3_sasl_core.specs.Positions.{test_at, IsLastOpen}
use Rattle.fe2o3_sasl_core.specs.Bodies.{SpellsBody}
use Rattle.fe2o3_sasl_core.specs.ServerHistory.{Challenging, Accepted, AcceptsAt, FitsAsInit, FitsAt, Open, ServerHistory, is_challenge, is_ok}
use Rattle.fe2o3_sasl_core.specs.TwoSides.{HasParts}
use Rattle.fe2o3_sasl.specs.private.Receipts.{ServerReceipt, OfAccepted, IsOkReceipt, ConcludesAt}
use Rattle.fe2o3_sasl.specs.private.ServerReceipts.{ServerSoFar, OpenedFor, OkFor, ServerKeeps}
use Rattle.fe2o3_sasl.proofs.lemmas.audit.CoverLemmas.{covers_skip, covers_push}
use Rattle.fe2o3_sasl_core.proofs.lemmas.frames.SpellingLemmas.{one_spelled_frame}
use Rattle.fe2o3_sasl_core.proofs.lemmas.histories.OneServerHistoryLemmas.{one_fits}
use Rattle.fe2o3_sasl_core.proofs.lemmas.histories.ServerLawLemmas.{ok_accepts, accepted_response}
use Rattle.fe2o3_sasl_core.proofs.lemmas.positions.PositionLemmas.{opens_here, was_open, one_open}
use Rattle.fe2o3_scram.specs.ChannelBinding.{ClientHeader}

-- ---- a first message of that many parts

pub HasParts-pieces : (text : List ℕ) (n : ℕ) → length (pieces text) ≡ n → HasParts text n
HasParts-pieces text n is = (pieces text, Parts-pieces text, is)

pub HasParts-length : (text : List ℕ) (n : ℕ) → HasParts text n → length (pieces text) ≡ n
HasParts-length text n has =
    ap length (one_list_of_parts text (pieces text) has.0 (Parts-pieces text) has.1) ∙ has.2

-- ---- the challenge and the response again

-- what is answered to a message that was read, where this is the record of its user
pub challenge_again : (provider : Provider) (nonce text : List ℕ) (challenge : ServerChallenge) (client : ClientFirst)
    (stored : Record) → AnswersClientFirst provider nonce text (Ok (Some challenge))
    → ReadsClientFirst provider.rules text (Ok client) → Some stored ≡ provider.records client.user
    → challenge ≡ challenge_of client nonce stored
challenge_again provider nonce text challenge client stored answers reads known =
    let one = one_client_first_value provider.rules text answers.0 client answers.2 reads in
    let same = same_Some answers.1 stored
    (sym answers.3 ∙ (ap (λ (first : ClientFirst). provider.records first.user) one ∙ sym known)) in
    answers.4 ∙ (λ i. challenge_of (one i) nonce (same i))

pub proof_again : (header : ClientHeader) (strict : Bool) (nonce text : List ℕ) (final : ClientFinal)
    → ReadsFinalText header strict nonce text (Ok final) → HasProof text final
proof_again header strict nonce text final reads = (names_final_text header strict nonce text final reads).proof

-- the receipt of an accepted response
pub receipt_for : {R E : Type 0} (view : R → ServerReceipt) (store : Store) (rules : ServerRules) (position : ℕ)
    (challenge : Challenging) (body text : List ℕ) (final : ClientFinal) (result : Result R E)
    → SpellsBody body (Ok (frames.Response text)) → HasProof text final
    → IfOk result (λ receipt. (view receipt).place ≡ position) → IfOk result (λ receipt. (others : ServerRules)
    → OfAccepted (serving others store) (record { challenge = challenge; final = final }) (view receipt))
    → IfOk result (λ receipt. OkFor (serving rules store) position challenge body (view receipt))
receipt_for view store rules position challenge body text final (Ok receipt) spells has is accepted = record {
  place = is;
  text = text;
  final = final;
  spells = spells;
  proof = has;
  accepted = accepted rules;
}
receipt_for view store rules position challenge body text final (Err fault) spells has is accepted = tt

-- a challenge that is made again is the one that fitted
same_init : (provider : Provider) (init : Given) (frame : SaslFrame) (challenge opened : Challenging)
    → SpellsBody init.body (Ok frame) → FitsAsInit provider init frame challenge → OpenedFor provider init opened
    → opened ≡ challenge
same_init provider init frame challenge opened spells fits is =
    let again = frames.Init is.mechanism (Some is.text) is.hostname in
    let one = one_spelled_frame init.body frame again spells is.spells in
    let fit = subst (λ (z : SaslFrame). FitsAsInit provider init z challenge) one fits in
    one_fits provider init again opened challenge (fit.0, is.reads, is.known, is.nonce) fit

-- a response that is read again names what was accepted
same_final : (body text again : List ℕ) (final other : ClientFinal) → SpellsBody body (Ok (frames.Response text))
    → HasProof text final → SpellsBody body (Ok (frames.Response again)) → HasProof again other → other ≡ final
same_final body text again final other spells proof too its =
    let one = one_spelled_frame body (frames.Response text) (frames.Response again) spells too in
    let same : text ≡ again = same_text text again one in
    one_proof again other final its (subst (λ (z : List ℕ). HasProof z final) same proof)
  where
    same_text : (text again : List ℕ) → ◌≡◌ {A = SaslFrame} (frames.Response text) (frames.Response again)
        → text ≡ again
    same_text text again e = cc

abbrev accepting : Challenging → ClientFinal → Accepted
accepting challenge final = record { challenge = challenge; final = final }

-- ---- position by position

module _ (provider : Provider) (events : List Given) (replies : List ServerSays)
    (history : ServerHistory provider events replies) where
  -- a reply that is no challenge opens nothing
  no_challenge : (i challenge : ℕ) (says : ServerSays) → slice_get replies i ≡ Some says → is_challenge says ≡ false
      → ((j : ℕ) → IsLastOpen is_challenge is_ok replies i j → challenge ≡ j) → (j : ℕ)
      → IsLastOpen is_challenge is_ok replies (suc i) j → challenge ≡ j
  no_challenge i challenge says at none before j is =
      before j (was_open is_challenge is_ok replies i j (ap (test_at is_challenge) at ∙ none) is)

  nothing_here : (i challenge : ℕ) (oks : List ServerReceipt) (says : ServerSays) → slice_get replies i ≡ Some says
      → is_challenge says ≡ false → is_ok says ≡ false → ServerSoFar provider events replies i challenge oks
      → ServerSoFar provider events replies (suc i) challenge oks
  nothing_here i challenge oks says at no_c no_o known = record {
    concludes =
        covers_skip (IsOkReceipt provider events replies) (λ receipt. receipt.place) (ConcludesAt replies) i oks
        known.concludes
        (λ ok. absurd (true≢false (ap (test_at is_ok) (sym ok.1 ∙ at) ∙ no_o)));
    challenged = no_challenge i challenge says at no_c known.challenged;
  }

  challenge_here : (i challenge : ℕ) (oks : List ServerReceipt) (body : List ℕ)
      → slice_get replies i ≡ Some (Challenged body) → ServerSoFar provider events replies i challenge oks
      → ServerSoFar provider events replies (suc i) i oks
  challenge_here i challenge oks body at known = record {
    concludes =
        covers_skip (IsOkReceipt provider events replies) (λ receipt. receipt.place) (ConcludesAt replies) i oks
        known.concludes (λ ok. let is = sym at ∙ ok.1 in absurd (cc));
    challenged = λ j is. one_open is_challenge is_ok replies (suc i) i j
        (opens_here is_challenge is_ok replies i (ap (test_at is_challenge) at)) is;
  }

  -- the challenge that was open is the one that was made again
  same_challenge : (i challenge : ℕ) (init : Given) (fitted opened : Challenging)
      → ((j : ℕ) → IsLastOpen is_challenge is_ok replies i j → challenge ≡ j)
      → Open provider events replies i fitted → slice_get events challenge ≡ Some init
      → OpenedFor provider init opened → opened ≡ fitted
  same_challenge i challenge init fitted opened known is first was =
      let at : FitsAt provider events challenge fitted =
      subst (λ (z : ℕ). FitsAt provider events z fitted) (sym (known is.0 is.1)) is.2 in
      let event : at.0 ≡ init = same_Some at.0 init (sym at.2 ∙ first) in
      same_init provider init at.1 fitted opened (subst (λ (z : Given). SpellsBody z.body (Ok at.1)) event at.3)
      (subst (λ (z : Given). FitsAsInit provider z at.1 fitted) event at.4) was

  -- the receipt that was made is that of the Ok
  is_receipt : (i challenge : ℕ) (body : List ℕ) (init event : Given) (opened : Challenging)
      (receipt : ServerReceipt) → slice_get replies i ≡ Some (Concluded outcomes.Ok body)
      → slice_get events challenge ≡ Some init → slice_get events i ≡ Some event → OpenedFor provider init opened
      → OkFor provider i opened event.body receipt
      → ((j : ℕ) → IsLastOpen is_challenge is_ok replies i j → challenge ≡ j)
      → IsOkReceipt provider events replies receipt
  is_receipt i challenge body init event opened receipt at first here was made known =
      let told = ok_accepts provider events replies i body history at in
      let accepted = told.0 in
      let response = accepted_response provider events replies i accepted told.1 in
      let same_event : response.0 ≡ event = same_Some response.0 event (sym response.2 ∙ here) in
      let spells : SpellsBody event.body (Ok (frames.Response response.1)) =
      subst (λ (z : Given). SpellsBody z.body (Ok (frames.Response response.1))) same_event response.3 in
      let challenges = same_challenge i challenge init accepted.challenge opened known response.4 first was in
      let finals = same_final event.body response.1 made.text accepted.final made.final spells response.5.proof
      made.spells made.proof in
      let of : OfAccepted provider accepted receipt = subst (λ (z : Accepted). OfAccepted provider z receipt)
      (λ k. accepting (challenges k) (finals k)) made.accepted in (
        body,
        accepted,
        subst (λ (z : ℕ). slice_get replies z ≡ Some (Concluded outcomes.Ok body)) (sym made.place) at,
        subst (λ (z : ℕ). AcceptsAt provider events replies z accepted) (sym made.place) told.1,
        of,
      )

  ok_here : (i challenge : ℕ) (oks : List ServerReceipt) (body : List ℕ) (init event : Given)
      (opened : Challenging) (receipt : ServerReceipt) → slice_get replies i ≡ Some (Concluded outcomes.Ok body)
      → slice_get events challenge ≡ Some init → slice_get events i ≡ Some event → OpenedFor provider init opened
      → OkFor provider i opened event.body receipt → ServerSoFar provider events replies i challenge oks
      → ServerSoFar provider events replies (suc i) challenge (oks ++ receipt ∷ [])
  ok_here i challenge oks body init event opened receipt at first here was made known = record {
    concludes =
        covers_push (IsOkReceipt provider events replies) (λ receipt. receipt.place) (ConcludesAt replies) i oks
        receipt known.concludes
        (is_receipt i challenge body init event opened receipt at first here was made known.challenged) made.place;
    challenged = no_challenge i challenge (Concluded outcomes.Ok body) at refl known.challenged;
  }

  moved : (i next challenge : ℕ) (oks oks' : List ServerReceipt) → next ≡ challenge → oks' ≡ oks
      → ServerSoFar provider events replies i challenge oks → ServerSoFar provider events replies i next oks'
  moved i next challenge oks oks' e f known =
      subst (λ (z : ℕ × List ServerReceipt). ServerSoFar provider events replies i z.0 z.1) (λ j. (sym e j, sym f j))
      known

  -- a reply that leaves nothing
  kept : (i challenge next : ℕ) (oks oks' : List ServerReceipt) (says : ServerSays)
      → slice_get replies i ≡ Some says → is_challenge says ≡ false → is_ok says ≡ false
      → (next ≡ challenge) × (oks' ≡ oks) → ServerSoFar provider events replies i challenge oks
      → ServerSoFar provider events replies (suc i) next oks'
  kept i challenge next oks oks' says at no_c no_o keeps known =
      moved (suc i) next challenge oks oks' keeps.0 keeps.1 (nothing_here i challenge oks says at no_c no_o known)

  step : (i challenge next : ℕ) (oks oks' : List ServerReceipt) (init event : Given) (says : ServerSays)
      → slice_get replies i ≡ Some says → slice_get events challenge ≡ Some init → slice_get events i ≡ Some event
      → ServerKeeps provider i init event says challenge next oks oks'
      → ServerSoFar provider events replies i challenge oks → ServerSoFar provider events replies (suc i) next oks'
  step i challenge next oks oks' init event (Challenged body) at first here keeps known =
      moved (suc i) next i oks oks' keeps.0 keeps.1 (challenge_here i challenge oks body at known)
  step i challenge next oks oks' init event (Concluded outcomes.Ok body) at first here keeps known =
      moved (suc i) next challenge (oks ++ keeps.1.1 ∷ []) oks' keeps.0 keeps.1.4
      (ok_here i challenge oks body init event keeps.1.0 keeps.1.1 at first here keeps.1.2 keeps.1.3 known)
  step i challenge next oks oks' init event (Concluded outcomes.Auth body) at first here keeps known =
      kept i challenge next oks oks' (Concluded outcomes.Auth body) at refl refl keeps known
  step i challenge next oks oks' init event (Concluded outcomes.Sys body) at first here keeps known =
      kept i challenge next oks oks' (Concluded outcomes.Sys body) at refl refl keeps known
  step i challenge next oks oks' init event (Concluded outcomes.SysPerm body) at first here keeps known =
      kept i challenge next oks oks' (Concluded outcomes.SysPerm body) at refl refl keeps known
  step i challenge next oks oks' init event (Concluded outcomes.SysTemp body) at first here keeps known =
      kept i challenge next oks oks' (Concluded outcomes.SysTemp body) at refl refl keeps known
  step i challenge next oks oks' init event (Failed fault) at first here keeps known =
      kept i challenge next oks oks' (Failed fault) at refl refl keeps known

  pub server_next : (i challenge next : ℕ) (oks oks' : List ServerReceipt) (init event : Given) (says : ServerSays)
      → slice_get replies i ≡ Some says → slice_get events challenge ≡ Some init → slice_get events i ≡ Some event
      → ServerKeeps provider i init event says challenge next oks oks'
      → ServerSoFar provider events replies i challenge oks → ServerSoFar provider events replies (i + 1) next oks'
  server_next i challenge next oks oks' init event says at first here keeps known =
      let e : suc i ≡ i + 1 = omega arith in
      subst (λ (z : ℕ). ServerSoFar provider events replies z next oks') e
      (step i challenge next oks oks' init event says at first here keeps known)

-- the last challenge is before the next position
pub challenge_behind : (provider : Provider) (i challenge next : ℕ) (oks oks' : List ServerReceipt)
    (init event : Given) (says : ServerSays) → ServerKeeps provider i init event says challenge next oks oks'
    → challenge ≤ i → next ≤ i + 1
challenge_behind provider i challenge next oks oks' init event (Challenged body) keeps below = omega (arith, keeps.0)
challenge_behind provider i challenge next oks oks' init event (Concluded outcomes.Ok body) keeps below =
    omega (arith, keeps.0)
challenge_behind provider i challenge next oks oks' init event (Concluded outcomes.Auth body) keeps below =
    omega (arith, keeps.0)
challenge_behind provider i challenge next oks oks' init event (Concluded outcomes.Sys body) keeps below =
    omega (arith, keeps.0)
challenge_behind provider i challenge next oks oks' init event (Concluded outcomes.SysPerm body) keeps below =
    omega (arith, keeps.0)
challenge_behind provider i challenge next oks oks' init event (Concluded outcomes.SysTemp body) keeps below =
    omega (arith, keeps.0)
challenge_behind provider i challenge next oks oks' init event (Failed fault) keeps below = omega (arith, keeps.0)
