-- What the answer of a SCRAM acceptor to an init costs.
use Rattle.std.proofs.Common.{◌≡◌, ◌≢◌, ℕ, ◌+◌, ◌≤◌, Option, Some, None, List, refl, inl, inr, Result, Ok, Err, arith}
use Rattle.std.specs.Prelude.{IfOk, OnOk}
use Rattle.fe2o3_sasl_wire.specs.SaslFrames as frames
use Rattle.fe2o3_sasl_wire.specs.SaslFrames.{SaslFrame}
use Rattle.fe2o3_scram.specs.declared.scram_messages.error.ServerScramErrorKind.{ServerScramErrorKind}
use Rattle.fe2o3_scram.specs.declared.scram_messages.error.ServerScramErrorKind.TheVariants.{OutOfMemory}
use Rattle.fe2o3_scram.specs.ClientFirst.{ClientFirst, ReadsClientFirst}
use Rattle.fe2o3_scram.specs.Credentials.{Provider}
use Rattle.fe2o3_scram.specs.ChannelBinding.{server_mechanism}
use Rattle.fe2o3_scram.specs.Readings.{Gives}
use Rattle.fe2o3_scram.specs.ScramServer.{ServerState, ChallengesFrom, FirstCosts}
use Rattle.fe2o3_scram.proofs.lemmas.messages.ClientFirstLemmas.{one_client_first}
use Rattle.fe2o3_scram.proofs.lemmas.messages.SomeReadingLemmas.{some_client_first}
use Rattle.fe2o3_sasl_core.specs.Costs.{ReachesLookUp, acceptor_hmacs, CostsAtMost}
use Rattle.fe2o3_sasl_core.specs.SaslAcceptor.{ScramAcceptor}

module _ (provider : Provider) (state : ServerState) (mechanism text : List ℕ) (hostname : Option (List ℕ)) where
  -- an init takes this many
  abbrev Takes : ℕ → Type 0
  Takes n = acceptor_hmacs (ScramAcceptor provider state) (frames.Init mechanism (Some text) hostname) n

  module _ (next : ServerState) (nonce : List ℕ)
      (is_name : mechanism ≡ server_mechanism provider.version provider.rules) where
    -- an answer is to a message that is read
    answer_reads : (answer : Option (List ℕ)) → ChallengesFrom state provider nonce text (Ok answer) next
        → ReachesLookUp provider mechanism text
    answer_reads None from = (is_name, (from.0.0, from.0.1))
    answer_reads (Some message) from = (is_name, (from.1.0, from.1.2))

    pub answer_takes : (answer : Option (List ℕ)) (before after n : ℕ)
        → ChallengesFrom state provider nonce text (Ok answer) next → after ≡ before + provider.look_up_cost → Takes n
        → after ≡ before + n
    answer_takes answer before after n from costs (inl takes) = let all = takes.1 in omega (costs, all, arith)
    answer_takes answer before after n from costs (inr takes) = absurd (takes.0 (answer_reads answer from))

    pub answer_most : (answer : Option (List ℕ)) (before after : ℕ)
        → ChallengesFrom state provider nonce text (Ok answer) next → after ≡ before + provider.look_up_cost
        → CostsAtMost acceptor_hmacs (ScramAcceptor provider state) (frames.Init mechanism (Some text) hostname) before
        after
    answer_most answer before after from costs = (
      omega (costs, arith),
      λ n takes. let is = answer_takes answer before after n from costs takes in omega (is, arith),
    )

    -- an error, and running out of memory
    rises : (A : Type 0) (kind : ServerScramErrorKind) (before after : ℕ)
        → FirstCosts {A = A} provider text (Err kind) before after → before ≤ after
    rises A OutOfMemory before after costs = costs.0
    rises A kind before after costs = let none : after ≡ before = costs in omega (none, arith)

    refused_most : (A : Type 0) (kind : ServerScramErrorKind) (before after n : ℕ)
        → FirstCosts {A = A} provider text (Err kind) before after → Takes n → after ≤ before + n
    refused_most A OutOfMemory before after n costs (inl takes) =
        let all = takes.1 in let within = costs.1 in omega (within, all, arith)
    refused_most A OutOfMemory before after n costs (inr takes) = go (some_client_first provider.rules text)
      where
        go : (answer : Result ClientFirst ServerScramErrorKind) × ReadsClientFirst provider.rules text answer
            → after ≤ before + n
        go (Ok client, reads) = absurd (takes.0 (is_name, (client, reads)))
        go (Err fault, refuses) = let none = costs.2 fault refuses in omega (none, arith)
    refused_most A kind before after n costs takes = let none : after ≡ before = costs in omega (none, arith)

    pub refusal_most : (A : Type 0) (kind : ServerScramErrorKind) (before after : ℕ)
        → FirstCosts {A = A} provider text (Err kind) before after
        → CostsAtMost acceptor_hmacs (ScramAcceptor provider state) (frames.Init mechanism (Some text) hostname) before
        after
    refusal_most A kind before after costs =
        (rises A kind before after costs, λ n takes. refused_most A kind before after n costs takes)

    -- and exactly, where memory does not run out
    pub read_takes : (client : ClientFirst) → ReadsClientFirst provider.rules text (Ok client) → (before after : ℕ)
        → after ≡ before + provider.look_up_cost → (n : ℕ) → Takes n → after ≡ before + n
    read_takes client reads before after costs n (inl takes) = let all = takes.1 in omega (costs, all, arith)
    read_takes client reads before after costs n (inr takes) = absurd (takes.0 (is_name, (client, reads)))

    unread : (kind : ServerScramErrorKind) (n : ℕ) → ReadsClientFirst provider.rules text (Err kind) → Takes n
        → n ≡ 0
    unread kind n refuses (inl takes) =
        let both = one_client_first provider.rules text (Err kind) (Ok takes.0.1.0) refuses takes.0.1.1 in absurd (cc)
    unread kind n refuses (inr takes) = takes.1

    same_meter : (A : Type 0) (kind : ServerScramErrorKind) (before after : ℕ) → kind ≢ OutOfMemory
        → FirstCosts {A = A} provider text (Err kind) before after → after ≡ before
    same_meter A OutOfMemory before after other costs = absurd (other refl)
    same_meter A kind before after other costs = costs

    pub unread_takes : (A : Type 0) (kind : ServerScramErrorKind) → kind ≢ OutOfMemory
        → ReadsClientFirst provider.rules text (Err kind) → (before after : ℕ)
        → FirstCosts {A = A} provider text (Err kind) before after → (n : ℕ) → Takes n → after ≡ before + n
    unread_takes A kind told refuses before after costs n takes =
        let none = unread kind n refuses takes in
        let same = same_meter A kind before after told costs in
        omega (none, same, arith)

    pub refusal_takes : {X E : Type 0} (A V : Type 0) (Allocates : Type 0) (sends : X → Type 0)
        (view : V → Option (List ℕ)) (kind : ServerScramErrorKind) (sent : Result X E) (before after : ℕ)
        → Gives OutOfMemory Allocates view (Err kind) (λ answer. ChallengesFrom state provider nonce text answer next)
        → FirstCosts {A = A} provider text (Err kind) before after
        → IfOk sent (λ frame. (kind ≢ OutOfMemory) × sends frame)
        → OnOk sent ((n : ℕ) → Takes n → after ≡ before + n)
    refusal_takes A V Allocates sends view kind (Ok frame) before after from costs is = λ n takes.
        let none = unread kind n (from.1 is.0).0 takes in
        let same = same_meter A kind before after is.0 costs in
        omega (none, same, arith)
    refusal_takes A V Allocates sends view kind (Err fault) before after from costs is = tt
