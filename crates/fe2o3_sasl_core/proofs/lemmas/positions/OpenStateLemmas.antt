-- What is at the open position, and a state that holds it, for any two tests of replies.
use Rattle.std.proofs.Common.{◌≡◌, ◌⊎◌, ℕ, suc, ◌<◌, ◌≤◌, Bool, true, false, true≢false, Option, Some, None, List, [], ◌∷◌, ◌++◌, length, sym, ap, ◌∙◌, subst, arith, inl, inr, length-append}
use Rattle.std.specs.Prelude.{slice_get}
use Rattle.std.proofs.lemmas.Option.{none-some, same_Some}
use Rattle.fe2o3_sasl_core.specs.Positions.{test_at, IsLastOpen, OpenBy}
use Rattle.fe2o3_sasl_core.proofs.lemmas.positions.PositionLemmas.{one_open, open_agree, opens_here, stays_open, was_open, slice_get-front, slice_get-behind}

-- two predicates hold of the same
abbrev pub AreSame : {X : Type 0} → (X → Type 0) → (X → Type 0) → Type 0
AreSame {X} P Q = ((x : X) → P x → Q x) × ((x : X) → Q x → P x)

-- a predicate holds of one at most
abbrev pub OfOne : {X : Type 0} → (X → Type 0) → Type 0
OfOne {X} P = (x y : X) → P x → P y → x ≡ y

-- the same replies are before k
abbrev pub AgreeBelow : {A : Type 0} → List A → List A → ℕ → Type 0
AgreeBelow replies others k = (i : ℕ) → i < k → slice_get replies i ≡ slice_get others i

module _ {A X : Type 0} (opens closes : A → Bool) where
  -- one value is open at most, where each position has one at most
  pub one_open_by : (At : ℕ → X → Type 0) (replies : List A) (k : ℕ) → ((j : ℕ) → OfOne (At j))
      → OfOne (OpenBy opens closes At replies k)
  one_open_by At replies k one x y h i =
      one i.0 x y (subst (λ (j : ℕ). At j x) (one_open opens closes replies k h.0 i.0 h.1 i.1) h.2) i.2

  -- what is open at k depends only on what is before k
  pub open_by_agrees : (At Other : ℕ → X → Type 0) (replies others : List A) (k : ℕ) → AgreeBelow replies others k
      → ((j : ℕ) (x : X) → j < k → At j x → Other j x) → (x : X) → OpenBy opens closes At replies k x
      → OpenBy opens closes Other others k x
  open_by_agrees At Other replies others k e to x h =
      (h.0, open_agree opens closes replies others k h.0 e h.1, to h.0 x h.1.before h.2)

  -- and stays what it is where the list goes on
  pub open_by_front : (At Other : ℕ → X → Type 0) (replies more : List A) (k : ℕ) → k ≤ length replies
      → ((j : ℕ) → j < k → AreSame (At j) (Other j)) → AreSame (OpenBy opens closes At replies k)
      (OpenBy opens closes Other (replies ++ more) k)
  open_by_front At Other replies more k l same = (
    open_by_agrees At Other replies (replies ++ more) k (λ i b. sym (slice_get-front replies more i (omega arith)))
        (λ j x b. (same j b).0 x),
    open_by_agrees Other At (replies ++ more) replies k (λ i b. slice_get-front replies more i (omega arith))
        (λ j x b. (same j b).1 x),
  )

  -- the state is the value that is open after the replies
  pub record Holds (At : ℕ → X → Type 0) (replies : List A) (state : Option X) : Type 0 where
    pub found : (x : X) → state ≡ Some x → OpenBy opens closes At replies (length replies) x
    pub only : (x : X) → OpenBy opens closes At replies (length replies) x → state ≡ Some x

  -- before the first reply nothing is open
  pub holds_nothing : (At : ℕ → X → Type 0) → Holds At [] None
  holds_nothing At = record {
    found = λ x e. absurd (none-some x e);
    only = λ x h. absurd (let b = h.1.before in omega arith);
  }

  -- what the state is after a reply: a value of which `Here` holds, nothing, or what it was
  abbrev pub Turns : (X → Type 0) → Option X → A → Option X → Type 0
  Turns Here state reply next =
      ((opens reply ≡ true) × ((x : X) × Here x × (next ≡ Some x)))
      ⊎ ((opens reply ≡ false) × (closes reply ≡ true) × (next ≡ None))
      ⊎ ((opens reply ≡ false) × (closes reply ≡ false) × (next ≡ state))

  -- a state that turns so with the next reply holds what is open then
  pub holds_push : (At Other : ℕ → X → Type 0) (replies : List A) (reply : A) (state next : Option X)
      → ((j : ℕ) → j < length replies → AreSame (At j) (Other j)) → OfOne (Other (length replies)) →
      Holds At replies state → Turns (Other (length replies)) state reply next
      → Holds Other (replies ++ reply ∷ []) next
  holds_push At Other replies reply state next same one h t =
      let l : suc (length replies) ≡ length (replies ++ reply ∷ []) = let y = length-append replies (reply ∷ []) in
      omega arith in
      let g = go t in
      record {
        found = λ x e. subst (λ (k : ℕ). OpenBy opens closes Other (replies ++ reply ∷ []) k x) l (g.0 x e);
        only = λ x o. g.1 x (subst (λ (k : ℕ). OpenBy opens closes Other (replies ++ reply ∷ []) k x) (sym l) o);
      }
    where
      here : slice_get (replies ++ reply ∷ []) (length replies) ≡ Some reply
      here = slice_get-behind replies reply []

      earlier : (j : ℕ) → opens reply ≡ false → IsLastOpen opens closes (replies ++ reply ∷ []) (suc (length replies)) j
          → IsLastOpen opens closes replies (length replies) j
      earlier j c o = open_agree opens closes (replies ++ reply ∷ []) replies (length replies) j
          (λ i b. slice_get-front replies (reply ∷ []) i b) (was_open opens closes (replies ++ reply ∷ [])
          (length replies) j (ap (test_at opens) here ∙ c) o)

      go : Turns (Other (length replies)) state reply next
          → AreSame (λ x. next ≡ Some x) (OpenBy opens closes Other (replies ++ reply ∷ []) (suc (length replies)))
      go (inl t) =
          let place = opens_here opens closes (replies ++ reply ∷ []) (length replies) (ap (test_at opens) here ∙ t.0)
          in (
            λ x e. (
              length replies,
              place,
              subst (λ (z : X). Other (length replies) z)
                  (same_Some t.1.0 x (sym t.1.2 ∙ e)) t.1.1,
            ),
            λ x o. t.1.2 ∙ ap Some (one t.1.0 x t.1.1 (subst (λ (j : ℕ). Other j x)
                (one_open opens closes (replies ++ reply ∷ []) (suc (length replies)) o.0 (length replies) o.1 place)
                o.2)),
          )
      go (inr (inl t)) = (
        λ x e. absurd (none-some x (sym t.2 ∙ e)),
        λ x o. let b = (earlier o.0 t.0 o.1).before in absurd
            (true≢false (sym (ap (test_at closes) here ∙ t.1) ∙ o.1.kept (length replies) b (omega arith))),
      )
      go (inr (inr t)) = (
        λ x e. let o = h.found x (sym t.2 ∙ e) in
            let b = o.1.before in (
              o.0,
              stays_open opens closes (replies ++ reply ∷ []) (length replies) o.0 (ap (test_at opens) here ∙ t.0)
                  (ap (test_at closes) here ∙ t.1) (open_agree opens closes replies (replies ++ reply ∷ [])
                  (length replies) o.0 (λ i b. sym (slice_get-front replies (reply ∷ []) i b)) o.1),
              (same o.0 b).0 x o.2,
            ),
        λ x o. let p = earlier o.0 t.0 o.1 in t.2 ∙ h.only x (o.0, p, (same o.0 p.before).1 x o.2),
      )

  -- a reply that opens a position of no value leaves nothing open
  pub holds_vacant : (Other : ℕ → X → Type 0) (replies : List A) (reply : A) → opens reply ≡ true
      → ((x : X) → ¬ Other (length replies) x) → Holds Other (replies ++ reply ∷ []) None
  holds_vacant Other replies reply is none = record {
    found = λ x e. absurd (none-some x e);
    only = λ x o. absurd (none x (subst (λ (j : ℕ). Other j x) (one_open opens closes (replies ++ reply ∷ [])
        (length (replies ++ reply ∷ [])) o.0 (length replies) o.1 place) o.2));
  }
    where
      here : slice_get (replies ++ reply ∷ []) (length replies) ≡ Some reply
      here = slice_get-behind replies reply []

      l : suc (length replies) ≡ length (replies ++ reply ∷ [])
      l = let y = length-append replies (reply ∷ []) in omega arith

      place : IsLastOpen opens closes (replies ++ reply ∷ []) (length (replies ++ reply ∷ [])) (length replies)
      place = subst (λ (k : ℕ). IsLastOpen opens closes (replies ++ reply ∷ []) k (length replies)) l
          (opens_here opens closes (replies ++ reply ∷ []) (length replies) (ap (test_at opens) here ∙ is))
