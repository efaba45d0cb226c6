-- The additional data by which a body rejects a login.
use Rattle.std.proofs.Common.{◌≡◌, ◌∙◌, ℕ, Option, None, List, Result, IfOk, option_map, refl, inl, inr, Ok, Err}
use Rattle.fe2o3_sasl_wire.specs.FrameView.{viewed_frame}
use Rattle.fe2o3_sasl_wire.specs.declared.sasl_frames.frame_view.FrameView.{FrameView}
use Rattle.fe2o3_sasl_negotiation.specs.declared.progress.CloseReason.{CloseReason}
use Rattle.fe2o3_sasl_negotiation.specs.declared.progress.FrameKind.{FrameKind}
use Rattle.fe2o3_sasl_negotiation.specs.Refusals.{RejectsWith, rejection_data}
use Rattle.fe2o3_sasl_negotiation.specs.private.Units.{ReadsExpected}

-- a frame in turn has what it has
pub in_turn_rejects : (turn : FrameKind) (body : List ℕ) (view : FrameView) (more : Option (List ℕ))
    → ReadsExpected turn body (Ok view) → more ≡ rejection_data (viewed_frame view) → RejectsWith turn body more
in_turn_rejects turn body view more (spells, in_turn) is = (Ok (viewed_frame view), spells, inl (in_turn, is))

-- and what is not read, or is out of turn, has none
pub unread_rejects_none : (turn : FrameKind) (body : List ℕ) (why : CloseReason) → ReadsExpected turn body (Err why)
    → RejectsWith turn body None
unread_rejects_none turn body why (inl (fault, spells, is)) = (Err fault, spells, refl)
unread_rejects_none turn body why (inr (frame, spells, out, is)) = (Ok frame, spells, inr (out, refl))

-- a copy of what a frame in turn has
pub copied_refusal : {A E : Type 0} (items : A → List ℕ) (turn : FrameKind) (body : List ℕ) (view : FrameView)
    (result : Result (Option A) E) {found : Option (List ℕ)} → ReadsExpected turn body (Ok view)
    → found ≡ rejection_data (viewed_frame view) → IfOk result (λ copy. option_map items copy ≡ found)
    → IfOk result (λ copy. RejectsWith turn body (option_map items copy))
copied_refusal items turn body view (Ok copy) screens is same = in_turn_rejects turn body view _ screens (same ∙ is)
copied_refusal items turn body view (Err fault) screens is same = tt
