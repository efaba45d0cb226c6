use Rattle.fe2o3_sasl_core.proofs.sasl_profile.SaslProfile.outcome_refusal_unread.Goals as goal

pub returns-in-Some-outcome_refusal_unread : goal.returns-in-Some-outcome_refusal_unread
returns-in-Some-outcome_refusal_unread c =
    (λ is. absurd (cc), rw c.in-Some.ensures.side c.in-Some-outcome_refusal_unread.ensures)
