pub mod EqualMessageLemmas
pub mod HeadlineLemmas
pub mod MeetingSidesLemmas
pub mod ReportedAnswerLemmas
pub mod StrictSideLemmas
pub mod BoundSideLemmas
