-- What the writers append: it spells the frame, it is canonical, and there is room for it.
pub mod BodyPartsLemmas
pub mod CanonicalSpellsLemmas
pub mod RoomLemmas
