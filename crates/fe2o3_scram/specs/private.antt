-- What private contracts cite of the code. A reader need not trust these.
pub mod Answers
pub mod ByName
pub mod Hashers
pub mod Headers
pub mod Pieces
pub mod Serving
pub mod Tests
