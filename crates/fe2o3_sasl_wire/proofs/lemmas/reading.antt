-- What the readers answer: what is read is spelled so, and what is spelled so is read.
pub mod ElementLoopLemmas
pub mod ReadFramesAreSpelledLemmas
pub mod ReadValuesAreSpelledLemmas
pub mod SpelledFramesAreReadLemmas
pub mod SpelledValuesAreReadLemmas
pub mod StepLemmas
pub mod TextLemmas
