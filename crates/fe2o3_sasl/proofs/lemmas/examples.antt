pub mod ExampleBodyLemmas
pub mod ExampleClientLemmas
pub mod ExampleLemmas
pub mod ExampleLoginLemmas
pub mod ExampleMemoryLemmas
pub mod ExampleReadingLemmas
pub mod ExampleTextLemmas
