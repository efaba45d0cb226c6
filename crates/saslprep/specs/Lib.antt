pub mod Laws
pub mod Saslprep
pub mod Tables
