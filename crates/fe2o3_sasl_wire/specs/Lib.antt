pub mod AmqpTypes
pub mod FrameView
pub mod Laws
pub mod Owned
pub mod ProtocolHeader
pub mod SaslFrames
pub mod private
