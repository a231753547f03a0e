pub mod Sink
pub mod World
pub mod WorldText
pub mod Table
pub mod RefusalKinds
pub mod View
