-- Worked cases of the definitions, computed.
pub mod Kit
pub mod Running
pub mod Exits
pub mod Rules
pub mod Fitting
