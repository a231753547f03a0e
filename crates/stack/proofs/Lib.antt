pub mod Cuts
pub mod Lifted
pub mod CellsByIndex
pub mod OnSlab
pub mod UpTo
pub mod OfGlobals
pub mod Runs
