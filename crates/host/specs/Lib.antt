pub mod Meaning
pub mod Values
pub mod Laws
pub mod Next
pub mod RefusalKinds
pub mod Numbered
