pub mod Accepted
pub mod RefusalKinds
pub mod Refused
pub mod Laws
