pub mod ActsFor
pub mod Named
pub mod Table
pub mod Inside
pub mod RefusalKinds
pub mod HierarchyText
pub mod Laws
pub mod Reading
