pub mod Best
pub mod Faults
pub mod Inserting
pub mod Items
pub mod Libraries
pub mod Reading
pub mod inner
