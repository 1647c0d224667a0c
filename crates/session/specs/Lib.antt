pub mod Clashes
pub mod Printed
pub mod Reports
pub mod Texts
pub mod Worlds
pub mod inner
