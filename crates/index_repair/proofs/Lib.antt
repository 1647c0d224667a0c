pub mod KeyedLaws
pub mod Parts
pub mod RepairLaws
mod RisingKeys
pub mod Rows
pub mod SoFar
pub mod CallerLemmas
