pub mod Boards
pub mod Tables
pub mod Memory
