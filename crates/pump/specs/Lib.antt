pub mod Border
pub mod Steps
pub mod Histories
pub mod Demand
pub mod ByLines
pub mod OwnNumbers
pub mod ByMarks
