pub mod Drawn
pub mod Cases
pub mod Ends
pub mod Fewest
