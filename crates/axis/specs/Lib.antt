pub mod Limits
pub mod Range
pub mod Fraction
pub mod Triple
pub mod Nearest
pub mod Gap
