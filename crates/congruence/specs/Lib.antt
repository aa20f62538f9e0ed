pub mod Divisors
pub mod Clocks
pub mod Refusals
pub mod FirstTicks
pub mod Merging
