pub mod Reductions
