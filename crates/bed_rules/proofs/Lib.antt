pub mod SizeRules
pub mod Stacks
