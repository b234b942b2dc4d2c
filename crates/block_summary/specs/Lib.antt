pub mod Asks
pub mod DraftKnowledge
pub mod LineEnds
pub mod LineSummaries
pub mod NamedNeedles
pub mod NeedleChains
pub mod Prepared
pub mod Verdicts
