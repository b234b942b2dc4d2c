pub mod BedChanges
pub mod CarriageRuns
pub mod DeclaredCarriers
pub mod FactLists
pub mod LastNeedles
pub mod LawfulLines
pub mod LoopCounts
pub mod LoopOfLine
pub mod LoopsMade
pub mod MachineSteps
pub mod Places
pub mod StackLists
mod UnseenLasts
