pub mod Carriers
pub mod JsonText
pub mod LiveText
pub mod MadeText
pub mod PassesText
pub mod Refusals
pub mod VerdictJson
pub mod VerdictText
