pub mod MadeFileTexts
pub mod MadeFiles
pub mod MadeLines
pub mod PlainLines
