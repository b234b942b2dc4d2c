pub mod GroupsText
pub mod TalkJson
pub mod TalkText
pub mod TallyJson
pub mod TallyText
