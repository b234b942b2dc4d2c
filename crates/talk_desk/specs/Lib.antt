pub mod Conversation
pub mod Desks
pub mod Hosts
pub mod LawfulOrders
pub mod LegalConversations
pub mod Styles
