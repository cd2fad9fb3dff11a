pub mod Ends
pub mod Replies
pub mod Openings
pub mod Carrying
pub mod AnswerLists
