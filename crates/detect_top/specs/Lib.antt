pub mod ImageAnswers
pub mod WordAnswers
pub mod Made
