mod ImageReads
mod Jobs
mod AnswerStatus
