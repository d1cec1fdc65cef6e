pub mod AllBytes
pub mod JoinNotes
pub mod Joinings
pub mod JoinHeadline
pub mod Making
