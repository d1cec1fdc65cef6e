mod Collecting
mod Storing
mod Images
mod Joined
mod Ending
