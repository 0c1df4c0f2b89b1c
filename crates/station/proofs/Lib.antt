mod Lines
mod Places
mod Replies
mod Telling
