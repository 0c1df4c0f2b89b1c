mod Doing
mod Sending
