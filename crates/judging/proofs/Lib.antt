mod Booking
mod Deciding
mod Saying
