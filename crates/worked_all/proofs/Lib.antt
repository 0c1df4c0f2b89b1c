mod Once
mod Seek
mod Surveying
