mod Documents
mod Ends
mod Talks
