pub mod Numbers
pub mod Threads
