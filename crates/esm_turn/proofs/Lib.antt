mod PartLemmas
mod Steps
mod Closing
