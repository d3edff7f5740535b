mod Calls
mod Verdicts
mod Owing
mod Counting
mod Lines
mod Called
mod Outcomes
