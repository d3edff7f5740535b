mod Fronts
mod GoodReplays
mod Answered
mod SameLengths
mod Lives
