mod Below
mod QueueBelow
mod RedriveBelow
mod ReplayBelow
mod Replies
mod Results
mod Fronts
