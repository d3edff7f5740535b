mod Ports
mod Refusals
