pub mod Trace
pub mod Following
pub mod Within
pub mod Worked
pub mod InOrder
pub mod Onward
pub mod Laws
