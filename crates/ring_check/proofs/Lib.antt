pub mod Lists
pub mod Followings
pub mod Accepting
pub mod Sticking
pub mod Theorems
pub mod Examples
