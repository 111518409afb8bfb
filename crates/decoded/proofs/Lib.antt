-- What an accepted file gives to the theorems over the route.
pub mod Scores
pub mod AcceptedLists
pub mod Files
pub mod Reported
