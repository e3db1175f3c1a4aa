-- The lemmas, and the laws of a listing: Demand3 is demand 3; Laws, AnyTwoOrders and Answers are for crates above. Assumes nothing.
pub mod Lists
pub mod Sorting
pub mod Keys
pub mod Dealt
pub mod Tallies
pub mod Passes
pub mod Pairs
pub mod RecordsAt
pub mod Answers
pub mod Laws
pub mod AnyTwoOrders
pub mod Demand3
pub mod Examples
pub mod SavedOrders
pub mod BoundedOrders
