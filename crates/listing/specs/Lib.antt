-- The definitions: a sort, the listing, what is said of one, and what the contracts of private functions cite. Assumes nothing.
pub mod Sort
pub mod Listing
pub mod Sorted
pub mod Positions
pub mod Dealt
pub mod Demand3
pub mod SavedOrders
pub mod BoundedOrders
