-- What holds of checks in turn, of constants, of the table of fan-outs, of operations, of sites and of graphs as bytes. Assumes nothing.
pub mod Turns
pub mod Constants
pub mod FanOuts
pub mod Operations
pub mod Sites
pub mod Graphs
