-- The engine's promise by name, which the crates above it stand on: 01, "The shape of some places": "record and tag crate, engine above it, listing and later profile crate above
-- the engine's promise". `run` promises `BoundedOn`, `run_logged` `BoundLoggedOn`; without a bound they are
-- `RanOn` and `LoggedOn`, which most claims speak of. All are defined beside the rules. Assumes nothing.
pub use Rattle.rules.specs.Runs.{LentToRun, LeftByRun, lent_to_run, left_by_run, RanOn}
pub use Rattle.rules.specs.Runs.{LentToLogged, LeftByLogged, lent_to_logged, left_by_logged, LoggedOn}
pub use Rattle.rules.specs.Bounded.{BoundedOn, BoundLoggedOn}
