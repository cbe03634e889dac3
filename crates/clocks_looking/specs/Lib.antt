pub mod ClockSets
