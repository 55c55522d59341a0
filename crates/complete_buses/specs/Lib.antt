pub mod EvenBuses
