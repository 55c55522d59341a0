pub mod RoundStates
