pub mod ModelLaws
pub mod GateLaws
pub mod NumberLaws
pub mod GateSteps
pub mod ListLaws
pub mod BoundLaws
