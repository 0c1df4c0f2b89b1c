pub mod Findings
pub mod Judged
pub mod Ready
pub mod Sweep
pub mod Unready
