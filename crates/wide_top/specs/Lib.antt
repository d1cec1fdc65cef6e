pub mod WideRuns
