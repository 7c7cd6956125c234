pub mod LoopPaths
