pub mod PoolWorkers
