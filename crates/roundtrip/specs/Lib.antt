pub mod Mixed
