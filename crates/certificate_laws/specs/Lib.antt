pub mod Certificate
pub mod Cut
pub mod FitCertificate
pub mod Keeping
pub mod Making
