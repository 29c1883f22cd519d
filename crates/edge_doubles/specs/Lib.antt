-- What the contracts of the doubles cite: a shelf in memory, and a sink of meshes that counts.
pub mod MemShelf
pub mod StoredFile
pub mod CountMeshes
