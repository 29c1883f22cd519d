-- What the contracts of the outside cite: faults, shelves, sinks of meshes, sinks of bytes.
pub mod Fault
pub mod Told
pub mod Shelf
pub mod MeshSink
pub mod Sink
pub mod RealFile
pub mod CalmShelf
pub mod MemSink
pub mod MemMeshes
pub mod MeshRoom
pub mod MeshName
