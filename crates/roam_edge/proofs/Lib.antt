pub mod SinkLemmas
pub mod MeshRoomLemmas
