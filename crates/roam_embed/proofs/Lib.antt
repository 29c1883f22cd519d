pub mod AskedLemmas
pub mod BorderLemmas
pub mod CertificateLemmas
pub mod DrawnLemmas
pub mod MosaicLemmas
pub mod RoomLemmas
pub mod SizeLemmas
pub mod PlacedLemmas
