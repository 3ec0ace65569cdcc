-- Laws of the network file. What is claimed stands in RoundTrips and FirstBonds; the others lead there.
pub mod Signs
pub mod HeadFaults
pub mod BondFaults
pub mod WrittenBonds
pub mod Valid
pub mod Decoded
pub mod Readings
pub mod Writings
pub mod Accepted
pub mod RoundTrips
pub mod FirstBonds
pub mod Longer
