pub mod DyadicLaws
pub mod MonadicLaws
pub mod TextLaws
pub mod SetApartLaws
pub mod FormBit
pub mod EveryParcel
