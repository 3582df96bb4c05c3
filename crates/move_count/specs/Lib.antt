pub mod Crowding
