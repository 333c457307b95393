pub mod Contacts
pub mod Probes
