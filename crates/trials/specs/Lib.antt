pub mod Worn
