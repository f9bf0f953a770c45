pub mod Recently
