pub mod Nested
pub mod Printed
pub mod Unplaced
pub mod Peaks
pub mod SpellsPrinted
pub mod PrintsBack
