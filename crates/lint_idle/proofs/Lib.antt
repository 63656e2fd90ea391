pub mod IdleLaws
