pub mod AmountLaws
