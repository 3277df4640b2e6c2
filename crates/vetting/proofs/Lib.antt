pub mod VerdictLaws
pub mod RuleLaws
pub mod Theorems
