pub mod TestLaws
pub mod StoreLaws
pub mod RefusalLaws
pub mod JoinLaws
pub mod FieldLaws
pub mod WordLaws
