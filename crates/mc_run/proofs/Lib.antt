pub mod AnsweredLemmas
pub mod MeetLemmas
pub mod PlanLemmas
pub mod RunLemmas
pub mod Sent
pub mod ServedLemmas
