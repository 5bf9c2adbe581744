pub mod Timetable
pub mod Asking
