mod TableWalks
mod LoadReports
