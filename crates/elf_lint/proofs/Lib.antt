mod RuleLemmas
mod SurveyLemmas
mod OpenedLemmas
mod NoFindings
mod ReachLaws
