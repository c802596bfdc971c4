mod HomeSteps
mod StatedSteps
mod ReadLemmas
mod RunLemmas
mod ScriptLemmas
mod FileLemmas
