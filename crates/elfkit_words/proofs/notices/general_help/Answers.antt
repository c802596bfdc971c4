use Rattle.std.proofs.Common.{refl}
use Rattle.elfkit_words.specs.Notices.{general_help, next_usage, other_commands, told_line, commands_told}
use Rattle.elfkit_words.specs.Usages.{usage_line}
use Rattle.elfkit_words.proofs.notices.general_help.Goals as goal

pub returns : goal.returns
unfolding general_help next_usage other_commands told_line commands_told usage_line
returns c = refl
