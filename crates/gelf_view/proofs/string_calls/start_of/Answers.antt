use Rattle.std.proofs.Common.{sym}
use Rattle.std.proofs.lemmas.Result.{err_from_is_err_and, IfOk-weaker, IfErr-weaker}
use Rattle.elf_descriptor.proofs.elf_object.AnswerLaws.{answered_value, answered_refusal}
use Rattle.gelf_view.proofs.StringLemmas.{unread_strings, unread_home, unread_string, strings_hold, begins_is}
use Rattle.gelf_view.proofs.string_calls.start_of.Goals as goal

pub returns-in_err-count-clause-refused : goal.returns-in_err-count-clause-refused
returns-in_err-count-clause-refused g c =
    let p = err_from_is_err_and c.from_residual.result c.from_residual.ensures.1 in
    rw (p.1, p.2) (unread_strings c.args.elf.now.o c.args.s.0 c.args.offset c.in_err-count.field-0.0 (answered_refusal _ _ c.in_err-count.field-0.0 (sym c.in_err-count.ensures.answer)))

pub returns-in_err-home_len-clause-refused : goal.returns-in_err-home_len-clause-refused
returns-in_err-home_len-clause-refused g c =
    let p = err_from_is_err_and c.from_residual-in_err-home_len.result c.from_residual-in_err-home_len.ensures.1 in
    rw (p.1, p.2)
    (unread_home c.args.elf.now.o c.args.s.0 c.args.offset c.in_err-home_len.field-0.0 (answered_value _ _ c.in_ok-count.count (sym c.in_ok-count.ensures.answer)).0
    (answered_refusal _ _ c.in_err-home_len.field-0.0 (sym c.in_err-home_len.ensures.answer)))

pub find_start-requires-clause-bytes : goal.find_start-requires-clause-bytes
find_start-requires-clause-bytes g c = (strings_hold c.args.elf.now.o c.args.s.0 (answered_value _ _ c.in_ok-count.count (sym c.in_ok-count.ensures.answer)).0).1

pub returns-clause-begins : goal.returns-clause-begins
returns-clause-begins g c =
    let strings = (answered_value _ _ c.in_ok-count.count (sym c.in_ok-count.ensures.answer)).0 in
    let home = (answered_value _ _ c.in_ok-home_len.home_len (sym c.in_ok-home_len.ensures.answer)).0 in
    IfOk-weaker c.find_start.result _ _ (λ x over. begins_is c.args.elf.now.o c.args.s.0 c.args.offset x.piece x.start strings home c.in_ok-home_len.ensures.others over) c.find_start.ensures.ok

pub returns-clause-refused : goal.returns-clause-refused
returns-clause-refused g c =
    let strings = (answered_value _ _ c.in_ok-count.count (sym c.in_ok-count.ensures.answer)).0 in
    let home = (answered_value _ _ c.in_ok-home_len.home_len (sym c.in_ok-home_len.ensures.answer)).0 in
    IfErr-weaker c.find_start.result _ _ (λ e refused. unread_string c.args.elf.now.o c.args.s.0 c.args.offset e strings home refused) c.find_start.ensures.err
