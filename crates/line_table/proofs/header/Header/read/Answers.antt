use Rattle.std.proofs.Common.{rules, sym, ◌∙◌}
use Rattle.line_table.proofs.Fields.{fields_read_is, as_read}
use Rattle.line_table.specs.Views.{seen}
use Rattle.line_table.proofs.header.Header.read.Goals as goal

pub returns-in_err-version : goal.returns-in_err-version
returns-in_err-version c = as_read (λ x. (seen x.0, x.1)) _ c.args.class c.args.order c.args.body.now (search rules)

pub returns-then-not-matches : goal.returns-then-not-matches
returns-then-not-matches c = sym (fields_read_is c.args.class c.args.order c.args.body.now) ∙ search rules

pub returns-in_err-header_length : goal.returns-in_err-header_length
returns-in_err-header_length c = as_read (λ x. (seen x.0, x.1)) _ c.args.class c.args.order c.args.body.now (search rules)

pub returns-in_err-minimum_instruction_length : goal.returns-in_err-minimum_instruction_length
returns-in_err-minimum_instruction_length c = as_read (λ x. (seen x.0, x.1)) _ c.args.class c.args.order c.args.body.now (search rules)

pub returns-in_err-maximum_operations : goal.returns-in_err-maximum_operations
returns-in_err-maximum_operations c = as_read (λ x. (seen x.0, x.1)) _ c.args.class c.args.order c.args.body.now (search rules)

pub returns-in_err-default_is_stmt : goal.returns-in_err-default_is_stmt
returns-in_err-default_is_stmt c = as_read (λ x. (seen x.0, x.1)) _ c.args.class c.args.order c.args.body.now (search rules)

pub returns-in_err-read_u8 : goal.returns-in_err-read_u8
returns-in_err-read_u8 c = as_read (λ x. (seen x.0, x.1)) _ c.args.class c.args.order c.args.body.now (search rules)

pub returns-in_err-line_range : goal.returns-in_err-line_range
returns-in_err-line_range c = as_read (λ x. (seen x.0, x.1)) _ c.args.class c.args.order c.args.body.now (search rules)

pub returns-in_err-opcode_base : goal.returns-in_err-opcode_base
returns-in_err-opcode_base c = as_read (λ x. (seen x.0, x.1)) _ c.args.class c.args.order c.args.body.now (search rules)

pub returns-in_err-operand_counts : goal.returns-in_err-operand_counts
returns-in_err-operand_counts c = as_read (λ x. (seen x.0, x.1)) _ c.args.class c.args.order c.args.body.now (search rules)

pub returns-then-maximum_operations-ne1 : goal.returns-then-maximum_operations-ne1
returns-then-maximum_operations-ne1 c = sym (fields_read_is c.args.class c.args.order c.args.body.now) ∙ search rules

pub returns : goal.returns
returns c = sym (fields_read_is c.args.class c.args.order c.args.body.now) ∙ search rules
