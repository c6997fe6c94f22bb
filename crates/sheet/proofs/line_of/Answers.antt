-- `line_of`: the kind is the whole line, or the one byte before the first tab.
use Rattle.std.proofs.Common.{◌∙◌, sym, arith}
use Rattle.text.proofs.PartsLaws.{rest_all}
use Rattle.sheet.specs.Rules.{sheet_rules}
use Rattle.sheet.proofs.FormLaws.{line_empty, line_long, line_bare, line_fields}
use Rattle.sheet.proofs.line_of.Goals as goal

pub returns-in-len1 : goal.returns-in-len1
returns-in-len1 c = c.bare_line.ensures ∙ sym (line_bare sheet_rules c.args.bytes.now (omega arith))

pub returns-in-9 : goal.returns-in-9
returns-in-9 c =
    rw rest_all at c.fielded_line.ensures ∙ sym (line_fields sheet_rules c.args.bytes.now c.in-9.len_at_least (omega arith))

pub returns-in_default : goal.returns-in_default
returns-in_default c = sym (line_empty sheet_rules c.args.bytes.now (omega arith))

pub returns-in_default-2 : goal.returns-in_default-2
returns-in_default-2 c = sym (line_long sheet_rules c.args.bytes.now (omega arith) (λ e. omega arith))
