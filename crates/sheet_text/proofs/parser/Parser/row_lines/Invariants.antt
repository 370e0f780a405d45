use Rattle.std.proofs.Common.{◌-◌, length}
use Rattle.sheet_text.specs.Lines.{RowsRead}
use Rattle.sheet_text.specs.Sheets.{row_bytes}
use Rattle.sheet_text.proofs.parser.Parser.row_lines.Given as goal

abbrev pub invariant-loop-part : goal.invariant-loop-part
invariant-loop-part l = RowsRead l.channels.value l.initial.self.lexer (row_bytes l.rows) l.self.lexer

abbrev pub decreases-loop-part : goal.decreases-loop-part
decreases-loop-part l = length l.self.lexer.text.now - l.self.lexer.at
