-- `sheet::write_entry` meets its contract.
use Rattle.sheet.proofs.Told.{enters_nowhere, enters, reaches}
use Rattle.sheet.proofs.write_entry.Goals as goal

pub returns-in-Err-clause-writes : goal.returns-in-Err-clause-writes
returns-in-Err-clause-writes c = enters_nowhere c.args.script.now c.args.e c.args.known c.requires _ c.advance.ensures c.in-Err.is

pub returns-in-Ok-clause-writes : goal.returns-in-Ok-clause-writes
returns-in-Ok-clause-writes c = enters c.args.script.now c.args.e c.args.known c.requires _ c.advance.ensures c.in-Ok.is c.write_lines.ensures

pub returns-in-Ok-clause-reached : goal.returns-in-Ok-clause-reached
returns-in-Ok-clause-reached c = reaches c.args.script.now c.args.e c.args.known c.requires _ c.advance.ensures c.in-Ok.is
