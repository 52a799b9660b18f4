-- Each round reads a root or gathers an error.
use Rattle.std.proofs.Common.{◌≡◌, length}
use Rattle.parser_state.specs.Represents.{code_of, loan}
use Rattle.parser.specs.Collect.{collected}
use Rattle.parser.proofs.Collect.{Progress, to_go}
use Rattle.parser.proofs.parse_roots_collect.Given as goal

abbrev pub invariant-loop-p : goal.invariant-loop-p
invariant-loop-p l =
    (length l.roots ≡ length l.fn.roots)
    × (length l.diagnostics ≡ length l.fn.diagnostics)
    × (loan (code_of l.p) ≡ loan (code_of l.fn.p))
    × Progress l.source.script.now l.source.tokens.now l.errors l.roots l.diagnostics (collected (code_of l.p) l.c)

abbrev pub decreases-loop-p : goal.decreases-loop-p
decreases-loop-p l = to_go l.source.script.now l.source.tokens.now l.errors (collected (code_of l.p) l.c)
