-- `compare::same_shape` meets its contract.
use Rattle.std.proofs.lemmas.Result.{err_from_is_err_and}
use Rattle.lex.specs.declared.diagnostic.Refusal.TheVariants.{TooLong}
use Rattle.compare.proofs.Agree.{decided}
use Rattle.compare.proofs.Compare.{too_long, first-refused, second-refused, refused_with, left-malformed, right-malformed, shapes_answer}
use Rattle.compare.proofs.same_shape.Goals as goal

pub returns-then-b-gt-MAX_BYTES : goal.returns-then-b-gt-MAX_BYTES
returns-then-b-gt-MAX_BYTES c = refused_with _ _ TooLong (too_long _ _ c.if-b-gt-MAX_BYTES.true)

pub returns-in_err-refusal : goal.returns-in_err-refusal
returns-in_err-refusal c =
    let p = err_from_is_err_and c.from_residual.result c.from_residual.ensures.1 in
    rw (p.1, p.2) (refused_with _ _ _ (first-refused _ _ c.if-b-gt-MAX_BYTES.false _ c.in_err-refusal.ensures))

pub returns-in_err-refusal-2 : goal.returns-in_err-refusal-2
returns-in_err-refusal-2 c =
    let p = err_from_is_err_and c.from_residual-in_err-refusal-2.result c.from_residual-in_err-refusal-2.ensures.1 in
    rw (p.1, p.2) (refused_with _ _ _ (second-refused _ _ c.if-b-gt-MAX_BYTES.false c.in_ok-refusal.ensures c.in_err-refusal-2.ensures))

pub returns-then-not-agree_roots : goal.returns-then-not-agree_roots
returns-then-not-agree_roots c = left-malformed _ _ (second-refused _ _ c.if-b-gt-MAX_BYTES.false c.in_ok-refusal.ensures c.in_ok-refusal-2.ensures) (decided c.if-not-agree_roots.true c.agree_roots.ensures)

pub returns-then-not-agree_roots-2 : goal.returns-then-not-agree_roots-2
returns-then-not-agree_roots-2 c = right-malformed _ _ (second-refused _ _ c.if-b-gt-MAX_BYTES.false c.in_ok-refusal.ensures c.in_ok-refusal-2.ensures) (decided c.if-not-agree_roots-2.true c.agree_roots-2.ensures)

pub returns : goal.returns
returns c = shapes_answer _ _ (second-refused _ _ c.if-b-gt-MAX_BYTES.false c.in_ok-refusal.ensures c.in_ok-refusal-2.ensures) (c.agree_roots.ensures.holds c.if-not-agree_roots.false) (c.agree_roots-2.ensures.holds c.if-not-agree_roots-2.false) _ c.agree_roots-3.ensures
