-- When a token has no span: the script is too long, or the token is malformed.
use mathlib.Core.Path.{◌≡◌}
use mathlib.Core.Bool.{true, false}
use mathlib.Core.List.{List}
use Prim.Native.Nat.{ℕ, ◌<◌, ◌≤◌}
use lib.ListN.{length}
use borrow.Author.Tests.{lt-ltb, le-ltb}
use Rattle.lex.specs.Answer.{max_bytes, refused, answer}
use Rattle.lex.specs.Spelling.{well_formed}
use Rattle.lex.specs.declared.tok.Token.{Token}
use Rattle.positions.specs.Span.{span_of, token_span}

module _ (s : List ℕ) (t : Token) where
  pub span_refused : max_bytes < length s → refused 1 ≡ token_span s t
  unfolding token_span
  span_refused h = rw (lt-ltb max_bytes (length s) h)

  pub span_malformed : length s ≤ max_bytes → well_formed s t ≡ false → refused 4 ≡ token_span s t
  unfolding token_span
  span_malformed h e = rw (le-ltb max_bytes (length s) h, e)

  pub span_given : length s ≤ max_bytes → well_formed s t ≡ true → answer (span_of t) ≡ token_span s t
  unfolding token_span
  span_given h e = rw (le-ltb max_bytes (length s) h, e)
