-- The span of a token.
use Rattle.std.specs.Prelude.{List, ℕ, ◌+◌, ltb, eqb, length}
use Rattle.lex.specs.Answer.{max_bytes, Answer, refused, answer}
use Rattle.lex.specs.Refusals.{r_too_long, r_malformed}
use Rattle.lex.specs.Bytes.{if}
use Rattle.lex.specs.Kind.{k_s}
use Rattle.lex.specs.Spelling.{well_formed, as_str_length}
use Rattle.lex.specs.declared.tok.Token.{Token}
use Rattle.positions.specs.declared.Span.{Span}

-- as `Span::from_token`: a string starts one byte later; the length is that of `as_str`
unfoldable pub span_of : Token → Span
span_of t =
    record {
      start = if (eqb t.kind k_s) (t.start + 1) t.start;
      len = as_str_length t;
    }

unfoldable pub token_span : List ℕ → Token → Answer Span
token_span script t =
    if (ltb max_bytes (length script)) (refused r_too_long)
    (if (well_formed script t) (answer (span_of t)) (refused r_malformed))
