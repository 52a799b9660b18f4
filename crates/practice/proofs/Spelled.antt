-- The tokens of expressions and of sheets, as relations between what is left before and behind
-- them.
use Rattle.std.proofs.Common.{◌≡◌, ℕ, suc, ◌<◌, ◌≤◌, max, false, List, [], ◌∷◌, length, arith}
use Rattle.lex.specs.Kind.{k_eof, k_brace_left, k_brace_right, k_plus, k_minus, k_equal, k_i, k_ident, k_let}
use Rattle.lex.specs.Lex.{is_prefix_sign}
use Rattle.lex.specs.declared.tok.Token.{Token}
use Rattle.practice.specs.Practice.{Expr, number, name, sum, negated}

module _ (script : List ℕ) where
  -- the first list begins with an expression's tokens, and the second is what follows them
  pub data Spelled : Expr → List Token → List Token → Type 0 where
    numeral : {n : ℕ} {t : Token} {l : List Token} → t.kind ≡ k_i → Spelled (number n) (t ∷ l) l
    ident : {n : ℕ} {t : Token} {l : List Token} → t.kind ≡ k_ident → Spelled (name n) (t ∷ l) l
    -- the sign between has a blank behind it, so it is infix
    bracketed : {a b : Expr} {opening plus closing : Token} {k l m : List Token}
        → opening.kind ≡ k_brace_left → Spelled a k (plus ∷ l)
        → plus.kind ≡ k_plus → is_prefix_sign script plus.start ≡ false → Spelled b l (closing ∷ m)
        → closing.kind ≡ k_brace_right → Spelled (sum a b) (opening ∷ k) m
    signed : {a : Expr} {minus : Token} {k l : List Token} → minus.kind ≡ k_minus → Spelled a k l
        → Spelled (negated a) (minus ∷ k) l

  -- a whole list of tokens is that of a sheet with these expressions
  pub data Lines : List Expr → List Token → Type 0 where
    end : {t : Token} → t.kind ≡ k_eof → Lines [] (t ∷ [])
    line : {e : Expr} {es : List Expr} {let' name' equal : Token} {k l : List Token}
        → let'.kind ≡ k_let → name'.kind ≡ k_ident → equal.kind ≡ k_equal → Spelled e k l → Lines es l
        → Lines (e ∷ es) (let' ∷ name' ∷ equal ∷ k)

  -- an expression has a token
  pub shorter : {e : Expr} {k l : List Token} → Spelled e k l → length l < length k
  shorter (numeral h) = omega arith
  shorter (ident h) = omega arith
  shorter (bracketed o a p s b c) = omega (arith, shorter a, shorter b)
  shorter (signed t a) = omega (arith, shorter a)

  pub lines_fewer : {es : List Expr} {l : List Token} → Lines es l → length es < length l
  lines_fewer (end h) = omega arith
  lines_fewer (line a b c e ls) = omega (arith, shorter e, lines_fewer ls)

-- how many levels the readers need below an operand
abbrev pub depth : Expr → ℕ
depth (number n) = 0
depth (name n) = 0
depth (sum a b) = suc (suc (max (depth a) (depth b)))
depth (negated a) = suc (depth a)

-- `n` levels are enough for each
abbrev pub Shallow : ℕ → List Expr → Type 0
Shallow n [] = Unit {0}
Shallow n (e ∷ es) = (depth e ≤ n) × Shallow n es
