-- How a call of an exported reading comes out: turned away, or as the rules say.
-- Assumes nothing.
use mathlib.Core.Path.{◌≡◌, refl, sym, ap, ◌∙◌, subst}
use mathlib.Core.Bool.{Bool, true, false, not}
use mathlib.Core.List.{List}
use Prim.Native.Nat.{ℕ, ◌≤◌, ◌<◌}
use native.Mathlib.Omega.{arith}
use lib.Dec.{ltb}
use lib.ListN.{length}
use borrow.Author.Tests.{ltb-true, ltb-false, le-ltb}
use Rattle.lex.specs.Answer.{max_bytes}
use Rattle.lex.specs.Cells.{padded}
use Rattle.lex.specs.declared.diagnostic.Diagnostic.{Diagnostic}
use Rattle.tokens.specs.Tables as T
use Rattle.tokens.specs.Tables.{token_table, error_table, is_cut}
use Rattle.tokens.proofs.Whole.{tabled_is_cut}
use Rattle.rules.specs.Tree.{Tree}
use Rattle.rules.specs.Parse.{Reading, read, ended}
use Rattle.rules.specs.Promise.{Arrays, Outcome, too_short, outcome, promised}
use Rattle.rules.specs.Parsed as P
use Rattle.compare.proofs.Held.{or-false}
use Rattle.parser.specs.Steps.{turned_away, any_too_short, read_promised, WholeOutcome, parse_promised}
use Rattle.c_api.specs.Numbers.{reading_of}

-- cutting and reading (`purple_garden_parse`, `purple_garden_parse_collect`), or reading from tables
-- that are lent (`purple_garden_read`, `purple_garden_read_collect`)
pub data Steps : Type 0 where
  both : Steps
  second : Steps

-- the answer that is due, and the arrays
abbrev pub due : Steps → (List ℕ → Reading) → List ℕ → List ℕ → List ℕ → Arrays → Outcome
due both how script tokens errors l = reading_of (parse_promised how script tokens errors l)
due second how script tokens errors l = read_promised how script tokens errors l

-- tables are lent that are not the script's
abbrev pub uncut : Steps → List ℕ → List ℕ → List ℕ → Bool
uncut both script tokens errors = false
uncut second script tokens errors = not (is_cut script tokens errors)

module _ (steps : Steps) (how : List ℕ → Reading) (script tokens errors : List ℕ) (l : Arrays) where
  pub data Comes : Outcome → Type 0 where
    out_long : max_bytes < length script → Comes (turned_away 1 l)
    out_short : length script ≤ max_bytes → any_too_short script tokens errors l ≡ true → Comes (turned_away 2 l)
    out_uncut : length script ≤ max_bytes → any_too_short script tokens errors l ≡ false → uncut steps script tokens errors ≡ true → Comes (turned_away 43 l)
    out_tree : length script ≤ max_bytes → any_too_short script tokens errors l ≡ false → uncut steps script tokens errors ≡ false → (t : Tree) (es : List Diagnostic) → how script ≡ read t es → Comes (outcome (read t es) l)
    out_error : length script ≤ max_bytes → any_too_short script tokens errors l ≡ false → uncut steps script tokens errors ≡ false → (e : Diagnostic) → how script ≡ ended e → Comes (outcome (ended e) l)

-- both steps leave the tables untouched where the call is turned away, else as cutting leaves them,
-- so that they may be read from
pub record TablesLeft (script tokens errors : List ℕ) (l : Arrays) (tokens' errors' : List ℕ) : Type 0 where
  pub over_limit : max_bytes < length script → (tokens' ≡ tokens) × (errors' ≡ errors)
  pub short : any_too_short script tokens errors l ≡ true → (tokens' ≡ tokens) × (errors' ≡ errors)
  pub otherwise : length script ≤ max_bytes → any_too_short script tokens errors l ≡ false → (tokens' ≡ padded (length tokens) (token_table script)) × (errors' ≡ padded (length errors) (error_table script))
  pub cut_left : length script ≤ max_bytes → any_too_short script tokens errors l ≡ false → is_cut script tokens' errors' ≡ true

module _ (how : List ℕ → Reading) (script tokens errors : List ℕ) (l : Arrays) where
  enough : any_too_short script tokens errors l ≡ false → (too_short script l ≡ false) × (T.too_short script tokens errors ≡ false)
  unfolding any_too_short
  enough k = or-false (too_short script l) (T.too_short script tokens errors) k

  abbrev whole : Bool → Bool → Reading → WholeOutcome
  whole long short r =
      elim long as (λ b. WholeOutcome) [
        | true ↦ record { answer = P.Refused 1; arrays = l; tokens = tokens; errors = errors }
        | false ↦ elim short as (λ b. WholeOutcome) [
          | true ↦ record { answer = P.Refused 2; arrays = l; tokens = tokens; errors = errors }
          | false ↦ record { answer = (outcome r l).answer; arrays = (outcome r l).arrays; tokens = padded (length tokens) (token_table script); errors = padded (length errors) (error_table script) }
        ]
      ]

  pub tables_left : TablesLeft script tokens errors l (parse_promised how script tokens errors l).tokens (parse_promised how script tokens errors l).errors
  unfolding parse_promised
  tables_left = go (ltb max_bytes (length script)) (any_too_short script tokens errors l) refl refl
    where
      go : (b d : Bool) → ltb max_bytes (length script) ≡ b → any_too_short script tokens errors l ≡ d → TablesLeft script tokens errors l (whole b d (how script)).tokens (whole b d (how script)).errors
      go true d h k = record { over_limit = λ x. (refl, refl); short = λ x. (refl, refl); otherwise = λ x y. absurd (omega (arith, ltb-true max_bytes (length script) h)); cut_left = λ x y. absurd (omega (arith, ltb-true max_bytes (length script) h)) }
      go false true h k = record {
        over_limit = λ x. (refl, refl);
        short = λ x. (refl, refl);
        otherwise = λ x y. absurd (let z : ◌≡◌ {A = ℕ} 0 1 = cc in omega arith);
        cut_left = λ x y. absurd (let z : ◌≡◌ {A = ℕ} 0 1 = cc in omega arith);
      }
      go false false h k = record {
        over_limit = λ x. absurd (omega (arith, ltb-false max_bytes (length script) h));
        short = λ x. absurd (let z : ◌≡◌ {A = ℕ} 0 1 = cc in omega arith);
        otherwise = λ x y. (refl, refl);
        cut_left = λ x y. tabled_is_cut script tokens errors h (enough k).1;
      }

  comes_both : Comes both how script tokens errors l (reading_of (parse_promised how script tokens errors l))
  unfolding parse_promised outcome
  comes_both = go (ltb max_bytes (length script)) (any_too_short script tokens errors l) (how script) refl refl refl
    where
      go : (b d : Bool) (r : Reading) → ltb max_bytes (length script) ≡ b → any_too_short script tokens errors l ≡ d → how script ≡ r → Comes both how script tokens errors l (reading_of (whole b d r))
      go true d r h k p = out_long (ltb-true _ _ h)
      go false true r h k p = out_short (ltb-false _ _ h) k
      go false false (read t es) h k p = out_tree (ltb-false _ _ h) k refl t es p
      go false false (ended e) h k p = out_error (ltb-false _ _ h) k refl e p

  comes_second : Comes second how script tokens errors l (read_promised how script tokens errors l)
  unfolding read_promised
  comes_second = go (ltb max_bytes (length script)) (any_too_short script tokens errors l) (is_cut script tokens errors) (how script) refl refl refl refl
    where
      go : (b d c : Bool) (r : Reading) → ltb max_bytes (length script) ≡ b → any_too_short script tokens errors l ≡ d → is_cut script tokens errors ≡ c → how script ≡ r
          → Comes second how script tokens errors l (elim b as (λ b'. Outcome) [
            | true ↦ turned_away 1 l
            | false ↦ elim d as (λ d'. Outcome) [ true ↦ turned_away 2 l | false ↦ elim c as (λ c'. Outcome) [ true ↦ outcome r l | false ↦ turned_away 43 l ] ]
          ])
      go true d c r h k u p = out_long (ltb-true _ _ h)
      go false true c r h k u p = out_short (ltb-false _ _ h) k
      go false false false r h k u p = out_uncut (ltb-false _ _ h) k (ap not u)
      go false false true (read t es) h k u p = out_tree (ltb-false _ _ h) k (ap not u) t es p
      go false false true (ended e) h k u p = out_error (ltb-false _ _ h) k (ap not u) e p

  pub comes : (steps : Steps) → Comes steps how script tokens errors l (due steps how script tokens errors l)
  comes both = comes_both
  comes second = comes_second

  -- a call that is not turned away comes out as one that is lent no tables
  as_promised : length script ≤ max_bytes → any_too_short script tokens errors l ≡ false → promised how script l ≡ outcome (how script) l
  unfolding promised
  as_promised h k =
      let long = le-ltb max_bytes (length script) h in
      let short = (enough k).0 in
      λ i. elim (long i) as (λ b. Outcome) [ true ↦ turned_away 1 l | false ↦ elim (short i) as (λ b. Outcome) [ true ↦ turned_away 2 l | false ↦ outcome (how script) l ] ]

  -- so what holds of the refusals and of `promised` holds of every call
  pub of_all : (steps : Steps) (Q : Outcome → Type 0) → Q (turned_away 1 l) → Q (turned_away 2 l) → (uncut steps script tokens errors ≡ true → Q (turned_away 43 l)) → Q (promised how script l) → Q (due steps how script tokens errors l)
  of_all steps Q long short other rest = go (due steps how script tokens errors l) (comes steps)
    where
      go : (o : Outcome) → Comes steps how script tokens errors l o → Q o
      go o (out_long h) = long
      go o (out_short h k) = short
      go o (out_uncut h k u) = other u
      go o (out_tree h k u t es p) = subst Q (as_promised h k ∙ ap (λ (r : Reading). outcome r l) p) rest
      go o (out_error h k u e p) = subst Q (as_promised h k ∙ ap (λ (r : Reading). outcome r l) p) rest

  -- where nothing refuses it
  pub same_as_promised : (steps : Steps) → length script ≤ max_bytes → any_too_short script tokens errors l ≡ false → uncut steps script tokens errors ≡ false → due steps how script tokens errors l ≡ promised how script l
  same_as_promised steps small enough cut = go (due steps how script tokens errors l) (comes steps)
    where
      go : (o : Outcome) → Comes steps how script tokens errors l o → o ≡ promised how script l
      go o (out_long h) = absurd (omega arith)
      go o (out_short h k) = absurd (let z : ◌≡◌ {A = ℕ} 0 1 = cc in omega arith)
      go o (out_uncut h k u) = absurd (let z : ◌≡◌ {A = ℕ} 0 1 = cc in omega arith)
      go o (out_tree h k u t es p) = sym (as_promised h k ∙ ap (λ (r : Reading). outcome r l) p)
      go o (out_error h k u e p) = sym (as_promised h k ∙ ap (λ (r : Reading). outcome r l) p)
