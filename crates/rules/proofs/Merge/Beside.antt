-- Two states side by side: the second has what is made of the first's tokens so far behind another
-- arena, and more tokens behind them, the first of which begins an item.
use mathlib.Core.Path.{◌≡◌, refl, sym, ap, ap₂, ◌∙◌, subst}
use mathlib.Core.Bool.{Bool, true, false}
use mathlib.Core.List.{List, [], ◌∷◌, ◌++◌, map, flatten, map-append, Memᴰ}
use Prim.Native.Nat.{ℕ, zero, suc, ◌+◌, ◌≤◌, ◌<◌}
use lib.Dec.{eqb, eqb→eq}
use lib.ListN.{length, length-append, length-map, get_or, replicate}
use native.Mathlib.Nat.{zero-add}
use native.Mathlib.Omega.{arith}
use borrow.Author.Tests.{eq-eqb}
use Rattle.lex.specs.Kind.{k_eof, k_ident, k_doc}
use Rattle.lex.specs.declared.tok.Token.{Token}
use Rattle.rules.specs.Tree.{Arena, Notes, State, Result}
use Rattle.rules.specs.Combinators as R
use Rattle.rules.specs.Combinators.{Rule, ◌>>◌, pure, current, rest, advance, if_kind, by_kind, choose, fail_expecting, expect, expect_ident, with_arena, with_docs, push_node_and, push_type, alloc_slice, members, list_until, collect_docs, take_docs}
use Rattle.ast.specs.Layout.{token_cells}
use Rattle.rules.specs.Rules.{breaks_off}
use Rattle.rules.specs.Merge.{Offsets, behind, moved_by, moved_token, moved_run, moved_node_id, moved_type_id, moved_node, moved_type, Role, node_number, token_roles, added, Held, roles_of, held_by_node, held_by_type, begins_item}
use Rattle.ast.specs.declared.Run.{Run}
use Rattle.ast.specs.declared.NodeId.{NodeId}
use Rattle.ast.specs.declared.TypeExprId.{TypeExprId}
use Rattle.ast.specs.declared.Node.{Node}
use Rattle.ast.specs.declared.TypeExpr.{TypeExpr}
use Rattle.rules.proofs.Merge.Match.{Match, matched, doomed, failed, Never, Matches, Fails, fails, by_failure, matched_ok, weaken, pure_match, bind_doom, bind_match, then_match, if_kind_match, if_kind_neither, if_kind_other, if_kind-here, Entries, table_match, renoted, Turn, again, out, TurnDoomed, doomed_out, loop_match}
use Rattle.rules.proofs.Merge.Arena.{AllLike, like[], like∷, like_snoc, like_length, Moved, reorder, release, push_node_lem, push_type_lem, push_list}

-- ---- kinds

pub false≢true : {A : Type 0} → false ≡ true → A
false≢true e = let z : ◌≡◌ {A = ℕ} 0 1 = cc in absurd (omega arith)

pub eof-begins : begins_item k_eof ≡ true
unfolding begins_item choose
eof-begins = refl

-- a kind that begins an item is none that does not
pub apart : (j k : ℕ) → begins_item j ≡ true → begins_item k ≡ false → eqb j k ≡ false
apart j k e f = go (eqb j k) refl
  where
    go : (b : Bool) → eqb j k ≡ b → eqb j k ≡ false
    go true z = false≢true (sym f ∙ ap begins_item (sym (eqb→eq _ _ (rw z tt))) ∙ e)
    go false z = z

pub at-eof : (s : State) (k : ℕ) → (current s.left).kind ≡ k_eof → eqb k_eof k ≡ false → eqb (current s.left).kind k ≡ false
at-eof s k e f = ap (λ (x : ℕ). eqb x k) e ∙ f

-- where a token is wanted at the end, the reading fails
pub expect_doomed : {B : Type 0} {P : B → B → State → State → Type 0} {D : B → State → Type 0} (k : ℕ) (f : Rule B) (s : State) (r : Result B) → (current s.left).kind ≡ k_eof → eqb k_eof k ≡ false → Match P D ((expect k >> f) s) r
unfolding ◌>>◌ expect if_kind by_kind fail_expecting
expect_doomed {B} {P} {D} k f s r e n = subst (λ (b : Bool). Match P D (◌>>◌ {A = Token} (elim b as (λ b'. Rule Token) [ true ↦ advance | false ↦ fail_expecting 11 k ]) f s) r) (sym (at-eof s k e n)) failed

-- ---- states

moved_by-length : (o : Offsets) (rs : List Role) (cs : List ℕ) → length rs ≡ length cs → length (moved_by o rs cs) ≡ length cs
unfolding moved_by
moved_by-length o [] [] h = refl
moved_by-length o [] (c ∷ cs) h = absurd (omega arith)
moved_by-length o (r ∷ rs) [] h = absurd (omega arith)
moved_by-length o (r ∷ rs) (c ∷ cs) h = ap suc (moved_by-length o rs cs (omega arith))

-- what is asked of each token but Eof: its sign breaks off in both scripts or in neither
module _ (o : Offsets) (σ τ : List ℕ) where
  abbrev pub Good : Token → Type 0
  Good t = (¬ (t.kind ≡ k_eof)) × (breaks_off τ (moved_token o t) ≡ breaks_off σ t)

  abbrev pub AllGood : List Token → Type 0
  AllGood [] = Unit {0}
  AllGood (t ∷ ts) = Good t × AllGood ts

-- what the second reading has more than the first: so many bytes and an arena before it, other
-- scripts, and tokens behind the first's, the first of which begins an item
pub record Setting : Type 0 where
  pub bytes : ℕ
  pub pre : Arena
  pub σ : List ℕ
  pub τ : List ℕ
  pub u : Token
  pub us : List Token
  pub begins : begins_item u.kind ≡ true

module _ (S : Setting) where
  open S use {bytes, pre, σ, τ, u, us, begins}

  abbrev pub by : Offsets
  by = behind bytes pre

  -- at most `n` tokens are left before the first's Eof; the lists `ws` wait for their records
  pub record Beside (ws : List Held) (n : ℕ) (s t : State) : Type 0 where
    pub tokens : List Token
    pub last : Token
    pub few : length tokens ≤ n
    pub left : s.left ≡ tokens ++ (last ∷ [])
    pub left' : t.left ≡ map (moved_token by) tokens ++ (u ∷ us)
    pub eof : last.kind ≡ k_eof
    pub good : AllGood by σ τ tokens
    pub docs : t.docs ≡ map (moved_token by) s.docs
    pub arena : Moved bytes pre ws s.arena t.arena

  -- a token is taken
  pub record Less (ws : List Held) (n : ℕ) (s t : State) : Type 0 where
    pub at : ℕ
    pub less : at < n
    pub beside : Beside ws at s t

  module _ {ws : List Held} {s t : State} where
    pub raise : {n m : ℕ} → Beside ws n s t → n ≤ m → Beside ws m s t
    raise q h = record { tokens = q.tokens; last = q.last; few = omega (arith, q.few); left = q.left; left' = q.left'; eof = q.eof; good = q.good; docs = q.docs; arena = q.arena }

    pub sharp : {n : ℕ} (q : Beside ws n s t) → Beside ws (length q.tokens) s t
    sharp q = record { tokens = q.tokens; last = q.last; few = omega arith; left = q.left; left' = q.left'; eof = q.eof; good = q.good; docs = q.docs; arena = q.arena }

    pub inside-first : {n : ℕ} (q : Beside ws n s t) → length q.tokens < length s.left
    inside-first q = omega (arith, ap length q.left, length-append q.tokens (q.last ∷ []))

    pub inside_second : {n : ℕ} (q : Beside ws n s t) → length q.tokens < length t.left
    inside_second q = omega (arith, ap length q.left', length-append (map (moved_token by) q.tokens) (u ∷ us), length-map q.tokens (moved_token by))

    pub renote : {n : ℕ} → Beside ws n s t → (a b : Notes) → Beside ws n (renoted s a) (renoted t b)
    renote q a b = record { tokens = q.tokens; last = q.last; few = q.few; left = q.left; left' = q.left'; eof = q.eof; good = q.good; docs = q.docs; arena = q.arena }

  pub less_raise : {ws : List Held} {n m : ℕ} {s t : State} → Less ws n s t → n ≤ m → Less ws m s t
  less_raise q h = record { at = q.at; less = omega (arith, q.less); beside = q.beside }

  -- ---- the token being read

  pub data Front (ws : List Held) (s t : State) : Type 0 where
    inside : current t.left ≡ moved_token by (current s.left) → Good by σ τ (current s.left) → Front ws s t
    at_end : (current s.left).kind ≡ k_eof → current t.left ≡ u → Beside ws 0 s t → Front ws s t

  pub front : {ws : List Held} {n : ℕ} {s t : State} → Beside ws n s t → Front ws s t
  unfolding current
  front {ws} {s} {t} q = go q.tokens q.left q.left' q.good
    where
      go : (l : List Token) → s.left ≡ l ++ (q.last ∷ []) → t.left ≡ map (moved_token by) l ++ (u ∷ us) → AllGood by σ τ l → Front ws s t
      go [] e f g = at_end (ap (λ (z : List Token). (current z).kind) e ∙ q.eof) (ap current f) (record { tokens = []; last = q.last; few = omega arith; left = e; left' = f; eof = q.eof; good = tt; docs = q.docs; arena = q.arena })
      go (x ∷ xs) e f g = inside (ap current f ∙ ap (λ (z : List Token). moved_token by (current z)) (sym e)) (subst (λ (z : List Token). Good by σ τ (current z)) (sym e) g.0)

  pub same_kind : (x y : Token) → y ≡ moved_token by x → y.kind ≡ x.kind
  unfolding moved_token
  same_kind x y e = ap (λ (z : Token). z.kind) e

  -- ---- values

  abbrev pub TokenIs : Token → Token → Type 0
  TokenIs a b = b ≡ moved_token by a

  abbrev pub NodeIs : NodeId → NodeId → Type 0
  NodeIs a b = b ≡ moved_node_id by a

  abbrev pub TypeIs : TypeExprId → TypeExprId → Type 0
  TypeIs a b = b ≡ moved_type_id by a

  abbrev pub RunIs : Run → Run → Type 0
  RunIs a b = b ≡ moved_run by a

  -- the cells of a member
  abbrev pub Like : List Role → List ℕ → List ℕ → Type 0
  Like form x x' = (length form ≡ length x) × (x' ≡ moved_by by form x)

  abbrev pub After : {A : Type 0} → (A → A → Type 0) → List Held → ℕ → A → A → State → State → Type 0
  After Is ws n a b s t = Is a b × Beside ws n s t

  abbrev pub Took : {A : Type 0} → (A → A → Type 0) → List Held → ℕ → A → A → State → State → Type 0
  Took Is ws n a b s t = Is a b × Less ws n s t

  abbrev pub Any : {A : Type 0} → A → A → Type 0
  Any a b = Unit {0}

  -- ---- taking a token

  pub advance_match : {ws : List Held} {n : ℕ} (s t : State) → Beside ws n s t → ¬ ((current s.left).kind ≡ k_eof) → Matches (Took TokenIs ws n) (advance s) (advance t)
  unfolding advance current rest
  advance_match {ws} {n} s t q k = go q.tokens q.few q.left q.left' q.good
    where
      tail : (xs : List Token) (x : Token) → rest (x ∷ (xs ++ (q.last ∷ []))) ≡ xs ++ (q.last ∷ [])
      tail [] x = refl
      tail (y ∷ ys) x = refl

      tail' : (xs : List Token) (x : Token) → rest (x ∷ (map (moved_token by) xs ++ (u ∷ us))) ≡ map (moved_token by) xs ++ (u ∷ us)
      tail' [] x = refl
      tail' (y ∷ ys) x = refl

      go : (l : List Token) → length l ≤ n → s.left ≡ l ++ (q.last ∷ []) → t.left ≡ map (moved_token by) l ++ (u ∷ us) → AllGood by σ τ l → Matches (Took TokenIs ws n) (advance s) (advance t)
      go [] h e f g = absurd (k (ap (λ (z : List Token). (current z).kind) e ∙ q.eof))
      go (x ∷ xs) h e f g = matched (
        ap current f ∙ ap (λ (z : List Token). moved_token by (current z)) (sym e),
        record { at = length xs; less = h; beside = record { tokens = xs; last = q.last; few = omega arith; left = ap rest e ∙ tail xs x; left' = ap rest f ∙ tail' xs (moved_token by x); eof = q.eof; good = g.1; docs = q.docs; arena = q.arena } },
      )

  -- ---- ways to go

  stops : (t : State) (k : ℕ) → current t.left ≡ u → begins_item k ≡ false → eqb (current t.left).kind k ≡ false
  stops t k e f = ap (λ (x : Token). eqb x.kind k) e ∙ apart u.kind k begins f

  module _ {A : Type 0} {P : A → A → State → State → Type 0} {D : A → State → Type 0} {ws : List Held} {n : ℕ} where
    -- a kind that begins no item: at the end both go the other way
    pub branch_inner : (k : ℕ) → begins_item k ≡ false → (x y x' y' : Rule A) (s t : State) → Beside ws n s t → ((current s.left).kind ≡ k → Match P D (x s) (x' t)) → (eqb (current s.left).kind k ≡ false → Match P D (y s) (y' t)) → Match P D (if_kind k x y s) (if_kind k x' y' t)
    branch_inner k b x y x' y' s t q f g = go (front q)
      where
        go : Front ws s t → Match P D (if_kind k x y s) (if_kind k x' y' t)
        go (inside e i) = if_kind_match k x y x' y' s t (same_kind _ _ e) f g
        go (at_end e i z) = let no' = at-eof s k e (apart k_eof k eof-begins b) in if_kind_neither k x y x' y' s t no' (stops t k i b) (g no')

    -- any kind: at the end the first fails
    pub branch_item : (k : ℕ) → eqb k_eof k ≡ false → (x y x' y' : Rule A) (s t : State) → Beside ws n s t → ((current s.left).kind ≡ k → Match P D (x s) (x' t)) → (Good by σ τ (current s.left) → Match P D (y s) (y' t)) → (Beside ws 0 s t → Fails (y s)) → Match P D (if_kind k x y s) (if_kind k x' y' t)
    branch_item k b x y x' y' s t q f g z = go (front q)
      where
        go : Front ws s t → Match P D (if_kind k x y s) (if_kind k x' y' t)
        go (inside e i) = if_kind_match k x y x' y' s t (same_kind _ _ e) f (λ c. g i)
        go (at_end e i w) = if_kind_other k x y s _ (at-eof s k e b) (by_failure _ (z w))

    -- Eof: nothing is said of the second there
    pub branch-eof : (x y x' y' : Rule A) (s t : State) → Beside ws n s t → ((current s.left).kind ≡ k_eof → (r : Result A) → Match P D (x s) r) → (Good by σ τ (current s.left) → Match P D (y s) (y' t)) → Match P D (if_kind k_eof x y s) (if_kind k_eof x' y' t)
    branch-eof x y x' y' s t q f g = go (front q)
      where
        go : Front ws s t → Match P D (if_kind k_eof x y s) (if_kind k_eof x' y' t)
        go (inside e i) = if_kind_match k_eof x y x' y' s t (same_kind _ _ e) (λ c. absurd (i.0 c)) (λ c. g i)
        go (at_end e i w) = if_kind-here k_eof x y s _ (ap (λ (k : ℕ). eqb k k_eof) e) (f e _)

    -- a table: at the end the first fails
    pub table_beside : (xs xs' : List (ℕ × Rule A)) (other other' : Rule A) (s t : State) → Beside ws n s t → Entries P D s t (current s.left).kind xs xs' → (Good by σ τ (current s.left) → Match P D (other s) (other' t)) → (Beside ws 0 s t → Fails (choose xs other k_eof s)) → Match P D (by_kind (choose xs other) s) (by_kind (choose xs' other') t)
    unfolding by_kind
    table_beside xs xs' other other' s t q h o z = go (front q)
      where
        go : Front ws s t → Match P D (by_kind (choose xs other) s) (by_kind (choose xs' other') t)
        go (inside e i) = table_match P D xs xs' other other' s t (same_kind _ _ e) h (o i)
        go (at_end e i w) = by_failure _ (subst (λ (k : ℕ). Fails (choose xs other k s)) (sym e) (z w))

  module _ {ws : List Held} {n : ℕ} where
    pub expect_match : (k : ℕ) → eqb k_eof k ≡ false → (s t : State) → Beside ws n s t → Matches (Took TokenIs ws n) (expect k s) (expect k t)
    unfolding expect fail_expecting
    expect_match k b s t q = branch_item k b _ _ _ _ s t q (λ e. advance_match s t q (λ z. distinct k b (sym e ∙ z))) (λ e. failed) (λ w. fails)
      where
        distinct : (j : ℕ) → eqb k_eof j ≡ false → ¬ (j ≡ k_eof)
        distinct j h e = false≢true (sym h ∙ eq-eqb k_eof j (sym e))

    pub expect_ident_match : (s t : State) → Beside ws n s t → Matches (Took TokenIs ws n) (expect_ident s) (expect_ident t)
    unfolding expect_ident fail_expecting
    expect_ident_match s t q = branch_item k_ident refl _ _ _ _ s t q (λ e. advance_match s t q (omega arith)) (λ e. failed) (λ w. fails)

  -- ---- records and lists

  -- a list, with its members, and the cells before it
  pub record Listed (ws : List Held) (n : ℕ) (form : List Role) (xs : List (List ℕ)) (r r' : Run) (s t : State) : Type 0 where
    pub moved : RunIs r r'
    pub before : List ℕ
    pub cells : s.arena.cells ≡ before ++ flatten xs
    pub start : r.start ≡ length before
    pub len : r.len ≡ length xs
    pub beside : Beside (record { member = form; run = r } ∷ ws) n s t

  module _ {ws : List Held} {n : ℕ} where
    pub push_node_match : (hs : List Held) (more more' : ℕ) (f f' : ℕ → Node) (s t : State) → Beside (hs ++ ws) n s t → more' ≡ more → ((v : ℕ) → f' (by.values + v) ≡ moved_node by (f v)) → ((v : ℕ) (cs : List ℕ) → held_by_node (s.arena.cells ++ cs) (f v) ≡ hs)
        → Matches (After NodeIs ws n) (push_node_and more f s) (push_node_and more' f' t)
    unfolding push_node_and with_arena moved_node_id behind
    push_node_match hs more more' f f' s t q e m h = matched (
      λ j. record { 0 = number j },
      record {
        tokens = q.tokens;
        last = q.last;
        few = q.few;
        left = q.left;
        left' = q.left';
        eof = q.eof;
        good = q.good;
        docs = q.docs;
        arena = push_node_lem bytes pre {hs = hs} q.arena (f s.arena.values) (f' t.arena.values) (h s.arena.values) (ap f' q.arena.values ∙ m s.arena.values) (s.arena.values + (1 + more)) (t.arena.values + (1 + more')) (omega (arith, q.arena.values));
      },
    )
      where
        number : length t.arena.nodes ≡ length pre.nodes + length s.arena.nodes
        number = ap length q.arena.nodes ∙ length-append pre.nodes _ ∙ ap (λ (z : ℕ). length pre.nodes + z) (length-map s.arena.nodes (moved_node by))

    pub push_type_match : (hs : List Held) (x x' : TypeExpr) (s t : State) → Beside (hs ++ ws) n s t → held_by_type x ≡ hs → x' ≡ moved_type by x → Matches (After TypeIs ws n) (push_type x s) (push_type x' t)
    unfolding push_type with_arena moved_type_id behind
    push_type_match hs x x' s t q h e = matched (
      λ j. record { 0 = number j },
      record { tokens = q.tokens; last = q.last; few = q.few; left = q.left; left' = q.left'; eof = q.eof; good = q.good; docs = q.docs; arena = push_type_lem bytes pre {hs = hs} q.arena x x' h e },
    )
      where
        number : length t.arena.types ≡ length pre.types + length s.arena.types
        number = ap length q.arena.types ∙ length-append pre.types _ ∙ ap (λ (z : ℕ). length pre.types + z) (length-map s.arena.types (moved_type by))

    pub alloc_slice_match : (form : List Role) (xs xs' : List (List ℕ)) (s t : State) → Beside ws n s t → AllLike by form xs xs' → Matches (Listed ws n form xs) (alloc_slice xs s) (alloc_slice xs' t)
    unfolding alloc_slice with_arena moved_run behind
    alloc_slice_match form xs xs' s t q l = matched (record {
      moved = λ j. record { start = first j; len = like_length l j };
      before = s.arena.cells;
      cells = refl;
      start = refl;
      len = refl;
      beside = record { tokens = q.tokens; last = q.last; few = q.few; left = q.left; left' = q.left'; eof = q.eof; good = q.good; docs = q.docs; arena = push_list bytes pre q.arena form xs xs' l };
    })
      where
        first : length t.arena.cells ≡ length pre.cells + length s.arena.cells
        first = ap length q.arena.cells ∙ length-append pre.cells _ ∙ ap (λ (z : ℕ). length pre.cells + z) (moved_by-length by q.arena.roles s.arena.cells q.arena.even)

  -- the order in which lists wait plays no part
  pub rewait : {ws ws' : List Held} {n : ℕ} {s t : State} → Beside ws n s t → ((h : Held) → Memᴰ h ws → Memᴰ h ws') → ((h : Held) → Memᴰ h ws' → Memᴰ h ws) → Beside ws' n s t
  rewait q to back = record { tokens = q.tokens; last = q.last; few = q.few; left = q.left; left' = q.left'; eof = q.eof; good = q.good; docs = q.docs; arena = reorder bytes pre q.arena to back }

  -- a list of nodes need not wait
  pub nodes_wait : {ws : List Held} {n : ℕ} {s t : State} {r : Run} → Beside (record { member = node_number ∷ []; run = r } ∷ ws) n s t → Beside ws n s t
  unfolding roles_of flatten
  nodes_wait {r} q = record { tokens = q.tokens; last = q.last; few = q.few; left = q.left; left' = q.left'; eof = q.eof; good = q.good; docs = q.docs; arena = release bytes pre q.arena (λ k. all r.len k) }
    where
      all : (m k : ℕ) → get_or (flatten (replicate m (node_number ∷ []))) k node_number ≡ node_number
      all zero k = refl
      all (suc m) zero = refl
      all (suc m) (suc k) = all m k

  -- ---- docs

  token_like : (d : Token) → Like token_roles (token_cells d) (token_cells (moved_token by d))
  unfolding token_cells moved_token moved_by added
  token_like d = (refl, ap₂ {C = List ℕ} (λ (k l : ℕ). k ∷ (by.bytes + d.start) ∷ l ∷ []) (sym (zero-add d.kind)) (sym (zero-add d.len)))

  docs_like : (ds : List Token) → AllLike by token_roles (map token_cells ds) (map token_cells (map (moved_token by) ds))
  docs_like [] = like[]
  docs_like (d ∷ ds) = like∷ (token_like d).0 (token_like d).1 (docs_like ds)

  -- a list waits for its record
  abbrev pub Waits : List Role → List Held → ℕ → Run → Run → State → State → Type 0
  Waits form ws n r r' s t = RunIs r r' × Beside (record { member = form; run = r } ∷ ws) n s t

  module _ {ws : List Held} {n : ℕ} where
    -- no token is taken
    pub take_docs_match : (s t : State) → Beside ws n s t → Matches (λ r r' s' t'. Waits token_roles ws n r r' s' t' × (s'.left ≡ s.left)) (take_docs s) (take_docs t)
    unfolding take_docs with_docs alloc_slice with_arena
    take_docs_match s t q = matched (
      matched_ok
          (subst (λ (ds : List Token). Matches (Waits token_roles ws n) (alloc_slice (map token_cells s.docs) (with_docs [] s)) (alloc_slice (map token_cells ds) (with_docs [] t))) (sym q.docs)
          (weaken (alloc_slice_match token_roles _ _ (with_docs [] s) (with_docs [] t) (record { tokens = q.tokens; last = q.last; few = q.few; left = q.left; left' = q.left'; eof = q.eof; good = q.good; docs = refl; arena = q.arena }) (docs_like s.docs)) (λ r r' s' t' z. (z.moved, z.beside)))),
      refl,
    )

  module _ {ws : List Held} {n : ℕ} where
    pub collect_docs_match : (s t : State) → Beside ws n s t → Matches (After Any ws n) (collect_docs s) (collect_docs t)
    unfolding collect_docs with_docs begins_item choose
    collect_docs_match s t q = weaken (loop_match (λ m a b s₁ t₁. Beside ws m s₁ t₁ × (m ≤ n)) (After Any ws n) Never _ _ turn (length q.tokens) 0 0 s t (sharp q, q.few) (inside-first q) (inside_second q)) (λ a b s₁ t₁ z. z)
      where
        turn : (m a b : ℕ) (s₁ t₁ : State) → Beside ws m s₁ t₁ × (m ≤ n) → Match (Turn (λ m' c d s₂ t₂. Beside ws m' s₂ t₂ × (m' ≤ n)) (After Any ws n) m) (TurnDoomed Never) (R.doc_step a s₁) (R.doc_step b t₁)
        turn m a b s₁ t₁ z = branch_inner k_doc refl _ _ _ _ s₁ t₁ z.0
            (λ e. bind_match _ _ _ _ s₁ t₁ (advance_match s₁ t₁ z.0 (omega arith)) (λ d d' s₂ t₂ y. matched (again y.1.at y.1.less (kept d d' s₂ t₂ y.0 y.1.beside, omega (arith, y.1.less, z.1)))))
            (λ e. pure_match _ _ s₁ t₁ (out (tt, raise z.0 z.1)))
          where
            kept : {k : ℕ} (d d' : Token) (s₂ t₂ : State) → TokenIs d d' → Beside ws k s₂ t₂ → Beside ws k (with_docs (s₂.docs ++ (d ∷ [])) s₂) (with_docs (t₂.docs ++ (d' ∷ [])) t₂)
            kept d d' s₂ t₂ e y = record { tokens = y.tokens; last = y.last; few = y.few; left = y.left; left' = y.left'; eof = y.eof; good = y.good; docs = ap₂ (λ (a : List Token) (x : Token). a ++ (x ∷ [])) y.docs e ∙ sym (map-append (moved_token by) s₂.docs (d ∷ [])); arena = y.arena }

  -- ---- lists

  -- each member takes a token; `wait` has the lists that wait with so many members
  module _ (wait : List (List ℕ) → List Held) (form : List Role) (stop : ℕ) (inner : begins_item stop ≡ false) (item item' : Rule (List ℕ))
      (each : (xs : List (List ℕ)) (n : ℕ) (s t : State) → Beside (wait xs) n s t → Matches (λ x x' s' t'. Like form x x' × Less (wait (xs ++ (x ∷ []))) n s' t') (item s) (item' t)) where
    not_eof_lem : eqb k_eof stop ≡ false
    not_eof_lem = apart k_eof stop eof-begins inner

    -- at the end the loop is left, and nothing closes the list
    pub members_match : {n : ℕ} (s t : State) → Beside (wait []) n s t → Match (λ xs xs' s' t'. AllLike by form xs xs' × Beside (wait xs) n s' t') (λ xs s'. (current s'.left).kind ≡ k_eof) (members stop item s) (members stop item' t)
    unfolding members pure
    members_match {n} s t q = loop_match (λ m xs xs' s₁ t₁. AllLike by form xs xs' × Beside (wait xs) m s₁ t₁ × (m ≤ n)) (λ xs xs' s' t'. AllLike by form xs xs' × Beside (wait xs) n s' t') (λ xs s'. (current s'.left).kind ≡ k_eof) _ _
        (λ m xs xs' s₁ t₁ z. branch-eof _ _ _ _ s₁ t₁ z.1 (λ e r. doomed (doomed_out e)) (λ i.
        branch_inner stop inner _ _ _ _ s₁ t₁ z.1 (λ e. matched (out (z.0, raise z.1 z.2))) (λ e.
        bind_match _ _ _ _ s₁ t₁ (each xs m s₁ t₁ z.1) (λ x x' s₂ t₂ y.
        matched (again y.1.at y.1.less (like_snoc x x' z.0 y.0.0 y.0.1, y.1.beside, omega (arith, y.1.less, z.2)))))))
        (length q.tokens) [] [] s t (like[], sharp q, q.few) (inside-first q) (inside_second q)

    -- a finished list, and its members
    pub record Finished (n : ℕ) (r r' : Run) (s t : State) : Type 0 where
      pub xs : List (List ℕ)
      pub xs' : List (List ℕ)
      pub like : AllLike by form xs xs'
      pub at : ℕ
      pub less : at < n
      pub listed : Listed (wait xs) at form xs r r' s t

    pub list_until_match : {n : ℕ} (s t : State) → Beside (wait []) n s t → Matches (Finished n) (list_until stop item s) (list_until stop item' t)
    unfolding list_until
    list_until_match s t q =
        bind_doom _ _ _ _ s t (members_match s t q) (λ xs xs' s₁ t₁ z.
        then_match _ _ _ _ s₁ t₁ (expect_match stop not_eof_lem s₁ t₁ z.1) (λ x x' s₂ t₂ y.
        weaken (alloc_slice_match form xs xs' s₂ t₂ y.1.beside z.0) (λ r r' s₃ t₃ w. record { xs = xs; xs' = xs'; like = z.0; at = y.1.at; less = y.1.less; listed = w })))
        (λ xs s₁ r e. expect_doomed stop (alloc_slice xs) s₁ r e not_eof_lem)

  module _ {ws : List Held} (form : List Role) (stop : ℕ) (inner : begins_item stop ≡ false) (item item' : Rule (List ℕ)) (each : (n : ℕ) (s t : State) → Beside ws n s t → Matches (Took (Like form) ws n) (item s) (item' t)) where
    -- no list waits but this one
    pub list_match : {n : ℕ} (s t : State) → Beside ws n s t → Matches (λ r r' s' t'. RunIs r r' × Less (record { member = form; run = r } ∷ ws) n s' t') (list_until stop item s) (list_until stop item' t)
    list_match s t q = weaken (list_until_match (λ xs. ws) form stop inner item item' (λ xs n s₁ t₁ z. each n s₁ t₁ z) s t q) (λ r r' s' t' z. (z.listed.moved, record { at = z.at; less = z.less; beside = z.listed.beside }))

  -- a list of nodes
  module _ {ws : List Held} (stop : ℕ) (inner : begins_item stop ≡ false) (item item' : Rule (List ℕ)) (each : (n : ℕ) (s t : State) → Beside ws n s t → Matches (Took (Like (node_number ∷ [])) ws n) (item s) (item' t)) where
    pub nodes_match : {n : ℕ} (s t : State) → Beside ws n s t → Matches (Took RunIs ws n) (list_until stop item s) (list_until stop item' t)
    nodes_match s t q = weaken (list_match (node_number ∷ []) stop inner item item' each s t q) (λ r r' s' t' z. (z.0, record { at = z.1.at; less = z.1.less; beside = nodes_wait z.1.beside }))
