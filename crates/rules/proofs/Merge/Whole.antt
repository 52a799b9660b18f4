-- The tree of two scripts joined is the merged tree.
use mathlib.Core.Path.{◌≡◌, refl, sym, ap, ap₂, ◌∙◌, subst, subst₂}
use mathlib.Core.Bool.{Bool, true, false}
use mathlib.Core.Option.{Option, none}
use mathlib.Core.List.Memᴰ
use mathlib.Core.List.{List, [], ◌∷◌, ◌++◌, map, flatten, append_assoc, append-nil, map-append}
use Prim.Native.Nat.{ℕ, zero, suc, ◌+◌, ◌-◌, ◌≤◌, ◌<◌}
use native.Mathlib.Nat.{zero-add}
use native.Mathlib.Omega.{arith}
use lib.Dec.{ltb, eqb}
use borrow.Author.Tests.{ltb-true, ltb-false, lt-ltb, le-ltb, ne_eqb}
use lib.ListN.{length, length-append, length-map, get_or, drop, length-drop, get_or-append}
use lib.Seq.{get_or-append-add, get_or-append_seam}
use Rattle.lex.specs.Bytes.{or, is_ws}
use Rattle.lex.specs.Kind.{k_eof, k_plus, k_minus, k_asteriks, k_slash, k_percent, k_double_equal, k_less_than, k_greater_than}
use Rattle.lex.specs.Lex.{cut_at, cut, tokens_of, faults_of, extend_cut, is_prefix_sign}
use Rattle.lex.specs.declared.diagnostic.Diagnostic.{Diagnostic}
use Rattle.lex.specs.declared.tok.Token.{Token}
use Rattle.lex.specs.declared.tok.Step.{Step}
use Rattle.lex.proofs.Spellings.{cut-ended}
use Rattle.lex.proofs.Steps.{Forward, cut_ind}
use Rattle.rules.specs.Tree.{Arena, empty_arena, State, Result, ok, err, Tree}
use Rattle.rules.specs.Combinators as R
use Rattle.rules.specs.Combinators.{Rule, current, choose, ControlFlow, continue, break, iterate, loop}
use Rattle.rules.specs.Rules.{breaks_off, stage_one, max_levels}
use Rattle.rules.specs.Parse.{Reading, read, ended, begin, parse, parse_roots, root}
use Rattle.rules.specs.Merge.{Offsets, behind, moved_by, moved_token, moved_run, moved_node_id, moved_type_id, moved_node, moved_type, Role, fixed, position, node_number, type_number, place, value, added, Held, merged_arena, merged_tree, joined, begins_item, docs_at_end, Joinable, Joins}
use Rattle.ast.specs.declared.Run.{Run}
use Rattle.ast.specs.declared.NodeId.{NodeId}
use Rattle.ast.specs.declared.TypeExprId.{TypeExprId}
use Rattle.ast.specs.declared.Node.{Node}
use Rattle.ast.specs.declared.Node.TheVariants as N
use Rattle.ast.specs.declared.TypeExpr.{TypeExpr}
use Rattle.ast.specs.declared.TypeExpr.TheVariants as X
use Rattle.rules.proofs.Counting.Step.{WellEnded}
use Rattle.rules.proofs.Counting.Whole.{ended_well_ended, begin-left, read-tree, ended≢read}
use Rattle.rules.proofs.Merge.Match.{Match, matched, doomed, failed, Never, Matches, pure_match, bind_match, if_kind_match, Turn, again, out, TurnDoomed, iterate_match}
use Rattle.rules.proofs.Merge.Arena.{Moved, Among, by_node, by_type, waits, CellsKnown, moved_known, moved_cells_lem}
use Rattle.rules.proofs.Merge.Beside.{eof-begins, apart, Good, AllGood, Setting, by, Beside, Less, Front, inside, at_end, front, same_kind}
use Rattle.rules.proofs.Merge.Rules.{readers_match}
use Rattle.rules.proofs.Merge.Tokens.{later, Closed, faultless-closed, both, seam, both-length, tokens_second, AllInside, Cuts, cuts}

-- ---- nothing before: nothing moves

abbrev nothing : Offsets
nothing = behind 0 empty_arena

token_stays : (t : Token) → moved_token nothing t ≡ t
unfolding moved_token behind
token_stays t j = record { kind = t.kind; start = zero-add t.start j; len = t.len }

run_stays : (r : Run) → moved_run nothing r ≡ r
unfolding moved_run behind
run_stays r j = record { start = zero-add r.start j; len = r.len }

node_id_stays : (n : NodeId) → moved_node_id nothing n ≡ n
unfolding moved_node_id behind
node_id_stays n j = record { 0 = zero-add n.0 j }

type_id_stays : (n : TypeExprId) → moved_type_id nothing n ≡ n
unfolding moved_type_id behind
type_id_stays n j = record { 0 = zero-add n.0 j }

node_stays : (x : Node) → moved_node nothing x ≡ x
unfolding moved_node behind
node_stays (N.Atom id raw) = λ j. N.Atom (zero-add id j) (token_stays raw j)
node_stays (N.Ident id name) = λ j. N.Ident (zero-add id j) (token_stays name j)
node_stays (N.Bin id op lhs rhs) = λ j. N.Bin (zero-add id j) (token_stays op j) (node_id_stays lhs j) (node_id_stays rhs j)
node_stays (N.Unary id op rhs) = λ j. N.Unary (zero-add id j) (token_stays op j) (node_id_stays rhs j)
node_stays (N.Let id docs name rhs) = λ j. N.Let (zero-add id j) (run_stays docs j) (token_stays name j) (node_id_stays rhs j)
node_stays (N.Fn id docs name args ret body) = λ j. N.Fn (zero-add id j) (run_stays docs j) (token_stays name j) (run_stays args j) (type_id_stays ret j) (run_stays body j)
node_stays (N.Match id cases t b) = λ j. N.Match (zero-add id j) (run_stays cases j) (token_stays t j) (run_stays b j)
node_stays (N.Call id target args) = λ j. N.Call (zero-add id j) (node_id_stays target j) (run_stays args j)
node_stays (N.Field id target name) = λ j. N.Field (zero-add id j) (node_id_stays target j) (token_stays name j)
node_stays (N.Cast id src lhs rhs) = λ j. N.Cast (zero-add id j) (token_stays src j) (node_id_stays lhs j) (type_id_stays rhs j)
node_stays (N.Import id src pkgs) = λ j. N.Import (zero-add id j) (token_stays src j) (run_stays pkgs j)
node_stays (N.Extern id src docs name fns) = λ j. N.Extern (zero-add id j) (token_stays src j) (run_stays docs j) (token_stays name j) (run_stays fns j)
node_stays (N.Record id src fields) = λ j. N.Record (zero-add id j) (token_stays src j) (run_stays fields j)
node_stays (N.Array id src elements) = λ j. N.Array (zero-add id j) (token_stays src j) (run_stays elements j)

type_stays : (x : TypeExpr) → moved_type nothing x ≡ x
unfolding moved_type
type_stays (X.Atom t) = λ j. X.Atom (token_stays t j)
type_stays (X.Foreign t) = λ j. X.Foreign (token_stays t j)
type_stays (X.Option t) = λ j. X.Option (type_id_stays t j)
type_stays (X.Array t) = λ j. X.Array (type_id_stays t j)
type_stays (X.Record src fields) = λ j. X.Record (token_stays src j) (run_stays fields j)

map_stays : {A : Type 0} (f : A → A) → ((a : A) → f a ≡ a) → (l : List A) → map f l ≡ l
map_stays f h [] = refl
map_stays f h (a ∷ l) = ap₂ ◌∷◌ (h a) (map_stays f h l)

none-added : (x : Role) → added nothing x ≡ 0
unfolding added behind
none-added fixed = refl
none-added position = refl
none-added node_number = refl
none-added type_number = refl
none-added place = refl
none-added value = refl

cells_stay : (rs : List Role) (cs : List ℕ) → length rs ≡ length cs → moved_by nothing rs cs ≡ cs
unfolding moved_by
cells_stay [] [] h = refl
cells_stay [] (c ∷ cs) h = absurd (omega arith)
cells_stay (r ∷ rs) [] h = absurd (omega arith)
cells_stay (r ∷ rs) (c ∷ cs) h = ap₂ {C = List ℕ} ◌∷◌ (ap (λ (k : ℕ). k + c) (none-added r) ∙ zero-add c) (cells_stay rs cs (omega arith))

arena_stays : (m m' : Arena) → Moved 0 empty_arena [] m m' → m' ≡ m
arena_stays m m' q j = record {
  nodes = (q.nodes ∙ map_stays (moved_node nothing) node_stays m.nodes) j;
  types = (q.types ∙ map_stays (moved_type nothing) type_stays m.types) j;
  cells = (q.cells ∙ cells_stay q.roles m.cells q.even) j;
  values = (q.values ∙ zero-add m.values) j;
}

-- nothing is made yet
moved_start : (n : ℕ) (pre : Arena) → Moved n pre [] empty_arena pre
unfolding moved_by flatten
moved_start n pre = record {
  nodes = sym (append-nil pre.nodes);
  types = sym (append-nil pre.types);
  values = omega arith;
  roles = [];
  even = refl;
  cells = sym (append-nil pre.cells);
  node_held = [];
  stable = λ more. refl;
  fits = λ h a. absurd (no-list h a);
  known = λ i l. absurd (omega arith);
}
  where
    no-list : (h : Held) → Among [] [] [] h → ⊥
    no-list h (by_node z) = Memᴰ.not-nil z
    no-list h (by_type z) = Memᴰ.not-nil z
    no-list h (waits z) = Memᴰ.not-nil z

-- ---- signs

module _ (s₁ s₂ : List ℕ) where
  sign_first : (at : ℕ) → at < length s₁ → is_prefix_sign (both s₁ s₂) at ≡ is_prefix_sign s₁ at
  unfolding is_prefix_sign is_ws or
  sign_first at h = go (ltb (at + 1) (length s₁)) refl
    where
      go : (b : Bool) → ltb (at + 1) (length s₁) ≡ b → is_prefix_sign (both s₁ s₂) at ≡ elim b as (λ z. Bool) [ true ↦ elim (is_ws (get_or s₁ (at + 1) 0)) as (λ z. Bool) [ true ↦ false | false ↦ or (eqb at 0) (is_ws (get_or s₁ (at - 1) 0)) ] | false ↦ false ]
      go true e =
          let l : at + 1 < length s₁ = ltb-true (at + 1) (length s₁) e in
          ap (λ (t : Bool). elim t as (λ z. Bool) [ true ↦ elim (is_ws (get_or (both s₁ s₂) (at + 1) 0)) as (λ z. Bool) [ true ↦ false | false ↦ or (eqb at 0) (is_ws (get_or (both s₁ s₂) (at - 1) 0)) ] | false ↦ false ]) (lt-ltb (at + 1) (length (both s₁ s₂)) (omega (arith, both-length s₁ s₂)))
          ∙ ap₂ (λ (x y : ℕ). elim (is_ws x) as (λ z. Bool) [ true ↦ false | false ↦ or (eqb at 0) (is_ws y) ]) (get_or-append s₁ (10 ∷ s₂) 0 (at + 1) l) (get_or-append s₁ (10 ∷ s₂) 0 (at - 1) (omega arith))
      go false e =
          let l : at + 1 ≡ length s₁ = omega (arith, ltb-false (at + 1) (length s₁) e) in
          ap (λ (t : Bool). elim t as (λ z. Bool) [ true ↦ elim (is_ws (get_or (both s₁ s₂) (at + 1) 0)) as (λ z. Bool) [ true ↦ false | false ↦ or (eqb at 0) (is_ws (get_or (both s₁ s₂) (at - 1) 0)) ] | false ↦ false ]) (lt-ltb (at + 1) (length (both s₁ s₂)) (omega (arith, both-length s₁ s₂)))
          ∙ ap (λ (x : ℕ). elim (is_ws x) as (λ z. Bool) [ true ↦ false | false ↦ or (eqb at 0) (is_ws (get_or (both s₁ s₂) (at - 1) 0)) ]) (ap (λ (k : ℕ). get_or (both s₁ s₂) k 0) l ∙ get_or-append_seam s₁ 10 s₂ 0)

  byte_second : (k i : ℕ) → k ≡ length s₁ + suc i → get_or (both s₁ s₂) k 0 ≡ get_or s₂ i 0
  byte_second k i e = ap (λ (n : ℕ). get_or (both s₁ s₂) n 0) e ∙ get_or-append-add s₁ (10 ∷ s₂) (suc i) 0

  sign_second : (at : ℕ) → 0 < at → is_prefix_sign (both s₁ s₂) (seam s₁ s₂ + at) ≡ is_prefix_sign s₂ at
  unfolding is_prefix_sign or
  sign_second at h =
      ap₂ (λ (t : Bool) (x : ℕ). elim t as (λ z. Bool) [ true ↦ elim (is_ws x) as (λ z. Bool) [ true ↦ false | false ↦ or (eqb (seam s₁ s₂ + at) 0) (is_ws (get_or (both s₁ s₂) (seam s₁ s₂ + at - 1) 0)) ] | false ↦ false ]) (ends (ltb (at + 1) (length s₂)) refl) (byte_second (seam s₁ s₂ + at + 1) (at + 1) (omega arith))
      ∙ ap₂ (λ (b : Bool) (y : ℕ). elim (ltb (at + 1) (length s₂)) as (λ z. Bool) [ true ↦ elim (is_ws (get_or s₂ (at + 1) 0)) as (λ z. Bool) [ true ↦ false | false ↦ or b (is_ws y) ] | false ↦ false ]) (ne_eqb (seam s₁ s₂ + at) 0 (λ e. omega arith) ∙ sym (ne_eqb at 0 (λ e. omega arith))) (byte_second (seam s₁ s₂ + at - 1) (at - 1) (omega arith))
    where
      ends : (b : Bool) → ltb (at + 1) (length s₂) ≡ b → ltb (seam s₁ s₂ + at + 1) (length (both s₁ s₂)) ≡ ltb (at + 1) (length s₂)
      ends true e = lt-ltb (seam s₁ s₂ + at + 1) (length (both s₁ s₂)) (omega (arith, ltb-true (at + 1) (length s₂) e, both-length s₁ s₂)) ∙ sym e
      ends false e = le-ltb (seam s₁ s₂ + at + 1) (length (both s₁ s₂)) (omega (arith, ltb-false (at + 1) (length s₂) e, both-length s₁ s₂)) ∙ sym e

  abbrev signs : Bool → ℕ → Bool
  signs b k = choose ((k_plus, b) ∷ (k_minus, b) ∷ []) false k

  -- what begins an item is no sign
  no_sign : (b : Bool) (k : ℕ) → begins_item k ≡ true → signs b k ≡ false
  unfolding choose begins_item
  no_sign b k h = ap₂ (λ (x y : Bool). elim x as (λ z. Bool) [ true ↦ b | false ↦ elim y as (λ z. Bool) [ true ↦ b | false ↦ false ] ]) (apart k k_plus h refl) (apart k k_minus h refl)

  breaks_first : (t : Token) → t.start < length s₁ → breaks_off (both s₁ s₂) (moved_token nothing t) ≡ breaks_off s₁ t
  unfolding breaks_off
  breaks_first t h = ap (λ (x : Token). breaks_off (both s₁ s₂) x) (token_stays t) ∙ ap (λ (b : Bool). signs b t.kind) (sign_first t.start h)

  module _ (pre : Arena) where
    abbrev second : Offsets
    second = behind (seam s₁ s₂) pre

    breaks_later : (t : Token) → 0 < t.start → breaks_off (both s₁ s₂) (moved_token second t) ≡ breaks_off s₂ t
    unfolding breaks_off moved_token behind
    breaks_later t h = ap (λ (b : Bool). signs b t.kind) (sign_second t.start h)

    breaks_item : (t : Token) → begins_item t.kind ≡ true → breaks_off (both s₁ s₂) (moved_token second t) ≡ breaks_off s₂ t
    unfolding breaks_off moved_token
    breaks_item t h = no_sign _ t.kind h ∙ sym (no_sign _ t.kind h)

-- ---- the second script's tokens

-- each token begins later than the one before it
abbrev AllFrom : ℕ → List Token → Type 0
AllFrom pos [] = Unit {0}
AllFrom pos (t ∷ ts) = (pos ≤ t.start) × AllFrom (suc pos) ts

from_less : (pos n : ℕ) (l : List Token) → pos ≤ n → AllFrom n l → AllFrom pos l
from_less pos n [] h a = tt
from_less pos n (t ∷ ts) h a = (omega arith, from_less (suc pos) (suc n) ts (omega arith) a.1)

from_extends : (script : List ℕ) (pos : ℕ) (s : Step) → Forward script pos s → ((n : ℕ) → pos < n → n ≤ length script → n ≤ length script → AllFrom n (tokens_of (cut_at script n))) → pos ≤ length script → AllFrom pos (tokens_of (extend_cut (cut_at script) s))
unfolding tokens_of
from_extends script pos (Step.Token t n) f h l = (omega arith, from_less (suc pos) n (tokens_of (cut_at script n)) (omega arith) (h n (omega arith) (omega arith) (omega arith)))
from_extends script pos (Step.Fault e n) f h l = from_less pos n (tokens_of (cut_at script n)) (omega arith) (h n (omega arith) (omega arith) (omega arith))
from_extends script pos (Step.End at) f h l = (omega arith, tt)

all_from : (script : List ℕ) → AllFrom 0 (tokens_of (cut script))
unfolding cut
all_from script = cut_ind script (λ pos c. pos ≤ length script → AllFrom pos (tokens_of c)) (from_extends script) (suc (length script)) 0 (omega arith) (omega arith)

module _ (s₁ s₂ : List ℕ) (pre : Arena) where
  -- tokens with Eof behind them
  record Ends (l : List Token) : Type 0 where
    pub tokens : List Token
    pub last : Token
    pub eof : last.kind ≡ k_eof
    pub own : l ≡ tokens ++ (last ∷ [])
    pub good : AllGood (second s₁ s₂ pre) s₂ (both s₁ s₂) tokens

  later_ends : (pos : ℕ) (l : List Token) → 0 < pos → WellEnded l → AllFrom pos l → Ends l
  later_ends pos [] h w a = absurd w
  later_ends pos (t ∷ []) h w a = record { tokens = []; last = t; eof = w; own = refl; good = tt }
  later_ends pos (t ∷ (x ∷ ts)) h w a =
      let z = later_ends (suc pos) (x ∷ ts) (omega arith) w.1 a.1 in
      record { tokens = t ∷ z.tokens; last = z.last; eof = z.eof; own = ap {B = List Token} (λ b. t ∷ b) z.own; good = ((w.0, breaks_later s₁ s₂ pre t (omega arith)), z.good) }

  first_ends : (l : List Token) → WellEnded l → AllFrom 0 l → begins_item (current l).kind ≡ true → Ends l
  unfolding current
  first_ends [] w a b = absurd w
  first_ends (t ∷ []) w a b = record { tokens = []; last = t; eof = w; own = refl; good = tt }
  first_ends (t ∷ (x ∷ ts)) w a b =
      let z = later_ends 1 (x ∷ ts) (omega arith) w.1 a.1 in
      record { tokens = t ∷ z.tokens; last = z.last; eof = z.eof; own = ap {B = List Token} (λ c. t ∷ c) z.own; good = ((w.0, breaks_item s₁ s₂ pre t b), z.good) }

  second_ends : begins_item (current (tokens_of (cut s₂))).kind ≡ true → Ends (tokens_of (cut s₂))
  second_ends b = first_ends (tokens_of (cut s₂)) (ended_well_ended s₂ (tokens_of (cut s₂)) (cut-ended s₂)) (all_from s₂) b

  first_good : (ts : List Token) → AllInside s₁ s₂ ts → AllGood nothing s₁ (both s₁ s₂) ts
  first_good [] a = tt
  first_good (t ∷ ts) a = ((omega arith, breaks_first s₁ s₂ t a.1), first_good ts a.2)

-- ---- roots

ok_inj : {A : Type 0} (a b : A) (s t : State) → ok a s ≡ ok b t → (a ≡ b) × (s ≡ t)
ok_inj a b s t e = (cc, cc)

err≢ok : {A P : Type 0} (x : Diagnostic) (s : State) (a : A) (t : State) → err x s ≡ ok a t → P
err≢ok x s a t e = let z : ◌≡◌ {A = ℕ} 0 1 = cc in absurd (omega arith)

module _ (power : ℕ → Option ℕ) (unsigned : (k : ℕ) → begins_item k ≡ true → power k ≡ none) where
  -- a turn of the loop over roots
  abbrev root_turn : List ℕ → List ℕ → Rule (ControlFlow (List ℕ))
  root_turn script roots = R.if_kind k_eof (R.pure (break roots)) (R.◌>>=◌ (root power script) (λ n. R.pure (continue (roots ++ (n.0 ∷ [])))))

  at_end_lem : (script rs : List ℕ) (s : State) → (current s.left).kind ≡ k_eof → root_turn script rs s ≡ ok (break rs) s
  unfolding R.if_kind R.by_kind R.pure
  at_end_lem script rs s e = ap (λ (k : ℕ). (elim (eqb k k_eof) as (λ b'. Rule (ControlFlow (List ℕ))) [ true ↦ R.pure (break rs) | false ↦ R.◌>>=◌ (root power script) (λ n. R.pure (continue (rs ++ (n.0 ∷ [])))) ]) s) e

  module _ (S : Setting) where
    -- one more root, in both
    data Rooted (n : ℕ) (is bs : List ℕ) : ControlFlow (List ℕ) → ControlFlow (List ℕ) → State → State → Type 0 where
      rooted : (i : ℕ) {s t : State} → Less S [] n s t → Rooted n is bs (continue (is ++ (i ∷ []))) (continue (bs ++ (((by S).nodes + i) ∷ []))) s t

    root_match : {n : ℕ} (is bs : List ℕ) (s t : State) → Beside S [] n s t → Good (by S) S.σ S.τ (current s.left) → (current t.left).kind ≡ (current s.left).kind → Matches (Rooted n is bs) (root_turn S.σ is s) (root_turn S.τ bs t)
    unfolding moved_node_id
    root_match {n} is bs s t q g e =
        if_kind_match k_eof _ _ _ _ s t e (λ k. absurd (g.0 k)) (λ k.
        bind_match _ _ _ _ s t ((readers_match S power unsigned max_levels).prefix [] n s t q) (λ a b s₁ t₁ y.
        pure_match _ _ s₁ t₁ (subst (λ (m : NodeId). Rooted n is bs (continue (is ++ (a.0 ∷ []))) (continue (bs ++ (m.0 ∷ []))) s₁ t₁) (sym y.0) (rooted a.0 y.1))))

  -- ---- the first script: the second reading has the roots of the first, and goes on

  module _ (S : Setting) where
    record GoesOn (r : Result (List ℕ)) (roots : List ℕ) (s' : State) : Type 0 where
      pub turns : ℕ
      pub state : State
      pub enough : length S.us < turns
      pub same : r ≡ iterate turns (root_turn S.τ) roots state
      pub beside : Beside S [] 0 s' state

  abbrev onward : ℕ → List ℕ → Result (ControlFlow (List ℕ)) → Result (List ℕ)
  onward i script r = elim r as (λ r'. Result (List ℕ)) [ ok c s₁ ↦ elim c as (λ c'. Result (List ℕ)) [ continue b ↦ iterate i (root_turn script) b s₁ | break b ↦ ok b s₁ ] | err e s₁ ↦ err e s₁ ]

  module _ (S : Setting) (none_before : (by S).nodes ≡ 0) where
    first-roots : (i j n : ℕ) (rs : List ℕ) (s t : State) → Beside S [] n s t → n < i → n + length S.us < j → (roots : List ℕ) (s' : State) → iterate i (root_turn S.σ) rs s ≡ ok roots s' → GoesOn S (iterate j (root_turn S.τ) rs t) roots s'
    unfolding iterate
    first-roots zero j n rs s t q h k roots s' e = absurd (omega arith)
    first-roots (suc i) zero n rs s t q h k roots s' e = absurd (omega arith)
    first-roots (suc i) (suc j) n rs s t q h k roots s' e = by_front (first-roots i j) (front S q)
      where
        by_root : ((m : ℕ) (is : List ℕ) (s₁ t₁ : State) → Beside S [] m s₁ t₁ → m < i → m + length S.us < j → (roots' : List ℕ) (s₂ : State) → iterate i (root_turn S.σ) is s₁ ≡ ok roots' s₂ → GoesOn S (iterate j (root_turn S.τ) is t₁) roots' s₂)
            → (r r' : Result (ControlFlow (List ℕ))) → Matches (Rooted S n rs rs) r r' → onward i S.σ r ≡ ok roots s' → GoesOn S (onward j S.τ r') roots s'
        by_root ih r r' (matched (rooted m {s = s₁} {t = t₁} l)) x =
            subst (λ (z : ℕ). GoesOn S (iterate j (root_turn S.τ) (rs ++ ((z + m) ∷ [])) t₁) roots s') (sym none_before) (subst (λ (z : ℕ). GoesOn S (iterate j (root_turn S.τ) (rs ++ (z ∷ [])) t₁) roots s') (sym (zero-add m))
            (ih l.at (rs ++ (m ∷ [])) s₁ t₁ l.beside (omega (arith, l.less)) (omega (arith, l.less)) roots s' x))
        by_root ih r r' (doomed d) x = absurd d
        by_root ih r r' failed x = err≢ok _ _ _ _ x

        by_front : ((m : ℕ) (is : List ℕ) (s₁ t₁ : State) → Beside S [] m s₁ t₁ → m < i → m + length S.us < j → (roots' : List ℕ) (s₂ : State) → iterate i (root_turn S.σ) is s₁ ≡ ok roots' s₂ → GoesOn S (iterate j (root_turn S.τ) is t₁) roots' s₂)
            → Front S [] s t → GoesOn S (onward j S.τ (root_turn S.τ rs t)) roots s'
        by_front ih (inside f g) = by_root ih (root_turn S.σ rs s) (root_turn S.τ rs t) (root_match S rs rs s t q g (same_kind S _ _ f)) e
        by_front ih (at_end f g w) =
            let z = ok_inj rs roots s s' (sym (ap (onward i S.σ) (at_end_lem S.σ rs s f)) ∙ e) in
            record { turns = suc j; state = t; enough = omega arith; same = ap (λ (a : List ℕ). onward j S.τ (root_turn S.τ a t)) z.0; beside = subst (λ (a : State). Beside S [] 0 a t) z.1 w }

  -- ---- the second script: the second reading goes on side by side with its own

  module _ (S : Setting) (last : S.u.kind ≡ k_eof) (base : List ℕ) where
    abbrev Roots : ℕ → List ℕ → List ℕ → State → State → Type 0
    Roots n is bs s t = (bs ≡ base ++ map (λ i. (by S).nodes + i) is) × Beside S [] n s t

    more_roots : (is bs : List ℕ) (i : ℕ) → bs ≡ base ++ map (λ k. (by S).nodes + k) is → bs ++ (((by S).nodes + i) ∷ []) ≡ base ++ map (λ k. (by S).nodes + k) (is ++ (i ∷ []))
    more_roots is bs i e = ap (λ (l : List ℕ). l ++ (((by S).nodes + i) ∷ [])) e ∙ append_assoc base (map (λ k. (by S).nodes + k) is) (((by S).nodes + i) ∷ []) ∙ ap (λ (l : List ℕ). base ++ l) (sym (map-append (λ k. (by S).nodes + k) is (i ∷ [])))

    second_turn : (n : ℕ) (is bs : List ℕ) (s t : State) → Roots n is bs s t → Match (Turn Roots (Roots 0) n) (TurnDoomed Never) (root_turn S.σ is s) (root_turn S.τ bs t)
    second_turn n is bs s t z = by_front (front S z.1)
      where
        by_root : (r r' : Result (ControlFlow (List ℕ))) → Matches (Rooted S n is bs) r r' → Match (Turn Roots (Roots 0) n) (TurnDoomed Never) r r'
        by_root r r' (matched (rooted i l)) = matched (again l.at l.less (more_roots is bs i z.0, l.beside))
        by_root r r' (doomed d) = absurd d
        by_root r r' failed = failed

        by_front : Front S [] s t → Match (Turn Roots (Roots 0) n) (TurnDoomed Never) (root_turn S.σ is s) (root_turn S.τ bs t)
        by_front (inside f g) = by_root _ _ (root_match S is bs s t z.1 g (same_kind S _ _ f))
        by_front (at_end f g w) = subst₂ (Match (Turn Roots (Roots 0) n) (TurnDoomed Never)) (sym (at_end_lem S.σ is s f)) (sym (at_end_lem S.τ bs t (ap (λ (x : Token). x.kind) g ∙ last))) (matched (out (z.0, w)))

    second_roots : (i j n : ℕ) (s t : State) → Beside S [] n s t → n < i → n < j → Matches (Roots 0) (iterate i (root_turn S.σ) [] s) (iterate j (root_turn S.τ) base t)
    second_roots i j n s t q h k = iterate_match Roots (Roots 0) Never _ _ second_turn i j n [] base s t (sym (append-nil base), q) h k

  -- ---- whole readings

  -- what a strict reading that accepts a script comes to
  record Accepts (script : List ℕ) (tree : Tree) : Type 0 where
    pub roots : List ℕ
    pub state : State
    pub reads : parse_roots power script (begin script) ≡ ok roots state
    pub tree_is : tree ≡ record { arena = state.arena; roots = roots }
    pub docs : docs_at_end power script ≡ state.docs

  accepts : (script : List ℕ) (tree : Tree) → parse power script ≡ read tree [] → Accepts script tree
  unfolding parse docs_at_end
  accepts script tree e = go (parse_roots power script (begin script)) refl e
    where
      go : (r : Result (List ℕ)) → parse_roots power script (begin script) ≡ r → elim r as (λ r'. Reading) [ ok roots s ↦ read (record { arena = s.arena; roots = roots }) [] | err x s ↦ ended x ] ≡ read tree [] → Accepts script tree
      go (ok roots s) p x = record { roots = roots; state = s; reads = p; tree_is = sym (read-tree _ tree [] [] x); docs = ap (λ (r : Result (List ℕ)). elim r as (λ r'. List Token) [ ok a z ↦ z.docs | err a z ↦ z.docs ]) p }
      go (err y s) p x = ended≢read y tree [] x

  -- ---- the list cells of an accepted script

  -- a reading beside itself
  record EndsIn (script : List ℕ) (l : List Token) : Type 0 where
    pub tokens : List Token
    pub last : Token
    pub eof : last.kind ≡ k_eof
    pub own : l ≡ tokens ++ (last ∷ [])
    pub good : AllGood nothing script script tokens

  ends_in : (script : List ℕ) (l : List Token) → WellEnded l → EndsIn script l
  ends_in script [] w = absurd w
  ends_in script (t ∷ []) w = record { tokens = []; last = t; eof = w; own = refl; good = tt }
  ends_in script (t ∷ (x ∷ ts)) w =
      let z = ends_in script (x ∷ ts) w.1 in
      record { tokens = t ∷ z.tokens; last = z.last; eof = z.eof; own = ap {B = List Token} (λ a. t ∷ a) z.own; good = ((w.0, ap (breaks_off script) (token_stays t)), z.good) }

  module _ (script : List ℕ) (tree : Tree) (accepted : parse power script ≡ read tree []) where
    abbrev own : EndsIn script (tokens_of (cut script))
    own = ends_in script (tokens_of (cut script)) (ended_well_ended script (tokens_of (cut script)) (cut-ended script))

    abbrev alone : Setting
    alone = record { bytes = 0; pre = empty_arena; σ = script; τ = script; u = own.last; us = []; begins = ap begins_item own.eof ∙ eof-begins }

    beside_itself : Beside alone [] (length own.tokens) (begin script) (begin script)
    unfolding begin
    beside_itself = record {
      tokens = own.tokens;
      last = own.last;
      few = omega arith;
      left = own.own;
      left' = own.own ∙ ap (λ (l : List Token). l ++ (own.last ∷ [])) (sym (map_stays (moved_token nothing) token_stays own.tokens));
      eof = own.eof;
      good = own.good;
      docs = refl;
      arena = moved_start 0 empty_arena;
    }

    own-length : length (begin script).left ≡ suc (length own.tokens)
    own-length = begin-left script ∙ ap length own.own ∙ length-append own.tokens (own.last ∷ []) ∙ omega arith

    -- what every list cell of an accepted script says
    pub cells-known : CellsKnown tree.arena
    unfolding parse_roots loop
    cells-known = subst (λ (t : Tree). CellsKnown t.arena) (sym a.tree_is) (go _ _ (second_roots alone own.eof [] (length (begin script).left) (length (begin script).left) (length own.tokens) (begin script) (begin script) beside_itself (omega (arith, own-length)) (omega (arith, own-length))) a.reads)
      where
        a : Accepts script tree
        a = accepts script tree accepted

        go : (r r' : Result (List ℕ)) → Matches (Roots alone own.eof [] 0) r r' → r ≡ ok a.roots a.state → CellsKnown a.state.arena
        go r r' (matched {a = rs} {s} {t} z) x = subst (λ (w : State). CellsKnown w.arena) (ok_inj rs a.roots s a.state x).1 (moved_known 0 empty_arena s.arena t.arena z.1.arena)
        go r r' (doomed d) x = absurd d
        go r r' failed x = err≢ok _ _ _ _ x

  cons_of : (l : List Token) → 0 < length l → l ≡ current l ∷ drop 1 l
  unfolding current
  cons_of [] h = absurd (omega arith)
  cons_of (t ∷ ts) h = refl

  empty_of : (l : List Token) → length l ≤ 0 → l ≡ []
  empty_of [] h = refl
  empty_of (t ∷ ts) h = absurd (omega arith)

  module _ (s₁ s₂ : List ℕ) (t₁ t₂ : Tree) (p₁ : parse power s₁ ≡ read t₁ []) (p₂ : parse power s₂ ≡ read t₂ []) (closed : Closed (cut s₁)) (no_docs : docs_at_end power s₁ ≡ []) (begins : begins_item (current (tokens_of (cut s₂))).kind ≡ true) where
    abbrev a₁ : Accepts s₁ t₁
    a₁ = accepts s₁ t₁ p₁

    abbrev a₂ : Accepts s₂ t₂
    a₂ = accepts s₂ t₂ p₂

    abbrev c₁ : Cuts s₁ s₂ 0 (cut s₁)
    c₁ = cuts s₁ s₂ closed

    abbrev l₂ : List Token
    l₂ = tokens_of (cut s₂)

    abbrev e₂ : Ends s₁ s₂ a₁.state.arena l₂
    e₂ = second_ends s₁ s₂ a₁.state.arena begins

    l₂_length : length l₂ ≡ suc (length e₂.tokens)
    l₂_length = ap length e₂.own ∙ length-append e₂.tokens (e₂.last ∷ []) ∙ omega arith

    abbrev S₁ : Setting
    S₁ = record { bytes = 0; pre = empty_arena; σ = s₁; τ = both s₁ s₂; u = later (seam s₁ s₂) (current l₂); us = map (later (seam s₁ s₂)) (drop 1 l₂); begins = begins }

    abbrev S₂ : Setting
    S₂ = record { bytes = seam s₁ s₂; pre = a₁.state.arena; σ = s₂; τ = both s₁ s₂; u = later (seam s₁ s₂) e₂.last; us = []; begins = ap begins_item e₂.eof ∙ eof-begins }

    behind-first : tokens_of (cut_at (both s₁ s₂) (seam s₁ s₂)) ≡ S₁.u ∷ S₁.us
    behind-first = tokens_second s₁ s₂ ∙ ap (map (later (seam s₁ s₂))) (cons_of l₂ (omega (arith, l₂_length)))

    beside_first : Beside S₁ [] (length c₁.tokens) (begin s₁) (begin (both s₁ s₂))
    unfolding begin cut
    beside_first = record {
      tokens = c₁.tokens;
      last = c₁.last;
      few = omega arith;
      left = c₁.own;
      left' = c₁.whole ∙ ap₂ {C = List Token} ◌++◌ (sym (map_stays (moved_token nothing) token_stays c₁.tokens)) behind-first;
      eof = c₁.eof;
      good = first_good s₁ s₂ empty_arena c₁.tokens c₁.inside;
      docs = refl;
      arena = moved_start 0 empty_arena;
    }

    first-length : length (begin s₁).left ≡ suc (length c₁.tokens)
    first-length = begin-left s₁ ∙ ap length c₁.own ∙ length-append c₁.tokens (c₁.last ∷ []) ∙ omega arith

    whole_length : length (begin (both s₁ s₂)).left ≡ length c₁.tokens + suc (length S₁.us)
    unfolding cut
    whole_length = begin-left (both s₁ s₂) ∙ ap length (c₁.whole ∙ ap (λ (l : List Token). c₁.tokens ++ l) behind-first) ∙ length-append c₁.tokens (S₁.u ∷ S₁.us)

    no-nodes : (by S₁).nodes ≡ 0
    unfolding behind
    no-nodes = refl

    goes : GoesOn S₁ (parse_roots power (both s₁ s₂) (begin (both s₁ s₂))) a₁.roots a₁.state
    unfolding parse_roots loop
    goes = first-roots S₁ no-nodes (length (begin s₁).left) (length (begin (both s₁ s₂)).left) (length c₁.tokens) [] (begin s₁) (begin (both s₁ s₂)) beside_first
        (omega (arith, first-length)) (omega (arith, whole_length)) a₁.roots a₁.state a₁.reads

    beside_second : Beside S₂ [] (length e₂.tokens) (begin s₂) goes.state
    unfolding begin moved_token behind
    beside_second = record {
      tokens = e₂.tokens;
      last = e₂.last;
      few = omega arith;
      left = e₂.own;
      left' = goes.beside.left' ∙ ap (λ (l : List Token). map (moved_token nothing) l ++ (S₁.u ∷ S₁.us)) (empty_of goes.beside.tokens goes.beside.few) ∙ sym behind-first ∙ tokens_second s₁ s₂ ∙ ap (map (later (seam s₁ s₂))) e₂.own ∙ map-append (later (seam s₁ s₂)) e₂.tokens (e₂.last ∷ []);
      eof = e₂.eof;
      good = e₂.good;
      docs = goes.beside.docs ∙ ap (map (moved_token nothing)) (sym a₁.docs ∙ no_docs);
      arena = subst (λ (m : Arena). Moved (seam s₁ s₂) a₁.state.arena [] empty_arena m) (sym (arena_stays a₁.state.arena goes.state.arena goes.beside.arena)) (moved_start (seam s₁ s₂) a₁.state.arena);
    }

    merged_is : (m : Arena) → Moved (seam s₁ s₂) a₁.state.arena [] a₂.state.arena m → m ≡ merged_arena (seam s₁ s₂) a₁.state.arena a₂.state.arena
    unfolding merged_arena
    merged_is m q j = record { nodes = q.nodes j; types = q.types j; cells = moved_cells_lem (seam s₁ s₂) a₁.state.arena a₂.state.arena m q j; values = q.values j }

    abbrev reading_of : Result (List ℕ) → Reading
    reading_of r = elim r as (λ r'. Reading) [ ok roots s ↦ read (record { arena = s.arena; roots = roots }) [] | err e s ↦ ended e ]

    tree_is : (bs : List ℕ) (m : Arena) → bs ≡ a₁.roots ++ map (λ i. (by S₂).nodes + i) a₂.roots → m ≡ merged_arena (seam s₁ s₂) a₁.state.arena a₂.state.arena → record { arena = m; roots = bs } ≡ merged_tree (length s₁) t₁ t₂
    unfolding merged_tree behind
    tree_is bs m e f = (λ j. record { arena = f j; roots = e j }) ∙ ap₂ (merged_tree (length s₁)) (sym a₁.tree_is) (sym a₂.tree_is)

    read_second : (r₂ r : Result (List ℕ)) → Matches (Roots S₂ e₂.eof a₁.roots 0) r₂ r → r₂ ≡ ok a₂.roots a₂.state → reading_of r ≡ read (merged_tree (length s₁) t₁ t₂) []
    read_second r₂ r (matched {a} {b} {s} {t} z) x =
        let y = ok_inj a a₂.roots s a₂.state x in
        ap (λ (w : Tree). read w []) (tree_is b t.arena (z.0 ∙ ap (λ (l : List ℕ). a₁.roots ++ map (λ i. (by S₂).nodes + i) l) y.0) (merged_is t.arena (subst (λ (w : State). Moved (seam s₁ s₂) a₁.state.arena [] w.arena t.arena) y.1 z.1.arena)))
    read_second r₂ r (doomed d) x = absurd d
    read_second r₂ r failed x = err≢ok _ _ _ _ x

    abbrev docs_of : Result (List ℕ) → List Token
    docs_of r = elim r as (λ r'. List Token) [ ok roots s ↦ s.docs | err e s ↦ s.docs ]

    second_reads : Matches (Roots S₂ e₂.eof a₁.roots 0) (parse_roots power s₂ (begin s₂)) (iterate goes.turns (root_turn (both s₁ s₂)) a₁.roots goes.state)
    unfolding parse_roots loop
    second_reads = second_roots S₂ e₂.eof a₁.roots (length (begin s₂).left) goes.turns (length e₂.tokens) (begin s₂) goes.state beside_second (omega (arith, begin-length)) (omega (arith, goes.enough, length-map (drop 1 l₂) (later (seam s₁ s₂)), length-drop 1 l₂, l₂_length))
      where
        begin-length : length (begin s₂).left ≡ suc (length e₂.tokens)
        begin-length = begin-left s₂ ∙ l₂_length

    -- unless a string is open at the first's end, its other faults play no part
    pub joins_closed : parse power (joined s₁ s₂) ≡ read (merged_tree (length s₁) t₁ t₂) []
    unfolding joined parse
    joins_closed = ap reading_of goes.same ∙ read_second _ _ second_reads a₂.reads

    -- the docs that wait at the end are those that wait at the second's
    docs_second : (r₂ r : Result (List ℕ)) → Matches (Roots S₂ e₂.eof a₁.roots 0) r₂ r → r₂ ≡ ok a₂.roots a₂.state → a₂.state.docs ≡ [] → docs_of r ≡ []
    docs_second r₂ r (matched {a} {b} {s} {t} z) x e = z.1.docs ∙ ap (map (moved_token (by S₂))) (ap (λ (w : State). w.docs) (ok_inj a a₂.roots s a₂.state x).1 ∙ e)
    docs_second r₂ r (doomed d) x e = absurd d
    docs_second r₂ r failed x e = err≢ok _ _ _ _ x

    pub joined-docs : docs_at_end power s₂ ≡ [] → docs_at_end power (joined s₁ s₂) ≡ []
    unfolding joined docs_at_end
    joined-docs e = ap docs_of goes.same ∙ docs_second _ _ second_reads a₂.reads (sym a₂.docs ∙ e)

    pub joined-faultless : faults_of 0 (cut s₁) ≡ [] → faults_of 0 (cut s₂) ≡ [] → faults_of 0 (cut (joined s₁ s₂)) ≡ []
    unfolding joined cut
    joined-faultless e f = c₁.faults 0 0 e f

    -- both begin alike, unless the first has no token
    pub joined-begins : begins_item (current (tokens_of (cut s₁))).kind ≡ true → begins_item (current (tokens_of (cut (joined s₁ s₂)))).kind ≡ true
    unfolding joined cut current
    joined-begins e = go c₁.tokens c₁.own (c₁.whole ∙ ap (λ (l : List Token). c₁.tokens ++ l) behind-first)
      where
        go : (l : List Token) → tokens_of (cut s₁) ≡ l ++ (c₁.last ∷ []) → tokens_of (cut (both s₁ s₂)) ≡ l ++ (S₁.u ∷ S₁.us) → begins_item (current (tokens_of (cut (both s₁ s₂)))).kind ≡ true
        go [] f g = ap (λ (l : List Token). begins_item (current l).kind) g ∙ begins
        go (t ∷ ts) f g = ap (λ (l : List Token). begins_item (current l).kind) (g ∙ refl) ∙ sym (ap (λ (l : List Token). begins_item (current l).kind) f) ∙ e

  -- the claim: the merged tree is the tree of both scripts joined
  pub joins : Joins power
  joins s₁ s₂ t₁ t₂ p₁ p₂ j = joins_closed s₁ s₂ t₁ t₂ p₁ p₂ (faultless-closed 0 (cut s₁) j.faultless) j.no_docs j.begins

  joinable_left : (s₁ s₂ s₃ : List ℕ) (t₁ t₂ : Tree) → parse power s₁ ≡ read t₁ [] → parse power s₂ ≡ read t₂ [] → Joinable power s₁ s₂ → Joinable power s₂ s₃ → Joinable power (joined s₁ s₂) s₃
  joinable_left s₁ s₂ s₃ t₁ t₂ p₁ p₂ j k =
      let closed = faultless-closed 0 (cut s₁) j.faultless in
      record { faultless = joined-faultless s₁ s₂ t₁ t₂ p₁ p₂ closed j.no_docs j.begins j.faultless k.faultless; no_docs = joined-docs s₁ s₂ t₁ t₂ p₁ p₂ closed j.no_docs j.begins k.no_docs; begins = k.begins }

  joinable_right : (s₁ s₂ s₃ : List ℕ) (t₂ t₃ : Tree) → parse power s₂ ≡ read t₂ [] → parse power s₃ ≡ read t₃ [] → Joinable power s₁ s₂ → Joinable power s₂ s₃ → Joinable power s₁ (joined s₂ s₃)
  joinable_right s₁ s₂ s₃ t₂ t₃ p₂ p₃ j k = record { faultless = j.faultless; no_docs = j.no_docs; begins = joined-begins s₂ s₃ t₂ t₃ p₂ p₃ (faultless-closed 0 (cut s₂) k.faultless) k.no_docs k.begins j.begins }

  joined_assoc : (s₁ s₂ s₃ : List ℕ) → joined (joined s₁ s₂) s₃ ≡ joined s₁ (joined s₂ s₃)
  unfolding joined
  joined_assoc s₁ s₂ s₃ = append_assoc s₁ (10 ∷ s₂) (10 ∷ s₃)

  -- whichever pair goes first, the tree is the same: that of all three scripts
  pub merged_assoc : (s₁ s₂ s₃ : List ℕ) (t₁ t₂ t₃ : Tree) → parse power s₁ ≡ read t₁ [] → parse power s₂ ≡ read t₂ [] → parse power s₃ ≡ read t₃ [] → Joinable power s₁ s₂ → Joinable power s₂ s₃
      → merged_tree (length (joined s₁ s₂)) (merged_tree (length s₁) t₁ t₂) t₃ ≡ merged_tree (length s₁) t₁ (merged_tree (length s₂) t₂ t₃)
  merged_assoc s₁ s₂ s₃ t₁ t₂ t₃ p₁ p₂ p₃ j k =
      read-tree _ _ [] []
      (sym (joins (joined s₁ s₂) s₃ _ t₃ (joins s₁ s₂ t₁ t₂ p₁ p₂ j) p₃ (joinable_left s₁ s₂ s₃ t₁ t₂ p₁ p₂ j k))
      ∙ ap (parse power) (joined_assoc s₁ s₂ s₃)
      ∙ joins s₁ (joined s₂ s₃) t₁ _ p₁ (joins s₂ s₃ t₂ t₃ p₂ p₃ k) (joinable_right s₁ s₂ s₃ t₂ t₃ p₂ p₃ j k))

-- ---- stage one

-- a table of kinds that begin no item
abbrev pub Inner : {A : Type 0} → List (ℕ × A) → Type 0
Inner [] = Unit {0}
Inner (x ∷ xs) = (begins_item x.0 ≡ false) × Inner xs

pub not_found : {A : Type 0} (xs : List (ℕ × A)) (other : A) (k : ℕ) → begins_item k ≡ true → Inner xs → choose xs other k ≡ other
unfolding choose
not_found [] other k h i = refl
not_found {A = A} (x ∷ xs) other k h i = ap (λ (b : Bool). elim b as (λ b'. A) [ true ↦ x.1 | false ↦ choose xs other k ]) (apart k x.0 h i.0) ∙ not_found xs other k h i.1

signs_inner : (begins_item k_plus ≡ false) × (begins_item k_minus ≡ false) × (begins_item k_asteriks ≡ false) × (begins_item k_slash ≡ false) × (begins_item k_percent ≡ false) × (begins_item k_double_equal ≡ false) × (begins_item k_less_than ≡ false) × (begins_item k_greater_than ≡ false)
unfolding begins_item choose
signs_inner = (refl, refl, refl, refl, refl, refl, refl, refl)

-- what begins an item is no infix sign
pub stage_one_apart : (k : ℕ) → begins_item k ≡ true → stage_one k ≡ none
unfolding stage_one
stage_one_apart k h = let i = signs_inner in not_found _ none k h (i.0, (i.1, (i.2, (i.3, (i.4, (i.5, (i.6, (i.7, tt))))))))

-- request Q-10's claim, for stage one
pub joins_stage_one : Joins stage_one
joins_stage_one = joins stage_one stage_one_apart
