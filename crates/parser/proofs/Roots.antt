-- The roots of a script, one after the other.
use Rattle.std.specs.Prelude as Std
use mathlib.Core.Path.{◌≡◌, refl, sym, ap, subst, ◌∙◌}
use mathlib.Core.Bool.{true, false}
use mathlib.Core.List.{List, [], ◌∷◌, ◌++◌, map, flatten, reverse, append-nil}
use Prim.Native.Nat.{ℕ, zero, suc, ◌+◌, ◌*◌, ◌≤◌, ◌<◌}
use native.Mathlib.Omega.{arith}
use lib.Dec.{eqb, ltb}
use lib.ListN.{length, take, set, length-append}
use lib.Seq.{take_at}
use borrow.Author.Tests.{ltb-true, ltb-false, lt-ltb}
use Rattle.lex.specs.Answer.{max_bytes}
use Rattle.lex.specs.Cells.{padded}
use Rattle.lex.specs.Kind.{k_eof}
use Rattle.lex.specs.Lex.{cut, tokens_of}
use Rattle.lex.proofs.Steps.{cut_le}
use Rattle.lex.specs.declared.diagnostic.Diagnostic.{Diagnostic}
use Rattle.lex.specs.declared.tok.Token.{Token}
use Rattle.tokens.specs.Table.{token_of, token_at, tokens_from}
use Rattle.tokens.specs.Tables.{token_table}
use Rattle.tokens.proofs.Records.{table_token, table_all, token_in_range, past_start}
use Rattle.rules.specs.Tree.{State, Result, ok, err}
use Rattle.rules.specs.Combinators.{◌>>=◌, pure, current, with_docs, loop, ControlFlow, continue, break}
use Rattle.rules.specs.Rules.{max_levels, stage_one}
use Rattle.rules.specs.Parse.{begin, parse_roots}
use Rattle.ast.specs.Layout.{node_width, type_width, node_cells, type_cells}
use Rattle.ast.specs.declared.NodeId.{NodeId}
use Rattle.parser_state.specs.Represents.{Failed, with_used, with_error, error_of, Code, Kept, going, is_going, ahead, from, Near, doc_cells, Related, Represents}
use Rattle.parser_state.specs.Refines.{Ends, stack_unchanged, RefinesBy, rules_of, deeper, member_follows}
use Rattle.parser_state.specs.declared.Used.{Used}
use Rattle.parser_state.proofs.Steps.{Passed, passed_on, fails_as, either, true≢false, and_both, left-some, current_represents, represents_less, represents_going, failed-fails}
use Rattle.parser_state.proofs.Leaves.{from_at}
use Rattle.parser_state.proofs.Cells.{types-length, nodes-length}
use Rattle.parser_state.proofs.Rounds.{AgainBy, Turned, LoopInvariantBy, again_stops, round_start_at, round_out, if_kind_is_yes, if_kind_is_no}
use Rattle.parser_state.proofs.Loops.{member-going, member-eof, no_member}
use Rattle.parser.specs.Whole.{RootsRead, has_cell, RootPushed, Begun, FirstToken, root_step, RootsAre, drop_docs, Holds, RootsEnd}

-- ---- docs that are dropped

abbrev pub undocumented : Used → Used
undocumented u = record { nodes = u.nodes; values = u.values; types = u.types; docs = 0; cells = u.cells; scratch = u.scratch }

pub dropping : {kept : Kept} (tokens : List ℕ) (s : Code) → going s ≡ true
    → RefinesBy kept tokens 0 0 drop_docs (λ n. n ≡ 0) stack_unchanged 0 0 0 s (with_used s (undocumented s.parser.used))
unfolding drop_docs with_docs flatten
dropping tokens s g = record {
  same = refl;
  sticky = λ z. absurd (true≢false g z);
  monotone = omega arith;
  progress = λ _. omega arith;
  simulates = λ R L stack m h.
      let old = h.related.types in
      let credit = h.related.credit in (
        refl,
        record {
          status = h.status;
          related = record {
            left = h.related.left;
            here = h.related.here;
            near = h.related.near;
            taken = h.related.taken;
            few = h.related.few;
            nodes = h.related.nodes;
            types = record { between = old.between ++ reverse (doc_cells m.docs); laid = old.laid ∙ simp append-nil; counted = old.counted; doc_counted = refl; near = tt };
            lists = h.related.lists;
            bytes = h.related.bytes;
            credit = record { records = omega (arith, credit.records); numbers = omega (arith, credit.numbers); room = omega (arith, credit.room) };
            lent = h.related.lent;
          };
        },
      );
}

-- ---- one more root

module _ (n : ℕ) (roots : List ℕ) where
  has_cell_lem : has_cell n roots ≡ true → (n < length roots) × (n < max_bytes)
  unfolding has_cell
  has_cell_lem e =
      let b = and_both (ltb n (length roots)) (ltb n max_bytes) e in
      (ltb-true _ _ b.0, ltb-true _ _ b.1)

  cell_there : n < length roots → n < max_bytes → has_cell n roots ≡ true
  unfolding has_cell
  cell_there h k = rw (lt-ltb _ _ h, lt-ltb _ _ k) refl

-- with a cell its number is written, without one all stays
module _ {n : ℕ} {roots : List ℕ} where
  pub root-written : {id : ℕ} → n < length roots → n < max_bytes → RootPushed roots n id (set roots n id) (n + 1)
  root-written h k = record { pushed = λ _. (refl, refl); left_out = λ e. absurd (true≢false (cell_there n roots h k) e) }

  pub root-left_out : {id : ℕ} → (n < length roots → n < max_bytes → ⊥) → RootPushed roots n id roots n
  root-left_out f = record { pushed = λ e. let t = has_cell_lem n roots e in absurd (f t.0 t.1); left_out = λ _. (refl, refl) }

  pub root_there : {id n' : ℕ} {roots' : List ℕ} → RootPushed roots n id roots' n' → n < length roots → n < max_bytes → (roots' ≡ set roots n id) × (n' ≡ n + 1)
  root_there h l k = h.pushed (cell_there n roots l k)

pub some-ahead : {tokens : List ℕ} {s : Code} {r l : ℕ} {stack : List ℕ} {m : State} → Related tokens s r l stack m → 1 ≤ length (ahead tokens s)
some-ahead h = omega (arith, left-some h, ap length h.left)

-- the first cells, one of which is set behind them
take-set : (n : ℕ) (a : List ℕ) (v : ℕ) → n < length a → take (n + 1) (set a n v) ≡ take n a ++ (v ∷ [])
take-set zero [] v h = absurd (omega arith)
take-set zero (x ∷ a) v h = refl
take-set (suc n) [] v h = absurd (omega arith)
take-set (suc n) (x ∷ a) v h =
    let e : suc n + 1 ≡ suc (n + 1) = omega arith in
    ap (λ (k : ℕ). take k (set (x ∷ a) (suc n) v)) e ∙ ap (λ (l : List ℕ). x ∷ l) (take-set n a v (omega arith))

-- its number stands behind the others
pub root-pushed : (script tokens : List ℕ) {roots roots' : List ℕ} {n n' : ℕ} {id : NodeId} (s s' : Code) (xs : List ℕ) (a : NodeId) → a ≡ id → RootsAre script tokens roots n s xs → length script ≤ max_bytes → length script ≤ length roots → length (ahead tokens s') + 1 ≤ length (ahead tokens s) → 1 ≤ length (ahead tokens s')
    → (n < length roots → n < max_bytes → (roots' ≡ set roots n id.0) × (n' ≡ n + 1)) → RootsAre script tokens roots' n' s' (xs ++ (a.0 ∷ []))
root-pushed script tokens {roots} {roots'} {n} {n'} {id} s s' xs a e q small long t some f =
    let room : n < length script = omega (arith, q.counted, q.few) in
    let z = f (omega arith) (omega arith) in
    let more : length (xs ++ (a.0 ∷ [])) ≡ length xs + 1 = length-append xs (a.0 ∷ []) in
    record {
      held = ap (λ (k : ℕ). take k roots') z.1 ∙ ap (take (n + 1)) z.0 ∙ take-set n roots id.0 (omega arith) ∙ (λ i. q.held i ++ ((sym e i).0 ∷ []));
      counted = omega (arith, q.counted, z.1);
      few = omega (arith, q.few);
    }

module _ {kept : Kept} (script : List ℕ) {tokens roots roots' : List ℕ} {n n' : ℕ} {id : NodeId} {s s' : Code} where
  pub root_again : member_follows s.parser k_eof ≡ true → length script ≤ max_bytes → length script ≤ length roots → RefinesBy kept tokens 0 0 (deeper (rules_of script) max_levels).prefix (λ a. a ≡ id) stack_unchanged 1 0 8 s s'
      → (going s' ≡ true → n < length roots → n < max_bytes → (roots' ≡ set roots n id.0) × (n' ≡ n + 1))
      → AgainBy kept tokens (root_step script) stack_unchanged (RootsAre script tokens roots n s) (RootsAre script tokens roots' n' s') s s'
  unfolding ◌>>=◌ pure
  root_again w small long p f = record {
    same = p.same;
    monotone = p.monotone;
    progress = p.progress;
    flow_value = λ R L stack xs m q h.
        let cur : current m.left ≡ token_of s.parser.cur = current_represents h.related in
        subst (Turned tokens (root_step script) stack_unchanged (RootsAre script tokens roots' n' s') s' R L stack) (sym (if_kind_is_no k_eof _ _ m (rw cur (member-eof s.parser k_eof w))))
        (go R L stack xs q ((deeper (rules_of script) max_levels).prefix m) (p.simulates R L stack m (represents_less _ _ (omega arith) (omega arith) h)));
  }
    where
      go : (R L : ℕ) (stack xs : List ℕ) → RootsAre script tokens roots n s xs → (r : Result NodeId) → Ends tokens (λ a. a ≡ id) stack_unchanged s' R L 0 8 stack r
          → Turned tokens (root_step script) stack_unchanged (RootsAre script tokens roots' n' s') s' R L stack (elim r as (λ _. Result (ControlFlow (List ℕ))) [ ok a t ↦ ok (continue (xs ++ (a.0 ∷ []))) t | err e t ↦ err e t ])
      go R L stack xs q (ok a m) h =
          let g : going s' ≡ true = represents_going h.1 in
          (root-pushed script tokens s s' xs a h.0 q small long (p.progress g) (some-ahead h.1.related) (f g), represents_less _ _ (omega arith) (omega arith) h.1)
      go R L stack xs q (err e m) h = h

-- ---- the end

-- a loop over roots that is left by a parser that goes on has come to Eof
pub at-eof : {tokens stack : List ℕ} {r l : ℕ} {s : Code} {m : State} → member_follows s.parser k_eof ≡ false → Represents tokens s r l stack m → eqb (current m.left).kind k_eof ≡ true
at-eof {s = s} w g =
    let cur : current _ ≡ token_of s.parser.cur = current_represents g.related in
    either (eqb s.parser.cur.kind k_eof)
    (λ z. rw cur z)
    (λ z. absurd (true≢false (no_member s.parser k_eof (represents_going g) w z) z))

-- the arrays hold the tree once the docs that wait are dropped
pub tree-held : {kept : Kept} {script tokens roots xs : List ℕ} {s : Code} {r : RootsRead} {m : State}
    → Represents tokens s 0 0 [] m → RootsAre script tokens roots r.members s xs
    → RefinesBy kept tokens 0 0 drop_docs (λ n. n ≡ 0) stack_unchanged 0 0 0 s r.code
    → Holds roots r xs m
unfolding drop_docs with_docs flatten
tree-held {kept} {script} {tokens} {roots} {xs} {r = r} {m} h k p =
    let d : Represents tokens r.code 0 0 [] (with_docs [] m) = (p.simulates 0 0 [] m h).1 in
    let u : Used = r.code.parser.used in
    let ns = d.related.nodes in
    let ts = d.related.types in
    let ls = d.related.lists in
    record {
      going = d.status;
      nodes_held = ap (take (node_width * u.nodes)) ns.laid ∙ take_at (flatten (map node_cells m.arena.nodes)) _ (node_width * u.nodes) (omega (arith, ns.counted, nodes-length m.arena.nodes));
      types_held = ap (take (type_width * u.types)) ts.laid ∙ take_at (flatten (map type_cells m.arena.types)) _ (type_width * u.types) (omega (arith, ts.counted, types-length m.arena.types));
      lists_held = ap (take u.cells) ls.laid ∙ take_at m.arena.cells _ u.cells (sym ls.counted);
      roots_held = k.held;
      node_count = ns.counted;
      type_count = ts.counted;
      cell_count = ls.counted;
      value_count = ns.valued;
      root_count = sym k.counted;
    }

-- ---- a strict reading of the roots

module _ (script : List ℕ) {tokens : List ℕ} (small : length script ≤ max_bytes) (e : tokens ≡ padded (length tokens) (token_table script)) where
  -- the tokens of the table are the script's
  pub tokens-all : tokens_from tokens 0 ≡ tokens_of (cut script)
  tokens-all = ap (λ (t : List ℕ). tokens_from t 0) e ∙ table_all script (length tokens)

  pub tokens-few : length (tokens_from tokens 0) ≤ length script + 1
  tokens-few = omega (arith, ap length tokens-all, cut_le script)

  pub all_near : (i : ℕ) → Near (token_at tokens i)
  all_near i = subst (λ (t : List ℕ). Near (token_at t i)) (sym e) (either (ltb i (length (tokens_of (cut script))))
      (λ b. let h : i < length (tokens_of (cut script)) = ltb-true _ _ b in omega (arith, ap (λ (t : Token). t.start) (table_token script (length tokens) i h), (token_in_range script i h).start))
      (λ b. omega (arith, past_start script (length tokens) i (ltb-false _ _ b))))

module _ {script tokens roots : List ℕ} (s : Code) (h : Begun script tokens s.nodes s.types s.lists roots) (e : FirstToken tokens s.parser) where
  pub begun : Represents tokens s 0 0 [] (begin script)
  unfolding begin flatten
  begun =
      let small : length script ≤ max_bytes = h.lent.small in
      let all : tokens_from tokens 0 ≡ tokens_of (cut script) = tokens-all script small h.tabled in
      let few : length (tokens_from tokens 0) ≤ length script + 1 = tokens-few script small h.tabled in
      let left : tokens_of (cut script) ≡ from tokens (token_of s.parser.cur) s.parser.at = sym all ∙ from_at tokens 0 ∙ (λ i. from tokens (sym e.cur i) (sym e.at i)) in
      let zero-nodes : s.parser.used.nodes ≡ 0 = ap (λ (u : Used). u.nodes) e.used in
      let zero-values : s.parser.used.values ≡ 0 = ap (λ (u : Used). u.values) e.used in
      let zero-types : s.parser.used.types ≡ 0 = ap (λ (u : Used). u.types) e.used in
      let zero-docs : s.parser.used.docs ≡ 0 = ap (λ (u : Used). u.docs) e.used in
      let zero-cells : s.parser.used.cells ≡ 0 = ap (λ (u : Used). u.cells) e.used in
      let zero-scratch : s.parser.used.scratch ≡ 0 = ap (λ (u : Used). u.scratch) e.used in
      let many : length (tokens_of (cut script)) ≡ length (tokens_from tokens 0) = ap length (sym all) in
      record {
        status = e.error;
        related = record {
          left = left;
          here = e.cur ∙ ap (token_at tokens) (sym e.at);
          near = all_near script small h.tabled;
          taken = omega (arith, e.at);
          few = omega arith;
          nodes = record { between = s.nodes; laid = sym (append-nil s.nodes); counted = zero-nodes; valued = zero-values };
          types = record { between = s.types; laid = sym (append-nil s.types); counted = zero-types; doc_counted = zero-docs; near = tt };
          lists = record { between = s.lists; laid = sym (append-nil s.lists); counted = zero-cells; stacked = zero-scratch };
          bytes = length script;
          credit = record { records = omega arith; numbers = omega arith; room = omega arith };
          lent = h.lent;
        };
      }

  pub roots-start : {kept : Kept} → LoopInvariantBy kept tokens (root_step script) stack_unchanged [] (RootsAre script tokens roots 0 s) s s
  roots-start = round_start_at (λ R L stack m k. record { held = refl; counted = refl; few = omega (arith, k.related.taken, tokens-few script h.lent.small h.tabled, ap length k.related.left) })

  module _ {kept : Kept} {roots' : List ℕ} {s' : Code} {r : RootsRead} where
    pub roots_end : LoopInvariantBy kept tokens (root_step script) stack_unchanged [] (RootsAre script tokens roots' r.members s') s s'
        → member_follows s'.parser k_eof ≡ false
        → RefinesBy kept tokens 0 0 drop_docs (λ n. n ≡ 0) stack_unchanged 0 0 0 s' r.code
        → RootsEnd roots' r (parse_roots stage_one script (begin script))
    unfolding parse_roots pure
    roots_end i w d = go (loop (root_step script) [] (begin script)) ((round_out i (λ stack. refl) out).simulates 0 0 [] (begin script) begun)
      where
        out : (R L : ℕ) (stack xs : List ℕ) (m : State) → RootsAre script tokens roots' r.members s' xs → Represents tokens s' R L stack m → root_step script xs m ≡ ok (break xs) m
        out R L stack xs m k g = if_kind_is_yes k_eof _ _ m (at-eof w g)

        go : (res : Result (List ℕ)) → Ends tokens (RootsAre script tokens roots' r.members s') stack_unchanged s' 0 0 0 0 [] res → RootsEnd roots' r res
        go (ok xs m) k = tree-held k.1 k.0 d
        go (err e m) k = ap (λ (t : Code). t.parser.error) (d.sticky (failed-fails k)) ∙ k.status

  -- a root that fails ends the reading
  module _ {kept : Kept} {A : Type 0} {P : NodeId → Type 0} {roots' : List ℕ} {n d r' l' : ℕ} {s₁ s₂ : Code} {x : Diagnostic} (res : Std.Result A Diagnostic) (k : ℕ) where
    pub roots_stop : LoopInvariantBy kept tokens (root_step script) stack_unchanged [] (RootsAre script tokens roots' n s₁) s s₁ → member_follows s₁.parser k_eof ≡ true → length script ≤ max_bytes → length script ≤ length roots'
        → RefinesBy kept tokens 0 0 (deeper (rules_of script) max_levels).prefix P stack_unchanged d r' l' s₁ s₂ → s₂.parser.error ≡ Failed x → Passed x res
        → RootsEnd roots' (record { code = with_error s₂ (error_of res); members = k }) (parse_roots stage_one script (begin script))
    unfolding parse_roots
    roots_stop i w small long p f g =
        let failed₂ : going s₂ ≡ false = ap is_going f in
        let q = root_again script {roots' = roots'} {n' = 0} {id = record { 0 = 0 }} w small long (fails_as p failed₂) (λ z. absurd (true≢false z failed₂)) in
        go (loop (root_step script) [] (begin script)) ((again_stops i (member-going s₁.parser k_eof w) q failed₂ (λ stack. refl)).simulates 0 0 [] (begin script) begun)
      where
        go : (out : Result (List ℕ)) → Ends tokens (RootsAre script tokens roots' 0 s₂) stack_unchanged s₂ 0 0 0 0 [] out → RootsEnd roots' (record { code = with_error s₂ (error_of res); members = k }) out
        go (ok xs m) h = absurd (true≢false (represents_going h.1) (ap is_going f))
        go (err e m) h = ap (λ (t : Code). t.parser.error) (sym (passed_on {s = s₂} res f g)) ∙ h.status
