-- The docs that wait.
use Rattle.std.proofs.Common.{◌≡◌, ℕ, ◌+◌, ◌-◌, ◌*◌, ◌≤◌, true, false, eqb, List, [], ◌∷◌, ◌++◌, map, reverse, length, get_or, take, drop, sym, refl, ap, ◌∙◌, subst, append_assoc, append-nil, arith, length-append, length-drop, drop_at}
use mathlib.Core.List.{flatten, reverse-append, reverse-reverse}
use lib.ListN.{length-map, length-reverse}
use lib.Seq.{paste, length-paste, get_or_at}
use Rattle.lex.specs.Kind.{k_eof}
use Rattle.lex.specs.declared.diagnostic.Diagnostic.{Diagnostic}
use Rattle.lex.specs.declared.tok.Token.{Token}
use Rattle.tokens.specs.Table.{token_of, token_at}
use Rattle.tokens.specs.declared.Entry.{Entry}
use Rattle.rules.specs.Tree.{State, Result, ok, err}
use Rattle.rules.specs.Combinators.{Rule, ◌>>◌, current, pure, if_kind, at_token, keep_doc, with_docs, with_arena, take_docs, alloc_slice, continue}
use Rattle.ast.specs.Layout.{token_cells, type_cells}
use Rattle.rules.specs.Rules.{last_of, require_no_docs}
use Rattle.parser_state.specs.Represents.{Code, Kept, with_used, with_types, with_lists, going, doc_cells, Near, AllNear, Represents}
use Rattle.parser_state.specs.Refines.{Ends, stack_unchanged, RefinesBy, no_docs_wait, failed, at_entry, doc_at}
use Rattle.parser_state.specs.declared.Used.{Used}
use Rattle.parser_state.proofs.Steps.{as_rule, either, true≢false, left-some, current_represents, represents_less}
use Rattle.parser_state.proofs.Leaves.{failing_at, at-entry}
use Rattle.parser_state.proofs.Cells.{Long, types_as_long, lists_as_long, laid-last, laid-over, flatten_snoc, map_snoc, types-length, docs-length, types-room, lists-room}
use Rattle.parser_state.proofs.Rounds.{if_kind_is_yes, if_kind_is_no}

docs-snoc : (ds : List Token) (d : Token) → doc_cells (ds ++ (d ∷ [])) ≡ doc_cells ds ++ token_cells d
docs-snoc ds d = ap flatten (map_snoc token_cells ds d) ∙ flatten_snoc (map token_cells ds) (token_cells d)

reverse-token : (d : Token) → reverse (token_cells d) ≡ d.len ∷ d.start ∷ d.kind ∷ []
unfolding token_cells
reverse-token d = refl

-- the last doc's cells come first
docs-last : (ds : List Token) (d : Token) → reverse (doc_cells (ds ++ (d ∷ []))) ≡ (d.len ∷ d.start ∷ d.kind ∷ []) ++ reverse (doc_cells ds)
docs-last ds d = ap reverse (docs-snoc ds d) ∙ reverse-append (doc_cells ds) (token_cells d) ∙ ap (λ (l : List ℕ). l ++ reverse (doc_cells ds)) (reverse-token d)

-- ---- one more

abbrev pub doc_kept : Used → Used
doc_kept u = record { nodes = u.nodes; values = u.values; types = u.types; docs = u.docs + 1; cells = u.cells; scratch = u.scratch }

near-snoc : (ds : List Token) (d : Token) → AllNear ds → Near d → AllNear (ds ++ (d ∷ []))
near-snoc [] d h e = (e, tt)
near-snoc (x ∷ ds) d h e = (h.0, near-snoc ds d h.1 e)

pub keeping : {kept : Kept} (tokens : List ℕ) {types' : List ℕ} (s : Code) (i n : ℕ) (t : Entry) → going s ≡ true → token_of t ≡ token_at tokens i → types' ≡ paste s.types (length s.types - (3 * s.parser.used.docs + 3)) (t.len ∷ t.start ∷ t.kind ∷ []) 3 → Long kept types' s.types
    → RefinesBy kept tokens 1 3 (keep_doc n (token_at tokens i)) (λ c. c ≡ continue n) stack_unchanged 0 0 0 s (with_types (with_used s (doc_kept s.parser.used)) types')
unfolding with_docs
keeping {kept} tokens {types'} s i n t g named e long = record {
  sticky = λ f. absurd (true≢false g f);
  same = types_as_long _ s kept long;
  monotone = omega arith;
  progress = λ _. omega arith;
  simulates = λ R L stack m h.
      let u : Used = s.parser.used in
      let d : Token = token_at tokens i in
      let laid = h.related.types in
      let credit = h.related.credit in
      let front : List ℕ = flatten (map type_cells m.arena.types) in
      let some : 1 ≤ length m.left = left-some h.related in
      let j : length front ≡ 8 * u.types = omega (arith, types-length m.arena.types, laid.counted) in
      let vs : List ℕ = t.len ∷ t.start ∷ t.kind ∷ [] in
      let ws : vs ≡ d.len ∷ d.start ∷ d.kind ∷ [] = ap (λ (x : Token). x.len ∷ x.start ∷ x.kind ∷ []) named in
      let all : length s.types ≡ 8 * u.types + (length laid.between + 3 * u.docs) = types-room laid in
      let room : 3 ≤ length laid.between = omega (arith, credit.records, h.related.lent.types) in
      let same : length types' ≡ length s.types = ap length e ∙ length-paste s.types (length s.types - (3 * u.docs + 3)) vs 3 (omega arith) (omega arith) in
      let new : types' ≡ front ++ (take (length laid.between - 3) laid.between ++ (vs ++ reverse (doc_cells m.docs))) =
      e ∙ ap (λ (l : List ℕ). paste l (length s.types - (3 * u.docs + 3)) vs 3) laid.laid ∙ laid-last front vs laid.between (reverse (doc_cells m.docs)) (length s.types - (3 * u.docs + 3)) room (omega arith) in (
        refl,
        record {
          status = h.status;
          related = record {
            left = h.related.left;
            here = h.related.here;
            near = h.related.near;
            taken = h.related.taken;
            few = h.related.few;
            nodes = h.related.nodes;
            types = record {
              between = take (length laid.between - 3) laid.between;
              laid = new ∙ ap (λ (l : List ℕ). front ++ (take (length laid.between - 3) laid.between ++ (l ++ reverse (doc_cells m.docs)))) ws
                  ∙ ap (λ (l : List ℕ). front ++ (take (length laid.between - 3) laid.between ++ l)) (sym (docs-last m.docs d));
              counted = laid.counted;
              doc_counted = omega (arith, laid.doc_counted, length-append m.docs (d ∷ []));
              near = near-snoc m.docs d laid.near (h.related.near i);
            };
            lists = h.related.lists;
            bytes = h.related.bytes;
            credit = record { records = omega (arith, credit.records); numbers = omega (arith, credit.numbers); room = omega (arith, credit.room) };
            lent = record { small = h.related.lent.small; nodes = h.related.lent.nodes; types = omega (arith, same, h.related.lent.types); lists = h.related.lent.lists };
          };
        },
      );
}

-- ---- the move of all

abbrev pub docs_taken : Used → Used
docs_taken u = record { nodes = u.nodes; values = u.values; types = u.types; docs = 0; cells = u.cells + 3 * u.docs; scratch = u.scratch }

-- what `move_docs` writes
abbrev pub docs_moved : List ℕ → List ℕ → ℕ → ℕ → List ℕ
docs_moved types lists at n = paste lists at (reverse (drop (length types - n) types)) n

pub docs_moved-length : (types lists : List ℕ) (at n : ℕ) → n ≤ length types → at + n ≤ length lists → length (docs_moved types lists at n) ≡ length lists
docs_moved-length types lists at n h k =
    let cells : List ℕ = drop (length types - n) types in
    length-paste lists at (reverse cells) n k (omega (arith, length-reverse cells, length-drop (length types - n) types))

pub attaching : {kept : Kept} (tokens : List ℕ) {lists' : List ℕ} (s : Code) → going s ≡ true → lists' ≡ docs_moved s.types s.lists s.parser.used.cells (3 * s.parser.used.docs) → Long kept lists' s.lists
    → RefinesBy kept tokens 0 0 take_docs (λ t. t ≡ record { start = s.parser.used.cells; len = s.parser.used.docs }) stack_unchanged 0 0 0 s (with_lists (with_used s (docs_taken s.parser.used)) lists')
unfolding take_docs with_docs alloc_slice with_arena flatten
attaching {kept} tokens {lists'} s g e long = record {
  sticky = λ z. absurd (true≢false g z);
  same = lists_as_long _ s kept long;
  monotone = omega arith;
  progress = λ _. omega arith;
  simulates = λ R L stack m h.
      let u : Used = s.parser.used in
      let laid = h.related.types in
      let listed = h.related.lists in
      let credit = h.related.credit in
      let top : List ℕ = doc_cells m.docs in
      let front : List ℕ = flatten (map type_cells m.arena.types) in
      let n : length top ≡ 3 * u.docs = omega (arith, docs-length m.docs, laid.doc_counted) in
      let k : length front ≡ 8 * u.types = omega (arith, types-length m.arena.types, laid.counted) in
      let some : 1 ≤ length m.left = left-some h.related in
      let all : length s.types ≡ 8 * u.types + (length laid.between + 3 * u.docs) = types-room laid in
      let whole : length s.lists ≡ u.cells + (length listed.between + u.scratch) = lists-room listed in
      let room : length top ≤ length listed.between = omega (arith, credit.room, h.related.lent.lists) in
      let split : s.types ≡ (front ++ laid.between) ++ reverse top = laid.laid ∙ sym (append_assoc front laid.between (reverse top)) in
      let place : length (front ++ laid.between) ≡ length s.types - 3 * u.docs = omega (arith, length-append front laid.between) in
      let cells : reverse (drop (length s.types - 3 * u.docs) s.types) ≡ top = ap (λ (l : List ℕ). reverse (drop (length s.types - 3 * u.docs) l)) split ∙ ap reverse (drop_at (front ++ laid.between) (reverse top) (length s.types - 3 * u.docs) place) ∙ reverse-reverse top in
      let new : lists' ≡ (m.arena.cells ++ top) ++ (drop (length top) listed.between ++ reverse stack) =
      e ∙ ap (λ (l : List ℕ). paste s.lists u.cells l (3 * u.docs)) cells ∙ ap (λ (j : ℕ). paste s.lists u.cells top j) (sym n)
      ∙ ap (λ (l : List ℕ). paste l u.cells top (length top)) listed.laid ∙ laid-over m.arena.cells top listed.between (reverse stack) u.cells (sym listed.counted) room in
      let same : length lists' ≡ length s.lists = ap length e ∙ length-paste s.lists u.cells (reverse (drop (length s.types - 3 * u.docs) s.types)) (3 * u.docs) (omega (arith, ap length cells)) (omega (arith, ap length cells)) in
      let count : length (map token_cells m.docs) ≡ u.docs = length-map m.docs token_cells ∙ sym laid.doc_counted in (
        (λ i. record { start = sym listed.counted i; len = count i }),
        record {
          status = h.status;
          related = record {
            left = h.related.left;
            here = h.related.here;
            near = h.related.near;
            taken = h.related.taken;
            few = h.related.few;
            nodes = h.related.nodes;
            types = record {
              between = laid.between ++ reverse top;
              laid = laid.laid ∙ simp append-nil;
              counted = laid.counted;
              doc_counted = refl;
              near = tt;
            };
            lists = record {
              between = drop (length top) listed.between;
              laid = new;
              counted = omega (arith, listed.counted, length-append m.arena.cells top);
              stacked = listed.stacked;
            };
            bytes = h.related.bytes;
            credit = record { records = omega (arith, credit.records); numbers = omega (arith, credit.numbers); room = omega (arith, credit.room) };
            lent = record { small = h.related.lent.small; nodes = h.related.lent.nodes; types = h.related.lent.types; lists = omega (arith, same, h.related.lent.lists) };
          };
        },
      );
}

-- ---- docs that nothing takes

-- three cells at a place
three : (xs ys : List ℕ) (a b c n : ℕ) → length xs ≡ n → (get_or (xs ++ (a ∷ (b ∷ (c ∷ ys)))) n 0 ≡ a) × (get_or (xs ++ (a ∷ (b ∷ (c ∷ ys)))) (n + 1) 0 ≡ b) × (get_or (xs ++ (a ∷ (b ∷ (c ∷ ys)))) (n + 2) 0 ≡ c)
three xs ys a b c n e =
    let one : xs ++ (a ∷ (b ∷ (c ∷ ys))) ≡ (xs ++ (a ∷ [])) ++ (b ∷ (c ∷ ys)) = simp append_assoc in
    let two : xs ++ (a ∷ (b ∷ (c ∷ ys))) ≡ (xs ++ (a ∷ (b ∷ []))) ++ (c ∷ ys) = simp append_assoc in (
      get_or_at xs a (b ∷ (c ∷ ys)) 0 n e,
      ap (λ (l : List ℕ). get_or l (n + 1) 0) one ∙ get_or_at (xs ++ (a ∷ [])) b (c ∷ ys) 0 (n + 1) (omega (arith, length-append xs (a ∷ []))),
      ap (λ (l : List ℕ). get_or l (n + 2) 0) two ∙ get_or_at (xs ++ (a ∷ (b ∷ []))) c ys 0 (n + 2) (omega (arith, length-append xs (a ∷ (b ∷ [])))),
    )

token_there : (types xs ys : List ℕ) (d : Token) (n : ℕ) → types ≡ xs ++ ((d.len ∷ d.start ∷ d.kind ∷ []) ++ ys) → length xs ≡ n → token_of (doc_at types n) ≡ d
token_there types xs ys d n e k =
    let t = three xs ys d.len d.start d.kind n k in
    (λ i. record { kind = (ap (λ (l : List ℕ). get_or l (n + 2) 0) e ∙ t.2) i; start = (ap (λ (l : List ℕ). get_or l (n + 1) 0) e ∙ t.1) i; len = (ap (λ (l : List ℕ). get_or l n 0) e ∙ t.0) i })

split-last : (d : Token) (ds : List Token) → (init : List Token) × (d ∷ ds ≡ init ++ (last_of d ds ∷ []))
split-last d [] = ([], refl)
split-last d (e ∷ es) = let r = split-last e es in (d ∷ r.0, ap (λ (l : List Token). d ∷ l) r.1)

module _ (types front : List ℕ) (d : Token) (ds : List Token) (laid : types ≡ front ++ reverse (doc_cells (d ∷ ds))) where
  first-doc : token_of (doc_at types (length types - 3)) ≡ d
  unfolding flatten
  first-doc =
      let e : types ≡ (front ++ reverse (doc_cells ds)) ++ ((d.len ∷ d.start ∷ d.kind ∷ []) ++ []) =
      laid ∙ ap (λ (l : List ℕ). front ++ l) (reverse-append (token_cells d) (doc_cells ds) ∙ ap (λ (l : List ℕ). reverse (doc_cells ds) ++ l) (reverse-token d)) ∙ sym (append_assoc front (reverse (doc_cells ds)) _) in
      token_there types (front ++ reverse (doc_cells ds)) [] d _ e (omega (arith, ap length e ∙ length-append (front ++ reverse (doc_cells ds)) (d.len ∷ d.start ∷ d.kind ∷ [])))

  last-doc : token_of (doc_at types (length types - 3 * length (d ∷ ds))) ≡ last_of d ds
  last-doc =
      let r = split-last d ds in
      let e : types ≡ front ++ (((last_of d ds).len ∷ (last_of d ds).start ∷ (last_of d ds).kind ∷ []) ++ reverse (doc_cells r.0)) =
      laid ∙ ap (λ (l : List Token). front ++ reverse (doc_cells l)) r.1 ∙ ap (λ (l : List ℕ). front ++ l) (docs-last r.0 (last_of d ds)) in
      token_there types front (reverse (doc_cells r.0)) (last_of d ds) _ e
      (omega (arith, ap length laid ∙ length-append front _, length-reverse (doc_cells (d ∷ ds)), docs-length (d ∷ ds)))

last-near : (d : Token) (ds : List Token) → AllNear (d ∷ ds) → Near (last_of d ds)
last-near d [] h = h.0
last-near d (e ∷ es) h = last-near e es h.1

-- the rule, by the docs that wait
by_docs : State → List Token → Result ℕ
by_docs m ds = elim ds [ [] ↦ ok 0 m | d ∷ ds ↦ if_kind k_eof (λ t. err (at_token 13 0 (last_of d ds)) t) (λ t. err (at_token 14 0 d) t) m ]

pub docs-none : {kept : Kept} (tokens : List ℕ) (s : Code) → s.parser.used.docs ≡ 0 → RefinesBy kept tokens 0 0 no_docs_wait (λ n. n ≡ 0) stack_unchanged 0 0 0 s s
unfolding no_docs_wait require_no_docs pure by_docs
docs-none tokens s e = record {
  sticky = λ _. refl;
  same = refl;
  monotone = omega arith;
  progress = λ _. omega arith;
  simulates = λ R L stack m h. go R L stack m h m.docs h.related.types.doc_counted;
}
  where
    go : (R L : ℕ) (stack : List ℕ) (m : State) → Represents tokens s (R + 0) (L + 0) stack m → (ds : List Token) → s.parser.used.docs ≡ length ds
        → Ends {A = ℕ} tokens (λ n. n ≡ 0) stack_unchanged s R L 0 0 stack (by_docs m ds)
    go R L stack m h [] n = (refl, h)
    go R L stack m h (d ∷ ds) n = absurd (omega arith)

docs_bad : {kept : Kept} (tokens : List ℕ) (s : Code) (number at : ℕ) → going s ≡ true → (s.parser.used.docs ≡ 0 → ⊥)
    → (eqb s.parser.cur.kind k_eof ≡ true → (number ≡ 13) × (at ≡ length s.types - 3 * s.parser.used.docs)) → (eqb s.parser.cur.kind k_eof ≡ false → (number ≡ 14) × (at ≡ length s.types - 3))
    → RefinesBy kept tokens 0 0 no_docs_wait (λ n. n ≡ 0) stack_unchanged 0 0 0 s (failed s (at_entry number 0 (token_of (doc_at s.types at))))
unfolding no_docs_wait require_no_docs pure by_docs
docs_bad tokens s number at g waits at_eof elsewhere = record {
  sticky = λ f. absurd (true≢false g f);
  same = refl;
  monotone = omega arith;
  progress = λ e. absurd (true≢false e refl);
  simulates = λ R L stack m h. go R L stack m h h.related.types.between m.docs h.related.types.doc_counted h.related.types.near (h.related.types.laid ∙ sym (append_assoc (flatten (map type_cells m.arena.types)) h.related.types.between (reverse (doc_cells m.docs))));
}
  where
    after : Code
    after = failed s (at_entry number 0 (token_of (doc_at s.types at)))

    -- the error is the rule's
    named : (number' : ℕ) (d : Token) → number ≡ number' → token_of (doc_at s.types at) ≡ d → Near d → at_entry number 0 (token_of (doc_at s.types at)) ≡ at_token number' 0 d
    named number' d e w near = (λ i. at_entry (e i) 0 (w i)) ∙ at-entry number' 0 d near

    go : (R L : ℕ) (stack : List ℕ) (m : State) → Represents tokens s (R + 0) (L + 0) stack m → (between : List ℕ) (ds : List Token) → s.parser.used.docs ≡ length ds → AllNear ds
        → s.types ≡ (flatten (map type_cells m.arena.types) ++ between) ++ reverse (doc_cells ds)
        → Ends {A = ℕ} tokens (λ n. n ≡ 0) stack_unchanged after R L 0 0 stack (by_docs m ds)
    go R L stack m h between [] n near e = absurd (waits n)
    go R L stack m h between (d ∷ ds) n near e =
        let front : List ℕ = flatten (map type_cells m.arena.types) ++ between in
        let h₀ : Represents tokens s R L stack m = represents_less _ _ (omega arith) (omega arith) h in
        let kind : (current m.left).kind ≡ s.parser.cur.kind = ap (λ (t : Token). t.kind) (current_represents h.related) in
        either (eqb s.parser.cur.kind k_eof)
        (λ f. subst (Ends {A = ℕ} tokens (λ n. n ≡ 0) stack_unchanged after R L 0 0 stack) (sym (if_kind_is_yes k_eof (λ t. err (at_token 13 0 (last_of d ds)) t) (λ t. err (at_token 14 0 d) t) m (rw kind f)))
        (failing_at _ _ (named 13 (last_of d ds) (at_eof f).0 (ap (λ (k : ℕ). token_of (doc_at s.types k)) ((at_eof f).1 ∙ ap (λ (j : ℕ). length s.types - 3 * j) n) ∙ last-doc s.types front d ds e) (last-near d ds near)) h₀))
        (λ f. subst (Ends {A = ℕ} tokens (λ n. n ≡ 0) stack_unchanged after R L 0 0 stack) (sym (if_kind_is_no k_eof (λ t. err (at_token 13 0 (last_of d ds)) t) (λ t. err (at_token 14 0 d) t) m (rw kind f)))
        (failing_at _ _ (named 14 d (elsewhere f).0 (ap (λ (k : ℕ). token_of (doc_at s.types k)) (elsewhere f).1 ∙ first-doc s.types front d ds e) near.0) h₀))

pub docs-fail : {kept : Kept} (tokens : List ℕ) {s : Code} {e : Diagnostic} (number at : ℕ) (d : Entry) → d ≡ doc_at s.types at → e ≡ at_entry number 0 (token_of d) → going s ≡ true → (s.parser.used.docs ≡ 0 → ⊥)
    → (eqb s.parser.cur.kind k_eof ≡ true → (number ≡ 13) × (at ≡ length s.types - 3 * s.parser.used.docs)) → (eqb s.parser.cur.kind k_eof ≡ false → (number ≡ 14) × (at ≡ length s.types - 3))
    → RefinesBy kept tokens 0 0 no_docs_wait (λ n. n ≡ 0) stack_unchanged 0 0 0 s (failed s e)
docs-fail {kept} tokens {s} number at d e f g waits at_eof elsewhere =
    subst (RefinesBy kept tokens 0 0 no_docs_wait (λ n. n ≡ 0) stack_unchanged 0 0 0 s) (sym (ap (failed s) f ∙ ap (λ (t : Entry). failed s (at_entry number 0 (token_of t))) e))
    (docs_bad tokens s number at g waits at_eof elsewhere)

-- the rule goes on where no docs wait
module _ {kept : Kept} {A : Type 0} {tokens : List ℕ} {Q : A → Type 0} {grow : A → List ℕ → List ℕ} {r l d r' l' : ℕ} {s s' : Code} (x : Rule A) where
  pub require_then : RefinesBy kept tokens r l (no_docs_wait >> x) Q grow d r' l' s s' → RefinesBy kept tokens r l (require_no_docs x) Q grow d r' l' s s'
  unfolding no_docs_wait require_no_docs pure ◌>>◌
  require_then p = as_rule (λ m. go m m.docs) p
    where
      go : (m : State) (ds : List Token) → ◌≡◌ {A = Result A} (elim ds as (λ _. Result A) [ [] ↦ x m | d ∷ ds ↦ if_kind k_eof (λ t. err (at_token 13 0 (last_of d ds)) t) (λ t. err (at_token 14 0 d) t) m ])
          (elim (elim ds as (λ _. Result ℕ) [ [] ↦ ok 0 m | d ∷ ds ↦ if_kind k_eof (λ t. err (at_token 13 0 (last_of d ds)) t) (λ t. err (at_token 14 0 d) t) m ]) as (λ _. Result A) [ ok a t ↦ x t | err e t ↦ err e t ])
      go m [] = refl
      go m (d ∷ ds) = either (eqb (current m.left).kind k_eof)
          (λ e. if_kind_is_yes k_eof _ _ m e ∙ sym (ap (λ (res : Result ℕ). elim res as (λ _. Result A) [ ok a t ↦ x t | err e t ↦ err e t ]) (if_kind_is_yes k_eof _ _ m e)))
          (λ e. if_kind_is_no k_eof _ _ m e ∙ sym (ap (λ (res : Result ℕ). elim res as (λ _. Result A) [ ok a t ↦ x t | err e t ↦ err e t ]) (if_kind_is_no k_eof _ _ m e)))
