-- Where the tokens left and the docs that wait are of kinds of `Type`, every rule keeps them so,
-- and where it fails its error has words.
-- Assumes nothing.
use mathlib.Core.Path.{◌≡◌, refl, sym, ◌∙◌}
use mathlib.Core.Bool.{Bool, true, false, not, ◌&&◌}
use mathlib.Core.Option.{Option, none, some}
use mathlib.Core.List.{List, [], ◌∷◌, ◌++◌}
use Prim.Native.Nat.{ℕ, zero, suc}
use lib.Dec.{eqb, leb, ltb}
use lib.ListN.{length}
use borrow.Author.Tests.{not-true, eqb-false, leb-true}
use Rattle.lex.specs.Kind.{k_eof, k_record, k_brace_left, k_brace_right, k_equal, k_less_than, k_greater_than, k_colon, k_braket_right, k_curly_left, k_curly_right, k_extern, k_let, k_fn}
use Rattle.lex.specs.declared.diagnostic.Diagnostic.{Diagnostic}
use Rattle.lex.specs.declared.tok.Token.{Token}
use Rattle.rules.specs.Tree.{Notes, State, Result, ok, err}
use Rattle.rules.specs.Combinators as R
use Rattle.rules.specs.Combinators.{Rule, current, rest, Readers, ControlFlow, continue, break}
use Rattle.rules.specs.Rules as Q
use Rattle.rules.specs.Rules.{Cases, last_of}
use Rattle.ast.specs.declared.Run.{Run}
use Rattle.ast.specs.declared.NodeId.{NodeId}
use Rattle.ast.specs.declared.Node.{Node}
use Rattle.ast.specs.declared.Node.TheVariants as N
use Rattle.ast.specs.declared.TypeExpr.{TypeExpr}
use Rattle.text.proofs.EmitLaws.{and_left, and_right}
use Rattle.words.specs.Words.{is_kind, is_script_error, is_wanted, is_seen, has_words}
use Rattle.words.proofs.Parts.{wanted-none, seen-kind}

-- ---- tokens of known kinds

abbrev pub AllKnown : List Token → Type 0
AllKnown [] = Unit {0}
AllKnown (t ∷ ts) = (is_kind t.kind ≡ true) × AllKnown ts

pub record Known (s : State) : Type 0 where
  pub left : AllKnown s.left
  pub docs : AllKnown s.docs

current-known : (l : List Token) → AllKnown l → is_kind (current l).kind ≡ true
unfolding current is_kind
current-known [] k = refl
current-known (t ∷ ts) k = k.0

rest-known : (l : List Token) → AllKnown l → AllKnown (rest l)
unfolding rest
rest-known [] k = k
rest-known (t ∷ []) k = k
rest-known (t ∷ (u ∷ ts)) k = k.1

snoc-known : (l : List Token) (d : Token) → AllKnown l → is_kind d.kind ≡ true → AllKnown (l ++ (d ∷ []))
snoc-known [] d k h = (h, tt)
snoc-known (t ∷ l) d k h = (k.0, snoc-known l d k.1 h)

last-known : (d : Token) (ds : List Token) → AllKnown (d ∷ ds) → is_kind (last_of d ds).kind ≡ true
last-known d [] k = k.0
last-known d (e ∷ es) k = last-known e es k.1

-- as `is_kind`, and computes by itself
abbrev is_wantable : ℕ → Bool
is_wantable k = leb k_eof k && leb k k_record

-- ---- errors that name such a token

-- 10 and 12 to 23
abbrev is_plain : ℕ → Bool
is_plain n = not (eqb n 11) && (leb 10 n && leb n 23)

module _ (t : Token) (k : is_kind t.kind ≡ true) where
  plain-words : (n : ℕ) → is_plain n ≡ true → has_words (R.at_token n 0 t) ≡ true
  unfolding has_words is_script_error R.at_token
  plain-words n h =
      let other = eqb-false n 11 (not-true (eqb n 11) (and_left (not (eqb n 11)) (leb 10 n && leb n 23) h)) in
      let r = and_right (not (eqb n 11)) (leb 10 n && leb n 23) h in
      let listed : is_script_error n ≡ true = rw (r, is_script_error) in
      let wanted : is_wanted n 0 ≡ true = sym (wanted-none n 0 other) in
      let seen : is_seen n t.kind ≡ true = sym (seen-kind n t.kind (leb-true n 23 (and_right (leb 10 n) (leb n 23) r))) ∙ k in
      rw (listed, wanted) seen

  expected_words : (wanted : ℕ) → is_wantable wanted ≡ true → has_words (R.at_token 11 wanted t) ≡ true
  unfolding has_words is_script_error is_wanted is_seen is_kind R.at_token
  expected_words wanted h = rw h k

-- ---- how a rule ends

pub data Ends {A : Type 0} : Result A → Type 0 where
  holds : {a : A} {s : State} → Known s → Ends (ok a s)
  fails : {e : Diagnostic} {s : State} → has_words e ≡ true → Known s → Ends (err e s)

abbrev pub Worded : {A : Type 0} → Rule A → Type 0
Worded x = (s : State) → Known s → Ends (x s)

pub record ReadersWorded (d : Readers) : Type 0 where
  pub prefix : Worded d.prefix
  pub expr : (least : ℕ) → Worded (d.expr least)
  pub type : Worded d.type

-- ---- ways to put rules together

module _ {A B : Type 0} where
  pub bind : {x : Rule A} {f : A → Rule B} → Worded x → ((a : A) → Worded (f a)) → Worded (R.◌>>=◌ x f)
  unfolding R.◌>>=◌
  bind {x} {f} h k s p = go (x s) (h s p)
    where
      go : (r : Result A) → Ends r → Ends {A = B} (elim r as (λ r'. Result B) [ ok a s₁ ↦ f a s₁ | err e s₁ ↦ err e s₁ ])
      go r (holds {a} {s = s₁} q) = k a s₁ q
      go r (fails w q) = fails w q

  pub sequence : {x : Rule A} {y : Rule B} → Worded x → Worded y → Worded (R.◌>>◌ x y)
  unfolding R.◌>>◌
  sequence {x} {y} h k s p = go (x s) (h s p)
    where
      go : (r : Result A) → Ends r → Ends {A = B} (elim r as (λ r'. Result B) [ ok a s₁ ↦ y s₁ | err e s₁ ↦ err e s₁ ])
      go r (holds {s = s₁} q) = k s₁ q
      go r (fails w q) = fails w q

module _ {A : Type 0} where
  pub branch : (k : ℕ) {x y : Rule A} → Worded x → Worded y → Worded (R.if_kind k x y)
  unfolding R.if_kind R.by_kind
  branch k {x} {y} h o s p = go (eqb (current s.left).kind k)
    where
      go : (b : Bool) → Ends {A = A} ((elim b as (λ b'. Rule A) [ true ↦ x | false ↦ y ]) s)
      go true = h s p
      go false = o s p

  current-token : {f : Token → Rule A} → ((t : Token) → is_kind t.kind ≡ true → Worded (f t)) → Worded (R.◌>>=◌ R.cur f)
  unfolding R.◌>>=◌ R.cur
  current-token h s p = h (current s.left) (current-known s.left p.left) s p

  pub value : (a : A) → Worded (R.pure a)
  unfolding R.pure
  value a s p = holds p

  failure : (number : ℕ) → is_plain number ≡ true → Worded {A = A} (R.fail number)
  unfolding R.fail_expecting
  failure number h s p = fails (plain-words (current s.left) (current-known s.left p.left) number h) p

  pub repeat : {f : A → Rule (ControlFlow A)} → ((a : A) → Worded (f a)) → (a : A) → Worded (R.loop f a)
  unfolding R.loop R.iterate
  repeat {f} h a s p = turns (length s.left) a s p
    where
      turns : (n : ℕ) (a : A) → Worded (R.iterate n f a)
      turns zero a s p = holds p
      turns (suc n) a s p = go (turns n) (f a s) (h a s p)
        where
          go : ((b : A) → Worded (R.iterate n f b)) → (r : Result (ControlFlow A)) → Ends r
              → Ends {A = A} (elim r as (λ r'. Result A) [ ok t s₁ ↦ elim t as (λ t'. Result A) [ continue b ↦ R.iterate n f b s₁ | break b ↦ ok b s₁ ] | err e s₁ ↦ err e s₁ ])
          go next r (holds {a = continue b} {s = s₁} q) = next b s₁ q
          go next r (holds {a = break b} q) = holds q
          go next r (fails w q) = fails w q

  -- each entry of a table
  pub data Entries : List (ℕ × Rule A) → Type 0 where
    entries[] : Entries []
    entry : {k : ℕ} {x : Rule A} {xs : List (ℕ × Rule A)} → Worded x → Entries xs → Entries ((k, x) ∷ xs)

  chosen : {xs : List (ℕ × Rule A)} {other : Rule A} → Entries xs → Worded other → (k : ℕ) → Worded (R.choose xs other k)
  unfolding R.choose
  chosen entries[] o k = o
  chosen {other} (entry {k = j} {x} {xs} h hs) o k = go (chosen hs o k) (eqb k j)
    where
      go : Worded (R.choose xs other k) → (b : Bool) → Worded {A = A} (elim b as (λ b'. Rule A) [ true ↦ x | false ↦ R.choose xs other k ])
      go others true = h
      go others false = others

  pub table : {xs : List (ℕ × Rule A)} {other : Rule A} → Entries xs → Worded other → Worded (R.by_kind (R.choose xs other))
  unfolding R.by_kind
  table h o s p = chosen h o _ s p

  struck_worded : {x : Rule A} → Worded x → Worded (R.struck x)
  unfolding R.struck
  struck_worded {x} h s p = go _ (x s) (h s p)
    where
      go : (notes : State → Notes) (r : Result A) → Ends r → Ends {A = A} (elim r as (λ r'. Result A) [ ok a t ↦ ok a (record { left = t.left; docs = t.docs; arena = t.arena; notes = notes t }) | err e t ↦ err e t ])
      go notes r (holds q) = holds (record { left = q.left; docs = q.docs })
      go notes r (fails w q) = fails w q

-- ---- tokens, records, lists, docs

pub advance_worded : Worded R.advance
unfolding R.advance
advance_worded s p = holds (record { left = rest-known s.left p.left; docs = p.docs })

expect_worded : (k : ℕ) → is_wantable k ≡ true → Worded (R.expect k)
unfolding R.expect R.fail_expecting
expect_worded k h = branch _ advance_worded (λ s p. fails (expected_words (current s.left) (current-known s.left p.left) k h) p)

expect_ident_worded : Worded R.expect_ident
unfolding R.expect_ident
expect_ident_worded = branch _ advance_worded (failure 12 refl)

reject_kind_worded : (k number : ℕ) → is_plain number ≡ true → Worded (R.reject_kind k number)
unfolding R.reject_kind
reject_kind_worded k number h = branch _ (failure number h) (value _)

push_node_worded : (more : ℕ) (f : ℕ → Node) → Worded (R.push_node_and more f)
unfolding R.push_node_and R.with_arena
push_node_worded more f s p = holds (record { left = p.left; docs = p.docs })

push_type_worded : (x : TypeExpr) → Worded (R.push_type x)
unfolding R.push_type R.with_arena
push_type_worded x s p = holds (record { left = p.left; docs = p.docs })

alloc_slice_worded : (xs : List (List ℕ)) → Worded (R.alloc_slice xs)
unfolding R.alloc_slice R.with_arena
alloc_slice_worded xs s p = holds (record { left = p.left; docs = p.docs })

members_worded : (stop : ℕ) {item : Rule (List ℕ)} → Worded item → Worded (R.members stop item)
unfolding R.members
members_worded stop h = repeat (λ xs. branch _ (value _) (branch _ (value _) (bind h (λ x. value _)))) []

list_until_worded : (stop : ℕ) → is_wantable stop ≡ true → {item : Rule (List ℕ)} → Worded item → Worded (R.list_until stop item)
unfolding R.list_until
list_until_worded stop k h = bind (members_worded stop h) (λ xs. sequence (expect_worded stop k) (alloc_slice_worded xs))

-- a doc that is taken waits
doc_worded : (n : ℕ) → Worded (R.◌>>=◌ R.advance (R.keep_doc n))
unfolding R.◌>>=◌ R.advance R.with_docs
doc_worded n s p = holds (record { left = rest-known s.left p.left; docs = snoc-known s.docs (current s.left) p.docs (current-known s.left p.left) })

collect_docs_worded : Worded R.collect_docs
unfolding R.collect_docs
collect_docs_worded = repeat (λ n. branch _ (doc_worded n) (value _)) 0

take_docs_worded : Worded R.take_docs
unfolding R.take_docs R.with_docs
take_docs_worded s p = alloc_slice_worded _ _ (record { left = p.left; docs = tt })

-- ---- rules that read nothing deeper

open_angle_worded : (number : ℕ) → is_plain number ≡ true → Worded (Q.open_angle number)
unfolding Q.open_angle
open_angle_worded number h = sequence advance_worded (sequence (expect_worded k_less_than refl) (reject_kind_worded k_greater_than number h))

atom_type_worded : Worded Q.atom_type
unfolding Q.atom_type
atom_type_worded = bind advance_worded (λ t. push_type_worded _)

foreign_type_worded : Worded Q.foreign_type
unfolding Q.foreign_type
foreign_type_worded = sequence (open_angle_worded 20 refl) (bind expect_ident_worded (λ name. sequence (expect_worded k_greater_than refl) (push_type_worded _)))

supplied_void_worded : Worded Q.supplied_void
unfolding Q.supplied_void
supplied_void_worded = current-token (λ t k. push_type_worded _)

import_path_worded : Worded Q.import_path
unfolding Q.import_path
import_path_worded = branch _ (bind advance_worded (λ p. value _)) (failure 15 refl)

bracketed_paths_worded : Worded Q.bracketed_paths
unfolding Q.bracketed_paths
bracketed_paths_worded = sequence (expect_worded k_brace_left refl) (bind (members_worded k_brace_right import_path_worded) (λ ps. sequence (expect_worded k_brace_right refl) (value ps)))

strike_single_worded : {x : Rule (List (List ℕ))} → Worded x → Worded (Q.strike_single x)
unfolding Q.strike_single
strike_single_worded {x} h s p = go _ (x s) (h s p)
  where
    by_length : (n : Notes) (ps : List (List ℕ)) (t : State) → Known t → (b : Bool) → Ends {A = List (List ℕ)} (elim b as (λ b'. Result (List (List ℕ))) [ true ↦ ok ps (record { left = t.left; docs = t.docs; arena = t.arena; notes = n }) | false ↦ ok ps t ])
    by_length n ps t q true = holds (record { left = q.left; docs = q.docs })
    by_length n ps t q false = holds q

    go : (notes : State → Notes) (r : Result (List (List ℕ))) → Ends r
        → Ends {A = List (List ℕ)} (elim r as (λ r'. Result (List (List ℕ))) [ ok ps t ↦ elim (eqb (length ps) 1) as (λ b'. Result (List (List ℕ))) [ true ↦ ok ps (record { left = t.left; docs = t.docs; arena = t.arena; notes = notes t }) | false ↦ ok ps t ] | err e t ↦ err e t ])
    go notes r (holds {a = ps} {s = t} q) = by_length (notes t) ps t q (eqb (length ps) 1)
    go notes r (fails w q) = fails w q

parse_import_worded : Worded Q.parse_import
unfolding Q.parse_import
parse_import_worded = bind advance_worded (λ src. bind (branch _ (bind advance_worded (λ p. value _)) (strike_single_worded bracketed_paths_worded)) (λ ps. bind (alloc_slice_worded ps) (λ pkgs. push_node_worded 0 _)))

atom_worded : Worded Q.atom
unfolding Q.atom
atom_worded = bind advance_worded (λ t. push_node_worded 0 _)

ident_worded : Worded Q.ident
unfolding Q.ident
ident_worded = bind advance_worded (λ t. push_node_worded 0 _)

callable_worded : (n : NodeId) → Worded (Q.callable n)
unfolding Q.callable
callable_worded n s p = holds p

field_access_worded : (n : NodeId) → Worded (Q.field_access n)
unfolding Q.field_access
field_access_worded n = sequence advance_worded (bind expect_ident_worded (λ name. bind (push_node_worded 0 _) (λ m. value _)))

require_no_docs_worded : {A : Type 0} {x : Rule A} → Worded x → Worded (Q.require_no_docs x)
unfolding Q.require_no_docs
require_no_docs_worded {A} {x} h s p = by_docs_lem s.docs p.docs
  where
    by_docs_lem : (l : List Token) → AllKnown l → Ends {A = A} (elim l as (λ l'. Result A) [ [] ↦ x s | d ∷ ds ↦ R.if_kind k_eof (λ t. err (R.at_token 13 0 (last_of d ds)) t) (λ t. err (R.at_token 14 0 d) t) s ])
    by_docs_lem [] k = h s p
    by_docs_lem (d ∷ ds) k = branch _ (λ t q. fails (plain-words (last_of d ds) (last-known d ds k) 13 refl) q) (λ t q. fails (plain-words d k.0 14 refl) q) s p

note_after_default_worded : (c : Cases) → Worded (Q.note_after_default c)
unfolding Q.note_after_default
note_after_default_worded c s p = go _ c.default
  where
    go : (n : Notes) (o : Option (Token × Run)) → Ends {A = ℕ} (elim o as (λ o'. Result ℕ) [ none ↦ ok 0 s | some d ↦ ok 1 (record { left = s.left; docs = s.docs; arena = s.arena; notes = n }) ])
    go n none = holds p
    go n (some d) = holds (record { left = p.left; docs = p.docs })

node_member_worded : {x : Rule NodeId} → Worded x → Worded (Q.node_member x)
unfolding Q.node_member
node_member_worded h = bind h (λ n. value _)

-- ---- the rules at one level

module _ (d : Readers) (deep : ReadersWorded d) where
  typed_name_worded : Worded (Q.typed_name d)
  unfolding Q.typed_name
  typed_name_worded = bind expect_ident_worded (λ name. sequence (expect_worded k_colon refl) (bind deep.type (λ t. value _)))

  option_type_worded : Worded (Q.option_type d)
  unfolding Q.option_type
  option_type_worded = sequence (open_angle_worded 21 refl) (bind deep.type (λ t. sequence (expect_worded k_greater_than refl) (push_type_worded _)))

  array_type_worded : Worded (Q.array_type d)
  unfolding Q.array_type
  array_type_worded = sequence (open_angle_worded 22 refl) (bind deep.type (λ t. sequence (expect_worded k_greater_than refl) (push_type_worded _)))

  record_type_worded : Worded (Q.record_type d)
  unfolding Q.record_type
  record_type_worded = bind advance_worded (λ src. sequence (expect_worded k_less_than refl) (bind (list_until_worded k_greater_than refl typed_name_worded) (λ fields. push_type_worded _)))

  parse_type_worded : Worded (Q.parse_type d)
  unfolding Q.parse_type Q.type_by_kind
  parse_type_worded = table (entry atom_type_worded (entry atom_type_worded (entry atom_type_worded (entry atom_type_worded (entry atom_type_worded (entry foreign_type_worded (entry option_type_worded (entry array_type_worded (entry record_type_worded entries[]))))))))) (failure 23 refl)

  -- ---- items

  parse_body_worded : Worded (Q.parse_body d)
  unfolding Q.parse_body
  parse_body_worded = sequence (expect_worded k_curly_left refl) (list_until_worded k_curly_right refl (node_member_worded deep.prefix))

  parse_args_worded : Worded (Q.parse_args d)
  unfolding Q.parse_args
  parse_args_worded = sequence (expect_worded k_brace_left refl) (list_until_worded k_brace_right refl typed_name_worded)

  return_type_worded : Worded (Q.return_type d)
  unfolding Q.return_type
  return_type_worded = branch _ (struck_worded deep.type) deep.type

  parse_let_worded : Worded (Q.parse_let d)
  unfolding Q.parse_let
  parse_let_worded =
      bind take_docs_worded (λ docs. sequence (expect_worded k_let refl) (bind expect_ident_worded (λ name.
      sequence (expect_worded k_equal refl) (bind deep.prefix (λ rhs. push_node_worded 0 _)))))

  parse_fn_worded : Worded (Q.parse_fn d)
  unfolding Q.parse_fn
  parse_fn_worded =
      bind take_docs_worded (λ docs. sequence advance_worded (bind expect_ident_worded (λ name.
      bind parse_args_worded (λ args. bind (branch _ supplied_void_worded return_type_worded) (λ ret.
      bind parse_body_worded (λ body. push_node_worded args.len _))))))

  extern_fn_worded : Worded (Q.extern_fn d)
  unfolding Q.extern_fn
  extern_fn_worded =
      sequence collect_docs_worded (sequence (reject_kind_worded k_extern 17 refl) (bind take_docs_worded (λ docs.
      sequence (expect_worded k_fn refl) (bind expect_ident_worded (λ name. bind parse_args_worded (λ args.
      bind (branch _ supplied_void_worded (branch _ supplied_void_worded return_type_worded)) (λ ret. value _)))))))

  parse_extern_worded : Worded (Q.parse_extern d)
  unfolding Q.parse_extern
  parse_extern_worded =
      bind take_docs_worded (λ docs. bind (expect_worded k_extern refl) (λ src. bind (branch _ advance_worded (failure 16 refl)) (λ name.
      sequence (expect_worded k_curly_left refl) (bind (list_until_worded k_curly_right refl extern_fn_worded) (λ fns. push_node_worded 0 _)))))

  default_case_worded : (c : Cases) → Worded (Q.default_case d c)
  unfolding Q.default_case
  default_case_worded c = current-token (λ t k. bind parse_body_worded (λ body. value _))

  condition_case_worded : (c : Cases) → Worded (Q.condition_case d c)
  unfolding Q.condition_case
  condition_case_worded c = current-token (λ t k. bind (deep.expr 0) (λ condition. bind parse_body_worded (λ body. value _)))

  next_case_worded : (c : Cases) → Worded (Q.next_case d c)
  unfolding Q.next_case
  next_case_worded c = branch _ (value _) (branch _ (value _) (sequence (note_after_default_worded c) (bind (branch _ (default_case_worded c) (condition_case_worded c)) (λ e. value _))))

  parse_match_worded : Worded (Q.parse_match d)
  unfolding Q.parse_match
  parse_match_worded =
      sequence advance_worded (current-token (λ t k. sequence (expect_worded k_curly_left refl) (bind (repeat next_case_worded _) (λ c.
      sequence (expect_worded k_curly_right refl) (bind (alloc_slice_worded c.cases) (λ cases. finish t k cases c.default))))))
    where
      finish : (t : Token) → is_kind t.kind ≡ true → (r : Run) (o : Option (Token × Run)) → Worded {A = NodeId} (elim o as (λ o'. Rule NodeId) [ none ↦ (λ s. err (R.at_token 18 0 t) s) | some x ↦ R.push_node (λ id. N.Match id r x.0 x.1) ])
      finish t k r none = λ s p. fails (plain-words t k 18 refl) p
      finish t k r (some x) = push_node_worded 0 _

  parse_prefix_worded : Worded (Q.parse_prefix d)
  unfolding Q.parse_prefix
  parse_prefix_worded = sequence collect_docs_worded (table (entry parse_import_worded (entry parse_let_worded (entry parse_fn_worded (entry parse_extern_worded entries[])))) (require_no_docs_worded (branch _ parse_match_worded (deep.expr 0))))

  -- ---- expressions

  field_worded : Worded (Q.field d)
  unfolding Q.field
  field_worded = bind expect_ident_worded (λ key. sequence (expect_worded k_colon refl) (bind (deep.expr 0) (λ x. value _)))

  record_literal_worded : Worded (Q.record_literal d)
  unfolding Q.record_literal
  record_literal_worded = bind advance_worded (λ src. bind (list_until_worded k_curly_right refl field_worded) (λ fields. push_node_worded 0 _))

  array_literal_worded : Worded (Q.array_literal d)
  unfolding Q.array_literal
  array_literal_worded = bind advance_worded (λ src. bind (list_until_worded k_braket_right refl (node_member_worded (deep.expr 0))) (λ elements. push_node_worded 0 _))

  group_worded : Worded (Q.group d)
  unfolding Q.group
  group_worded = sequence (struck_worded advance_worded) (bind (deep.expr 0) (λ e. sequence (struck_worded (expect_worded k_brace_right refl)) (value e)))

  unary_worded : Worded (Q.unary d)
  unfolding Q.unary
  unary_worded = bind advance_worded (λ op. bind (deep.expr Q.prefix_power) (λ rhs. push_node_worded 0 _))

  operand_worded : Worded (Q.operand d)
  unfolding Q.operand
  operand_worded = table (entry record_literal_worded (entry array_literal_worded (entry atom_worded (entry atom_worded (entry atom_worded (entry atom_worded (entry atom_worded (entry ident_worded (entry group_worded (entry unary_worded (entry unary_worded entries[]))))))))))) (failure 19 refl)

  call_worded : (n : NodeId) → Worded (Q.call d n)
  unfolding Q.call
  call_worded n = sequence advance_worded (bind (list_until_worded k_brace_right refl (node_member_worded deep.prefix)) (λ args. bind (push_node_worded 0 _) (λ m. value _)))

  call_step_worded : (n : NodeId) (b : Bool) → Worded {A = ControlFlow NodeId} (elim b as (λ b'. Rule (ControlFlow NodeId)) [ true ↦ Q.call d n | false ↦ R.pure (break n) ])
  call_step_worded n true = call_worded n
  call_step_worded n false = value _

  postfix_worded : (n : NodeId) → Worded (Q.postfix d n)
  unfolding Q.postfix
  postfix_worded = repeat (λ n. branch _ (field_access_worded n) (branch _ (bind (callable_worded n) (call_step_worded n)) (value _)))

  cast_worded : (n : NodeId) → Worded (Q.cast d n)
  unfolding Q.cast
  cast_worded n = bind advance_worded (λ src. bind deep.type (λ t. bind (push_node_worded 0 _) (λ m. value _)))

  binary_worded : (n : NodeId) (p : ℕ) → Worded (Q.binary d n p)
  unfolding Q.binary
  binary_worded n p = bind advance_worded (λ op. bind (deep.expr _) (λ rhs. bind (push_node_worded 0 _) (λ m. value _)))

  module _ (power : ℕ → Option ℕ) (script : List ℕ) where
    sign_step_worded : (least : ℕ) (n : NodeId) (t : Token) → Worded (Q.sign_step d power script least n t)
    sign_step_worded least n t = by_power (power t.kind)
      where
        by_least : (p : ℕ) (b : Bool) → Worded {A = ControlFlow NodeId} (elim b as (λ b'. Rule (ControlFlow NodeId)) [ true ↦ R.pure (break n) | false ↦ Q.binary d n p ])
        by_least p true = value _
        by_least p false = binary_worded n p

        by_sign : (p : ℕ) (b : Bool) → Worded {A = ControlFlow NodeId} (elim b as (λ b'. Rule (ControlFlow NodeId)) [ true ↦ R.pure (break n) | false ↦ elim (ltb p least) as (λ b'. Rule (ControlFlow NodeId)) [ true ↦ R.pure (break n) | false ↦ Q.binary d n p ] ])
        by_sign p true = value _
        by_sign p false = by_least p (ltb p least)

        by_power : (o : Option ℕ)
            → Worded {A = ControlFlow NodeId} (elim o as (λ o'. Rule (ControlFlow NodeId)) [ none ↦ R.pure (break n) | some p ↦ elim (Q.breaks_off script t) as (λ b'. Rule (ControlFlow NodeId)) [ true ↦ R.pure (break n) | false ↦ elim (ltb p least) as (λ b'. Rule (ControlFlow NodeId)) [ true ↦ R.pure (break n) | false ↦ Q.binary d n p ] ] ])
        by_power none = value _
        by_power (some p) = by_sign p (Q.breaks_off script t)

    infixes_worded : (least : ℕ) (n : NodeId) → Worded (Q.infixes d power script least n)
    unfolding Q.infixes
    infixes_worded least = repeat (λ n. branch _ (cast_worded n) (current-token (λ t k. sign_step_worded least n t)))

    parse_expr_worded : (least : ℕ) → Worded (Q.parse_expr d power script least)
    unfolding Q.parse_expr
    parse_expr_worded least = bind operand_worded (λ x. bind (postfix_worded x) (λ y. infixes_worded least y))

-- ---- levels

pub readers_worded : (power : ℕ → Option ℕ) (script : List ℕ) (l : ℕ) → ReadersWorded (Q.readers power script l)
unfolding Q.readers
readers_worded power script zero = record { prefix = failure 10 refl; expr = λ least. failure 10 refl; type = failure 10 refl }
readers_worded power script (suc l) =
    let deep : ReadersWorded (Q.readers power script l) = readers_worded power script l in
    record { prefix = parse_prefix_worded _ deep; expr = parse_expr_worded _ deep power script; type = parse_type_worded _ deep }
