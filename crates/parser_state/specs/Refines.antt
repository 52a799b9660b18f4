-- A run of code from `s` to `s'` does what a rule does.
use Rattle.std.specs.Prelude.{◌≡◌, ℕ, ◌+◌, ◌%◌, ◌≤◌, Bool, true, false, not, ◌&&◌, List, ◌++◌, length, ◌==◌, slice_index}
use Rattle.std.proofs.Math.Option.{Option}
use Rattle.std.specs.Prelude as Std
use Rattle.std.specs.Prelude.{Ok, Err}
use Rattle.parser_state.specs.declared.Parser.{Parser}
use mathlib.Core.List.{flatten}
use Rattle.lex.specs.Kind.{k_eof, k_doc, k_s}
use Rattle.lex.specs.Answer.{max_bytes}
use Rattle.lex.specs.declared.diagnostic.Diagnostic.{Diagnostic}
use Rattle.lex.specs.declared.tok.Token.{Token}
use Rattle.rules.specs.Tree.{State, Result, ok, err}
use Rattle.tokens.specs.Table.{token_of}
use Rattle.tokens.specs.declared.Entry.{Entry}
use Rattle.rules.specs.Combinators.{Rule, Readers, ◌>>◌, current, at_token, expect, alloc_slice, pure, ControlFlow, continue}
use Rattle.rules.specs.Rules.{readers, stage_one, require_no_docs}
use Rattle.ast.specs.declared.Run.{Run}
use Rattle.ast.specs.declared.NodeId.{NodeId}
use Rattle.ast.specs.declared.TypeExprId.{TypeExprId}
use Rattle.parser_state.specs.Represents.{Failed, with_error, Reading, Code, loan, Kept, AsLent, kept_of, code_of, code_after, going, ahead, Represents, FailedAt, is_going}

-- a set of rules: the powers of the signs, and the script whose signs they are
pub record Rules : Type 0 where
  pub power : ℕ → Option ℕ
  pub script : List ℕ

-- those of stage one
abbrev pub rules_of : List ℕ → Rules
rules_of script = record { power = stage_one; script = script }

-- the readers with so many levels left
abbrev pub deeper : Rules → ℕ → Readers
deeper rules levels = readers rules.power rules.script levels

-- how a rule ends, and the code with it: the rule's value has the property Q, and `grow` of it is
-- what is under construction
abbrev pub Ends : {A : Type 0} (tokens : List ℕ) (Q : A → Type 0) (grow : A → List ℕ → List ℕ) (s' : Code) (r l r' l' : ℕ) (stack : List ℕ) → Result A → Type 0
Ends tokens Q grow s' r l r' l' stack (ok a m) = Q a × Represents tokens s' (r + r') (l + l') (grow a stack) m
Ends tokens Q grow s' r l r' l' stack (err e m) = FailedAt tokens s' e r l stack m

-- the value of a rule is what a call answers
abbrev pub Gives : {A : Type 0} → Std.Result A Diagnostic → A → Type 0
Gives (Ok b) a = a ≡ b
Gives (Err e) a = ⊥

-- what is under construction stays as it is
abbrev pub stack_unchanged : {A : Type 0} → A → List ℕ → List ℕ
stack_unchanged a stack = stack

-- the cells of a member are pushed
abbrev pub grown : List ℕ → List ℕ → List ℕ
grown cells stack = stack ++ cells

-- all cells of the members are under construction
abbrev pub all_grown : List (List ℕ) → List ℕ → List ℕ
all_grown xs stack = stack ++ flatten xs

-- `n` members, each of which took a token
abbrev pub Collected : List ℕ → ℕ → Code → List (List ℕ) → Type 0
Collected tokens n s xs = (length xs ≡ n) × (length xs + length (ahead tokens s) ≤ max_bytes + 1)

-- a call has answered how many
abbrev pub GivesCount : List ℕ → Code → Std.Result ℕ Diagnostic → List (List ℕ) → Type 0
GivesCount tokens s (Ok n) xs = Collected tokens n s xs
GivesCount tokens s (Err e) xs = ⊥

-- From `r` records' and `l` list cells' room to `r'` and `l'`, taking `d` tokens or more where it
-- does not fail.
pub record RefinesBy {A : Type 0} (kept : Kept) (tokens : List ℕ) (r l : ℕ) (x : Rule A) (Q : A → Type 0) (grow : A → List ℕ → List ℕ) (d r' l' : ℕ) (s s' : Code) : Type 0 where
  -- once failed, the code changes nothing
  pub sticky : going s ≡ false → s' ≡ s
  -- the arrays stay those that were lent, or as long too
  pub same : kept_of kept (loan s') ≡ kept_of kept (loan s)
  pub monotone : length (ahead tokens s') ≤ length (ahead tokens s)
  pub progress : going s' ≡ true → length (ahead tokens s') + d ≤ length (ahead tokens s)
  pub simulates : (R L : ℕ) (stack : List ℕ) (m : State) → Represents tokens s (R + r) (L + l) stack m → Ends tokens Q grow s' R L r' l' stack (x m)

-- the arrays stay those that were lent, and as long
abbrev pub Refines : {A : Type 0} (tokens : List ℕ) (r l : ℕ) (x : Rule A) (Q : A → Type 0) (grow : A → List ℕ → List ℕ) (d r' l' : ℕ) (s s' : Code) → Type 0
Refines tokens r l x Q grow d r' l' s s' = RefinesBy AsLent tokens r l x Q grow d r' l' s s'

-- a token is taken
abbrev pub TakesBy : Kept → List ℕ → Rule Token → Code → Code → Type 0
TakesBy kept tokens x s s' = RefinesBy kept tokens 0 0 x (λ t. t ≡ token_of s.parser.cur) stack_unchanged 1 1 8 s s'

abbrev pub Takes : List ℕ → Rule Token → Code → Code → Type 0
Takes tokens x s s' = TakesBy AsLent tokens x s s'

-- a type is read
abbrev pub ReadsType : List ℕ → Rule TypeExprId → Parser → Parser → Std.Result TypeExprId Diagnostic → Type 0
ReadsType tokens x p p' r = Refines tokens 0 0 x (Gives r) stack_unchanged 1 0 8 (code_of p) (code_after p' r)

-- a node is made
abbrev pub ReadsNode : List ℕ → Rule NodeId → Parser → Parser → Std.Result NodeId Diagnostic → Type 0
ReadsNode tokens x p p' r = Refines tokens 0 0 x (Gives r) stack_unchanged 1 0 8 (code_of p) (code_after p' r)

-- a step of a loop over a node goes on
abbrev pub GivesStep : Std.Result NodeId Diagnostic → ControlFlow NodeId → Type 0
GivesStep (Ok n) t = t ≡ continue n
GivesStep (Err e) t = ⊥

abbrev pub ReadsStep : List ℕ → Rule (ControlFlow NodeId) → Parser → Parser → Std.Result NodeId Diagnostic → Type 0
ReadsStep tokens x p p' r = Refines tokens 0 0 x (GivesStep r) stack_unchanged 1 0 0 (code_of p) (code_after p' r)

-- a loop over a node, which may take nothing
abbrev pub LoopsNode : List ℕ → Rule NodeId → Parser → Parser → Std.Result NodeId Diagnostic → Type 0
LoopsNode tokens x p p' r = Refines tokens 0 0 x (Gives r) stack_unchanged 0 0 0 (code_of p) (code_after p' r)

-- a list is read and finished
abbrev pub ReadsList : List ℕ → Rule Run → Parser → Parser → Std.Result Run Diagnostic → Type 0
ReadsList tokens x p p' r = Refines tokens 0 0 x (Gives r) stack_unchanged 1 1 8 (code_of p) (code_after p' r)

-- a member of a list is read, and its cells are pushed
abbrev pub ReadsMemberBy : Kept → List ℕ → Rule (List ℕ) → Code → Code → Type 0
ReadsMemberBy kept tokens x s s' = RefinesBy kept tokens 0 0 x (λ _. Unit {0}) grown 1 0 0 s s'

abbrev pub ReadsMember : List ℕ → Rule (List ℕ) → Code → Code → Type 0
ReadsMember tokens x s s' = ReadsMemberBy AsLent tokens x s s'

-- cells are pushed
abbrev pub PushesBy : Kept → List ℕ → ℕ → List ℕ → Code → Code → Type 0
PushesBy kept tokens l cells s s' = RefinesBy kept tokens 0 l (pure cells) (λ _. Unit {0}) grown 0 0 0 s s'

abbrev pub Pushes : List ℕ → ℕ → List ℕ → Code → Code → Type 0
Pushes tokens l cells s s' = PushesBy AsLent tokens l cells s s'

-- the code fails at the token being read
pub record RefusesBy (kept : Kept) (tokens : List ℕ) (number wanted : ℕ) (s s' : Code) : Type 0 where
  pub sticky : going s ≡ false → s' ≡ s
  pub same : kept_of kept (loan s') ≡ kept_of kept (loan s)
  pub monotone : length (ahead tokens s') ≤ length (ahead tokens s)
  pub fails : going s' ≡ false
  pub simulates : (R L : ℕ) (stack : List ℕ) (m : State) → Represents tokens s R L stack m → FailedAt tokens s' (at_token number wanted (current m.left)) R L stack m

abbrev pub Refuses : (tokens : List ℕ) (number wanted : ℕ) (s s' : Code) → Type 0
Refuses tokens number wanted s s' = RefusesBy AsLent tokens number wanted s s'

-- a rule that fails at a token that was met before
unfoldable pub fail_at : {A : Type 0} → ℕ → Token → Rule A
fail_at number t = λ s. err (at_token number 0 t) s

-- no docs are pending
unfoldable pub no_docs_wait : Rule ℕ
no_docs_wait = require_no_docs (pure 0)

-- the reading fails with an error
abbrev pub failed : Code → Diagnostic → Code
failed s e = with_error s (Failed e)

-- an error at a token that the code has: the start of its span has 32 bits
unfoldable pub at_entry : ℕ → ℕ → Token → Diagnostic
at_entry number wanted t =
    let shift : ℕ = elim (t.kind == k_s) [ true ↦ 1 | false ↦ 0 ] in
    record { number = number; start = (t.start + shift) % 4294967296; len = t.len; wanted = wanted; seen = t.kind }

-- a pending doc, whose cells lie the last first
abbrev pub doc_at : List ℕ → ℕ → Entry
doc_at types at = record { kind = slice_index types (at + 2); start = slice_index types (at + 1); len = slice_index types at }

-- a loop over members goes on
abbrev pub follows_by : Bool → Bool → Bool → Bool
follows_by false ends stops = false
follows_by true true stops = false
follows_by true false stops = not stops

abbrev pub member_follows : Reading → ℕ → Bool
member_follows p stop = follows_by (is_going p.error) (p.cur.kind == k_eof) (p.cur.kind == stop)

-- a doc is read next
unfoldable pub doc_follows : Reading → Bool
doc_follows p = is_going p.error && p.cur.kind == k_doc

-- the end of a list
unfoldable pub closed : ℕ → List (List ℕ) → Rule Run
closed stop xs = expect stop >> alloc_slice xs

-- what is pushed above `mark` cells becomes a list of `n` members
pub record ListsBy {A : Type 0} (kept : Kept) (tokens : List ℕ) (x : List (List ℕ) → Rule A) (Q : A → Type 0) (d r' l' : ℕ) (mark n : ℕ) (s s' : Code) : Type 0 where
  pub sticky : going s ≡ false → s' ≡ s
  pub same : kept_of kept (loan s') ≡ kept_of kept (loan s)
  pub monotone : length (ahead tokens s') ≤ length (ahead tokens s)
  pub progress : going s' ≡ true → length (ahead tokens s') + d ≤ length (ahead tokens s)
  pub simulates : (R L : ℕ) (stack : List ℕ) (xs : List (List ℕ)) (m : State) → length stack ≡ mark → length xs ≡ n → length xs + length m.left ≤ max_bytes + 1
      → Represents tokens s R L (stack ++ flatten xs) m → Ends tokens Q stack_unchanged s' R L r' l' stack (x xs m)

abbrev pub Lists : {A : Type 0} (tokens : List ℕ) (x : List (List ℕ) → Rule A) (Q : A → Type 0) (d r' l' : ℕ) (mark n : ℕ) (s s' : Code) → Type 0
Lists tokens x Q d r' l' mark n s s' = ListsBy AsLent tokens x Q d r' l' mark n s s'
