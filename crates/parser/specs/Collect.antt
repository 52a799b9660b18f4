-- What reading the roots of a whole script comes to where errors are gathered.
use Rattle.std.specs.Prelude as Std
use Rattle.std.specs.Prelude.{Ok, Err, ◌≡◌, Option, None, Some, ℕ, ◌+◌, ◌*◌, ◌≤◌, ◌<◌, length, take}
use mathlib.Core.List.{List, [], ◌∷◌, ◌++◌, map, flatten}
use Rattle.lex.specs.Answer.{max_bytes}
use Rattle.lex.specs.Cells.{zeros}
use Rattle.lex.specs.Kind.{k_eof}
use Rattle.lex.specs.Lex.{Occurrence, cut, tokens_of, faults_of}
use Rattle.lex.specs.declared.diagnostic.Diagnostic.{Diagnostic}
use Rattle.tokens.specs.Table.{errors_from}
use Rattle.rules.specs.Tree.{Result, ok, err}
use Rattle.rules.specs.Combinators.{Rule, pure, if_kind, ControlFlow, continue, break}
use Rattle.rules.specs.Rules.{stage_one, max_levels}
use Rattle.rules.specs.Parse.{Gathered, merged, recover}
use Rattle.rules.specs.Promise.{arrays_of, Outcome}
use Rattle.rules.specs.Parsed.{Parsed}
use Rattle.rules.specs.Parsed as P
use Rattle.ast.specs.Layout.{node_width, type_width, diagnostic_width, diagnostic_cells}
use Rattle.diagnostics.specs.Records.{diagnostics, Holding}
use Rattle.diagnostics.proofs.Order.{Ordered}
use Rattle.parser_state.specs.declared.Parser.{Parser}
use Rattle.parser_state.specs.Represents.{Failed, Code, code_after, Represents}
use Rattle.parser_state.specs.Refines.{rules_of, deeper}
use Rattle.parser_state.specs.declared.Used.{Used}
use Rattle.parser.specs.Whole.{behind, RootsAre, Holds}
use Rattle.parser.specs.declared.Gathering.{Gathering}

-- the code behind the roots, how many roots and diagnostics there are, and how many of the lexer's
-- errors are among these
pub record RootsCollected : Type 0 where
  pub code : Code
  pub members : ℕ
  pub diagnostics : ℕ
  pub listed : ℕ

abbrev pub collected : Code → Gathering → RootsCollected
collected s c = record { code = s; members = c.members; diagnostics = c.listed.diagnostics; listed = c.listed.errors }

-- an error counts none
abbrev pub gathering_of : Std.Result Gathering Diagnostic → Gathering
gathering_of (Ok c) = c
gathering_of (Err e) = record { members = 0; listed = record { diagnostics = 0; errors = 0 } }

abbrev pub gathered : Parser → Std.Result Gathering Diagnostic → RootsCollected
gathered p r = collected (code_after p r) (gathering_of r)

-- one more root, or one more error
abbrev pub collect_step : List ℕ → Gathered → Rule (ControlFlow Gathered)
collect_step script g = if_kind k_eof (pure (break g)) (λ s. elim ((deeper (rules_of script) max_levels).prefix s) as (λ _. Result (ControlFlow Gathered)) [
  | ok n s₁ ↦ ok (continue (record { roots = g.roots ++ (n.0 ∷ []); errors = g.errors })) s₁
  | err e s₁ ↦ recover stage_one script g e s₁
])

-- each has fewer than `n` tokens before it
abbrev pub AllBelow : ℕ → List Occurrence → Type 0
AllBelow n [] = Unit {0}
AllBelow n (o ∷ os) = (o.after < n) × AllBelow n os

-- the array holds the errors and the lexer's before record `listed`
pub record DiagnosticsAre (script errors array : List ℕ) (n listed : ℕ) (es : List Occurrence) : Type 0 where
  pub ds : List Diagnostic
  pub held : Holding (diagnostics array n) ds
  pub ordered : Ordered (faults_of 0 (cut script)) es ds (errors_from errors listed)
  pub below : AllBelow (length (tokens_of (cut script))) (errors_from errors listed)

-- what is gathered is in the arrays
pub record GatheredAre (script tokens errors roots diagnostics : List ℕ) (c : RootsCollected) (g : Gathered) : Type 0 where
  pub roots_held : RootsAre script tokens roots c.members c.code g.roots
  pub diagnostics_held : DiagnosticsAre script errors diagnostics c.diagnostics c.listed g.errors

-- and there is room for one error more
pub record Room (script roots diagnostics : List ℕ) (g : Gathered) : Type 0 where
  pub small : length script ≤ max_bytes
  pub roots_long : length script ≤ length roots
  pub diagnostics_long : diagnostic_width * length script ≤ length diagnostics
  pub few_errors : length g.errors + 2 ≤ length (tokens_of (cut script))

-- how a turn of the loop over roots ends
abbrev pub TurnEnds : (script tokens errors roots diagnostics : List ℕ) → RootsCollected → Result (ControlFlow Gathered) → Type 0
TurnEnds script tokens errors roots diagnostics c (ok (continue g) m) = Represents tokens c.code 0 0 [] m × GatheredAre script tokens errors roots diagnostics c g
TurnEnds script tokens errors roots diagnostics c (ok (break g) m) = ⊥
TurnEnds script tokens errors roots diagnostics c (err e m) = c.code.parser.error ≡ Failed e

-- errors and faults in the order in which they are met
abbrev pub in_order : List ℕ → Gathered → List Diagnostic
in_order script g = let fs = faults_of 0 (cut script) in merged (length fs + length g.errors) fs g.errors

-- by how the rule ends
abbrev pub CollectEnds : (script roots diagnostics : List ℕ) → RootsCollected → Result Gathered → Type 0
CollectEnds script roots diagnostics c (ok g m) =
    Holds roots (record { code = c.code; members = c.members }) g.roots m × (take (diagnostic_width * c.diagnostics) diagnostics ≡ flatten (map diagnostic_cells (in_order script g))) × (c.diagnostics ≡ length (in_order script g))
CollectEnds script roots diagnostics c (err e m) = c.code.parser.error ≡ Failed e

-- ---- the answer

abbrev pub tree_of : Used → ℕ → ℕ → Parsed
tree_of u roots n = P.Tree (record { nodes = u.nodes; types = u.types; cells = u.cells; roots = roots; values = u.values; diagnostics = n })

-- what is answered and left in the arrays once the roots are read, by whether the reading has failed
abbrev pub finished_as : Option Diagnostic → RootsCollected → List ℕ → List ℕ → Outcome
finished_as None c roots diagnostics =
    let u : Used = c.code.parser.used in
    record {
      answer = tree_of u c.members c.diagnostics;
      arrays = arrays_of (behind (node_width * u.nodes) c.code.nodes) (behind (type_width * u.types) c.code.types) (behind u.cells c.code.lists) (behind c.members roots) (behind (diagnostic_width * c.diagnostics) diagnostics);
    }
finished_as (Some e) c roots diagnostics = record {
  answer = P.Error e;
  arrays = arrays_of (zeros (length c.code.nodes)) (zeros (length c.code.types)) (zeros (length c.code.lists)) (zeros (length roots)) (zeros (length diagnostics));
}

abbrev pub finished : RootsCollected → List ℕ → List ℕ → Outcome
finished c = finished_as c.code.parser.error c
